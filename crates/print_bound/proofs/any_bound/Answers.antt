-- The comparison decides which of the two bounds it is.
use Rattle.print_bound.specs.Bounds.{any_bound}
use borrow.Author.Tests.{lt-ltb, le-ltb}
use Rattle.print_bound.proofs.any_bound.Goals as goal

pub returns-then-value-lt-SIXTEEN : goal.returns-then-value-lt-SIXTEEN
unfolding any_bound
returns-then-value-lt-SIXTEEN c = rw (c.stop_bound.ensures, lt-ltb _ _ c.if-value-lt-SIXTEEN.true)

pub returns : goal.returns
unfolding any_bound
returns c = rw (le-ltb _ _ c.if-value-lt-SIXTEEN.false)
