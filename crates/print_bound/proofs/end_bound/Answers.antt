-- The comparison decides which of the two bounds it is.
use Rattle.print_bound.specs.Bounds.{end_bound}
use borrow.Author.Tests.{lt-ltb, le-ltb}
use Rattle.print_bound.proofs.end_bound.Goals as goal

pub returns-then-value-lt-SIXTEEN : goal.returns-then-value-lt-SIXTEEN
unfolding end_bound
returns-then-value-lt-SIXTEEN c = rw (lt-ltb _ _ c.if-value-lt-SIXTEEN.true)

pub returns : goal.returns
unfolding end_bound
returns c = rw (le-ltb _ _ c.if-value-lt-SIXTEEN.false)
