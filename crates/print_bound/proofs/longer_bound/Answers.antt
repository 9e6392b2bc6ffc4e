-- The comparison decides which of the two bounds it is, and the stop is added to either.
use Rattle.print_bound.specs.Bounds.{longer_bound}
use borrow.Author.Tests.{lt-ltb, le-ltb}
use Rattle.print_bound.proofs.longer_bound.Goals as goal

pub returns-then-value-lt-TEN_THOUSAND : goal.returns-then-value-lt-TEN_THOUSAND
unfolding longer_bound
returns-then-value-lt-TEN_THOUSAND c = rw (lt-ltb _ _ c.if-value-lt-TEN_THOUSAND.true, c.stop_bound.ensures)

pub returns : goal.returns
unfolding longer_bound
returns c = rw (le-ltb _ _ c.if-value-lt-TEN_THOUSAND.false, c.stop_bound-2.ensures)
