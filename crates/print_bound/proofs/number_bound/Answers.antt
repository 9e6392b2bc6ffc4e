-- The tests decide which of the three bounds it is.
use Rattle.print_bound.specs.Bounds.{decimal_bound, number_bound}
use borrow.Author.Tests.{lt-ltb, le-ltb}
use Rattle.print_bound.proofs.number_bound.Goals as goal

pub returns-then-value-lt-TEN : goal.returns-then-value-lt-TEN
unfolding number_bound decimal_bound
returns-then-value-lt-TEN c = rw (← c.is_plain.ensures, c.if-is_plain.true, lt-ltb _ _ c.if-value-lt-TEN.true, c.stop_bound.ensures)

pub returns-then-is_plain : goal.returns-then-is_plain
unfolding number_bound decimal_bound
returns-then-is_plain c = rw (← c.is_plain.ensures, c.if-is_plain.true, le-ltb _ _ c.if-value-lt-TEN.false) c.longer_bound.ensures

pub returns : goal.returns
unfolding number_bound
returns c = rw (← c.is_plain.ensures, c.if-is_plain.false) c.any_bound.ensures
