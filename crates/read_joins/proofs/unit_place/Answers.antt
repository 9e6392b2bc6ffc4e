-- `unit_place` meets its contract: its test is the test of the definition.
use borrow.Author.Tests.{lt-ltb, le-ltb}
use Rattle.read_joins.specs.Joins.{unit_place}
use Rattle.read_joins.proofs.unit_place.Goals as goal

pub returns-then-n-count : goal.returns-then-n-count
unfolding unit_place
returns-then-n-count c = rw (← c.count.ensures, lt-ltb _ _ c.if-n-count.true) c.place.ensures

pub returns-else-n-count : goal.returns-else-n-count
unfolding unit_place
returns-else-n-count c = rw (← c.count.ensures, le-ltb _ _ c.if-n-count.false)
