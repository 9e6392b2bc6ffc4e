-- `stays` meets its contract: its tests are the rule's.
use borrow.Author.Tests.{lt-ltb, le-ltb}
use Rattle.list.specs.Filled.{stays_at}
use Rattle.list.proofs.stays.Goals as goal

pub returns-then-number-gt1 : goal.returns-then-number-gt1
unfolding stays_at
returns-then-number-gt1 c = rw (lt-ltb _ _ c.if-number-gt1.true)

pub returns : goal.returns
unfolding stays_at
returns c = rw (le-ltb _ _ c.if-number-gt1.false, ← c.tag_at.ensures)
