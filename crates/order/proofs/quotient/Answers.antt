-- `quotient` meets its contract: what is left is divided where there is a choice.
use Rattle.order.specs.Plans.{goes_on}
use borrow.Author.Tests.{lt-ltb, le-ltb}
use Rattle.order.proofs.quotient.Goals as goal

pub returns-then-number-gt1 : goal.returns-then-number-gt1
unfolding goes_on
returns-then-number-gt1 c = rw (lt-ltb _ _ c.if-number-gt1.true)

pub returns : goal.returns
unfolding goes_on
returns c = rw (le-ltb _ _ c.if-number-gt1.false)
