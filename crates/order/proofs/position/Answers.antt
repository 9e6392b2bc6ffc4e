-- `position` meets its contract: the remainder is below the number of arguments, and without a choice the tag decides.
use Rattle.order.specs.Plans.{slot_for}
use borrow.Author.Tests.{lt-ltb, le-ltb, eq-eqb, ne_eqb}
use Prim.Native.Nat.{◌<◌}
use native.Mathlib.Omega.{arith}
use native.Mathlib.Nat.{mod-lt}
use Rattle.order.proofs.position.Goals as goal

pub overflow_cast-result-then-number-gt1 : goal.overflow_cast-result-then-number-gt1
overflow_cast-result-then-number-gt1 c = let h : 0 < c.args.number = omega arith in omega (arith, mod-lt c.args.left h, c.ranges.number)

pub returns-then-number-gt1 : goal.returns-then-number-gt1
unfolding slot_for
returns-then-number-gt1 c = rw (lt-ltb _ _ c.if-number-gt1.true)

pub returns-then-tag_at : goal.returns-then-tag_at
unfolding slot_for
returns-then-tag_at c = rw (le-ltb _ _ c.if-number-gt1.false, ← c.tag_at.ensures, eq-eqb _ _ c.if-tag_at.true)

pub returns : goal.returns
unfolding slot_for
returns c = rw (le-ltb _ _ c.if-number-gt1.false, ← c.tag_at.ensures, ne_eqb _ _ c.if-tag_at.false)
