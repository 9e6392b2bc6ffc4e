-- `positions` meets its contract: from the i-th number on the row is the plan, and what is left of k is the rule's quotient.
use borrow.Author.Rules.{rules}
use Rattle.order.proofs.PositionLaws.{placing_none, placing_more, placing_all}
use native.Mathlib.Omega.{arith}
use Prim.Native.Nat.{◌+◌, ◌-◌}
use Rattle.order.proofs.positions.Goals as goal

pub loop-i-init : goal.loop-i-init
loop-i-init c = search (rules, placing_none)

pub overflow_cast-value : goal.overflow_cast-value
overflow_cast-value c = omega (arith, c.slice_known-in-loop-i-2-1.given (c.loop-i.i - 3 + 1))

pub loop-i-preserved : goal.loop-i-preserved
loop-i-preserved c = search (rules, placing_more)

pub returns : goal.returns
returns c = search (rules, placing_all)
