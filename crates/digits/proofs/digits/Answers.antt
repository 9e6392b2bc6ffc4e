-- The run from here on, behind the value so far, is the run from the start.
use borrow.Author.Rules.{rules}
use native.Mathlib.Omega.{arith}
use Rattle.digits.proofs.RunLaws.{digits_end, digits_more, digits_stop}
use Rattle.digits.proofs.digits.Goals as goal

pub loop-i-preserved : goal.loop-i-preserved
loop-i-preserved c = search (rules, digits_more, c.in-Some.ensures)

pub returns-in_default : goal.returns-in_default
returns-in_default c = search (rules, digits_stop, c.in-Some.ensures)

pub returns-in_default-2 : goal.returns-in_default-2
returns-in_default-2 c = digits_stop _ _ _ _ c.loop-i.invariant.0 c.loop-i.invariant.1 (omega arith) c.in_default.ensures (omega arith)

pub returns : goal.returns
returns c = search (rules, digits_end)
