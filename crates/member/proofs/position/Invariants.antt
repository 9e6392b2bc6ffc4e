-- `position` meets its contract: what was passed over, and the position among the elements that are left, are the position among all; no value has more than 4,096 arguments, so nothing wraps.
use Rattle.member.proofs.SeekLaws.{Seeking}
use Prim.Native.Nat.{◌-◌}
use Rattle.member.proofs.position.Given as goal

abbrev pub invariant-loop-at : goal.invariant-loop-at
invariant-loop-at l = Seeking l.rec l.argument l.from l.to l.at l.passed

abbrev pub decreases-loop-at : goal.decreases-loop-at
decreases-loop-at l = l.to - l.at
