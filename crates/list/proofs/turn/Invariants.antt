-- `turn` meets its contract: the places behind the one that is looked at stood at their last arguments, and stand at their first again.
use Rattle.list.proofs.TurnLaws.{Rolling}
use Rattle.list.proofs.turn.Given as goal

abbrev pub invariant-loop-i : goal.invariant-loop-i
invariant-loop-i l = Rolling l.rec l.row l.initial.at l.i l.at

abbrev pub decreases-loop-i : goal.decreases-loop-i
decreases-loop-i l = l.i
