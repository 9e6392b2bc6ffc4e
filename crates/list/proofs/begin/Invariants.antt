-- `begin` meets its contract: from the last place back each stands at its first argument.
use Rattle.list.proofs.BeginLaws.{Beginning}
use Rattle.list.proofs.begin.Given as goal

abbrev pub invariant-loop-i : goal.invariant-loop-i
invariant-loop-i l = Beginning l.rec l.row l.initial.at l.i l.at

abbrev pub decreases-loop-i : goal.decreases-loop-i
decreases-loop-i l = l.i
