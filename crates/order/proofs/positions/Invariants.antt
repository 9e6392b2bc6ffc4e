-- `positions` meets its contract: from the i-th number on the row is the plan, and what is left of k is the rule's quotient.
use Rattle.order.proofs.PositionLaws.{Placing}
use Rattle.order.proofs.positions.Given as goal

abbrev pub invariant-loop-i : goal.invariant-loop-i
invariant-loop-i l = Placing l.rec l.initial.row l.k l.i l.left l.row

abbrev pub decreases-loop-i : goal.decreases-loop-i
decreases-loop-i l = l.i
