-- `moving` meets its contract: a place that is left out changes no order, and the three numbers of any other move to the front.
use Prim.Native.Nat.{◌-◌}
use lib.ListN.{length}
use Rattle.list.proofs.MovingLaws.{Moving}
use Rattle.list.proofs.moving.Given as goal

abbrev pub invariant-loop-i : goal.invariant-loop-i
invariant-loop-i l = Moving l.rec l.initial.row l.n l.i l.row

abbrev pub decreases-loop-i : goal.decreases-loop-i
decreases-loop-i l = length l.initial.row - l.i
