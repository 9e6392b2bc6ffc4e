-- `order_len` meets its contract: what is counted is the record with the values that were passed reduced.
use Prim.Native.Nat.{◌-◌}
use Rattle.order.proofs.LoopLaws.{Sizing}
use lib.ListN.{length}
use Rattle.order.proofs.order_len.Given as goal

abbrev pub invariant-loop-i : goal.invariant-loop-i
invariant-loop-i l = Sizing l.rec l.row l.i l.len

abbrev pub decreases-loop-i : goal.decreases-loop-i
decreases-loop-i l = length l.row - l.i
