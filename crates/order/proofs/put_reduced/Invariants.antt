-- `put_reduced` meets its contract: what is written so far and what is left of the record, reduced, are the whole; each changed value goes into the part of the buffer that begins there.
use Prim.Native.Nat.{◌-◌}
use Rattle.order.proofs.LoopLaws.{Writing}
use lib.ListN.{length}
use Rattle.order.proofs.put_reduced.Given as goal

abbrev pub invariant-loop-i : goal.invariant-loop-i
invariant-loop-i l = Writing l.rec l.row l.initial.out l.at l.i l.len l.out

abbrev pub decreases-loop-i : goal.decreases-loop-i
decreases-loop-i l = length l.row - l.i
