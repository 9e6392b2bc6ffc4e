-- `put_pieces` meets its contract: what is written, and the pieces of the combinations that are left, are the whole list.
use Prim.Native.Nat.{◌-◌}
use lib.ListN.{length}
use Rattle.list.proofs.UnrollLaws.{Unrolling}
use Rattle.list.proofs.put_pieces.Given as goal

abbrev pub invariant-loop-done : goal.invariant-loop-done
invariant-loop-done l = Unrolling l.rec l.row l.initial.out l.initial.at l.at l.done l.out

abbrev pub decreases-loop-done : goal.decreases-loop-done
decreases-loop-done l = length l.initial.out - l.done
