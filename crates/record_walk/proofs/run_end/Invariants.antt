-- `run_end` meets its contract: where the run ends from here, it ends from the start, since each turn passes over one field of it.
use Rattle.record_walk.proofs.RunLaws.{Running}
use lib.ListN.{length}
use Prim.Native.Nat.{◌-◌}
use Rattle.record_walk.proofs.run_end.Given as goal

abbrev pub invariant-loop-end : goal.invariant-loop-end
invariant-loop-end l = Running l.low l.high l.rec l.at l.end

abbrev pub decreases-loop-end : goal.decreases-loop-end
decreases-loop-end l = length l.rec - l.end
