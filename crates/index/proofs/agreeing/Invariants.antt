-- `agreeing` meets its contract: what is right behind the slots that are right is right from the start, and the first slot that is not ends the count.
use lib.ListN.{length}
use Prim.Native.Nat.{◌-◌}
use Rattle.index.proofs.RowLaws.{Comparing}
use Rattle.index.proofs.agreeing.Given as goal

abbrev pub invariant-loop-at : goal.invariant-loop-at
invariant-loop-at l = Comparing l.rec l.row l.at l.right

abbrev pub decreases-loop-at : goal.decreases-loop-at
decreases-loop-at l = length l.rec - l.at
