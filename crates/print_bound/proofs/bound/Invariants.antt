-- What is paid and what the fields left pay is enough for the text, and at the end no field is left.
use Prim.Native.Nat.{◌-◌}
use lib.ListN.{length}
use Rattle.print_bound.proofs.BoundLaws.{Bounding}
use Rattle.print_bound.proofs.bound.Given as goal

abbrev pub invariant-loop-at : goal.invariant-loop-at
invariant-loop-at l = Bounding l.rec l.at l.base l.sum

abbrev pub decreases-loop-at : goal.decreases-loop-at
decreases-loop-at l = length l.rec - l.at
