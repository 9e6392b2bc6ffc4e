-- At every turn the units done stand in the buffer, the others stand in the record.
use Prim.Native.Nat.{◌-◌}
use lib.ListN.{length}
use Rattle.print_value.proofs.UnitsLaws.{Putting}
use Rattle.print_value.proofs.put_units.Given as goal

abbrev pub invariant-loop-last : goal.invariant-loop-last
invariant-loop-last g l = Putting g.S.Sink.way l.rec l.from l.base l.initial.end l.initial.out l.end l.out l.last l.next

abbrev pub decreases-loop-last : goal.decreases-loop-last
decreases-loop-last g l = length l.rec - l.next
