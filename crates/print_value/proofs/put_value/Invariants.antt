-- At every turn the elements done stand in the buffer, the others stand in the record.
use Prim.Native.Nat.{◌-◌}
use lib.ListN.{length}
use Rattle.print_value.proofs.ValueLaws.{Laying}
use Rattle.print_value.proofs.put_value.Given as goal

abbrev pub invariant-loop-laid : goal.invariant-loop-laid
invariant-loop-laid g l = Laying g.S.Sink.way l.rec l.from l.base l.initial.laid.put.end l.initial.out l.laid l.out

abbrev pub decreases-loop-laid : goal.decreases-loop-laid
decreases-loop-laid g l = length l.rec - l.laid.put.next
