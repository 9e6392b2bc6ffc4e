-- At every turn the places done stand in the buffer, the others stand in the record.
use Prim.Native.Nat.{◌-◌}
use lib.ListN.{length}
use Rattle.print_text.proofs.CommandLaws.{Counting}
use Rattle.print_text.proofs.put_all.Given as goal

abbrev pub invariant-loop-put : goal.invariant-loop-put
invariant-loop-put g l = Counting g.S.Sink.way l.rec l.initial.out l.initial.put.end l.out l.put

abbrev pub decreases-loop-put : goal.decreases-loop-put
decreases-loop-put g l = length l.rec - l.put.next
