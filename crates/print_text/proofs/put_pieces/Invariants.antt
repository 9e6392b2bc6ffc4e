-- At every turn the pieces done stand in the buffer, the others stand in the record.
use Prim.Native.Nat.{◌-◌}
use lib.ListN.{length}
use Rattle.print_text.proofs.PieceLaws.{Putting}
use Rattle.print_text.proofs.put_pieces.Given as goal

abbrev pub invariant-loop-tag : goal.invariant-loop-tag
invariant-loop-tag g l = Putting g.S.Sink.way l.rec l.fn.from.next l.tag l.fn.from.end l.initial.out l.piece l.end l.out

abbrev pub decreases-loop-tag : goal.decreases-loop-tag
decreases-loop-tag g l = length l.rec - l.piece
