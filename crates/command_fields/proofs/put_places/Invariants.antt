-- `put_places` meets its contract: at every turn the places written so far stand over the buffer's start, and those from here on fit behind them.
use lib.ListN.{length}
use Prim.Native.Nat.{◌+◌, ◌-◌}
use Rattle.command_fields.proofs.BlockLaws.{Placing}
use Rattle.command_fields.proofs.put_places.Given as goal

abbrev pub invariant-loop-i : goal.invariant-loop-i
invariant-loop-i l = Placing l.toks l.contents l.bases l.named l.first l.initial.out l.i l.n l.k l.out

abbrev pub decreases-loop-i : goal.decreases-loop-i
decreases-loop-i l = length l.toks + 1 - l.i
