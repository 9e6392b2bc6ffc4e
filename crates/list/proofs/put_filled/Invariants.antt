-- `put_filled` meets its contract: what is written so far and what is left of the record, filled, are the whole; a turn writes up to the next value, and the argument in its place.
use Prim.Native.Nat.{◌-◌}
use Rattle.list.proofs.PieceLaws.{Filling}
use lib.ListN.{length}
use Rattle.list.proofs.put_filled.Given as goal

abbrev pub invariant-loop-i : goal.invariant-loop-i
invariant-loop-i l = Filling l.rec l.row l.at l.initial.out l.from l.i l.len l.out

abbrev pub decreases-loop-i : goal.decreases-loop-i
decreases-loop-i l = length l.row - l.i
