-- `fill` meets its contract: each field that begins a place is a slot more, and at the record's end all offsets are written.
use lib.ListN.{length}
use Prim.Native.Nat.{◌-◌}
use Rattle.index.proofs.RowLaws.{Filling}
use Rattle.index.proofs.fill.Given as goal

abbrev pub invariant-loop-start : goal.invariant-loop-start
invariant-loop-start l = Filling l.rec l.initial.row l.start l.i l.row

abbrev pub decreases-loop-start : goal.decreases-loop-start
decreases-loop-start l = length l.rec - l.start
