-- `units_len` meets its contract: at every turn the total is the length of the units done.
use Rattle.value_fields.specs.Measure.{bytes_from}
use lib.ListN.{length}
use mathlib.Core.Path.{◌≡◌}
use Prim.Native.Nat.{◌*◌, ◌≤◌}
use Rattle.value_fields.proofs.units_len.Given as goal

abbrev pub invariant-loop-i : goal.invariant-loop-i
invariant-loop-i l = (l.total ≡ length (bytes_from l.base l.contents l.toks l.n l.i)) × (l.total ≤ l.i * 65538)
