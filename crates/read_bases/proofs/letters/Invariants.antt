-- `letters` meets its contract: at every turn the letters from here on have the verdict of the whole list.
use Rattle.token_table.specs.Table.{verdict}
use Rattle.rules.specs.Reading.{read_letters}
use mathlib.Core.Path.{◌≡◌}
use lib.ListN.{drop}
use Prim.Native.Nat.{◌≤◌}
use Rattle.read_bases.proofs.letters.Given as goal

abbrev pub invariant-loop-i : goal.invariant-loop-i
invariant-loop-i l = (verdict (read_letters 0 l.bases) ≡ verdict (read_letters l.i (drop l.i l.bases))) × (l.i ≤ 32)
