-- `stands` meets its contract: up to where the loop stands no place has the name.
use Prim.Native.Nat.{◌-◌}
use mathlib.Core.Bool.{true}
use lib.ListN.{length}
use Rattle.token_table.specs.Parts.{words_in}
use Rattle.read_names.proofs.NameLaws.{Walking}
use Rattle.read_names.proofs.stands.Given as goal

abbrev pub invariant-loop-i : goal.invariant-loop-i
invariant-loop-i l = Walking l.contents l.before (words_in true l.contents l.name) l.i

abbrev pub decreases-loop-i : goal.decreases-loop-i
decreases-loop-i l = length l.before - l.i
