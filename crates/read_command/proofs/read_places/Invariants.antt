-- `read_places` meets its contract: up to where the loop stands the places are in the tally, and their names are known.
use Prim.Native.Nat.{◌+◌, ◌-◌}
use mathlib.Core.List.{[]}
use lib.ListN.{length}
use Rattle.rules.specs.Commands.{split}
use Rattle.rules.specs.Reading.{read_places}
use Rattle.rules.specs.Tokens.{comma}
use Rattle.token_table.specs.Table.{tokens_in}
use Rattle.read_bases.specs.Bases.{bases_in}
use Rattle.read_command.specs.Blocks.{places_read}
use Rattle.read_command.proofs.TurnLaws.{PlacesFrom}
use Rattle.read_command.proofs.read_places.Given as goal

abbrev pub invariant-loop-i : goal.invariant-loop-i
invariant-loop-i l =
    PlacesFrom l.named (bases_in l.bases) l.toks l.contents l.end l.i l.t l.marks
    (places_read l.initial.t (read_places l.named (bases_in l.bases) l.initial.t.places [] (split comma l.end (tokens_in l.contents l.toks))))

abbrev pub decreases-loop-i : goal.decreases-loop-i
decreases-loop-i l = length l.toks + 1 - l.i
