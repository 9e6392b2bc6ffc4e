-- `read_blocks` meets its contract: at every turn the tally so far and the blocks from here on give what the rules give for all blocks.
use Rattle.read_command.specs.Blocks.{blocks_read}
use Rattle.token_table.specs.Parts.{parts_from}
use Rattle.read_bases.specs.Bases.{bases_in}
use Rattle.rules.specs.Tokens.{colon}
use Rattle.rules.specs.Reading.{read_blocks}
use lib.ListN.{length}
use mathlib.Core.Path.{◌≡◌}
use Prim.Native.Nat.{◌+◌, ◌-◌, ◌≤◌}
use Rattle.read_command.proofs.read_blocks.Given as goal

abbrev pub invariant-loop-i : goal.invariant-loop-i
invariant-loop-i l = (blocks_read l.initial.t (read_blocks (bases_in l.bases) 0 l.initial.t.places l.before (parts_from colon l.end l.contents l.toks l.from)) ≡ blocks_read l.t (read_blocks (bases_in l.bases) l.m l.t.places l.at (parts_from colon l.end l.contents l.toks l.i))) × (l.m ≤ 8)

abbrev pub decreases-loop-i : goal.decreases-loop-i
decreases-loop-i l = length l.toks + 1 - l.i
