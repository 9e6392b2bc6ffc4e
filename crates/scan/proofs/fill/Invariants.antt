-- `fill` meets its contract: after every token the table holds what the automaton gave so far, and the rest of the text gives the rest.
use lib.ListN.{length}
use Prim.Native.Nat.{◌-◌}
use Rattle.scan.proofs.FillLaws.{Filling}
use Rattle.scan.proofs.fill.Given as goal

abbrev pub invariant-loop-cursor : goal.invariant-loop-cursor
invariant-loop-cursor l = Filling l.text l.initial.toks l.initial.contents l.toks l.contents l.cursor.at l.tokens l.bytes

abbrev pub decreases-loop-cursor : goal.decreases-loop-cursor
decreases-loop-cursor l = length l.text - l.cursor.at
