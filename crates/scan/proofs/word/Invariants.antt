-- `word` meets its contract: each turn is a step of the automaton in the word, and what is stored is what it has gathered.
use lib.ListN.{length}
use Prim.Native.Nat.{◌-◌}
use Rattle.scan.proofs.WordLaws.{Wording}
use Rattle.scan.proofs.word.Given as goal

abbrev pub invariant-loop-i : goal.invariant-loop-i
invariant-loop-i l = Wording l.text l.from l.first l.initial.out l.out l.len l.i

abbrev pub decreases-loop-i : goal.decreases-loop-i
decreases-loop-i l = length l.text - l.i
