-- `console_figures::letters::own_bases` meets its contract: the letters that are stored and those of the fields from here on are all of them.
-- Assumes nothing.
use Prim.Native.Nat.{◌-◌}
use lib.ListN.{length}
use Rattle.console_figures.proofs.LettersLaws.{Found}
use Rattle.console_figures.proofs.letters.own_bases.Given as goal

abbrev pub invariant-loop-at : goal.invariant-loop-at
invariant-loop-at l = Found l.initial.bases l.rec l.bases l.at l.n

abbrev pub decreases-loop-at : goal.decreases-loop-at
decreases-loop-at l = length l.rec - l.at
