-- `console_figures::numbers::decode` meets its contract: what the text gives from here on, behind the bytes that are stored, is what it gives.
-- Assumes nothing.
use Rattle.console_figures.proofs.NumbersLaws.{Reading}
use lib.ListN.{length}
use Prim.Native.Nat.{◌-◌}
use Rattle.console_figures.proofs.numbers.decode.Given as goal

abbrev pub invariant-loop-at : goal.invariant-loop-at
invariant-loop-at l = Reading l.initial.out l.text l.out l.at l.n

abbrev pub decreases-loop-at : goal.decreases-loop-at
decreases-loop-at l = length l.text - l.at
