-- The run from here on, behind the value so far, is the run from the start.
use Rattle.digits.specs.Digits.{digits_at}
use mathlib.Core.Path.{◌≡◌}
use Rattle.digits.proofs.digits.Given as goal

abbrev pub invariant-loop-i : goal.invariant-loop-i
invariant-loop-i l = (l.run.end ≡ l.i) × (digits_at l.base l.word l.from l.start ≡ digits_at l.base l.word l.i l.run.value)
