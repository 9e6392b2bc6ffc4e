-- The characters from here on, behind a `+` or not, decide as all do from the start.
use mathlib.Core.Bool.{false}
use Rattle.judge_unit.specs.Units.{ok_at}
use mathlib.Core.Path.{◌≡◌}
use Rattle.judge_unit.proofs.no_double.Given as goal

abbrev pub invariant-loop-b : goal.invariant-loop-b
invariant-loop-b l = ok_at false l.word 0 ≡ ok_at l.plus l.word l.b-index
