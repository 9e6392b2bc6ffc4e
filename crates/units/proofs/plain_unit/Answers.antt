-- The tests are the definition's, on the run of digits and the size of the base.
use Rattle.digits.proofs.LetterLaws.{size_high}
use native.Mathlib.Omega.{arith}
use Rattle.units.proofs.plain_unit.Goals as goal

pub digits-run-requires : goal.digits-run-requires
digits-run-requires c = omega (arith, size_high c.args.letter)
