-- So many digits are put as are asked for.
use mathlib.Core.Path.{refl}
use native.Mathlib.Omega.{arith}
use Rattle.digits.proofs.DigitLaws.{length_fixed}
use Rattle.print_unit.proofs.MeasureSink.put_digits.Goals as goal

pub returns : goal.returns
returns c = let a = c.args in record { end = omega (arith, length_fixed a.k a._base a._n); is = refl }
