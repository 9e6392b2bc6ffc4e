-- What is written over the part behind `at` is stored there, as many digits as are asked for.
use mathlib.Core.Path.{ap, sym}
use native.Mathlib.Omega.{arith}
use Prim.Native.Nat.{ℕ, ◌+◌}
use Rattle.digits.proofs.DigitLaws.{length_fixed}
use Rattle.print_unit.proofs.ChainLaws.{behind_fits, behind_put}
use Rattle.print_unit.proofs.PageSink.put_digits.Goals as goal

pub put_digits-requires : goal.put_digits-requires
put_digits-requires c = let a = c.args in (omega arith, omega arith, omega (arith, behind_fits c.requires.2, length_fixed a.k a.base a.n))

pub returns : goal.returns
returns c = let a = c.args in behind_put c.requires.2 (ap (λ (k : ℕ). a.at + k) (sym (length_fixed a.k a.base a.n))) c.put_digits.ensures
