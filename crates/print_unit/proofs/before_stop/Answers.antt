-- A power is no 0, and a quotient is not above n.
use native.Mathlib.Nat.{div-le_self}
use Prim.Native.Nat.{ℕ, ◌/◌}
use Rattle.rules.proofs.UnitBack.{pow_least}
use Rattle.print_unit.proofs.PowerLaws.{pow_fits}
use mathlib.Core.Path.{ap}
use native.Mathlib.Omega.{arith}
use Rattle.print_unit.proofs.before_stop.Goals as goal

pub pow-requires : goal.pow-requires
pow-requires c = let a = c.args in omega (arith, pow_fits a.base a.k (omega arith) (omega arith))

pub nonzero_div-result : goal.nonzero_div-result
nonzero_div-result c = let a = c.args in omega (arith, pow_least a.base a.k (omega arith), c.pow.ensures)

pub overflow_cast-result-2 : goal.overflow_cast-result-2
overflow_cast-result-2 c = omega (arith, div-le_self c.args.n c.pow.result)

pub returns : goal.returns
returns c = ap (λ (p : ℕ). c.args.n / p) c.pow.ensures
