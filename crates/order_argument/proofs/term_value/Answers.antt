-- `term_value` meets its contract: no term is above the upper end, so product and sum fit.
use Rattle.order_argument.proofs.TermLaws.{term_below}
use Rattle.order_argument.specs.Terms.{is_range, more_terms, term_value}
use Rattle.rules.specs.Records.{num4}
use mathlib.Core.Path.{◌≡◌}
use mathlib.Core.Bool.{true}
use mathlib.Core.List.{List}
use lib.ListN.{length, get_or}
use Prim.Native.Nat.{ℕ, ◌+◌, ◌-◌, ◌*◌, ◌<◌, ◌≤◌}
use native.Mathlib.Omega.{arith}
use mir.Val.{Fits}
use mir.Syntax.{w8}
use Rattle.order_argument.proofs.term_value.Goals as goal

fits : (range : List ℕ) (term lower increment : ℕ) → is_range range ≡ true → term ≤ more_terms range → lower ≡ num4 range (length range - 4) → increment ≡ num4 range 7
    → lower < 4294967296 → ((n : ℕ) → Fits w8 (get_or range n 0)) → lower + term * increment < 4294967296
fits range term lower increment h k e e' low byte =
    rw e' (omega (arith, term_below range term h k, e, byte 3, byte 4, byte 5, byte 6))

-- the term is no higher than the upper end, which has four bytes

pub overflow_mul-result : goal.overflow_mul-result
overflow_mul-result c = omega (arith, fits c.args.range.now c.args.term c.number_at-lower.result c.number_at.result c.requires.0 c.requires.1 c.number_at-lower.ensures c.number_at.ensures (omega arith) c.shared_slice_known-1.given)

pub overflow_add-result : goal.overflow_add-result
overflow_add-result c = omega (arith, fits c.args.range.now c.args.term c.number_at-lower.result c.number_at.result c.requires.0 c.requires.1 c.number_at-lower.ensures c.number_at.ensures (omega arith) c.shared_slice_known-1.given)

pub returns : goal.returns
unfolding term_value
returns c = rw (c.number_at.ensures, c.number_at-lower.ensures)
