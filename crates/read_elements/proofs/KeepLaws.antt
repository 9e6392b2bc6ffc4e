-- An element keeps the leading units and the last unit that its rule is given: a range's lower end is the unit itself, since it is a numeral without fraction.
use Prim.Native.Nat.{ℕ}
use mathlib.Core.Path.{◌≡◌, refl, sym, subst}
use mathlib.Core.Bool.{cond}
use mathlib.Core.List.{List, [], ◌∷◌}
use lib.Dec.{leb, eqb}
use Rattle.laws.specs.Cases.{Always, by_bool, by_option}
use Rattle.laws.specs.Lists.{is_nil}
use Rattle.rules.specs.Commands.{Element, range, leading, last_unit}
use Rattle.rules.specs.Groups.{Join, join, end_of, ends, inc_of, no_more, increment, upper}
use Rattle.rules.specs.Refusals.{Res, ok, bad}
use Rattle.rules.specs.Tokens.{sep_code, ampamp, ampamp_, plusplus}
use Rattle.rules.proofs.ReadSteps.{end_is, ends_are}
use Rattle.rules.specs.Units.{Radix, Unit, num}

abbrev pub Keeps : List Unit → Unit → Res Element → Type 0
Keeps l u (ok e) = (leading e ≡ l) × (last_unit e ≡ u)
Keeps l u (bad n p) = Always

no_more_keeps : (js : List (Join Unit)) (l : List Unit) (r : Radix) (lo up k : ℕ) → Keeps l (num r 0 lo) (no_more js (range l r lo up k))
no_more_keeps [] l r lo up k = (refl, refl)
no_more_keeps (join s q p i ∷ js) l r lo up k = tt

increment_keeps : (js : List (Join Unit)) (l : List Unit) (r : Radix) (lo up : ℕ) → Keeps l (num r 0 lo) (increment l r lo up js)
increment_keeps [] l r lo up = (refl, refl)
increment_keeps (join s q p i ∷ js) l r lo up =
    by_bool (eqb (sep_code s) (sep_code plusplus))
    (λ y. by_option (inc_of r i) (λ z. rw (y, increment, z) tt) (λ k z. rw (y, increment, z) (no_more_keeps js l r lo up k)))
    (λ y. rw (y, increment) tt)

pub upper_keeps : (js : List (Join Unit)) (l : List Unit) (u : Unit) → Keeps l u (upper l u js)
upper_keeps [] l u = (refl, refl)
upper_keeps (join s q p i ∷ js) l u =
    by_bool (eqb (sep_code s) (cond (is_nil l) (sep_code ampamp) (sep_code ampamp_)))
    (λ y. by_option (ends (end_of u) (end_of i)) (λ z. rw (y, upper, z) tt)
    (λ x z.
    let e : u ≡ num x.0 0 x.1 = end_is u x.0 x.1 (ends_are (end_of u) (end_of i) x z).0 in
    by_bool (leb x.1 x.2)
    (λ w. rw (y, upper, z, w) (subst (λ v. Keeps l v (increment l x.0 x.1 x.2 js)) (sym e) (increment_keeps js l x.0 x.1 x.2)))
    (λ w. rw (y, upper, z, w) tt)))
    (λ y. rw (y, upper) tt)
