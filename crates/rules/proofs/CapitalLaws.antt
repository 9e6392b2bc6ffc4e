-- M-109: a capital is at most 32 below its small letter, a base's letter is a capital, and a keyed numeral as records hold it is its own capitals.
use Prim.Native.Nat.{ℕ, ◌+◌, ◌≤◌}
use mathlib.Core.Path.{◌≡◌, refl, ap, ap₂, ◌∙◌}
use mathlib.Core.Bool.{true, ◌||◌, not}
use mathlib.Core.List.{List, [], ◌∷◌, map}
use mathlib.Core.Option.{some}
use native.Mathlib.Omega.{arith}
use lib.Dec.{eqb}
use borrow.Author.Tests.{eqb-true, leb-true, lt-leb}
use Rattle.laws.specs.Cases.{by_bool, and_l, or_cases, conjuncts}
use Rattle.laws.specs.Lists.{all, is_nil, all_mono}
use Rattle.rules.specs.Characters.{byte, between, capital}
use Rattle.rules.specs.Units.{r_d, r_h, r_o, r_b, Base, plain, keys, letter, base_of, is_key, is_held_key, run_of}

pub between_le : (a b c : ℕ) → between a b c ≡ true → c ≤ b
between_le a b c h = leb-true c b (search conjuncts)

pub capital_near : (c : ℕ) → c ≤ capital c + 32
capital_near c = by_bool (between 97 122 c) (λ y. rw y (omega arith)) (λ y. rw y (omega arith))

pub letter_capital : (b : Base) → base_of (capital (letter b)) ≡ some b
letter_capital (plain r_d) = refl
letter_capital (plain r_h) = refl
letter_capital (plain r_o) = refl
letter_capital (plain r_b) = refl
letter_capital keys = refl

-- the highest keyed digit that a record holds is D
pub held_low : (c : ℕ) → is_held_key c ≡ true → c ≤ byte "D"
held_low c h =
    or_cases (between 48 57 c || between 65 68 c || eqb c 42) (eqb c 35) h
    (λ h. or_cases (between 48 57 c || between 65 68 c) (eqb c 42) h
    (λ h. or_cases (between 48 57 c) (between 65 68 c) h (λ h. omega (arith, between_le 48 57 c h)) (λ h. between_le 65 68 c h))
    (λ h. omega (arith, eqb-true c 42 h)))
    (λ h. omega (arith, eqb-true c 35 h))

pub held_capital : (c : ℕ) → is_held_key c ≡ true → capital c ≡ c
held_capital c h = rw (lt-leb 97 c (omega (arith, held_low c h)))

pub held_run : (w : List ℕ) → run_of is_held_key w ≡ true → run_of is_key w ≡ true
held_run w h =
    let some : not (is_nil w) ≡ true = and_l (not (is_nil w)) (all is_held_key w) h in
    rw (some, all_mono is_held_key is_key (λ c y. ap is_held_key (held_capital c y) ∙ y) w (search conjuncts))

pub held_capitals : (w : List ℕ) → all is_held_key w ≡ true → map capital w ≡ w
held_capitals [] h = refl
held_capitals (c ∷ w) h =
    ap₂ (λ a l. a ∷ l) (held_capital c (search conjuncts)) (held_capitals w (search conjuncts))
