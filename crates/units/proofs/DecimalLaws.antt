-- Under D a word of decimal digits alone has no mark, so it is the numeral that its one run of digits makes; a word without a digit at its start is no numeral.
use mathlib.Core.Path.{◌≡◌, refl, sym, ap, ◌∙◌}
use mathlib.Core.List.{List, [], ◌∷◌}
use mathlib.Core.Bool.{Bool, true, false, false≢true}
use Prim.Native.Nat.{ℕ, ◌+◌, ◌-◌, ◌<◌, ◌≤◌}
use native.Mathlib.Omega.{arith}
use lib.ListN.{length, get_or}
use lib.Dec.{leb, ltb, eqb}
use borrow.Author.Tests.{lt-leb, le-leb, le-ltb, eqb-true, leb-true}
use Rattle.laws.specs.Cases.{by_bool, and_l}
use Rattle.rules.specs.Characters.{byte, capital, between, is_digit}
use Rattle.rules.specs.Units.{digit_value, numeral, base_at}
use Rattle.digits.specs.declared.Run.{Run}
use Rattle.digits.specs.Digits.{digits_at}
use Rattle.digits.proofs.RunLaws.{run_length, run_yes, run_no, run_none, run_end}
use Rattle.std.proofs.Common.{Err}
use Rattle.units.specs.declared.Fault.TheVariants.{Unreadable}
use Rattle.units.specs.Words.{Answer, sized, plain_unit, of_numeral, unit_under}
use Rattle.units.proofs.NumeralLaws.{plain_is}
use Rattle.units.proofs.WordLaws.{sized_name}

-- ---- D is not K: the code's numeral is the rules'

decimal_is : (w : List ℕ) → plain_unit (byte "D") w 0 ≡ of_numeral (byte "D") 0 (numeral (base_at (byte "D")) w)
decimal_is w = plain_is (byte "D") w 0 (λ e. omega arith)

-- ---- digits to the end

digit_mark : (c : ℕ) → ltb (digit_value c) 10 ≡ true → eqb c (byte "'") ≡ false
digit_mark c y = by_bool (eqb c (byte "'")) (λ z. absurd (false≢true (ap (λ (n : ℕ). ltb (digit_value n) 10) (sym (eqb-true c (byte "'") z)) ∙ y))) (λ z. z)

no_prefix : (w : List ℕ) → length w ≤ run_length 10 w → eqb (get_or w 1 0) (byte "'") ≡ false
no_prefix [] h = refl
no_prefix (c ∷ []) h = refl
no_prefix (c ∷ m ∷ x) h =
    by_bool (ltb (digit_value c) 10)
    (λ y. by_bool (ltb (digit_value m) 10) (digit_mark m) (λ z. absurd (omega (arith, run_yes 10 c (m ∷ x) y, run_no 10 m x z))))
    (λ y. absurd (omega (arith, run_no 10 c (m ∷ x) y)))

all_plain : (w : List ℕ) {r : Run} → r ≡ digits_at 10 w 0 0 → length w ≤ r.end → 0 < length w → plain_unit (byte "D") w 0 ≡ sized (byte "D") 0 r.value
unfolding plain_unit
all_plain w {r} q h k = rw (← q, lt-leb r.end 0 (omega arith), le-ltb r.end (length w) h)

pub decimal_all : (b : ℕ) (w : List ℕ) {u : Answer} {r : Run} → b ≡ byte "D" → r ≡ digits_at 10 w 0 0 → length w ≤ r.end → 0 < length w
    → u ≡ sized (byte "D") 0 r.value → u ≡ unit_under b w
unfolding unit_under
decimal_all b w {u} {r} d q h k s =
    let e : r.end ≡ 0 + run_length 10 w = ap (λ (t : Run). t.end) q ∙ run_end 10 w 0 0 in
    rw (d, no_prefix w (omega arith), ← decimal_is w, all_plain w q h k) (s ∙ sym (sized_name w (byte "D") 0 r.value))

-- ---- no digit at the start

not_decimal : (c : ℕ) → is_digit c ≡ false → ltb (digit_value c) 10 ≡ false
not_decimal c y =
    let l : ℕ = capital c in
    by_bool (between (byte "A") (byte "F") l)
    (λ z. let h : 65 ≤ l = leb-true 65 l (and_l (leb 65 l) (leb l 70) z) in rw (y, z) (le-ltb (l - 55) 10 (omega arith)))
    (λ z. rw (y, z))

start_none : (w : List ℕ) → is_digit (get_or w 0 0) ≡ false → run_length 10 w ≡ 0
start_none [] y = run_none 10
start_none (c ∷ cs) y = run_no 10 c cs (not_decimal c y)

none_plain : (w : List ℕ) → run_length 10 w ≡ 0 → plain_unit (byte "D") w 0 ≡ Err Unreadable
unfolding plain_unit
none_plain w z =
    let e : (digits_at 10 w 0 0).end ≡ 0 + run_length 10 w = run_end 10 w 0 0 in
    rw (le-leb (digits_at 10 w 0 0).end 0 (omega arith))

pub decimal_none : (b : ℕ) (w : List ℕ) {t : Bool} → b ≡ byte "D" → t ≡ is_digit (get_or w 0 0) → t ≡ false → (Err Unreadable) ≡ of_numeral b 0 (numeral (base_at b) w)
decimal_none b w d e y = rw (d, ← decimal_is w) (sym (none_plain w (start_none w (sym e ∙ y))))
