-- A run of digits is read digit by digit, and its value is the rules' value or, like it, above the limit; proved once over the base.
use mathlib.Core.Path.{◌≡◌, refl, sym, ap, ◌∙◌}
use mathlib.Core.List.{List, [], ◌∷◌}
use mathlib.Core.Bool.{Bool, true, false, not, ◌&&◌}
use mathlib.Core.Logic.{◌⊎◌, inl, inr}
use Prim.Native.Nat.{ℕ, suc, ◌+◌, ◌*◌, ◌<◌, ◌≤◌}
use native.Mathlib.Nat.{mul-le-mul_left}
use native.Mathlib.Omega.{arith}
use lib.ListN.{length, get_or, take, drop, drop_of_length-le}
use lib.Dec.{leb, ltb}
use borrow.Author.Tests.{lt-ltb, le-ltb, lt-leb, leb-false}
use Rattle.laws.specs.Cases.{pick, by_bool, and_false}
use Rattle.laws.specs.Lists.{all, is_nil, next}
use Rattle.rules.specs.Refusals.{most_value}
use Rattle.rules.specs.Units.{Radix, size, digit_value, is_digit_of, value_from, run_of}
use Rattle.digits.specs.declared.Run.{Run}
use Rattle.digits.specs.Digits.{grown, digits_from, digits_at}

-- ---- the turns of the loop

module _ (b : ℕ) (s : List ℕ) (i : ℕ) (run : Run) where
  pub digits_end : {r : Run} → run.end ≡ i → r ≡ digits_at b s i run.value → length s ≤ i → run ≡ r
  unfolding digits_at digits_from
  digits_end {r} z q h = let e : r ≡ record { end = i; value = run.value } = q ∙ rw (drop_of_length-le s h) in rw (← z) at (sym e)

  pub digits_more : {d w : ℕ} {r : Run} → r ≡ digits_at b s i run.value → i < length s → d ≡ digit_value (get_or s i 0) → d < b → w ≡ grown b run.value d → r ≡ digits_at b s (i + 1) w
  unfolding digits_at digits_from
  digits_more q h e t g = q ∙ rw (g, next s i h, ← e, lt-ltb _ _ t)

  pub digits_stop : {d : ℕ} {r : Run} → run.end ≡ i → r ≡ digits_at b s i run.value → i < length s → d ≡ digit_value (get_or s i 0) → b ≤ d → run ≡ r
  unfolding digits_at digits_from
  digits_stop {d} {r} z q h e t = let f : r ≡ record { end = i; value = run.value } = q ∙ rw (next s i h, ← e, le-ltb _ _ t) in rw (← z) at (sym f)

-- ---- how many digits stand at the start

unfoldable pub run_length : ℕ → List ℕ → ℕ
run_length b [] = 0
run_length b (c ∷ cs) = let more = suc (run_length b cs) in pick (ltb (digit_value c) b) more 0

pub run_yes : (b c : ℕ) (cs : List ℕ) → ltb (digit_value c) b ≡ true → run_length b (c ∷ cs) ≡ suc (run_length b cs)
unfolding run_length
run_yes b c cs y = rw y

pub run_no : (b c : ℕ) (cs : List ℕ) → ltb (digit_value c) b ≡ false → run_length b (c ∷ cs) ≡ 0
unfolding run_length
run_no b c cs y = rw y

pub run_none : (b : ℕ) → run_length b [] ≡ 0
unfolding run_length
run_none b = refl

from_yes : (b c : ℕ) (cs : List ℕ) (i v : ℕ) → ltb (digit_value c) b ≡ true → digits_from b (c ∷ cs) i v ≡ digits_from b cs (i + 1) (grown b v (digit_value c))
unfolding digits_from
from_yes b c cs i v y = rw y

from_no : (b c : ℕ) (cs : List ℕ) (i v : ℕ) → ltb (digit_value c) b ≡ false → digits_from b (c ∷ cs) i v ≡ record { end = i; value = v }
unfolding digits_from
from_no b c cs i v y = rw y

from_end : (b : ℕ) (cs : List ℕ) (i v : ℕ) → (digits_from b cs i v).end ≡ i + run_length b cs
unfolding digits_from run_length
from_end b [] i v = omega arith
from_end b (c ∷ cs) i v =
    by_bool (ltb (digit_value c) b)
    (λ y. rw (from_yes b c cs i v y, run_yes b c cs y, from_end b cs (i + 1) (grown b v (digit_value c))) (omega arith))
    (λ y. rw (from_no b c cs i v y, run_no b c cs y) (omega arith))

-- the run ends behind its digits
pub run_end : (b : ℕ) (w : List ℕ) (i v : ℕ) → (digits_at b w i v).end ≡ i + run_length b (drop i w)
unfolding digits_at
run_end b w i v = from_end b (drop i w) i v

pub run_le : (b : ℕ) (cs : List ℕ) → run_length b cs ≤ length cs
run_le b [] = rw (run_none b) (omega arith)
run_le b (c ∷ cs) =
    by_bool (ltb (digit_value c) b)
    (λ y. rw (run_yes b c cs y) (omega (arith, run_le b cs)))
    (λ y. rw (run_no b c cs y) (omega arith))

-- ---- the value of a run

-- a value that stopped growing is above the limit, and so is the rules' value
abbrev pub Near : ℕ → ℕ → Type 0
Near a b = (a ≡ b) ⊎ ((most_value < a) × (most_value < b))

grows : (u b d : ℕ) → 1 ≤ b → u ≤ u * b + d
grows u b d h = let m : u * 1 ≤ u * b = mul-le-mul_left u h in omega arith

near_grown : (b v u d : ℕ) → 1 ≤ b → Near v u → Near (grown b v d) (u * b + d)
unfolding grown
near_grown b v u d h (inl e) =
    by_bool (leb v most_value)
    (λ y. inl (rw y (ap (λ (x : ℕ). x * b + d) e)))
    (λ y.
    let p : most_value < v = leb-false v most_value y in
    inr (rw y (p, omega (arith, grows u b d h))))
near_grown b v u d h (inr p) = inr (rw (lt-leb v most_value p.0) (p.0, omega (arith, grows u b d h, p.1)))

near_from : (b : ℕ) (cs : List ℕ) (i v u : ℕ) → 1 ≤ b → Near v u → Near (digits_from b cs i v).value (value_from b u (take (run_length b cs) cs))
unfolding digits_from run_length
near_from b [] i v u h n = n
near_from b (c ∷ cs) i v u h n =
    by_bool (ltb (digit_value c) b)
    (λ y. rw (from_yes b c cs i v y, run_yes b c cs y) (near_from b cs (i + 1) (grown b v (digit_value c)) (u * b + digit_value c) h (near_grown b v u (digit_value c) h n)))
    (λ y. rw (from_no b c cs i v y, run_no b c cs y) n)

pub near_run : (b : ℕ) (w : List ℕ) (i v u : ℕ) → 1 ≤ b → Near v u
    → Near (digits_at b w i v).value (value_from b u (take (run_length b (drop i w)) (drop i w)))
unfolding digits_at
near_run b w i v u h n = near_from b (drop i w) i v u h n

-- ---- all digits or not

-- what is not all of a class is no run of it
pub broken_run : (f : ℕ → Bool) (x : List ℕ) → all f x ≡ false → run_of f x ≡ false
broken_run f x h = ap (λ t. not (is_nil x) && t) h ∙ and_false (not (is_nil x))

all_digits : (r : Radix) (cs : List ℕ) → run_length (size r) cs ≡ length cs → all (is_digit_of r) cs ≡ true
all_digits r [] h = refl
all_digits r (c ∷ cs) h =
    by_bool (is_digit_of r c)
    (λ y. rw y (all_digits r cs (omega (arith, run_yes (size r) c cs y))))
    (λ y. absurd (omega (arith, run_no (size r) c cs y)))

not_digits : (r : Radix) (cs : List ℕ) → run_length (size r) cs < length cs → all (is_digit_of r) cs ≡ false
not_digits r [] h = absurd (omega (arith, run_none (size r)))
not_digits r (c ∷ cs) h =
    by_bool (is_digit_of r c)
    (λ y. rw y (not_digits r cs (omega (arith, run_yes (size r) c cs y))))
    (λ y. rw y)

pub run_all : (r : Radix) (x : List ℕ) → run_length (size r) x ≡ length x → 1 ≤ length x → run_of (is_digit_of r) x ≡ true
run_all r [] h k = absurd (omega arith)
run_all r (c ∷ cs) h k = all_digits r (c ∷ cs) h

pub run_not : (r : Radix) (x : List ℕ) → run_length (size r) x < length x → run_of (is_digit_of r) x ≡ false
run_not r x h = broken_run (is_digit_of r) x (not_digits r x h)

pub run_empty : (r : Radix) (x : List ℕ) → length x ≡ 0 → run_of (is_digit_of r) x ≡ false
run_empty r [] h = refl
run_empty r (c ∷ cs) h = absurd (omega arith)

take_digits : (r : Radix) (x : List ℕ) → all (is_digit_of r) (take (run_length (size r) x) x) ≡ true
unfolding run_length
take_digits r [] = refl
take_digits r (c ∷ cs) =
    by_bool (ltb (digit_value c) (size r))
    (λ y. rw (run_yes (size r) c cs y) (rw y (take_digits r cs)))
    (λ y. rw (run_no (size r) c cs y))

pub run_take : (r : Radix) (x : List ℕ) → 1 ≤ run_length (size r) x → run_of (is_digit_of r) (take (run_length (size r) x) x) ≡ true
run_take r [] h = absurd (omega (arith, run_none (size r)))
run_take r (c ∷ cs) h =
    by_bool (ltb (digit_value c) (size r))
    (λ y. rw (run_yes (size r) c cs y) (rw y (take_digits r cs)))
    (λ y. absurd (omega (arith, run_no (size r) c cs y)))
