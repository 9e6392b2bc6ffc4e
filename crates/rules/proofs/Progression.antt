-- The terms of a range, once over lower end, increment and number of terms: stepping up to the upper end gives lower + n times increment, (upper - lower) / increment + 1 of them.
use Prim.Native.Nat.{ℕ, zero, suc, ◌+◌, ◌-◌, ◌*◌, ◌/◌, ◌≤◌, ◌<◌}
use mathlib.Core.Path.{◌≡◌, refl, ap, ◌∙◌}
use mathlib.Core.List.{List, [], ◌∷◌}
use native.Mathlib.Nat.{div-mul-le_self, div-eq-sub-div, div-eq_of_lt, mul-le-mul_right, suc-mul, zero-mul, not-suc-le-zero, le_of_suc-le-suc, add-zero}
use native.Mathlib.Omega.{arith}
use lib.Dec.{leb}
use lib.ListN.{length, get_or}
use borrow.Author.Tests.{le-leb, lt-leb, leb-true, leb-false}
use Rattle.laws.specs.Cases.{by_bool}
use Rattle.rules.specs.Orders.{stepping}

-- the number of terms, as the direct rule has it
abbrev pub terms_of : ℕ → ℕ → ℕ → ℕ
terms_of l u i = (u - l) / i + 1

-- no term is above the upper end
pub term_le : (l u i n : ℕ) → l ≤ u → n < terms_of l u i → l + n * i ≤ u
term_le l u i n h k =
    let a : n * i ≤ (u - l) / i * i = mul-le-mul_right i (omega arith) in
    omega (arith, div-mul-le_self (u - l) i)

-- n terms from l on, by i
abbrev pub progression : ℕ → ℕ → ℕ → List ℕ
progression l i zero = []
progression l i (suc n) = l ∷ progression (l + i) i n

pub progression_length : (l i n : ℕ) → length (progression l i n) ≡ n
progression_length l i zero = refl
progression_length l i (suc n) = ap suc (progression_length (l + i) i n)

pub progression_at : (l i n k d : ℕ) → k < n → get_or (progression l i n) k d ≡ l + k * i
progression_at l i zero k d h = absurd (not-suc-le-zero h)
progression_at l i (suc n) zero d h = rw (zero-mul, add-zero)
progression_at l i (suc n) (suc k) d h = progression_at (l + i) i n k d (le_of_suc-le-suc h) ∙ omega (arith, suc-mul k i)

pub stepping_past : (f l u i : ℕ) → u < l → stepping f l u i ≡ []
stepping_past zero l u i h = refl
stepping_past (suc f) l u i h = rw (lt-leb l u h)

pub stepping_is : (f l u i : ℕ) → 1 ≤ i → l ≤ u → u - l < f → stepping f l u i ≡ progression l i (terms_of l u i)
stepping_is zero l u i p h k = absurd (not-suc-le-zero k)
stepping_is (suc f) l u i p h k =
    by_bool (leb (l + i) u)
    (λ y.
    let q : l + i ≤ u = leb-true (l + i) u y in
    let s : u - (l + i) ≡ u - l - i = omega arith in
    let d : (u - l) / i ≡ (u - l - i) / i + 1 = div-eq-sub-div p (omega arith) in
    let e : terms_of l u i ≡ suc (terms_of (l + i) u i) = rw (s, d) (omega arith) in
    rw (le-leb l u h, stepping_is f (l + i) u i p q (omega arith), e))
    (λ y.
    let b : u < l + i = leb-false (l + i) u y in
    let d : (u - l) / i ≡ 0 = div-eq_of_lt (omega arith) in
    rw (le-leb l u h, stepping_past f (l + i) u i b, d))
