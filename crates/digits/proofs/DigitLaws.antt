-- Each division by the base takes one digit off: so digits are counted, and written from the last back; proved once over the base.
use mathlib.Core.Path.{◌≡◌, refl, ap, sym, ◌∙◌}
use mathlib.Core.List.{List, [], ◌∷◌, ◌++◌}
use Prim.Native.Nat.{ℕ, zero, suc, ◌+◌, ◌-◌, ◌*◌, ◌/◌, ◌%◌, ◌^◌, ◌≤◌, ◌<◌}
use native.Mathlib.Nat.{mul-le-mul_left, div-lt_iff_lt-mul, pow-suc, mod-eq_of_lt}
use native.Mathlib.Omega.{arith}
use borrow.Author.Tests.{lt-ltb, le-ltb, ltb-true, ltb-false}
use lib.ListN.{length, set, length-append, length-set}
use lib.Dec.{ltb}
use Rattle.laws.specs.Cases.{by_bool}
use Rattle.laws.specs.Over.{over, over_last}
use Rattle.rules.specs.Printing.{digits, digits_of, digit_char, most_digits}
use Rattle.rules.proofs.UnitBack.{digits_low, digits_high, of_length, digits_most}
use Rattle.digits.specs.Digits.{whole, fixed}

-- ---- the loop that counts

count_last : (b f m : ℕ) → m < b → length (digits (suc f) b m) ≡ 1
count_last b f m h = rw (digits_low f b m (lt-ltb m b h))

count_more : (b f m : ℕ) → b ≤ m → length (digits (suc f) b m) ≡ suc (length (digits f b (m / b)))
count_more b f m h = rw (digits_high f b m (le-ltb m b h), length-append) (omega arith)

room : (f m : ℕ) → 2 ≤ m → m < 2 ^ f → 2 ≤ f
room zero m h k = omega arith
room (suc zero) m h k = omega arith
room (suc (suc f)) m h k = omega arith

halved : (b f m : ℕ) → 2 ≤ b → m < 2 ^ suc f → m / b < 2 ^ f
halved b f m h k =
    let p : 2 ^ f * 2 ≤ 2 ^ f * b = mul-le-mul_left (2 ^ f) h in
    let z : zero < b = omega arith in
    (div-lt_iff_lt-mul z).1 (omega (arith, pow-suc 2 f))

-- k counts the digits taken off and one of m's, where m is left and f digits are enough for it
pub record Counting (b n k m f : ℕ) : Type 0 where
  pub sum : length (whole b n) + 1 ≡ k + length (digits f b m)
  pub fits : m < 2 ^ f
  pub fuel : k + f ≡ most_digits + 1
  pub some : 1 ≤ f

pub counting_none : (b n : ℕ) → n < 2 ^ most_digits → Counting b n 1 n most_digits
unfolding whole
counting_none b n h = record { sum = omega arith; fits = h; fuel = refl; some = omega arith }

pub counting_more : {b n k m f : ℕ} (g : ℕ) → most_digits + 1 - (k + 1) ≡ g → 2 ≤ b → b ≤ m → Counting b n k m f → Counting b n (k + 1) (m / b) g
counting_more {b} {n} {k} {m} {f} g eg h p c =
    let r : 2 ≤ f = room f m (omega arith) c.fits in
    let e : f ≡ suc g = omega (arith, c.fuel) in
    let s : length (whole b n) + 1 ≡ k + length (digits (suc g) b m) = rw e at c.sum in
    let t : m < 2 ^ suc g = rw e at c.fits in
    record { sum = omega (arith, count_more b g m p); fits = halved b g m h t; fuel = omega (arith, c.fuel); some = omega arith }

pub counting_all : {b n k m f : ℕ} → m < b → Counting b n k m f → k ≡ length (whole b n)
counting_all {b} {n} {k} {m} {f} h c = go f c.some c.sum
  where
    go : (f : ℕ) → 1 ≤ f → length (whole b n) + 1 ≡ k + length (digits f b m) → k ≡ length (whole b n)
    go zero s e = absurd (omega arith)
    go (suc f) s e = omega (arith, count_last b f m h)

-- ---- all digits are at most 32, and the last so many

pub whole_one : (b n : ℕ) → n < b → whole b n ≡ digit_char n ∷ []
unfolding whole
whole_one b n h = digits_low 31 b n (lt-ltb n b h)

pub whole_most : (b n : ℕ) → length (whole b n) ≤ most_digits
unfolding whole
whole_most b n = digits_most most_digits b n

all_fixed : (k b n : ℕ) → 1 ≤ b → digits k b n ≡ digits_of (length (digits k b n)) b n
unfolding digits
all_fixed zero b n h = refl
all_fixed (suc k) b n h =
    by_bool (ltb n b)
    (λ y. rw (digits_low k b n y, mod-eq_of_lt (ltb-true n b y)))
    (λ y.
    let e : length (digits (suc k) b n) ≡ suc (length (digits k b (n / b))) = count_more b k n (ltb-false n b y) in
    rw e (digits_high k b n y ∙ ap (λ (t : List ℕ). t ++ (digit_char (n % b) ∷ [])) (all_fixed k b (n / b) h)))

pub whole_fixed : (b n k : ℕ) → 1 ≤ b → k ≡ length (whole b n) → fixed k b n ≡ whole b n
unfolding whole fixed
whole_fixed b n k h e = rw e (sym (all_fixed most_digits b n h))

pub length_fixed : (k b n : ℕ) → length (fixed k b n) ≡ k
unfolding fixed
length_fixed k b n = of_length k b n

-- ---- the loop that writes, from the last digit back

-- the i digits of m that are still to come, written over o, give e written over old
pub record Writing (e old : List ℕ) (b i m : ℕ) (o : List ℕ) : Type 0 where
  pub is : over (fixed i b m) o ≡ over e old
  pub long : length o ≡ length old
  pub low : i ≤ length old

pub writing_more : {e old o : List ℕ} {b i m : ℕ} (j : ℕ) → i ≡ suc j → Writing e old b i m o → Writing e old b j (m / b) (set o j (digit_char (m % b)))
unfolding fixed
writing_more {e} {old} {o} {b} {i} {m} j p w =
    let s : over (fixed (suc j) b m) o ≡ over e old = rw p at w.is in
    let h : j < length o = omega (arith, w.low, w.long) in
    record {
      is = sym (over_last (fixed j b (m / b)) o (digit_char (m % b)) j (length_fixed j b (m / b)) h) ∙ s;
      long = length-set o j (digit_char (m % b)) ∙ w.long;
      low = omega (arith, w.low);
    }

pub writing_all : {e old o : List ℕ} {b i m : ℕ} → i ≤ 0 → Writing e old b i m o → o ≡ over e old
unfolding fixed
writing_all {e} {old} {o} {b} {i} {m} h w =
    let z : i ≡ 0 = omega arith in
    rw z at w.is
