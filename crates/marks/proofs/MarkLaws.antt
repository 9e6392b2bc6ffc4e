-- A key that was added is marked, and one that was marked stays so: where one of two numbers has a bit, so has their `or`.
use Prim.Native.Nat.{ℕ, zero, suc, ◌/◌, ◌%◌, ◌^◌, ◌<◌}
use mathlib.Core.Path.{◌≡◌, refl, sym, ap, ◌∙◌}
use mathlib.Core.Bool.{true}
use native.Mathlib.Nat.{mod-lt, zero-lt-suc, one-mul, mul-div_cancel}
use native.Mathlib.Omega.{arith}
use borrow.Author.Tests.{eq-eqb, eqb-true}
use lib.Bits.{bit_or, or_comm, or_shr, or_mod}
use lib.Pow.{pow_pos}
use Rattle.laws.specs.Cases.{and_l, and_r}
use Rattle.marks.specs.Marks.{has_bit, has_both, marked, with_bit, added}
use Rattle.marks.specs.declared.Marks.{Marks}

-- ---- one bit

-- the bit k of a number
abbrev bit : ℕ → ℕ → ℕ
bit n k = n / 2 ^ k % 2

or_one : (y : ℕ) → y < 2 → bit_or 1 y ≡ 1
or_one zero h = refl
or_one (suc zero) h = refl
or_one (suc (suc y)) h = absurd (omega arith)

bit_or_lem : (a b k : ℕ) → bit (bit_or a b) k ≡ bit_or (bit a k) (bit b k)
bit_or_lem a b k = ap (λ (x : ℕ). x % 2) (or_shr a b k) ∙ or_mod (a / 2 ^ k) (b / 2 ^ k) 1

bit_own : (k : ℕ) → bit (2 ^ k) k ≡ 1
bit_own k = ap (λ (x : ℕ). x % 2) (ap (λ (x : ℕ). x / 2 ^ k) (sym (one-mul (2 ^ k))) ∙ mul-div_cancel 1 (pow_pos k))

bit_kept : (a b k : ℕ) → bit a k ≡ 1 → bit (bit_or a b) k ≡ 1
bit_kept a b k h = bit_or_lem a b k ∙ ap (λ (x : ℕ). bit_or x (bit b k)) h ∙ or_one (bit b k) (mod-lt (b / 2 ^ k) (zero-lt-suc 1))

bit_added : (n k : ℕ) → has_bit (with_bit n k) k ≡ true
bit_added n k = eq-eqb _ 1 (ap (λ (x : ℕ). bit x (k % 64)) (or_comm n (2 ^ (k % 64))) ∙ bit_kept (2 ^ (k % 64)) n (k % 64) (bit_own (k % 64)))

bit_keeps : (n j k : ℕ) → has_bit n j ≡ true → has_bit (with_bit n k) j ≡ true
bit_keeps n j k h = eq-eqb _ 1 (bit_kept n (2 ^ (k % 64)) (j % 64) (eqb-true (bit n (j % 64)) 1 h))

-- ---- two numbers, and all four

both_added : (a b k : ℕ) → has_both (with_bit a k) (with_bit b (k / 64)) k ≡ true
both_added a b k = rw (bit_added a k, bit_added b (k / 64))

both_keeps : (a b j k : ℕ) → has_both a b j ≡ true → has_both (with_bit a k) (with_bit b (k / 64)) j ≡ true
both_keeps a b j k h =
    rw (bit_keeps a j k (and_l (has_bit a j) (has_bit b (j / 64)) h), bit_keeps b (j / 64) (k / 64) (and_r (has_bit a j) (has_bit b (j / 64)) h))

pub added_marked : (m : Marks) (k : ℕ) → marked (added m k) k ≡ true
unfolding marked added
added_marked m k = rw (both_added m.first m.second k, both_added m.third m.fourth (k / 4096))

pub added_keeps : (m : Marks) (j k : ℕ) → marked m j ≡ true → marked (added m k) j ≡ true
unfolding marked added
added_keeps m j k h =
    let low = has_both m.first m.second j in
    let high = has_both m.third m.fourth (j / 4096) in
    rw (both_keeps m.first m.second j k (and_l low high h), both_keeps m.third m.fourth (j / 4096) (k / 4096) (and_r low high h))
