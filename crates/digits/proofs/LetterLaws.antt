-- A byte is D, H, O, B or none of them: what computes at each of the four holds at every letter of a base that has values.
use mathlib.Core.Path.{◌≡◌, refl, sym, subst}
use mathlib.Core.Bool.{true, false, false≢true}
use mathlib.Core.Option.{none, some}
use Prim.Native.Nat.{ℕ, ◌≤◌}
use lib.Dec.{eqb}
use borrow.Author.Tests.{eqb-true}
use Rattle.laws.specs.Cases.{by_bool}
use Rattle.rules.specs.Characters.{byte}
use Rattle.rules.specs.Units.{Radix, r_d, r_h, r_o, r_b, Base, plain, keys, letter, radix_letter, base_of, radix_at, base_at}
use Rattle.rules.proofs.UnitBack.{size_least, size_most}
use Rattle.digits.specs.Digits.{plain_letter, size_at}

-- ---- the base of a base's own letter

pub radix_at_lem : (r : Radix) → radix_at (radix_letter r) ≡ r
radix_at_lem r_d = refl
radix_at_lem r_h = refl
radix_at_lem r_o = refl
radix_at_lem r_b = refl

pub base_at_lem : (b : Base) → base_at (letter b) ≡ b
base_at_lem (plain r_d) = refl
base_at_lem (plain r_h) = refl
base_at_lem (plain r_o) = refl
base_at_lem (plain r_b) = refl
base_at_lem keys = refl

-- ---- how many digits the base of a letter has

pub size_low : (l : ℕ) → 2 ≤ size_at l
size_low l = size_least (radix_at l)

pub size_high : (l : ℕ) → size_at l ≤ 16
size_high l = size_most (radix_at l)

-- ---- a byte that is a letter of a base with values, and one that is none

pub by_letter_lem : (P : ℕ → Type 0) → P (byte "D") → P (byte "H") → P (byte "O") → P (byte "B") → (l : ℕ)
    → (eqb l (byte "D") ≡ false → eqb l (byte "H") ≡ false → eqb l (byte "O") ≡ false → eqb l (byte "B") ≡ false → P l) → P l
by_letter_lem P d h o b l n =
    by_bool (eqb l (byte "D")) (λ y. subst P (sym (eqb-true l (byte "D") y)) d)
    (λ y1. by_bool (eqb l (byte "H")) (λ y. subst P (sym (eqb-true l (byte "H") y)) h)
    (λ y2. by_bool (eqb l (byte "O")) (λ y. subst P (sym (eqb-true l (byte "O") y)) o)
    (λ y3. by_bool (eqb l (byte "B")) (λ y. subst P (sym (eqb-true l (byte "B") y)) b) (n y1 y2 y3))))

pub record IsPlain (l : ℕ) : Type 0 where
  pub base : base_of l ≡ some (plain (radix_at l))
  pub own : radix_letter (radix_at l) ≡ l
  pub other : eqb l (byte "K") ≡ false

pub is_plain : (l : ℕ) → plain_letter l ≡ true → IsPlain l
unfolding plain_letter
is_plain l =
    by_letter_lem (λ l. plain_letter l ≡ true → IsPlain l)
    (λ y. record { base = refl; own = refl; other = refl })
    (λ y. record { base = refl; own = refl; other = refl })
    (λ y. record { base = refl; own = refl; other = refl })
    (λ y. record { base = refl; own = refl; other = refl })
    l (λ d h o b y. absurd (false≢true (rw (d, h, o, b) at y)))

pub no_base : (l : ℕ) → plain_letter l ≡ false → eqb l (byte "K") ≡ false → base_of l ≡ none
unfolding plain_letter
no_base l =
    by_letter_lem (λ l. plain_letter l ≡ false → eqb l (byte "K") ≡ false → base_of l ≡ none)
    (λ y k. absurd (false≢true (sym y)))
    (λ y k. absurd (false≢true (sym y)))
    (λ y k. absurd (false≢true (sym y)))
    (λ y k. absurd (false≢true (sym y)))
    l (λ d h o b y k. rw (d, h, o, b, k))
