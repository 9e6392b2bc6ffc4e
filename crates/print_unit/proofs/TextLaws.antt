-- The text in pieces is the rules' text: the prefix by the same test of the letters, the full stop before the last digits.
use mathlib.Core.Path.{◌≡◌, ap, refl, sym}
use mathlib.Core.Bool.{Bool, true, false}
use mathlib.Core.List.{List, [], ◌∷◌, ◌++◌, append_assoc}
use Prim.Native.Nat.{ℕ, zero, suc, ◌/◌, ◌^◌, ◌≤◌}
use native.Mathlib.Omega.{arith}
use lib.Dec.{eqb}
use Rattle.laws.specs.Cases.{pick}
use Rattle.rules.specs.Characters.{byte}
use Rattle.rules.specs.Units.{Radix, Base, letter, radix_letter, num, keyed}
use Rattle.rules.specs.Printing.{digits, digits_of, most_digits, num_text, prefixed, unit_text}
use Rattle.digits.specs.Digits.{size_at, whole, fixed}
use Rattle.digits.proofs.LetterLaws.{radix_at_lem, size_high, size_low}
use Rattle.print_unit.specs.Ways.{Way, Fits, Puts}
use Rattle.print_unit.specs.Texts.{prefix_of, part_text, number_text, numeral_text, keyed_text}
use Rattle.print_unit.proofs.ChainLaws.{both_put, fits_first, fits_next}

-- ---- piece by piece

-- with the number before the full stop named
pub part_is : (k b n : ℕ) {m : ℕ} → m ≡ n / b ^ k → part_text k b n ≡ (whole b m ++ (byte "." ∷ [])) ++ fixed k b n
unfolding part_text
part_is k b n e = rw e refl

pub is_whole : (l f v : ℕ) {s : ℕ} → s ≡ size_at l → f ≡ 0 → number_text l f v ≡ whole s v
unfolding number_text whole
is_whole l f v q e = rw (e, q)

pub is_part : (l f v : ℕ) {s : ℕ} → s ≡ size_at l → (f ≡ 0 → ⊥) → number_text l f v ≡ part_text f s v
unfolding number_text whole fixed part_text
is_part l zero v q h = absurd (h refl)
is_part l (suc f) v q h = rw q (sym (append_assoc (digits most_digits (size_at l) (v / size_at l ^ suc f)) (byte "." ∷ []) (digits_of (suc f) (size_at l) v)))

module _ (l f v : ℕ) {s : ℕ} (q : s ≡ size_at l) where
  pub size_from : 2 ≤ s
  size_from = omega (arith, size_low l)

  pub size_to : s ≤ 16
  size_to = omega (arith, size_high l)

-- the pieces of a numeral without fraction
pub whole_text_is : (b l v : ℕ) {s : ℕ} → s ≡ size_at l → numeral_text b l 0 v ≡ prefix_of b l ++ whole s v
unfolding numeral_text
whole_text_is b l v q = ap (λ (t : List ℕ). prefix_of b l ++ t) (is_whole l 0 v q refl)

-- a keyed numeral is a prefix and characters, where the prefix has the letter K
keyed_is : (b : ℕ) (v : List ℕ) {l : ℕ} → l ≡ byte "K" → keyed_text b v ≡ prefix_of b l ++ v
unfolding keyed_text
keyed_is b v k = rw k refl

module _ {w : Way} (b : ℕ) (v : List ℕ) {l at : ℕ} {old : List ℕ} (k : l ≡ byte "K") where
  pub keyed_first : Fits w (keyed_text b v) at old → Fits w (prefix_of b l) at old
  keyed_first h = fits_first (prefix_of b l) v (rw (keyed_is b v k) at h)

  module _ {p : ℕ} {mid : List ℕ} (x : Puts w (prefix_of b l) at old p mid) where
    pub keyed_next : Fits w (keyed_text b v) at old → Fits w v p mid
    keyed_next h = fits_next (prefix_of b l) v (rw (keyed_is b v k) at h) x

    pub keyed_put : {q : ℕ} {new : List ℕ} → Puts w v p mid q new → Puts w (keyed_text b v) at old q new
    keyed_put y = rw (keyed_is b v k) (both_put (prefix_of b l) v x y)

-- ---- the rules' text

prefixed_is : (t : Bool) (l : ℕ) (x : List ℕ) → pick t [] (l ∷ byte "'" ∷ []) ++ x ≡ prefixed t l x
prefixed_is true l x = refl
prefixed_is false l x = refl

pub numeral_text_lem : (b : Base) (r : Radix) (f v : ℕ) → numeral_text (letter b) (radix_letter r) f v ≡ unit_text b (num r f v)
unfolding numeral_text number_text prefix_of
numeral_text_lem b r f v = rw (radix_at_lem r) (prefixed_is (eqb (letter b) (radix_letter r)) (radix_letter r) (num_text r f v))

pub keyed_text_lem : (b : Base) (w : List ℕ) → keyed_text (letter b) w ≡ unit_text b (keyed w)
unfolding keyed_text prefix_of
keyed_text_lem b w = prefixed_is (eqb (letter b) (byte "K")) (byte "K") w
