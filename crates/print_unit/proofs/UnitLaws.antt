-- The field tells what the unit is: the text of the bytes is the rules' text of the unit, and a decimal numeral below ten is its digit.
use Prim.Native.Nat.{◌%◌, ◌*◌, ◌+◌, ◌/◌, ◌<◌, ◌^◌, ◌≤◌, suc, zero, ℕ}
use borrow.Author.Tests.{eq-eqb, leb-true, lt-ltb, ne_eqb}
use lib.ListN.{get_or, length}
use mathlib.Core.Bool.{true}
use mathlib.Core.List.{List, [], ◌∷◌}
use mathlib.Core.Path.{◌∙◌, ◌≡◌, ap, refl, subst}
use native.Mathlib.Omega.{arith}
use Rattle.laws.specs.Cases.{and_l, and_r}
use Rattle.laws.specs.Over.{part, part_from}
use Rattle.rules.specs.Characters.{byte}
use Rattle.rules.specs.Printing.{digit_char, unit_text}
use Rattle.rules.specs.Records.{field, field_bytes, identifier_tag, keyed_tag, num4, numeral_tag, string_tag, symbolic_tag, unit_field}
use Rattle.rules.specs.Refusals.{most_fraction, most_string, most_word}
use Rattle.rules.specs.Units.{Base, Radix, Unit, identifier, keyed, letter, num, symbolic, text}
use Rattle.rules.specs.WellFormed.{ok_fraction, wf_unit}
use Rattle.digits.proofs.DigitLaws.{whole_one}
use Rattle.record_walk.proofs.FrontLaws.{Small}
use Rattle.print_unit.proofs.StringLaws.{string_text_lem}
use Rattle.print_unit.proofs.TextLaws.{is_whole, keyed_text_lem, numeral_text_lem}
use Rattle.print_unit.specs.Texts.{numeral_text, prefix_of}
use Rattle.print_unit.specs.Ways.{Way, Fits, Puts}
use Rattle.print_unit.specs.Units.{IsUnit, PutUnit, Sized, UnitFits, field_text, word_text}

pub four : (v : ℕ) → v / 2 ^ 24 * 2 ^ 24 + v / 2 ^ 16 % 256 * 2 ^ 16 + v / 256 % 256 * 256 + v % 256 ≡ v
four v = omega arith

-- ---- the text of a field

field_text_lem : (b : Base) (u : Unit) → field_text (letter b) (field_bytes (unit_field u)) ≡ unit_text b u
unfolding field_text word_text
field_text_lem b (num r f v) = rw (four v) (numeral_text_lem b r f v)
field_text_lem b (keyed w) = keyed_text_lem b w
field_text_lem b (identifier w) = refl
field_text_lem b (symbolic w) = refl
field_text_lem b (text w) = string_text_lem b w

pub text_is : {p : List ℕ} {base : ℕ} {b : Base} {u : Unit} → IsUnit p base b u → field_text base p ≡ unit_text b u
text_is {b = b} {u = u} h = rw (h.under, h.is) (field_text_lem b u)

-- ---- its sizes

few_digits : (r : Radix) (f : ℕ) → ok_fraction r f ≡ true → f ≤ most_fraction
few_digits r zero h = omega arith
few_digits r (suc f) h = search (and_r, leb-true)

sized_word : (t : ℕ) (w : List ℕ) → (t ≡ numeral_tag → ⊥) → length w ≤ most_string → Sized (field_bytes (field t w))
sized_word t w n h = record { least = omega arith; most = omega arith; numeral = λ e. absurd (n e); few = λ e. absurd (n e) }

pub sized_unit : (b : Base) (u : Unit) → wf_unit b u ≡ true → Sized (field_bytes (unit_field u))
sized_unit b (num r f v) h = record { least = omega arith; most = omega arith; numeral = λ e. refl; few = λ e. few_digits r f (search (and_l, and_r)) }
sized_unit b (keyed w) h = let l : length w ≤ most_word = search (and_r, leb-true) in sized_word keyed_tag w (λ e. omega arith) (omega arith)
sized_unit b (identifier w) h = let l : length w ≤ most_word = search (and_r, leb-true) in sized_word identifier_tag w (λ e. omega arith) (omega arith)
sized_unit b (symbolic w) h = let l : length w ≤ most_word = search (and_l, and_r, leb-true) in sized_word symbolic_tag w (λ e. omega arith) (omega arith)
sized_unit b (text w) h = let l : length w ≤ most_string = search (and_l, leb-true) in sized_word string_tag w (λ e. omega arith) (omega arith)

pub sized_is : {p : List ℕ} {base : ℕ} {b : Base} {u : Unit} → IsUnit p base b u → Sized p
sized_is {b = b} {u = u} h = rw h.is (sized_unit b u h.good)

-- .. under a base that is known by its letter
module _ {w : Way} {base base' at : ℕ} {old : List ℕ} (e : base ≡ base') where
  pub any_fits : {p : List ℕ} → UnitFits w p base at old → Sized p × Fits w (field_text base' p) at old
  any_fits f = (sized_is f.has, rw (← e, text_is f.has) f.fits)

  -- what is put in the code's words holds in the rules' words
  pub put_is : (p : List ℕ) {r : ℕ} {new : List ℕ} → Puts w (field_text base' p) at old r new → PutUnit w p base at old r new
  put_is p {r} {new} q b u h = subst (λ (t : List ℕ). Puts w t at old r new) (rw e at (text_is h)) q

-- ---- by the tag

module _ (b : ℕ) (p : List ℕ) where
  pub as_numeral : get_or p 0 0 ≡ numeral_tag → {v : ℕ} → v ≡ num4 p 5 → field_text b p ≡ numeral_text b (get_or p 3 0) (get_or p 4 0) v
  unfolding field_text
  as_numeral e q = rw (eq-eqb (get_or p 0 0) numeral_tag e, q)

  pub as_word : (get_or p 0 0 ≡ numeral_tag → ⊥) → field_text b p ≡ word_text b (get_or p 0 0) (part p 3)
  unfolding field_text
  as_word n = rw (ne_eqb (get_or p 0 0) numeral_tag n, part_from p 3)

-- ---- one decimal digit under D

low_digit : (v : ℕ) → v < 10 → digit_char v ≡ 48 + v
low_digit v h = rw (lt-ltb v 10 h)

pub one_digit_lem : (p : List ℕ) {base v n : ℕ} → Small p → base ≡ byte "D" → get_or p 0 0 ≡ numeral_tag → n ≡ num4 p 2 → n ≡ 105119744 → v ≡ num4 p 5 → v < 10
    → field_text base p ≡ (48 + v) ∷ []
unfolding numeral_text prefix_of
one_digit_lem p {v = v} s d e m q k h =
    let size : get_or p 2 0 ≡ 6 = omega (arith, s 2, s 3, s 4, s 5) in
    let l : get_or p 3 0 ≡ 68 = omega (arith, s 2, s 3, s 4, s 5) in
    let f : get_or p 4 0 ≡ 0 = omega (arith, s 2, s 3, s 4, s 5) in
    rw d (as_numeral (byte "D") p e k ∙ rw (l, f) (is_whole (byte "D") 0 v refl refl ∙ whole_one 10 v h ∙ ap (λ (n : ℕ). n ∷ []) (low_digit v h)))

-- .. so there is room for it, and it is what is put
module _ {w : Way} {p : List ℕ} {base at v n : ℕ} {old : List ℕ} (s : Small p) (d : base ≡ byte "D") (e : get_or p 0 0 ≡ numeral_tag) (m : n ≡ num4 p 2) (q : n ≡ 105119744)
    (k : v ≡ num4 p 5) (h : v < 10) where
  pub digit_room : UnitFits w p base at old → Fits w ((48 + v) ∷ []) at old
  digit_room f = rw (one_digit_lem p s d e m q k h) at (any_fits refl f).1

  pub digit_put : {r : ℕ} {new : List ℕ} → Puts w ((48 + v) ∷ []) at old r new → PutUnit w p base at old r new
  digit_put x = put_is refl p (rw (one_digit_lem p s d e m q k h) x)
