-- Each way through the judge's tests decides the rules' well-formed unit, whatever the order in which the tests are made.
use mathlib.Core.Path.{◌≡◌, refl, sym, ap, ◌∙◌}
use mathlib.Core.List.{List, [], ◌∷◌}
use mathlib.Core.Bool.{Bool, true, false, not, ◌&&◌, ◌||◌, false≢true}
use mathlib.Core.Option.{Option, none, some}
use Prim.Native.Nat.{ℕ, suc, zero, ◌+◌, ◌<◌, ◌≤◌}
use native.Mathlib.Omega.{arith}
use lib.ListN.{length, get_or, drop, drop_of_length-le}
use lib.Dec.{leb, eqb}
use borrow.Author.Tests.{not-true, le-leb, leb-true, eq-eqb, ne_eqb, eqb-true}
use Rattle.laws.specs.Cases.{by_bool, and_l, and_r, and_false, or_cases}
use Rattle.laws.specs.Ranges.{alike, in_range}
use Rattle.std.specs.List.{list_all}
use Rattle.laws.specs.Lists.{all, next}
use Rattle.rules.specs.Refusals.{most_value, most_fraction, most_word}
use Rattle.rules.specs.Characters.{byte, between, is_letter, is_alnum, is_word_char}
use Rattle.rules.specs.Units.{Radix, r_d, r_o, r_b, Base, plain, keys, Unit, num, keyed, identifier, symbolic, text, is_held_key, run_of, is_digit_of, at_stop, dotted, fraction, numeral, base_of, radix_at, base_at, is_identifier, is_symbolic_name}
use Rattle.rules.specs.Records.{numeral_tag, keyed_tag, identifier_tag, symbolic_tag, string_tag, num_of, num4}
use Rattle.rules.specs.WellFormed.{is_none, wf_unit, ok_fraction, is_decimal}
use Rattle.digits.specs.Digits.{plain_letter}
use Rattle.digits.proofs.LetterLaws.{by_letter_lem, is_plain, no_base}
use Rattle.std.proofs.Common.{Ok, Err}
use Rattle.units.specs.declared.Word.{Word}
use Rattle.units.specs.declared.Fault.{Fault}
use Rattle.units.specs.declared.Fault.TheVariants.{Unreadable, TooBig}
use Rattle.units.specs.Words.{Answer, sized, of_numeral}
use Rattle.units.proofs.AllLaws.{same_all}
use Rattle.units.proofs.WordLaws.{Of, numeral_of}
use Rattle.judge_unit.specs.Units.{ok_at, may_stand, unit_stands, stands_as, numeral_stands}

and_true : (a : Bool) → a && true ≡ a
and_true true = refl
and_true false = refl

-- ---- the turns of `no_double`

module _ (p : Bool) (w : List ℕ) (i : ℕ) where
  pub ok_end : {r : Bool} → r ≡ ok_at p w i → length w ≤ i → true ≡ r
  unfolding ok_at
  ok_end q h = sym (q ∙ rw (drop_of_length-le w h))

  pub ok_word : {t r : Bool} → r ≡ ok_at p w i → i < length w → t ≡ is_word_char (get_or w i 0) → t ≡ true → r ≡ ok_at false w (i + 1)
  unfolding ok_at
  ok_word q h e n = q ∙ rw (next w i h, ← e, n)

  pub ok_plus : {t r : Bool} → r ≡ ok_at p w i → i < length w → t ≡ is_word_char (get_or w i 0) → t ≡ false → get_or w i 0 ≡ byte "+" → p ≡ false → r ≡ ok_at true w (i + 1)
  unfolding ok_at
  ok_plus q h e n k z = q ∙ rw (next w i h, ← e, n, eq-eqb (get_or w i 0) (byte "+") k, z)

  pub ok_two : {t r : Bool} → r ≡ ok_at p w i → i < length w → t ≡ is_word_char (get_or w i 0) → t ≡ false → p ≡ true → false ≡ r
  unfolding ok_at
  ok_two q h e n z = sym (q ∙ rw (next w i h, ← e, n, z, and_false (eqb (get_or w i 0) (byte "+"))))

  pub ok_bad : {t r : Bool} → r ≡ ok_at p w i → i < length w → t ≡ is_word_char (get_or w i 0) → t ≡ false → (get_or w i 0 ≡ byte "+" → ⊥) → false ≡ r
  unfolding ok_at
  ok_bad q h e n k = sym (q ∙ rw (next w i h, ← e, n, ne_eqb (get_or w i 0) (byte "+") k))

-- ---- no numeral

-- the answer is that the word is no numeral
abbrev unread : Answer → Bool
unread (Ok u) = false
unread (Err Unreadable) = true
unread (Err TooBig) = false

sized_unread : (l f v : ℕ) → unread (sized l f v) ≡ false
unfolding sized
sized_unread l f v = by_bool (leb v most_value) (λ y. by_bool (leb f most_fraction) (λ z. rw (y, z)) (λ z. rw (y, z))) (λ y. rw y)

unread_of : (l k : ℕ) (w : List ℕ) (o : Option Unit) → Of l k w o → unread (of_numeral l k o) ≡ is_none o
unfolding of_numeral
unread_of l k w none h = refl
unread_of l k w (some (num r f v)) h = sized_unread l f v
unread_of l k w (some (keyed x)) h = refl
unread_of l k w (some (identifier x)) h = absurd h
unread_of l k w (some (symbolic x)) h = absurd h
unread_of l k w (some (text x)) h = absurd h

none_is : (l : ℕ) (w : List ℕ) {a : Answer} → a ≡ of_numeral l 0 (numeral (base_at l) (drop 0 w)) → unread a ≡ is_none (numeral (base_at l) w)
none_is l w e = ap unread e ∙ unread_of l 0 w (numeral (base_at l) w) (numeral_of l 0 w)

module _ (l : ℕ) (w : List ℕ) {a : Answer} (e : a ≡ of_numeral l 0 (numeral (base_at l) (drop 0 w))) where
  pub unread_yes : {f : Fault} → a ≡ Err f → f ≡ Unreadable → true ≡ is_none (numeral (base_at l) w)
  unread_yes q z = sym (ap unread (q ∙ ap (λ f. Err f) z)) ∙ none_is l w e

  pub unread_big : {f : Fault} → a ≡ Err f → f ≡ TooBig → false ≡ is_none (numeral (base_at l) w)
  unread_big q z = sym (ap unread (q ∙ ap (λ f. Err f) z)) ∙ none_is l w e

  pub unread_word : {u : Word} → a ≡ Ok u → false ≡ is_none (numeral (base_at l) w)
  unread_word q = sym (ap unread q) ∙ none_is l w e

-- ---- an identifier is no numeral of D, O and B: no letter is a digit of theirs, and none is the full stop

letter_from : (c : ℕ) → is_letter c ≡ true → (65 ≤ c) × (c < 123)
letter_from c h =
    or_cases (between 65 90 c) (between 97 122 c) h
    (λ y.
    let lo : 65 ≤ c = leb-true 65 c (and_l (leb 65 c) (leb c 90) y) in
    let hi : c ≤ 90 = leb-true c 90 (and_r (leb 65 c) (leb c 90) y) in
    (lo, omega arith))
    (λ y.
    let lo : 97 ≤ c = leb-true 97 c (and_l (leb 97 c) (leb c 122) y) in
    let hi : c ≤ 122 = leb-true c 122 (and_r (leb 97 c) (leb c 122) y) in
    (omega arith, omega arith))

no_digit_lem : (r : Radix) → alike (λ x. not (is_letter x) || not (is_digit_of r x)) 65 58 ≡ true → (c : ℕ) → is_letter c ≡ true → is_digit_of r c ≡ false
no_digit_lem r t c h =
    let q = letter_from c h in
    not-true (is_digit_of r c) (rw h at (in_range (λ x. not (is_letter x) || not (is_digit_of r x)) 65 58 t c q.0 q.1))

not_dotted : (c : ℕ) (cs : List ℕ) → is_digit_of r_d c ≡ false → eqb c (byte ".") ≡ false → dotted (at_stop (c ∷ cs)) ≡ none
not_dotted c cs d n = rw (n, at_stop) (go (at_stop cs))
  where
    go : (o : Option (List ℕ × List ℕ)) → dotted (elim o [ none ↦ none | some s ↦ some (c ∷ s.0, s.1) ]) ≡ none
    go none = refl
    go (some s) = rw d

no_run : (r : Radix) (c : ℕ) (cs : List ℕ) → is_digit_of r c ≡ false → numeral (plain r) (c ∷ cs) ≡ fraction r (c ∷ cs)
no_run r c cs d = rw (d, numeral)

no_stop : (c : ℕ) → is_letter c ≡ true → eqb c (byte ".") ≡ false
no_stop c h = let q = letter_from c h in ne_eqb c (byte ".") (λ e. omega (arith, q.0))

under_d : (w : List ℕ) → is_identifier w ≡ true → numeral (plain r_d) w ≡ none
under_d [] h = absurd (false≢true h)
under_d (c ∷ cs) h =
    let l : is_letter c ≡ true = and_l (is_letter c) (all is_alnum cs) h in
    let d : is_digit_of r_d c ≡ false = no_digit_lem r_d refl c l in
    no_run r_d c cs d ∙ not_dotted c cs d (no_stop c l)

under_o : (w : List ℕ) → is_identifier w ≡ true → numeral (plain r_o) w ≡ none
under_o [] h = absurd (false≢true h)
under_o (c ∷ cs) h = no_run r_o c cs (no_digit_lem r_o refl c (and_l (is_letter c) (all is_alnum cs) h))

under_b : (w : List ℕ) → is_identifier w ≡ true → numeral (plain r_b) w ≡ none
under_b [] h = absurd (false≢true h)
under_b (c ∷ cs) h = no_run r_b c cs (no_digit_lem r_b refl c (and_l (is_letter c) (all is_alnum cs) h))

pub ident_none : (b : ℕ) (w : List ℕ) → is_identifier w ≡ true → (b ≡ byte "H" → ⊥) → (b ≡ byte "K" → ⊥) → true ≡ is_none (numeral (base_at b) w)
ident_none b w h nh nk =
    by_bool (eqb b (byte "O")) (λ o. rw (ne_eqb b (byte "K") nk, ne_eqb b (byte "H") nh, o, under_o w h))
    (λ o. by_bool (eqb b (byte "B")) (λ y. rw (ne_eqb b (byte "K") nk, ne_eqb b (byte "H") nh, o, y, under_b w h))
    (λ y. rw (ne_eqb b (byte "K") nk, ne_eqb b (byte "H") nh, o, y, under_d w h)))

-- ---- keyed numerals

pub keyed_all : (w : List ℕ) → 1 ≤ length w → length w ≤ most_word → list_all is_held_key w ≡ run_of is_held_key w && leb (length w) most_word
keyed_all [] n h = absurd (omega arith)
keyed_all (c ∷ cs) n h = rw (le-leb (length (c ∷ cs)) most_word h, and_true (all is_held_key (c ∷ cs))) (same_all is_held_key (c ∷ cs))

-- ---- names: the rules' chain of tests

module _ (b : ℕ) (w : List ℕ) where
  pub symbol_yes : {i s n r : Bool} → length w ≤ most_word → i ≡ is_identifier w → i ≡ false → s ≡ is_symbolic_name w → s ≡ true
      → n ≡ is_none (numeral (base_at b) w) → n ≡ true → r ≡ ok_at false w 0 → r ≡ wf_unit (base_at b) (symbolic w)
  unfolding ok_at
  symbol_yes h e y f z g x q = rw (le-leb (length w) most_word h, sym e ∙ y, sym f ∙ z, sym g ∙ x) q

-- ---- numerals

no_plain : (l f v : ℕ) → plain_letter l ≡ false → num_of (base_of l) f v ≡ none
no_plain l f v y =
    by_bool (eqb l (byte "K"))
    (λ k. ap (λ (c : ℕ). num_of (base_of c) f v) (eqb-true l (byte "K") k))
    (λ k. rw (no_base l y k))

under_keys : (o : Option Base) (f v : ℕ) → false ≡ may_stand keys (num_of o f v)
under_keys none f v = refl
under_keys (some (plain r)) f v = refl
under_keys (some keys) f v = refl

-- a numeral's content has six bytes, and its value is a number of four
pub numeral_is : (b : ℕ) (w : List ℕ) → length w ≡ 6 → num4 w 2 ≤ most_value → numeral_stands b (get_or w 0 0) (get_or w 1 0) ≡ unit_stands (base_at b) numeral_tag w
unfolding numeral_stands unit_stands
numeral_is b w h m =
    let l : ℕ = get_or w 0 0 in
    let f : ℕ = get_or w 1 0 in
    by_bool (eqb b (byte "K")) (λ k. rw (eq-eqb (length w) 6 h, k) (under_keys (base_of l) f (num4 w 2)))
    (λ k. by_bool (plain_letter l)
    (λ y. let p = is_plain l y in rw (eq-eqb (length w) 6 h, k, y, p.base, le-leb (num4 w 2) most_value m) (sym (and_true (ok_fraction (radix_at l) f))))
    (λ y. rw (eq-eqb (length w) 6 h, k, y, no_plain l f (num4 w 2) y)))

-- ---- a fraction

fraction_some : (r : Radix) (f : ℕ) → (f ≡ 0 → ⊥) → ok_fraction r f ≡ is_decimal r && leb f most_fraction
fraction_some r zero h = absurd (h refl)
fraction_some r (suc f) h = refl

pub fraction_not : (l f : ℕ) → (f ≡ 0 → ⊥) → (l ≡ byte "D" → ⊥) → plain_letter l ≡ true → false ≡ ok_fraction (radix_at l) f
unfolding plain_letter
fraction_not l f h n p =
    rw (fraction_some (radix_at l) f h)
    (by_letter_lem (λ l. (l ≡ byte "D" → ⊥) → plain_letter l ≡ true → false ≡ is_decimal (radix_at l) && leb f most_fraction)
    (λ n y. absurd (n refl)) (λ n y. refl) (λ n y. refl) (λ n y. refl) l (λ d x o b n y. absurd (false≢true (rw (d, x, o, b) at y))) n p)

-- ---- the other kinds

pub other_is : (b t : ℕ) (w : List ℕ) → (t ≡ numeral_tag → ⊥) → stands_as t b w ≡ unit_stands (base_at b) t w
unfolding stands_as unit_stands
other_is b t w h =
    by_bool (eqb t keyed_tag) (λ y. rw (ne_eqb t numeral_tag h, y))
    (λ y1. by_bool (eqb t identifier_tag) (λ y. rw (ne_eqb t numeral_tag h, y1, y))
    (λ y2. by_bool (eqb t symbolic_tag) (λ y. rw (ne_eqb t numeral_tag h, y1, y2, y))
    (λ y3. by_bool (eqb t string_tag) (λ y. rw (ne_eqb t numeral_tag h, y1, y2, y3, y)) (λ y. rw (ne_eqb t numeral_tag h, y1, y2, y3, y)))))
