-- What `read_word` answers is what the rules read: a word whose second character is no mark is a numeral or a name, since a mark elsewhere
-- leaves it in no class; the letter before a mark is a base's, or nothing is read behind it.
use mathlib.Core.Path.{◌≡◌, refl, sym, ap, ◌∙◌, subst}
use mathlib.Core.List.{List, [], ◌∷◌, map}
use mathlib.Core.Bool.{Bool, true, false, not, ◌&&◌, ◌||◌, false≢true}
use mathlib.Core.Option.{Option, none, some}
use Prim.Native.Nat.{ℕ, ◌-◌, ◌<◌, ◌≤◌}
use native.Mathlib.Omega.{arith}
use lib.ListN.{length, get_or, take, drop, drop_of_length-le}
use lib.Dec.{leb, eqb}
use borrow.Author.Tests.{eq-eqb, eqb-true}
use Rattle.laws.specs.Cases.{Always, by_bool, pick, or_true}
use Rattle.laws.specs.Lists.{all, any, is_nil, all_at, next}
use Rattle.rules.specs.Refusals.{ok, bad, unreadable, most_value, most_fraction}
use Rattle.rules.specs.Characters.{byte, capital, is_letter, is_digit, is_alnum, is_symbol_char}
use Rattle.rules.specs.Units.{Radix, r_d, r_h, r_o, r_b, Base, plain, keys, letter, Unit, num, keyed, identifier, symbolic, text, is_digit_of, is_key, run_of, at_stop, dotted, fraction, numeral, base_of, limited, or_else, is_identifier, is_symbolic_name, named, prefix_numeral, with_mark, read_word, radix_at, base_at}
use Rattle.rules.proofs.UnitBack.{no_mark, ident_alnum}
use Rattle.digits.specs.Digits.{plain_letter}
use Rattle.digits.proofs.LetterLaws.{base_at_lem, is_plain, no_base}
use Rattle.digits.proofs.RunLaws.{broken_run}
use Rattle.std.proofs.Common.{Ok, Err}
use Rattle.units.specs.declared.Word.TheVariants.{Keyed}
use Rattle.units.specs.declared.Fault.TheVariants.{Unreadable}
use Rattle.std.specs.List.{list_all}
use Rattle.units.proofs.AllLaws.{same_all, same_behind}
use Rattle.units.proofs.NumeralLaws.{dotted_second}
use Rattle.units.specs.Words.{sized, of_numeral, name_unit, or_name, may_stand, prefix_unit, unit_under, read_as}

-- ---- the ways out of `numeral_unit` under K

module _ (l : ℕ) (w : List ℕ) (i : ℕ) (k : l ≡ byte "K") where
  pub keys_yes : {t : Bool} → i < length w → t ≡ list_all is_key (take (length w - i) (drop i w)) → t ≡ true → Ok (Keyed i) ≡ of_numeral l i (numeral (base_at l) (drop i w))
  unfolding of_numeral
  keys_yes h e y =
      let z : all is_key (drop i w) ≡ true = sym (same_behind is_key i w) ∙ sym e ∙ y in
      let n : is_nil (drop i w) ≡ false = rw (next w i h) in
      rw (eq-eqb l (byte "K") k, z, n)

  pub keys_no : {t : Bool} → t ≡ list_all is_key (take (length w - i) (drop i w)) → t ≡ false → Err Unreadable ≡ of_numeral l i (numeral (base_at l) (drop i w))
  unfolding of_numeral
  keys_no e y = rw (eq-eqb l (byte "K") k, broken_run is_key (drop i w) (sym (same_behind is_key i w) ∙ sym e ∙ y))

  pub keys_none : length w ≤ i → Err Unreadable ≡ of_numeral l i (numeral (base_at l) (drop i w))
  unfolding of_numeral
  keys_none h = rw (eq-eqb l (byte "K") k, drop_of_length-le w h)

-- ---- the ways out of `is_identifier` and `is_symbolic`

pub ident_some : (w : List ℕ) {c : ℕ} {cs : List ℕ} {t r : Bool} → w ≡ c ∷ cs → t ≡ is_letter c → t ≡ true → r ≡ list_all is_alnum cs → r ≡ is_identifier w
ident_some w {c} {cs} q e y a = rw q (a ∙ same_all is_alnum cs ∙ rw (sym e ∙ y))

any_not : (w : List ℕ) → any (λ c. not (is_digit c)) w ≡ not (all is_digit w)
any_not [] = refl
any_not (c ∷ cs) = by_bool (is_digit c) (λ y. rw y (any_not cs)) (λ y. rw y)

pub symbol_yes : (w : List ℕ) {s t : Bool} → s ≡ list_all is_symbol_char w → s ≡ true → t ≡ all_at is_digit w 0 → not t ≡ is_symbolic_name w
unfolding all_at
symbol_yes w d x e =
    let q : all is_symbol_char w ≡ true = sym (same_all is_symbol_char w) ∙ sym d ∙ x in
    rw (any_not w, q, e)

-- ---- a word with a prefix has two characters

pub long : (w : List ℕ) → eqb (get_or w 1 0) (byte "'") ≡ true → 2 ≤ length w
long [] h = absurd (false≢true h)
long (c ∷ []) h = absurd (false≢true h)
long (c ∷ d ∷ cs) h = omega arith

-- ---- a word with a mark that is no prefix is none of the kinds

-- whatever has a mark is not all of a class that has none
not_all : (f : ℕ → Bool) → f (byte "'") ≡ false → (w : List ℕ) → any (λ c. eqb c (byte "'")) w ≡ true → all f w ≡ false
not_all f z w h = by_bool (all f w) (λ y. absurd (false≢true (sym (no_mark f z w y) ∙ h))) (λ y. y)

run_mark : (f : ℕ → Bool) → f (byte "'") ≡ false → (w : List ℕ) → any (λ c. eqb c (byte "'")) w ≡ true → run_of f w ≡ false
run_mark f z w h = broken_run f w (not_all f z w h)

digit_mark : (r : Radix) → is_digit_of r (byte "'") ≡ false
digit_mark r_d = refl
digit_mark r_h = refl
digit_mark r_o = refl
digit_mark r_b = refl

-- the mark stands before the full stop or behind it
abbrev Marked : Option (List ℕ × List ℕ) → Type 0
Marked none = Always
Marked (some s) = any (λ c. eqb c (byte "'")) s.0 || any (λ c. eqb c (byte "'")) s.1 ≡ true

stop_mark : (w : List ℕ) → any (λ c. eqb c (byte "'")) w ≡ true → Marked (at_stop w)
stop_mark [] h = tt
stop_mark (c ∷ cs) h =
    by_bool (eqb c (byte "."))
    (λ y. rw (y, at_stop) (rw (eqb-true c (byte ".") y) at h))
    (λ y. by_bool (eqb c (byte "'")) (λ z. here y z (at_stop cs) refl) (λ z. more y z (at_stop cs) refl (stop_mark cs (rw z at h))))
  where
    here : eqb c (byte ".") ≡ false → eqb c (byte "'") ≡ true → (o : Option (List ℕ × List ℕ)) → at_stop cs ≡ o → Marked (at_stop (c ∷ cs))
    here y z none q = rw (y, at_stop) (rw q tt)
    here y z (some s) q = rw (y, at_stop) (rw (q, z))

    more : eqb c (byte ".") ≡ false → eqb c (byte "'") ≡ false → (o : Option (List ℕ × List ℕ)) → at_stop cs ≡ o → Marked o → Marked (at_stop (c ∷ cs))
    more y z none q b = rw (y, at_stop) (rw q tt)
    more y z (some s) q b = rw (y, at_stop) (rw (q, z) b)

dotted_mark : (o : Option (List ℕ × List ℕ)) → Marked o → dotted o ≡ none
dotted_mark none b = refl
dotted_mark (some s) b =
    by_bool (any (λ c. eqb c (byte "'")) s.0)
    (λ y. rw (run_mark (is_digit_of r_d) refl s.0 y))
    (λ y. dotted_second s.0 s.1 (run_mark (is_digit_of r_d) refl s.1 (rw y at b)))

numeral_mark : (b : Base) (w : List ℕ) → any (λ c. eqb c (byte "'")) w ≡ true → numeral b w ≡ none
numeral_mark keys w h = rw (run_mark is_key refl w h)
numeral_mark (plain r) w h = rw (run_mark (is_digit_of r) (digit_mark r) w h, numeral) (part r)
  where
    part : (r : Radix) → fraction r w ≡ none
    part r_d = dotted_mark (at_stop w) (stop_mark w h)
    part r_h = refl
    part r_o = refl
    part r_b = refl

ident_mark : (w : List ℕ) → any (λ c. eqb c (byte "'")) w ≡ true → is_identifier w ≡ false
ident_mark w h = by_bool (is_identifier w) (λ y. absurd (false≢true (sym (not_all is_alnum refl w h) ∙ ident_alnum w y))) (λ y. y)

symbol_mark : (w : List ℕ) → any (λ c. eqb c (byte "'")) w ≡ true → is_symbolic_name w ≡ false
symbol_mark w h = rw (not_all is_symbol_char refl w h)

-- ---- the answer is the rules'

sized_is : (p : ℕ) (w : List ℕ) (l : ℕ) (r : Radix) (f v : ℕ) → radix_at l ≡ r → read_as p w (sized l f v) ≡ limited p (num r f v)
unfolding sized read_as
sized_is p w l r f v e =
    by_bool (leb v most_value)
    (λ y. by_bool (leb f most_fraction) (λ z. rw (y, z, e)) (λ z. rw (y, z)))
    (λ y. rw y)

-- a numeral of the base of the letter, and its characters
abbrev pub Of : ℕ → ℕ → List ℕ → Option Unit → Type 0
Of l k w none = Always
Of l k w (some (num r f v)) = radix_at l ≡ r
Of l k w (some (keyed x)) = map capital (drop k w) ≡ x
Of l k w (some (identifier x)) = ⊥
Of l k w (some (symbolic x)) = ⊥
Of l k w (some (text x)) = ⊥

dotted_of : (l k : ℕ) (w : List ℕ) → radix_at l ≡ r_d → (o : Option (List ℕ × List ℕ)) → Of l k w (dotted o)
dotted_of l k w e none = tt
dotted_of l k w e (some s) =
    by_bool (run_of (is_digit_of r_d) s.0 && run_of (is_digit_of r_d) s.1) (λ y. rw y e) (λ y. rw y tt)

plain_of : (l k : ℕ) (w : List ℕ) (r : Radix) → radix_at l ≡ r → Of l k w (numeral (plain r) (drop k w))
plain_of l k w r e =
    by_bool (run_of (is_digit_of r) (drop k w)) (λ y. rw (y, numeral) e) (λ y. rw (y, numeral) (part r e))
  where
    part : (r : Radix) → radix_at l ≡ r → Of l k w (fraction r (drop k w))
    part r_d e = dotted_of l k w e (at_stop (drop k w))
    part r_h e = tt
    part r_o e = tt
    part r_b e = tt

pub numeral_of : (l k : ℕ) (w : List ℕ) → Of l k w (numeral (base_at l) (drop k w))
numeral_of l k w =
    by_bool (eqb l (byte "K"))
    (λ y. rw y (by_bool (run_of is_key (drop k w)) (λ z. rw z refl) (λ z. rw z tt)))
    (λ y. rw y (plain_of l k w (radix_at l) refl))

pub sized_name : (w : List ℕ) (l f v : ℕ) → or_name w (sized l f v) ≡ sized l f v
unfolding or_name sized
sized_name w l f v =
    by_bool (leb v most_value)
    (λ y. by_bool (leb f most_fraction) (λ z. rw (y, z)) (λ z. rw (y, z)))
    (λ y. rw y)

name_is : (p : ℕ) (w : List ℕ) → read_as p w (name_unit w) ≡ named p w
unfolding read_as name_unit
name_is p w =
    by_bool (is_identifier w) (λ y. rw y) (λ y. by_bool (is_symbolic_name w) (λ z. rw (y, z)) (λ z. rw (y, z)))

bare_is : (p : ℕ) (w : List ℕ) (l : ℕ) (o : Option Unit) → Of l 0 w o → read_as p w (or_name w (of_numeral l 0 o)) ≡ or_else p o (named p w)
unfolding of_numeral or_name read_as
bare_is p w l none h = name_is p w
bare_is p w l (some (num r f v)) h = ap (read_as p w) (sized_name w l f v) ∙ sized_is p w l r f v h
bare_is p w l (some (keyed x)) h = ap (λ (y : List ℕ). ok (keyed y)) h
bare_is p w l (some (identifier x)) h = absurd h
bare_is p w l (some (symbolic x)) h = absurd h
bare_is p w l (some (text x)) h = absurd h

prefix_is : (p : ℕ) (w : List ℕ) (l : ℕ) (o : Option Unit) → Of l 2 w o → read_as p w (of_numeral l 2 o) ≡ or_else p o (bad unreadable p)
unfolding of_numeral read_as
prefix_is p w l none h = refl
prefix_is p w l (some (num r f v)) h = sized_is p w l r f v h
prefix_is p w l (some (keyed x)) h = ap (λ (y : List ℕ). ok (keyed y)) h
prefix_is p w l (some (identifier x)) h = absurd h
prefix_is p w l (some (symbolic x)) h = absurd h
prefix_is p w l (some (text x)) h = absurd h

-- ---- the letter of a prefix

only_keys : Base → Bool
only_keys (plain r) = false
only_keys keys = true

only_keys_lem : (b : Base) → eqb (letter b) (byte "K") ≡ only_keys b
unfolding only_keys
only_keys_lem (plain r_d) = refl
only_keys_lem (plain r_h) = refl
only_keys_lem (plain r_o) = refl
only_keys_lem (plain r_b) = refl
only_keys_lem keys = refl

-- whether a prefix may stand, and what is read behind it
abbrev Letter : Base → ℕ → Type 0
Letter b c = (x : List ℕ) → prefix_numeral b (base_of c) x ≡ pick (may_stand (letter b) c) (numeral (base_at c) x) none

-- the letter of a base with values
letter_plain : (b : Base) (c : ℕ) → plain_letter c ≡ true → Letter b c
unfolding may_stand only_keys
letter_plain (plain r) c y x =
    let p = is_plain c y in
    rw (p.base, p.other, only_keys_lem (plain r), y)
letter_plain keys c y x =
    let p = is_plain c y in
    rw (p.base, p.other)

letter_keys : (b : Base) → Letter b (byte "K")
unfolding may_stand
letter_keys (plain r) x = refl
letter_keys keys x = refl

-- no letter of a base
letter_none : (b : Base) (c : ℕ) → plain_letter c ≡ false → eqb c (byte "K") ≡ false → Letter b c
unfolding may_stand only_keys
letter_none b c y k x = rw (no_base c y k, k, y, only_keys_lem b) (sym (pick_none (only_keys b)))
  where
    pick_none : (t : Bool) → pick (pick t false false) (numeral (plain (radix_at c)) x) none ≡ none
    pick_none true = refl
    pick_none false = refl

letter_is : (b : Base) (c : ℕ) → Letter b c
letter_is b c =
    by_bool (plain_letter c) (letter_plain b c)
    (λ y. by_bool (eqb c (byte "K")) (λ k. subst (Letter b) (sym (eqb-true c (byte "K") k)) (letter_keys b)) (letter_none b c y))

-- ---- the theorem: what `read_word` answers is what the rules read

with_prefix : (b : Base) (p : ℕ) (w : List ℕ) → eqb (get_or w 1 0) (byte "'") ≡ true → read_as p w (prefix_unit (letter b) w) ≡ read_word b p w
unfolding prefix_unit read_as
with_prefix b p [] h = absurd (false≢true h)
with_prefix b p (c ∷ []) h = absurd (false≢true h)
with_prefix b p (c ∷ m ∷ x) h =
    let l : ℕ = capital c in
    let marked : any (λ c. eqb c (byte "'")) (c ∷ m ∷ x) ≡ true = rw h (or_true (eqb c (byte "'"))) in
    let read : with_mark b (c ∷ m ∷ x) ≡ pick (may_stand (letter b) l) (numeral (base_at l) x) none = rw (h, with_mark) (letter_is b l x) in
    by_bool (may_stand (letter b) l)
    (λ y. rw (marked, read_word) (rw (read, y) (prefix_is p (c ∷ m ∷ x) l (numeral (base_at l) x) (numeral_of l 2 (c ∷ m ∷ x)))))
    (λ y. rw (marked, read_word) (rw (read, y) refl))

no_prefix : (b : Base) (w : List ℕ) → eqb (get_or w 1 0) (byte "'") ≡ false → with_mark b w ≡ none
no_prefix b [] h = refl
no_prefix b (c ∷ []) h = refl
no_prefix b (c ∷ m ∷ x) h = rw (h, with_mark)

pub unit_is : (b : Base) (p : ℕ) (w : List ℕ) → read_as p w (unit_under (letter b) w) ≡ read_word b p w
unfolding unit_under
unit_is b p w =
    by_bool (eqb (get_or w 1 0) (byte "'"))
    (λ y. rw y (with_prefix b p w y))
    (λ y.
    by_bool (any (λ c. eqb c (byte "'")) w)
    (λ z. rw (y, base_at_lem b, numeral_mark b w z) (rw (z, read_word) (rw (no_prefix b w y) (marked p w (letter b) z))))
    (λ z. rw (y, base_at_lem b) (rw (z, read_word) (bare_is p w (letter b) (numeral b w) (rw (base_at_lem b) at (numeral_of (letter b) 0 w))))))
  where
    marked : (p : ℕ) (w : List ℕ) (l : ℕ) → any (λ c. eqb c (byte "'")) w ≡ true → read_as p w (or_name w (of_numeral l 0 none)) ≡ bad unreadable p
    marked p w l z = bare_is p w l none tt ∙ rw (ident_mark w z, symbol_mark w z)
