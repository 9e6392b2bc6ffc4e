-- An element from the front: its field is the walker's, its units are those that stand behind it, and the rules make the element of both.
use mathlib.Core.Path.{◌≡◌, refl, sym, ap, ◌∙◌, subst}
use mathlib.Core.Bool.{true, false, ◌&&◌}
use mathlib.Core.List.{List, [], ◌++◌}
use mathlib.Core.Option.{none, some}
use Prim.Native.Nat.{ℕ, ◌+◌, ◌-◌, ◌/◌, ◌≤◌, ◌<◌}
use native.Mathlib.Nat.{add-zero}
use native.Mathlib.Omega.{arith}
use borrow.Author.Tests.{eqb-true, ne_eqb}
use lib.Dec.{leb, eqb}
use lib.ListN.{length, get_or, drop, length-drop}
use lib.Seq.{get_or-drop}
use Rattle.laws.specs.Cases.{Always, pick_if, by_bool, or_cases}
use Rattle.rules.specs.Units.{Radix, Base, Unit, num, keyed, identifier, symbolic, text}
use Rattle.rules.specs.Commands.{single, range}
use Rattle.rules.specs.Records.{single_tag, range_tag, numeral_tag, is_element, bytes_of, ends, num4, range_of, element_of}
use Rattle.rules.specs.WellFormed.{wf_unit}
use Rattle.rules.proofs.DecodeEncode.{four, value_small, last_split_lem}
use Rattle.std.specs.Prelude.{Option as Maybe, Some, None}
use Rattle.std.proofs.lemmas.Option.{same_Some}
use Rattle.record_walk.specs.declared.Field.{Field}
use Rattle.record_walk.specs.Fields.{fits, field_at}
use Rattle.record_walk.specs.Fronts.{only, made, head_tag}
use Rattle.record_walk.specs.Runs.{bytes_in}
use Rattle.record_walk.proofs.FrontLaws.{Small, small_drop}
use Rattle.record_walk.proofs.RunLaws.{number_in}
use Rattle.record_walk.proofs.WalkLaws.{IsField, nothing_there, tag_there, tag_inside}
use Rattle.judge_unit.specs.Units.{unit}
use Rattle.judge_unit.proofs.UnitBytes.{unit_fields, unit_is, unit_tag}
use Rattle.judge_value.specs.Elements.{in_order, element, whole_in, lower_at, more_of, terms_of}
use Rattle.judge_value.specs.Judging.{UnitsAre, IsUnits, ElementIs}

-- ---- the lower end, from the last unit's bytes

not_whole : {C : Type 0} {v : ℕ} → ◌≡◌ {A = Maybe ℕ} None (Some v) → C
not_whole e = let z : ◌≡◌ {A = ℕ} 0 1 = cc in absurd (omega arith)

-- a range of these units and ends
record RangeFrom (l : List Unit) (u : Unit) (lo up inc : ℕ) : Type 0 where
  r : Radix
  is : range_of up inc (ends l u) ≡ some (range l r lo up inc)

range_from : (l : List Unit) (u : Unit) (lo up inc : ℕ) → whole_in u ≡ Some lo → RangeFrom l u lo up inc
range_from l (num r f v) lo up inc h =
    by_bool (eqb f 0) (λ y. record { r = r; is = rw (y, same_Some v lo (rw y at h)) }) (λ y. not_whole (rw y at h))
range_from l (keyed w) lo up inc h = not_whole h
range_from l (identifier w) lo up inc h = not_whole h
range_from l (symbolic w) lo up inc h = not_whole h
range_from l (text w) lo up inc h = not_whole h

no_range : (l : List Unit) (u : Unit) (up inc : ℕ) → whole_in u ≡ None → range_of up inc (ends l u) ≡ none
no_range l (num r f v) up inc h = by_bool (eqb f 0) (λ y. not_whole (sym (rw y at h))) (λ y. rw y)
no_range l (keyed w) up inc h = refl
no_range l (identifier w) up inc h = refl
no_range l (symbolic w) up inc h = refl
no_range l (text w) up inc h = refl

module _ (b : Base) (rest : List ℕ) where
  lower_field : (u : Unit) → wf_unit b u ≡ true → lower_at (bytes_of (unit_fields u) ++ rest) 0 ≡ whole_in u
  unfolding lower_at
  lower_field (num r f v) h = rw (four v (value_small b r f v h))
  lower_field (keyed w) h = refl
  lower_field (identifier w) h = refl
  lower_field (symbolic w) h = refl
  lower_field (text w) h = refl

  field_room : (u : Unit) → get_or (bytes_of (unit_fields u) ++ rest) 0 0 ≡ numeral_tag → 9 ≤ length (bytes_of (unit_fields u) ++ rest)
  field_room (num r f v) h = omega arith
  field_room (keyed w) h = absurd (omega (arith, h))
  field_room (identifier w) h = absurd (omega (arith, h))
  field_room (symbolic w) h = absurd (omega (arith, h))
  field_room (text w) h = absurd (omega (arith, h))

lower_drop : (rec : List ℕ) (l : ℕ) → lower_at rec l ≡ lower_at (drop l rec) 0
unfolding lower_at
lower_drop rec l =
    let one : l + 6 ≡ 1 + (l + 5) = omega arith in
    let two : l + 7 ≡ 2 + (l + 5) = omega arith in
    let three : l + 8 ≡ 3 + (l + 5) = omega arith in
    rw (get_or-drop l rec 0 0, get_or-drop l rec 4 0, get_or-drop l rec 5 0, get_or-drop l rec 6 0, get_or-drop l rec 7 0, get_or-drop l rec 8 0, add-zero, one, two, three)

module _ (b : Base) (rec : List ℕ) (l : ℕ) (u : Unit) (k : ℕ) (s : Small rec) (e : unit b (drop l rec) ≡ some (u, drop k rec)) where
  wrote : (wf_unit b u ≡ true) × (drop l rec ≡ bytes_of (unit_fields u) ++ drop k rec)
  wrote = unit_is b (drop l rec) u (drop k rec) (small_drop l rec s) (unit_tag b (drop l rec) u (drop k rec) e) e

  lower_is : lower_at rec l ≡ whole_in u
  lower_is = lower_drop rec l ∙ ap (λ (r : List ℕ). lower_at r 0) wrote.1 ∙ lower_field b (drop k rec) u wrote.0

  field_there_room : get_or rec l 0 ≡ numeral_tag → l + 9 ≤ length rec
  field_there_room h =
      let tag : get_or (bytes_of (unit_fields u) ++ drop k rec) 0 0 ≡ numeral_tag = ap (λ (r : List ℕ). get_or r 0 0) (sym wrote.1) ∙ tag_there rec l ∙ h in
      let room : 9 ≤ length (drop l rec) = rw wrote.1 (field_room b (drop k rec) u tag) in
      omega (arith, length-drop l rec)

-- ---- the terms of a range

abbrev IsTerms : List ℕ → ℕ → Maybe ℕ → Maybe ℕ → Type 0
IsTerms rec s (Some lo) (Some m) = (leb lo (num4 rec s) && leb 1 (num4 rec (s + 4)) ≡ true) × (m ≡ (num4 rec s - lo) / num4 rec (s + 4))
IsTerms rec s (Some lo) None = leb lo (num4 rec s) && leb 1 (num4 rec (s + 4)) ≡ false
IsTerms rec s None (Some m) = ⊥
IsTerms rec s None None = Always

terms_there : (rec : List ℕ) (s : ℕ) (o : Maybe ℕ) → IsTerms rec s o (terms_of rec s o)
unfolding more_of
terms_there rec s (Some lo) =
    pick_if (IsTerms rec s (Some lo)) (leb lo (num4 rec s))
    (λ y. pick_if (IsTerms rec s (Some lo)) (leb 1 (num4 rec (s + 4))) (λ z. (rw (y, z), refl)) (λ z. rw (y, z))) (λ y. rw y)
terms_there rec s None = tt

terms_is : (rec : List ℕ) (s : ℕ) (o : Maybe ℕ) (m : Maybe ℕ) → m ≡ terms_of rec s o → IsTerms rec s o m
terms_is rec s o m e = subst (IsTerms rec s o) (sym e) (terms_there rec s o)

-- ---- the element

-- where an element's tag stands, the record goes on
pub element_inside : (rec : List ℕ) (at : ℕ) → is_element (head_tag (drop at rec)) ≡ true → at ≤ length rec
element_inside rec at h =
    let t : ℕ = head_tag (drop at rec) in
    let some : 1 ≤ t = or_cases (eqb t single_tag) (eqb t range_tag) h (λ y. omega (arith, eqb-true t single_tag y)) (λ y. omega (arith, eqb-true t range_tag y)) in
    omega (arith, tag_inside rec at some)

pub element_gone : (b : Base) (rec : List ℕ) (at : ℕ) {r : Maybe Field} → r ≡ None → r ≡ field_at rec at → element b (drop at rec) ≡ none
unfolding element
element_gone b rec at e q = rw (nothing_there rec at e q)

-- the last unit, which may be a lower end
module _ {b : Base} {rec : List ℕ} {at n l k : ℕ} (g : UnitsAre b rec at n l k) where
  pub last_inside : l < length rec
  last_inside = omega (arith, g.on, g.inside)

  pub lower_room : Small rec → get_or rec l 0 ≡ numeral_tag → l + 9 ≤ length rec
  lower_room s h = field_there_room b rec l g.u k s g.last h

module _ {rec : List ℕ} {at t s k : ℕ} (f : IsField rec at t s k) where
  pub units_gone : (b : Base) → IsUnits b rec k None → element b (drop at rec) ≡ none
  unfolding element
  units_gone b i = rw (f.is, i)

  single_content : t ≡ single_tag → bytes_in rec s k ≡ []
  unfolding fits
  single_content e = let z : k - s ≡ 0 = eqb-true (k - s) 0 (rw e at f.fit) in rw z

  single_long : t ≡ single_tag → s ≡ k
  unfolding fits
  single_long e = let z : k - s ≡ 0 = eqb-true (k - s) 0 (rw e at f.fit) in omega (arith, f.ends)

  range_long : t ≡ range_tag → k ≡ s + 8
  unfolding fits
  range_long e = let n : k - s ≡ 8 = eqb-true (k - s) 8 (rw e at f.fit) in omega (arith, f.ends)

  -- an element's content tells which of the two it is
  module _ (h : is_element (head_tag (drop at rec)) ≡ true) where
    range_tag_lem : (s ≡ k → ⊥) → t ≡ range_tag
    range_tag_lem n = eqb-true t range_tag (rw (← f.tag, ne_eqb t single_tag (λ e. n (single_long e))) at h)

    single_tag_lem : s ≡ k → t ≡ single_tag
    single_tag_lem e =
        by_bool (eqb t single_tag) (λ y. eqb-true t single_tag y)
        (λ y. let q : t ≡ range_tag = eqb-true t range_tag (rw (← f.tag, y) at h) in absurd (omega (arith, range_long q)))

  pub range_room : is_element (head_tag (drop at rec)) ≡ true → (s ≡ k → ⊥) → s + 8 ≤ length rec
  range_room h n = omega (arith, range_long (range_tag_lem h n), f.inside)

  module _ {b : Base} {n l j : ℕ} (g : UnitsAre b rec k n l j) (h : is_element (head_tag (drop at rec)) ≡ true) where
    made_of : element b (drop at rec) ≡ only in_order (made (element_of t (bytes_in rec s k) (ends g.lead g.u)) (drop j rec))
    unfolding element
    made_of = rw (f.is, g.is, last_split_lem g.lead g.u)

    pub single_is : s ≡ k → ElementIs b rec at n 0 j
    single_is same =
        let five : t ≡ single_tag = single_tag_lem h same in
        record { e = single g.lead g.u; is = made_of ∙ rw (five, single_content five); inside = g.inside; units = g.count; counts = refl }

    module _ (apart : s ≡ k → ⊥) where
      six : t ≡ range_tag
      six = range_tag_lem h apart

      up : num4 (bytes_in rec s k) 0 ≡ num4 rec s
      up = number_in rec s k 0 (omega (arith, range_long six)) ∙ ap (num4 rec) (add-zero s)

      inc : num4 (bytes_in rec s k) 4 ≡ num4 rec (s + 4)
      inc = number_in rec s k 4 (omega (arith, range_long six))

      long : length (bytes_in rec s k) ≡ 8
      long = f.long ∙ omega (arith, range_long six)

      of_range : element_of t (bytes_in rec s k) (ends g.lead g.u) ≡ range_of (num4 rec s) (num4 rec (s + 4)) (ends g.lead g.u)
      of_range = rw (six, long) (ap (λ z. range_of z (num4 (bytes_in rec s k) 4) (ends g.lead g.u)) up ∙ ap (λ z. range_of (num4 rec s) z (ends g.lead g.u)) inc)

      -- what the answer on its terms says
      abbrev RangeAs : Maybe ℕ → Type 0
      RangeAs (Some m) = ElementIs b rec at n m j
      RangeAs None = element b (drop at rec) ≡ none

      range_as : (o : Maybe ℕ) → whole_in g.u ≡ o → (r : Maybe ℕ) → IsTerms rec s o r → RangeAs r
      range_as (Some lo) q (Some m) y =
          let x = range_from g.lead g.u lo (num4 rec s) (num4 rec (s + 4)) q in
          record {
            e = range g.lead x.r lo (num4 rec s) (num4 rec (s + 4));
            is = made_of ∙ rw (of_range, x.is, y.0);
            inside = g.inside;
            units = g.count;
            counts = ap (λ z. z + 1) (sym y.1);
          }
      range_as (Some lo) q None y = made_of ∙ rw (of_range, (range_from g.lead g.u lo (num4 rec s) (num4 rec (s + 4)) q).is, y)
      range_as None q (Some m) y = absurd y
      range_as None q None y = made_of ∙ rw (of_range, no_range g.lead g.u (num4 rec s) (num4 rec (s + 4)) q)

      module _ {r : Maybe ℕ} (sm : Small rec) (e : r ≡ terms_of rec s (lower_at rec l)) where
        range_there : RangeAs r
        range_there = range_as (whole_in g.u) refl r (terms_is rec s (whole_in g.u) r (e ∙ ap (terms_of rec s) (lower_is b rec l g.u j sm g.last)))

        pub range_is : {m : ℕ} → r ≡ Some m → ElementIs b rec at n m j
        range_is x = subst RangeAs x range_there

        pub range_bad : r ≡ None → element b (drop at rec) ≡ none
        range_bad x = subst RangeAs x range_there
