-- M-107: the position worked out directly is the first index in the written-out list at which the argument stands. The list is the elements' arguments one behind the other; a
-- range's are a progression, in which a number stands that is a whole number of increments above lower, and not above upper.
use Prim.Native.Nat.{ℕ, zero, suc, ◌+◌, ◌*◌, ◌-◌, ◌/◌, ◌%◌, ◌≤◌, ◌<◌}
use mathlib.Core.Path.{◌≡◌, refl, sym, ap, ap₂, ◌∙◌, subst}
use mathlib.Core.Bool.{Bool, true, false, cond, ◌&&◌}
use mathlib.Core.List.{List, [], ◌∷◌, ◌++◌, map}
use mathlib.Core.Option.{Option, none, some}
use native.Mathlib.Nat.{not-suc-le-zero, le_of_suc-le-suc, le_trans, mod-eq_of_lt, mod-eq-sub-mod, div-eq_of_lt, div-eq-sub-div, div-add-mod', le-div_iff_mul-le, div-mul-le_self}
use native.Mathlib.Omega.{arith}
use lib.Dec.{eqb, leb, ltb}
use lib.ListN.{length, get_or}
use borrow.Author.Tests.{eqb-true, eqb-false, eq-eqb, ne_eqb, leb-true, leb-false, le-leb, ltb-true, lt-ltb, le-ltb}
use Rattle.laws.specs.Cases.{by_bool, by_option, and_l, and_r, and_false, some_inj, none≢some, conjuncts}
use Rattle.laws.specs.Lists.{all, eq_l_is, eq_l_refl}
use Rattle.rules.specs.Refusals.{most_arguments}
use Rattle.rules.specs.Units.{Radix, same_radix, Base, Unit, num, keyed, identifier, symbolic, text}
use Rattle.rules.specs.Commands.{Element, single, range, leading, value_count}
use Rattle.rules.specs.Records.{unit_field, field_bytes, bytes_of, tag, cut_fields, ends, last_split}
use Rattle.rules.specs.WellFormed.{wf_value, wf_range}
use Rattle.rules.specs.Printing.{same_unit, same_units}
use Rattle.rules.specs.Orders.{arguments}
use Rattle.rules.specs.Positions.{unit_bytes, shifted, or_later, term_of, term_position, position_of, written_out, is_argument, first_in, IsFirst, IsNowhere}
use Rattle.rules.proofs.DecodeEncode.{cut_all, last_split_lem}
use Rattle.rules.proofs.DirectIsList.{range_ends, steps_are, arguments_length, all_length, ranges_fine}
use Rattle.rules.proofs.Progression.{terms_of, term_le, progression}
use Rattle.rules.proofs.ReadSteps.{same_radix_is}
use Rattle.rules.proofs.ValueBack.{same_radix_lem, field_unit, field_unit_lem, same_item, same_items, v_all}
use Rattle.rules.proofs.ValueLength.{same_items_refl}

-- two tests that pass together are equal
both_ways : (a b : Bool) → (a ≡ true → b ≡ true) → (b ≡ true → a ≡ true) → a ≡ b
both_ways true b f g = sym (f refl)
both_ways false true f g = g refl
both_ways false false f g = refl

-- ---- "Units are equal when their fields are."

fields_units : (us vs : List Unit) → map unit_field us ≡ map unit_field vs → us ≡ vs
fields_units [] [] h = refl
fields_units [] (v ∷ vs) h = let z : ◌≡◌ {A = ℕ} 0 1 = cc in absurd (omega arith)
fields_units (u ∷ us) [] h = let z : ◌≡◌ {A = ℕ} 0 1 = cc in absurd (omega arith)
fields_units (u ∷ us) (v ∷ vs) h =
    let f : unit_field u ≡ unit_field v = cc in
    let g : map unit_field us ≡ map unit_field vs = cc in
    ap₂ (λ a l. a ∷ l) (some_inj (sym (field_unit_lem u) ∙ ap (λ x. field_unit (field_bytes x)) f ∙ field_unit_lem v)) (fields_units us vs g)

-- the fields' bytes give the units back
pub bytes_units_lem : (us vs : List Unit) → bytes_of (map unit_field us) ≡ bytes_of (map unit_field vs) → us ≡ vs
bytes_units_lem us vs h =
    fields_units us vs (some_inj (sym (cut_all (map unit_field us)) ∙ ap (cut_fields tag) h ∙ cut_all (map unit_field vs)))

ends_same : (l m : List Unit) (u v : Unit) → l ++ (u ∷ []) ≡ m ++ (v ∷ []) → (l ≡ m) × (u ≡ v)
ends_same l m u v h =
    let e : ends l u ≡ ends m v = sym (last_split_lem l u) ∙ ap last_split h ∙ last_split_lem m v in
    (cc, cc)

-- an argument's fields are another's exactly where the arguments are the same
pub argument_is : (l m : List Unit) (u v : Unit) → is_argument l u (single m v) ≡ true → (m ≡ l) × (v ≡ u)
argument_is l m u v h =
    ends_same m l v u (bytes_units_lem (m ++ (v ∷ [])) (l ++ (u ∷ [])) (eq_l_is (unit_bytes m v) (unit_bytes l u) h))

pub argument_refl : (l : List Unit) (u : Unit) → is_argument l u (single l u) ≡ true
argument_refl l u = eq_l_refl (unit_bytes l u)

-- and where leading and last units are, one by one
pub argument_test : (l m : List Unit) (u v : Unit) → is_argument l u (single m v) ≡ same_units m l && same_unit v u
argument_test l m u v =
    both_ways (is_argument l u (single m v)) (same_units m l && same_unit v u)
    (λ h.
    let q : (m ≡ l) × (v ≡ u) = argument_is l m u v h in
    rw (q.0, q.1, same_items_refl l, eq_l_refl (field_bytes (unit_field u))))
    (λ h.
    let p : m ≡ l = same_items m l (search conjuncts) in
    let q : v ≡ u = same_item v u (search conjuncts) in
    rw (p, q) (argument_refl l u))

-- ---- the first index

module _ {A : Type 0} where
  first_same : (s t : A → Bool) → ((x : A) → s x ≡ t x) → (xs : List A) → first_in s xs ≡ first_in t xs
  first_same s t h [] = refl
  first_same s t h (x ∷ xs) = rw (h x, first_same s t h xs)

  first_append : (t : A → Bool) (xs ys : List A) → first_in t (xs ++ ys) ≡ or_later (first_in t xs) (shifted (length xs) (first_in t ys))
  first_append t [] ys = shifted_none (first_in t ys)
    where
      shifted_none : (o : Option ℕ) → o ≡ shifted 0 o
      shifted_none none = refl
      shifted_none (some k) = let z : k ≡ 0 + k = omega arith in ap some z
  first_append t (x ∷ xs) ys =
      by_bool (t x) (λ y. rw y) (λ y. rw (y, first_append t xs ys) (shifted_more (first_in t xs) (first_in t ys)))
    where
      shifted_more : (o p : Option ℕ) → shifted 1 (or_later o (shifted (length xs) p)) ≡ or_later (shifted 1 o) (shifted (suc (length xs)) p)
      shifted_more none none = refl
      shifted_more none (some k) = let z : 1 + (length xs + k) ≡ suc (length xs) + k = omega arith in ap some z
      shifted_more (some j) p = refl

  first_none : (xs : List A) → first_in (λ x. false) xs ≡ none
  first_none [] = refl
  first_none (x ∷ xs) = rw (first_none xs)

first_map : {A B : Type 0} (t : B → Bool) (f : A → B) (xs : List A) → first_in t (map f xs) ≡ first_in (λ x. t (f x)) xs
first_map t f [] = refl
first_map t f (x ∷ xs) = rw (first_map t f xs)

-- what it is, both ways
module _ {A : Type 0} (t : A → Bool) where
  pub is_nowhere : (xs : List A) → first_in t xs ≡ none → IsNowhere t xs
  is_nowhere [] h j d lt = absurd (not-suc-le-zero lt)
  is_nowhere (x ∷ xs) h j d lt =
      by_bool (t x)
      (λ y. none≢some (sym (rw y at h)))
      (λ y. here (is_nowhere xs (unshifted (first_in t xs) (rw y at h))) y j lt)
    where
      unshifted : (o : Option ℕ) → shifted 1 o ≡ none → o ≡ none
      unshifted none q = refl
      unshifted (some k) q = none≢some (sym q)

      here : IsNowhere t xs → t x ≡ false → (j : ℕ) → j < suc (length xs) → t (get_or (x ∷ xs) j d) ≡ false
      here f y zero lt = y
      here f y (suc j) lt = f j d (le_of_suc-le-suc lt)

  pub nowhere_is : (xs : List A) → IsNowhere t xs → first_in t xs ≡ none
  nowhere_is [] f = refl
  nowhere_is (x ∷ xs) f = rw (f 0 x (omega arith), nowhere_is xs (λ j d lt. f (suc j) d (omega arith)))

  pub first_is : (xs : List A) (k : ℕ) → IsFirst t xs k → first_in t xs ≡ some k
  first_is [] k f = absurd (not-suc-le-zero f.inside)
  first_is (x ∷ xs) zero f = rw (f.there x)
  first_is (x ∷ xs) (suc k) f =
      let g : IsFirst t xs k =
      record { inside = le_of_suc-le-suc f.inside; there = λ d. f.there d; before = λ j d lt. f.before (suc j) d (omega arith) } in
      let z : 1 + k ≡ suc k = omega arith in
      rw (f.before 0 x (omega arith), first_is xs k g) (ap some z)

  pub is_first : (xs : List A) (k : ℕ) → first_in t xs ≡ some k → IsFirst t xs k
  is_first [] k h = none≢some h
  is_first (x ∷ xs) k h =
      by_bool (t x)
      (λ y. subst (IsFirst t (x ∷ xs)) (some_inj (rw y at h)) (record { inside = omega arith; there = λ d. y; before = λ j d lt. absurd (not-suc-le-zero lt) }))
      (λ y. by_option (first_in t xs) (λ q. none≢some (rw (y, q) at h)) (λ j q. on j y (is_first xs j q) (rw (y, q) at h)))
    where
      on : (j : ℕ) → t x ≡ false → IsFirst t xs j → ◌≡◌ {A = Option ℕ} (some (1 + j)) (some k) → IsFirst t (x ∷ xs) k
      on j y f q =
          let e : suc j ≡ k = omega (arith, some_inj q) in
          subst (IsFirst t (x ∷ xs)) e (record { inside = omega (arith, f.inside); there = λ d. f.there d; before = earlier })
        where
          earlier : (i : ℕ) (d : A) → i < suc j → t (get_or (x ∷ xs) i d) ≡ false
          earlier zero d lt = y
          earlier (suc i) d lt = f.before i d (le_of_suc-le-suc lt)

-- ---- a range

-- where a number stands in a progression of n terms
in_progression : (lo inc n v : ℕ) → 1 ≤ inc
    → first_in (λ m. eqb m v) (progression lo inc n) ≡ cond (leb lo v && eqb ((v - lo) % inc) 0 && ltb ((v - lo) / inc) n) (some ((v - lo) / inc)) none
in_progression lo inc zero v p =
    rw (le-ltb ((v - lo) / inc) 0 (omega arith), and_false (leb lo v && eqb ((v - lo) % inc) 0))
in_progression lo inc (suc n) v p =
    by_bool (eqb lo v)
    (λ y.
    let at : lo ≡ v = eqb-true lo v y in
    let d : v - lo ≡ 0 = omega arith in
    let m : 0 % inc ≡ 0 = mod-eq_of_lt (omega arith) in
    let q : 0 / inc ≡ 0 = div-eq_of_lt (omega arith) in
    rw (y, le-leb lo v (omega arith), d, m, q, lt-ltb 0 (suc n) (omega arith)))
    (λ y.
    let off : lo ≡ v → ⊥ = eqb-false lo v y in
    by_bool (leb (lo + inc) v)
    (λ z.
    let le : lo + inc ≤ v = leb-true (lo + inc) v z in
    let q : ℕ = (v - lo - inc) / inc in
    let s : v - (lo + inc) ≡ v - lo - inc = omega arith in
    let m : (v - lo) % inc ≡ (v - lo - inc) % inc = mod-eq-sub-mod (omega arith) in
    let d : (v - lo) / inc ≡ q + 1 = div-eq-sub-div p (omega arith) in
    let t : ltb (q + 1) (suc n) ≡ ltb q n =
    both_ways (ltb (q + 1) (suc n)) (ltb q n)
    (λ h. let g : q + 1 < suc n = ltb-true (q + 1) (suc n) h in lt-ltb q n (omega arith))
    (λ h. let g : q < n = ltb-true q n h in lt-ltb (q + 1) (suc n) (omega arith)) in
    rw (y, in_progression (lo + inc) inc n v p, s, z, le-leb lo v (omega arith), m, d, t)
    (shifted_cond (eqb ((v - lo - inc) % inc) 0 && ltb q n) q))
    (λ z.
    let lt : v < lo + inc = leb-false (lo + inc) v z in
    rw (y, in_progression (lo + inc) inc n v p, z)
    (by_bool (leb lo v)
    (λ w.
    let le : lo ≤ v = leb-true lo v w in
    let m : (v - lo) % inc ≡ v - lo = mod-eq_of_lt (omega arith) in
    let e : eqb (v - lo) 0 ≡ false = ne_eqb (v - lo) 0 (λ x. off (omega arith)) in
    rw (w, m, e))
    (λ w. rw w))))
  where
    shifted_cond : (t : Bool) (q : ℕ) → shifted 1 (cond t (some q) none) ≡ cond t (some (q + 1)) none
    shifted_cond true q = let z : 1 + q ≡ q + 1 = omega arith in ap some z
    shifted_cond false q = refl

-- a whole number of increments above lower: fewer than the range has terms exactly where it is not above upper
below_upper : (lo up inc v : ℕ) → lo ≤ up → 1 ≤ inc
    → leb lo v && eqb ((v - lo) % inc) 0 && ltb ((v - lo) / inc) (terms_of lo up inc) ≡ leb lo v && leb v up && eqb ((v - lo) % inc) 0
below_upper lo up inc v h p =
    both_ways (leb lo v && eqb ((v - lo) % inc) 0 && ltb ((v - lo) / inc) (terms_of lo up inc)) (leb lo v && leb v up && eqb ((v - lo) % inc) 0)
    (λ t.
    let above : leb lo v ≡ true = search conjuncts in
    let whole : eqb ((v - lo) % inc) 0 ≡ true = search conjuncts in
    let le : lo ≤ v = leb-true lo v above in
    let z : (v - lo) % inc ≡ 0 = eqb-true ((v - lo) % inc) 0 whole in
    let last : lo + (v - lo) / inc * inc ≤ up = term_le lo up inc ((v - lo) / inc) h (search conjuncts) in
    rw (above, whole, le-leb v up (omega (arith, div-add-mod' (v - lo) inc))))
    (λ t.
    let above : leb lo v ≡ true = search conjuncts in
    let whole : eqb ((v - lo) % inc) 0 ≡ true = search conjuncts in
    let le : v ≤ up = search conjuncts in
    let few : (v - lo) / inc ≤ (up - lo) / inc = (le-div_iff_mul-le p).1 (le_trans (div-mul-le_self (v - lo) inc) (omega arith)) in
    rw (above, whole, lt-ltb ((v - lo) / inc) (terms_of lo up inc) (omega arith)))

-- a term is the numeral with its base, no fraction and its value
term_test : (r s : Radix) (n f v : ℕ) → same_unit (num r 0 n) (num s f v) ≡ same_radix r s && eqb f 0 && eqb n v
term_test r s n f v =
    both_ways (same_unit (num r 0 n) (num s f v)) (same_radix r s && eqb f 0 && eqb n v)
    (λ h.
    let e : num r 0 n ≡ num s f v = same_item (num r 0 n) (num s f v) h in
    let er : r ≡ s = cc in
    let ef : f ≡ 0 = cc in
    let en : n ≡ v = cc in
    rw (er, ef, en, same_radix_lem s, eq-eqb v v refl))
    (λ h.
    let er : r ≡ s = same_radix_is r s (search conjuncts) in
    let ef : f ≡ 0 = search conjuncts in
    let en : n ≡ v = search conjuncts in
    rw (er, ef, en) (eq_l_refl (field_bytes (unit_field (num s 0 v)))))

range_first : (r : Radix) (lo up inc : ℕ) (u : Unit) → lo ≤ up → 1 ≤ inc
    → first_in (λ n. same_unit (num r 0 n) u) (progression lo inc (terms_of lo up inc)) ≡ term_of r lo up inc u
range_first r lo up inc (num s f v) h p =
    let ns : List ℕ = progression lo inc (terms_of lo up inc) in
    first_same (λ n. same_unit (num r 0 n) (num s f v)) (λ n. same_radix r s && eqb f 0 && eqb n v) (λ n. term_test r s n f v) ns
    ∙ by_bool (same_radix r s && eqb f 0)
    (λ y. rw y (in_progression lo inc (terms_of lo up inc) v p ∙ ap (λ t. cond t (some ((v - lo) / inc)) none) (below_upper lo up inc v h p)))
    (λ y. rw y (first_none ns))
range_first r lo up inc (keyed w) h p = first_none (progression lo inc (terms_of lo up inc))
range_first r lo up inc (identifier w) h p = first_none (progression lo inc (terms_of lo up inc))
range_first r lo up inc (symbolic w) h p = first_none (progression lo inc (terms_of lo up inc))
range_first r lo up inc (text w) h p = first_none (progression lo inc (terms_of lo up inc))

-- ---- an element, a value

module _ (b : Base) (l : List Unit) (u : Unit) where
  term_first : (e : Element) → wf_range b e ≡ true → term_position e l u ≡ first_in (is_argument l u) (arguments e)
  term_first (single m v) h = rw (argument_test l m u v)
  term_first (range m r lo up inc) h =
      let ends' : (lo ≤ up) × (1 ≤ inc) = range_ends b m r lo up inc h in
      let ns : List ℕ = progression lo inc (terms_of lo up inc) in
      let f : ℕ → Element = λ n. single m (num r 0 n) in
      sym (ap (λ x. first_in (is_argument l u) (map f x)) (steps_are b m r lo up inc h) ∙ first_map (is_argument l u) f ns
      ∙ first_same (λ n. is_argument l u (f n)) (λ n. same_units m l && same_unit (num r 0 n) u) (λ n. argument_test l m u (num r 0 n)) ns
      ∙ by_bool (same_units m l) (λ y. rw y (range_first r lo up inc u ends'.0 ends'.1)) (λ y. rw y (first_none ns)))

  position_first : (es : List Element) → all (wf_range b) es ≡ true → position_of es l u ≡ first_in (is_argument l u) (written_out es)
  position_first [] h = refl
  position_first (e ∷ es) h =
      let he : wf_range b e ≡ true = and_l (wf_range b e) (all (wf_range b) es) h in
      rw (
        first_append (is_argument l u) (arguments e) (written_out es),
        ← term_first e he,
        arguments_length b e he,
        position_first es (and_r (wf_range b e) (all (wf_range b) es) h),
      )

-- "the first position among that place's arguments, all written out"
pub first_position : (b : Base) (v : List Element) (l : List Unit) (u : Unit) → wf_value b v ≡ true
    → position_of v l u ≡ first_in (is_argument l u) (written_out v)
first_position b [] l u h = refl
first_position b (e ∷ es) l u h = position_first b l u (e ∷ es) (ranges_fine b (length (leading e)) (e ∷ es) (v_all b e es h))

-- it is below the number of arguments
pub position_below : (b : Base) (v : List Element) (l : List Unit) (u : Unit) (k : ℕ) → wf_value b v ≡ true → position_of v l u ≡ some k
    → (k < value_count v) × (value_count v ≤ most_arguments)
position_below b [] l u k h q = none≢some q
position_below b (e ∷ es) l u k h q =
    let all' : List Element = written_out (e ∷ es) in
    let f : IsFirst (is_argument l u) all' k = is_first (is_argument l u) all' k (sym (first_position b (e ∷ es) l u h) ∙ q) in
    let long : length all' ≡ value_count (e ∷ es) = all_length b (e ∷ es) (ranges_fine b (length (leading e)) (e ∷ es) (v_all b e es h)) in
    (omega (arith, f.inside), search conjuncts)
