-- The bytes of an element tell its terms, and so where the n-th argument of a value is: in a range's bytes upper end and increment stand at the front, the lower end at the back, and what stands
-- between are the leading units.
use mathlib.Core.Path.{◌≡◌, refl, sym, ap, ◌∙◌, subst}
use mathlib.Core.Bool.{Bool, true, false}
use mathlib.Core.List.{List, [], ◌∷◌, ◌++◌, map, map-append, append_assoc, append-nil}
use Prim.Native.Nat.{ℕ, ◌+◌, ◌-◌, ◌*◌, ◌/◌, ◌≤◌, ◌<◌}
use native.Mathlib.Nat.{le_refl, mul-le-mul_right, div-mul-le_self}
use native.Mathlib.Omega.{arith}
use borrow.Author.Tests.{le-leb, leb-true, lt-ltb, le-ltb}
use lib.Dec.{leb, eqb}
use lib.ListN.{length, get_or, take, drop, length-append, length-take, length-drop}
use lib.Seq.{get_or-append-add, take_at}
use Rattle.laws.specs.Cases.{by_bool, and_l, and_r, and_false}
use Rattle.laws.specs.Over.{over, part, back as given, back_over}
use Rattle.rules.specs.Units.{Base, Radix, radix_letter, Unit, num}
use Rattle.rules.specs.Commands.{Element, single, range, terms, sum}
use Rattle.rules.specs.Records.{field, four_bytes, field_bytes, bytes_of, unit_field, element_fields, num4, many, single_tag, string_tag}
use Rattle.rules.specs.WellFormed.{wf_element}
use Rattle.rules.specs.Orders.{term_at, argument_at}
use Rattle.rules.proofs.DecodeEncode.{four, value_small}
use Rattle.rules.proofs.FieldLaws.{bytes_append, bytes_cons}
use Rattle.rules.proofs.ValueBack.{ok_last, ok_range}
use Rattle.record_walk.specs.Fronts.{tag_of}
use Rattle.fields.specs.Units.{numeral_bytes}
use Rattle.order_argument.specs.Terms.{is_range, more_terms, term_value, last_unit_at, term_bytes, valued_bytes, argument_bytes, IsArgument}
use Rattle.laws.specs.Lists.{all}
use Rattle.rules.specs.Characters.{between}
use Rattle.record_walk.specs.Runs.{Whole, ElementTo, bytes_in}
use Rattle.order_argument.specs.declared.Argument.{Argument}
use Rattle.record_walk.proofs.RunLaws.{drop_behind}
use Rattle.record_walk.proofs.ValueLaws.{no_unit_behind}

-- ---- fields of units one behind the other

-- leading units and the last
pub units_bytes : (l : List Unit) (u : Unit) → bytes_of (map unit_field (l ++ (u ∷ []))) ≡ bytes_of (map unit_field l) ++ field_bytes (unit_field u)
units_bytes l u =
    ap bytes_of (map-append unit_field l (u ∷ [])) ∙ bytes_append (map unit_field l) (unit_field u ∷ [])
    ∙ ap (λ (r : List ℕ). bytes_of (map unit_field l) ++ r) (append-nil (field_bytes (unit_field u)))

-- ---- what stands behind a front

get_behind : (p w : List ℕ) (i j : ℕ) → length p ≡ i → get_or (p ++ w) (j + i) 0 ≡ get_or w j 0
get_behind p w i j e =
    let q : j + i ≡ length p + j = omega arith in
    ap (λ (n : ℕ). get_or (p ++ w) n 0) q ∙ get_or-append-add p w j 0

num4_behind : (p w : List ℕ) (i : ℕ) → length p ≡ i → num4 (p ++ w) i ≡ num4 w 0
num4_behind p w i e =
    let a : get_or (p ++ w) i 0 ≡ get_or w 0 0 = ap (λ (n : ℕ). get_or (p ++ w) n 0) (omega arith) ∙ get_or-append-add p w 0 0 in
    rw (a, get_behind p w i 1 e, get_behind p w i 2 e, get_behind p w i 3 e)

-- ---- a range's bytes

ruleset parts = (and_l, and_r)

module _ (l : List Unit) (r : Radix) (lo up inc : ℕ) where
  -- tag, length, upper end and increment
  abbrev ends : List ℕ
  ends = field_bytes (field 6 (four_bytes up ++ four_bytes inc))

  abbrev lead : List ℕ
  lead = bytes_of (map unit_field l)

  abbrev whole : List ℕ
  whole = bytes_of (element_fields (range l r lo up inc))

  whole_is : whole ≡ ends ++ (lead ++ field_bytes (unit_field (num r 0 lo)))
  whole_is = ap (λ (x : List ℕ). ends ++ x) (units_bytes l (num r 0 lo))

  whole_long : length whole ≡ 11 + (length lead + 9)
  whole_long = omega (arith, ap length whole_is, length-append lead (field_bytes (unit_field (num r 0 lo))))

  pub range_is : is_range whole ≡ true
  unfolding is_range
  range_is = rw (le-leb 20 (length whole) (omega (arith, whole_long)))

  letter_is : get_or whole (last_unit_at whole + 3) 0 ≡ radix_letter r
  letter_is =
      let p : List ℕ = ends ++ (lead ++ (7 ∷ 0 ∷ 6 ∷ [])) in
      let w : List ℕ = radix_letter r ∷ 0 ∷ four_bytes lo in
      let e : whole ≡ p ++ w = whole_is ∙ ap (λ (x : List ℕ). ends ++ x) (sym (append_assoc lead (7 ∷ 0 ∷ 6 ∷ []) w)) in
      let z : last_unit_at whole + 3 ≡ length p + 0 = omega (arith, whole_long, length-append lead (7 ∷ 0 ∷ 6 ∷ [])) in
      ap (λ (x : List ℕ). get_or x (last_unit_at whole + 3) 0) e ∙ ap (λ (m : ℕ). get_or (p ++ w) m 0) z ∙ get_or-append-add p w 0 0

  lead_is : take (last_unit_at whole - 11) (drop 11 whole) ≡ lead
  lead_is =
      ap (λ (x : List ℕ). take (last_unit_at whole - 11) (drop 11 x)) whole_is
      ∙ take_at lead (field_bytes (unit_field (num r 0 lo))) (last_unit_at whole - 11) (omega (arith, whole_long))

  -- a well-formed range's numbers fit their bytes
  module _ (b : Base) (m : ℕ) (h : wf_element b m (range l r lo up inc) ≡ true) where
    pub upper_is : num4 whole 3 ≡ up
    upper_is = four up (value_small b r 0 up (search (parts, ok_range b m (range l r lo up inc) h)))

    pub increment_is : num4 whole 7 ≡ inc
    increment_is = four inc (value_small b r 0 inc (search (parts, ok_range b m (range l r lo up inc) h)))

    pub lower_is : num4 whole (length whole - 4) ≡ lo
    lower_is =
        let p : List ℕ = ends ++ (lead ++ (7 ∷ 0 ∷ 6 ∷ radix_letter r ∷ 0 ∷ [])) in
        let e : whole ≡ p ++ four_bytes lo = whole_is ∙ ap (λ (x : List ℕ). ends ++ x) (sym (append_assoc lead (7 ∷ 0 ∷ 6 ∷ radix_letter r ∷ 0 ∷ []) (four_bytes lo))) in
        let n : length p ≡ length whole - 4 = omega (arith, whole_long, length-append lead (7 ∷ 0 ∷ 6 ∷ radix_letter r ∷ 0 ∷ [])) in
        ap (λ (x : List ℕ). num4 x (length whole - 4)) e ∙ num4_behind p (four_bytes lo) (length whole - 4) n ∙ four lo (value_small b r 0 lo (ok_last b m (range l r lo up inc) h))

  -- with a term's value, as a single element
  pub valued_range : (v : ℕ) → valued_bytes whole v ≡ bytes_of (element_fields (single l (num r 0 v)))
  unfolding valued_bytes term_bytes numeral_bytes
  valued_range v = rw (range_is, lead_is, letter_is) (ap (λ (x : List ℕ). 5 ∷ 0 ∷ 0 ∷ x) (sym (units_bytes l (num r 0 v))))

pub single_is : (l : List Unit) (u : Unit) → is_range (bytes_of (element_fields (single l u))) ≡ false
unfolding is_range
single_is l u = and_false (leb 20 (length (bytes_of (element_fields (single l u)))))

-- a single element is its own
pub valued_single : (l : List Unit) (u : Unit) (v : ℕ) → valued_bytes (bytes_of (element_fields (single l u))) v ≡ bytes_of (element_fields (single l u))
unfolding valued_bytes
valued_single l u v = rw (single_is l u)

module _ (b : Base) (m : ℕ) where
  -- an element's number of terms
  pub terms_are : (e : Element) → wf_element b m e ≡ true → more_terms (bytes_of (element_fields e)) + 1 ≡ terms e
  unfolding more_terms
  terms_are (single l u) h = rw (single_is l u)
  terms_are (range l r lo up inc) h =
      rw (range_is l r lo up inc, upper_is l r lo up inc b m h, increment_is l r lo up inc b m h, lower_is l r lo up inc b m h)

  -- the bytes of its n-th term
  pub term_is : (e : Element) (n : ℕ) → wf_element b m e ≡ true → argument_bytes (bytes_of (element_fields e)) n ≡ bytes_of (element_fields (term_at e n))
  unfolding term_value
  term_is (single l u) n h = valued_single l u (term_value (bytes_of (element_fields (single l u))) n)
  term_is (range l r lo up inc) n h =
      valued_range l r lo up inc (term_value (bytes_of (element_fields (range l r lo up inc))) n)
      ∙ rw (increment_is l r lo up inc b m h, lower_is l r lo up inc b m h)

-- ---- lengths and limits

pub range_long : (x : List ℕ) → is_range x ≡ true → 20 ≤ length x
unfolding is_range
range_long x h = leb-true 20 (length x) (and_l (leb 20 (length x)) (eqb (tag_of x) 6) h)

-- where a test says that it is one
pub tested_long : (x : List ℕ) {r : Bool} → r ≡ is_range x → r ≡ true → 20 ≤ length x
tested_long x e h = range_long x (sym e ∙ h)

-- the sizes of a range and of its term, which has 8 bytes less: upper end and increment
pub record RangeSizes (x : List ℕ) (v : ℕ) : Type 0 where
  pub range : 20 ≤ length x
  pub lead : length (take (last_unit_at x - 11) (drop 11 x)) ≡ length x - 20
  pub term : length (term_bytes x v) ≡ length x - 8

pub range_sizes : (x : List ℕ) (v : ℕ) → is_range x ≡ true → RangeSizes x v
unfolding term_bytes numeral_bytes
range_sizes x v h =
    let w : List ℕ = numeral_bytes (get_or x (last_unit_at x + 3) 0) 0 v in
    let lead : length (take (last_unit_at x - 11) (drop 11 x)) ≡ length x - 20 =
    omega (arith, range_long x h, length-take (last_unit_at x - 11) (drop 11 x), length-drop 11 x) in
    record {
      range = range_long x h;
      lead = lead;
      term = omega (arith, range_long x h, lead, length-append (field_bytes (field 5 []) ++ take (last_unit_at x - 11) (drop 11 x)) w);
    }

-- the term is written: its head, the leading units, and the last unit with the lower end's letter
pub term_over : (x out : List ℕ) (v : ℕ) {p : ℕ} {o o' ys : List ℕ} → is_range x ≡ true → p ≡ 3 → o ≡ over (field_bytes (field 5 [])) out
    → o' ≡ over (take (last_unit_at x - 11) (drop 11 x)) (part o p) → ys ≡ over (numeral_bytes (get_or x (last_unit_at x + 3) 0) 0 v) (part (given o p o') (p + (last_unit_at x - 11)))
    → given (given o p o') (p + (last_unit_at x - 11)) ys ≡ over (term_bytes x v) out
unfolding term_bytes
term_over x out v {p} h ep e e' f =
    let head : List ℕ = field_bytes (field 5 []) in
    let lead : List ℕ = take (last_unit_at x - 11) (drop 11 x) in
    let k : length (head ++ lead) ≡ p + (last_unit_at x - 11) = omega (arith, length-append head lead, range_sizes x v h) in
    back_over (head ++ lead) (numeral_bytes (get_or x (last_unit_at x + 3) 0) 0 v) out (back_over head lead out e (sym ep) e') k f

-- no term is above both ends
pub term_below : (x : List ℕ) (n : ℕ) → is_range x ≡ true → n ≤ more_terms x → n * num4 x 7 ≤ num4 x 3 - num4 x (length x - 4)
unfolding more_terms
term_below x n h k =
    let d : ℕ = num4 x 3 - num4 x (length x - 4) in
    let q : n ≤ d / num4 x 7 = rw h at k in
    omega (arith, mul-le-mul_right (num4 x 7) q, div-mul-le_self d (num4 x 7))

-- ---- an element as a single one, by what a test of it says

module _ (x : List ℕ) (v : ℕ) {r : Bool} (e : r ≡ is_range x) where
  -- a range is its term
  pub valued_term : r ≡ true → valued_bytes x v ≡ term_bytes x v
  unfolding valued_bytes
  valued_term h = rw (← e, h)

  -- any other element is as it is
  pub valued_whole : r ≡ false → valued_bytes x v ≡ x
  unfolding valued_bytes
  valued_whole h = rw (← e, h)

  pub valued_long : r ≡ true → length x - 8 ≡ length (valued_bytes x v)
  valued_long h = rw (valued_term h) (sym (range_sizes x v (sym e ∙ h)).term)

-- and so it is not longer than the element
pub valued_short : (x : List ℕ) (v : ℕ) → length (valued_bytes x v) ≤ length x
valued_short x v = by_bool (is_range x) (λ h. omega (arith, valued_long x v refl h)) (λ h. rw (valued_whole x v refl h) (le_refl (length x)))

-- ---- the n-th argument: in the element that stands there if that has more than n terms, and else behind it, n less by the element's terms

nth_here : (e : Element) (es : List Element) (n : ℕ) → n < terms e → argument_at e es n ≡ term_at e n
nth_here e [] n h = refl
nth_here e (e' ∷ es) n h = rw (lt-ltb n (terms e) h, argument_at)

nth_later : (e e' : Element) (es : List Element) (n : ℕ) → terms e ≤ n → argument_at e (e' ∷ es) n ≡ argument_at e' es (n - terms e)
nth_later e e' es n h = rw (le-ltb n (terms e) h, argument_at)

-- ---- one element of the value

module _ (rec : List ℕ) (at : ℕ) {end : ℕ} (t : ElementTo rec at end) where
  -- the element's bytes, and what stands behind it
  record Cut (e : Element) (es : List Element) (rest : List ℕ) : Type 0 where
    bytes : bytes_in rec at end ≡ bytes_of (element_fields e)
    behind : drop end rec ≡ bytes_of (many element_fields es) ++ rest

  cut_off : (e : Element) (es : List Element) (rest : List ℕ) → drop at rec ≡ bytes_of (many element_fields (e ∷ es)) ++ rest
      → between single_tag string_tag (tag_of rest) ≡ false → Cut e es rest
  cut_off e es rest h s =
      let x : List ℕ = bytes_of (element_fields e) in
      let y : List ℕ = bytes_of (many element_fields es) in
      let g : drop at rec ≡ x ++ (y ++ rest) = h ∙ bytes_cons element_fields e es rest in
      let q : end ≡ at + length x = t.is e (y ++ rest) g (no_unit_behind es rest s) in
      let n : length x ≡ end - at = omega arith in
      record {
        bytes = ap (take (end - at)) g ∙ take_at x (y ++ rest) (end - at) n;
        behind = ap (λ (k : ℕ). drop k rec) q ∙ drop_behind rec at x (y ++ rest) g;
      }

  nth_found : {more n : ℕ} → more ≡ more_terms (bytes_in rec at end) → n ≤ more → IsArgument rec at n (record { start = at; end = end; term = n })
  nth_found {more} {n} em h =
      record {
        from = omega arith;
        order = t.from;
        inside = t.whole.inside;
        term = omega arith;
        is = λ b m e es rest g w k s.
            let c : Cut e es rest = cut_off e es rest g s in
            let we : wf_element b m e ≡ true = and_l (wf_element b m e) (all (wf_element b m) es) w in
            let z : more_terms (bytes_in rec at end) + 1 ≡ terms e = ap (λ (x : List ℕ). more_terms x + 1) c.bytes ∙ terms_are b m e we in
            ap (λ (x : List ℕ). argument_bytes x n) c.bytes ∙ term_is b m e n we
            ∙ ap (λ (a : Element). bytes_of (element_fields a)) (sym (nth_here e es n (omega arith)));
      }

  later_is : {more n : ℕ} {a : Argument} → more ≡ more_terms (bytes_in rec at end) → more < n → IsArgument rec end (n - more - 1) a
      → (b : Base) (m : ℕ) (e : Element) (es : List Element) (rest : List ℕ) → drop at rec ≡ bytes_of (many element_fields (e ∷ es)) ++ rest
      → all (wf_element b m) (e ∷ es) ≡ true → n < sum (map terms (e ∷ es)) → between single_tag string_tag (tag_of rest) ≡ false
      → argument_bytes (bytes_in rec a.start a.end) a.term ≡ bytes_of (element_fields (argument_at e es n))
  later_is {more} {n} em h p b m e [] rest g w k s =
      let c : Cut e [] rest = cut_off e [] rest g s in
      let z : more_terms (bytes_in rec at end) + 1 ≡ terms e = ap (λ (x : List ℕ). more_terms x + 1) c.bytes ∙ terms_are b m e (and_l (wf_element b m e) true w) in
      absurd (omega arith)
  later_is {more} {n} em h p b m e (e' ∷ es) rest g w k s =
      let c : Cut e (e' ∷ es) rest = cut_off e (e' ∷ es) rest g s in
      let we : wf_element b m e ≡ true = and_l (wf_element b m e) (all (wf_element b m) (e' ∷ es)) w in
      let z : more_terms (bytes_in rec at end) + 1 ≡ terms e = ap (λ (x : List ℕ). more_terms x + 1) c.bytes ∙ terms_are b m e we in
      let q : n - more - 1 ≡ n - terms e = omega arith in
      p.is b m e' es rest c.behind (and_r (wf_element b m e) (all (wf_element b m) (e' ∷ es)) w) (omega arith) s
      ∙ ap (λ (j : ℕ). bytes_of (element_fields (argument_at e' es j))) q
      ∙ ap (λ (x : Element). bytes_of (element_fields x)) (sym (nth_later e e' es n (omega arith)))

  nth_later_on : {more n : ℕ} {a : Argument} → more ≡ more_terms (bytes_in rec at end) → more < n → IsArgument rec end (n - more - 1) a → IsArgument rec at n a
  nth_later_on em h p =
      record { from = omega (arith, t.from, p.from); order = p.order; inside = p.inside; term = p.term; is = later_is em h p }

-- ---- the loop: the argument that is found from here is the one from the start

pub record Finding (rec : List ℕ) (at n start term : ℕ) : Type 0 where
  pub whole : Whole rec start
  pub from : at ≤ start
  pub same : (a : Argument) → IsArgument rec start term a → IsArgument rec at n a

pub finding_none : {rec : List ℕ} {at : ℕ} (n : ℕ) → Whole rec at → Finding rec at n at n
finding_none n w = record { whole = w; from = omega arith; same = λ a p. p }

module _ {rec : List ℕ} {at n start term end more : ℕ} (f : Finding rec at n start term) (t : ElementTo rec start end) (e : more ≡ more_terms (bytes_in rec start end)) where
  pub finding_here : term ≤ more → IsArgument rec at n (record { start = start; end = end; term = term })
  finding_here h = f.same _ (nth_found rec start t e h)

  pub finding_on : more < term → Finding rec at n end (term - (more + 1))
  finding_on h =
      let z : term - more - 1 ≡ term - (more + 1) = omega arith in
      subst (Finding rec at n end) z (record { whole = t.whole; from = omega (arith, f.from, t.from); same = λ a p. f.same a (nth_later_on rec start t e h p) })
