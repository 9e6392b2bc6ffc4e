-- Where an argument stands among an element's terms, from the bytes of both: the bytes of unit fields give the units back, and those of a range differ from those of its terms in the last four bytes alone.
use mathlib.Core.Path.{◌≡◌, refl, sym, ap, ◌∙◌, subst}
use mathlib.Core.Bool.{Bool, true, false, cond, ◌&&◌, false≢true}
use mathlib.Core.List.{List, [], ◌∷◌, ◌++◌, map, append_assoc}
use mathlib.Core.Option.{none, some}
use Prim.Native.Nat.{ℕ, suc, ◌+◌, ◌-◌, ◌/◌, ◌%◌, ◌≤◌}
use native.Mathlib.Omega.{arith}
use borrow.Author.Tests.{eqb-true, eq-eqb, le-leb}
use lib.Dec.{leb, eqb}
use lib.ListN.{length, get_or, take, drop, length-append, take-append-drop}
use lib.Seq.{take_at}
use Rattle.laws.specs.Cases.{by_bool, and_l, and_r, pick}
use Rattle.laws.specs.Lists.{eq_l, eq_l_is, eq_l_refl}
use Rattle.rules.specs.Units.{Radix, radix_letter, same_radix, Base, Unit, num, keyed, identifier, symbolic, text}
use Rattle.rules.specs.Commands.{Element, single, range}
use Rattle.rules.specs.Records.{four_bytes, unit_field, bytes_of, element_fields, num4}
use Rattle.rules.specs.WellFormed.{wf_element}
use Rattle.rules.specs.Printing.{same_unit, same_units}
use Rattle.rules.specs.Positions.{unit_bytes, term_of, term_position, answer_of}
use Rattle.rules.proofs.DirectIsList.{range_ends}
use Rattle.rules.proofs.FieldLaws.{four_bytes_lem}
use Rattle.rules.proofs.FirstPosition.{argument_is, argument_test}
use Rattle.rules.proofs.ReadSteps.{same_radix_is}
use Rattle.rules.proofs.ValueBack.{ok_range, same_items, same_radix_lem}
use Rattle.rules.proofs.ValueLength.{same_items_refl}
use Rattle.record_walk.proofs.FrontLaws.{Small}
use Rattle.judge_unit.proofs.UnitBytes.{listed_is}
use Rattle.order_argument.proofs.TermLaws.{units_bytes, range_is, single_is, upper_is, increment_is, lower_is}
use Rattle.member.specs.Seeking.{alike, step_of, range_term, term_in}

-- the last four bytes are those of a number
last_four : (w : List ℕ) → Small w → 4 ≤ length w → drop (length w - 4) w ≡ four_bytes (num4 w (length w - 4))
last_four w s h =
    let i : ℕ = length w - 4 in
    let at : (j k : ℕ) → j ≡ k → get_or w j 0 ≡ get_or w k 0 = λ j k e. ap (λ (n : ℕ). get_or w n 0) e in
    listed_is 4 w i (omega arith)
    ∙ rw (at (suc i) (1 + i) (omega arith), at (suc (suc i)) (2 + i) (omega arith), at (suc (suc (suc i))) (3 + i) (omega arith))
    (sym (four_bytes_lem (get_or w i 0) (get_or w (1 + i) 0) (get_or w (2 + i) 0) (get_or w (3 + i) 0) (s (1 + i)) (s (2 + i)) (s (3 + i))))

-- ---- a single element

single_term : (l m : List Unit) (u v : Unit) → term_in (bytes_of (element_fields (single m v))) (unit_bytes l u) ≡ answer_of (term_position (single m v) l u)
unfolding term_in
single_term l m u v = rw (single_is m v) (ap (λ (t : Bool). pick t 1 0) (argument_test l m u v) ∙ go (same_units m l && same_unit v u))
  where
    go : (t : Bool) → pick t 1 0 ≡ answer_of (cond t (some 0) none)
    go true = refl
    go false = refl

-- ---- a range

module _ (m : List Unit) (r : Radix) (lo up inc : ℕ) where
  abbrev own : List ℕ
  own = bytes_of (element_fields (range m r lo up inc))

  -- all of a term's unit fields but the value of the last
  abbrev front : List ℕ
  front = bytes_of (map unit_field m) ++ (7 ∷ 0 ∷ 6 ∷ radix_letter r ∷ 0 ∷ [])

  term_bytes_lem : (v : ℕ) → unit_bytes m (num r 0 v) ≡ front ++ four_bytes v
  term_bytes_lem v = units_bytes m (num r 0 v) ∙ sym (append_assoc (bytes_of (map unit_field m)) (7 ∷ 0 ∷ 6 ∷ radix_letter r ∷ 0 ∷ []) (four_bytes v))

  term_long : (v : ℕ) → length (unit_bytes m (num r 0 v)) ≡ length front + 4
  term_long v = ap length (term_bytes_lem v) ∙ length-append front (four_bytes v)

  front_of : (w : List ℕ) (v n : ℕ) → w ≡ unit_bytes m (num r 0 v) → n ≡ length front → take n w ≡ front
  front_of w v n e k = ap (take n) (e ∙ term_bytes_lem v) ∙ take_at front (four_bytes v) n (sym k)

  -- a term is like the range
  alike_term : (v : ℕ) → alike own (unit_bytes m (num r 0 v)) ≡ true
  unfolding alike
  alike_term v =
      let w : List ℕ = unit_bytes m (num r 0 v) in
      let n : length w - 4 ≡ length front = omega (arith, term_long v) in
      let long : length own - 11 ≡ length w = omega (arith, term_long v, term_long lo) in
      rw (eq-eqb (length own - 11) (length w) long, front_of (unit_bytes m (num r 0 lo)) lo (length w - 4) refl n, front_of w v (length w - 4) refl n)
      (eq_l_refl front)

  -- and what is like it is a term, by its last four bytes
  like_term : (w : List ℕ) → Small w → alike own w ≡ true → w ≡ unit_bytes m (num r 0 (num4 w (length w - 4)))
  unfolding alike
  like_term w s h =
      let long : length own - 11 ≡ length w =
      eqb-true (length own - 11) (length w) (and_l (eqb (length own - 11) (length w)) (eq_l (take (length w - 4) (drop 11 own)) (take (length w - 4) w)) h) in
      let n : length w - 4 ≡ length front = omega (arith, term_long lo) in
      let same : take (length w - 4) (drop 11 own) ≡ take (length w - 4) w =
      eq_l_is (take (length w - 4) (drop 11 own)) (take (length w - 4) w)
      (and_r (eqb (length own - 11) (length w)) (eq_l (take (length w - 4) (drop 11 own)) (take (length w - 4) w)) h) in
      let is : take (length w - 4) w ≡ front = sym same ∙ front_of (unit_bytes m (num r 0 lo)) lo (length w - 4) refl n in
      sym (take-append-drop (length w - 4) w)
      ∙ ap (λ (x : List ℕ). x ++ drop (length w - 4) w) is
      ∙ ap (λ (x : List ℕ). front ++ x) (last_four w s (omega (arith, term_long lo)))
      ∙ sym (term_bytes_lem (num4 w (length w - 4)))

  -- where a numeral of the range's base without fraction stands among its terms
  step_term : (v : ℕ) → 1 ≤ inc → step_of lo up inc v ≡ answer_of (term_of r lo up inc (num r 0 v))
  unfolding step_of
  step_term v k =
      rw (same_radix_lem r, le-leb 1 inc k) (go (leb lo v) (leb v up) (eqb ((v - lo) % inc) 0))
    where
      go : (a b c : Bool) → pick (a && b && true && c) (suc ((v - lo) / inc)) 0 ≡ answer_of (cond (a && b && c) (some ((v - lo) / inc)) none)
      go true true true = refl
      go true true false = refl
      go true false c = refl
      go false b c = refl

  -- no other argument is like the range
  other_unit : (l : List Unit) (u : Unit) → same_units m l ≡ true → alike own (unit_bytes l u) ≡ false → term_of r lo up inc u ≡ none
  other_unit l (num s f v) e h =
      by_bool (same_radix r s && eqb f 0)
      (λ y.
      let rs : r ≡ s = same_radix_is r s (and_l (same_radix r s) (eqb f 0) y) in
      let f0 : f ≡ 0 = eqb-true f 0 (and_r (same_radix r s) (eqb f 0) y) in
      let ml : m ≡ l = same_items m l e in
      absurd (false≢true (sym (subst (λ (k : List Unit). alike own (unit_bytes k (num s f v)) ≡ false) (sym ml) h)
      ∙ (rw (← rs, f0) (alike_term v)))))
      (λ y. rw y)
  other_unit l (keyed w) e h = refl
  other_unit l (identifier w) e h = refl
  other_unit l (symbolic w) e h = refl
  other_unit l (text w) e h = refl

range_term_lem : (b : Base) (n : ℕ) (m : List Unit) (r : Radix) (lo up inc : ℕ) (l : List Unit) (u : Unit) → wf_element b n (range m r lo up inc) ≡ true → Small (unit_bytes l u)
    → range_term (bytes_of (element_fields (range m r lo up inc))) (unit_bytes l u) ≡ answer_of (term_position (range m r lo up inc) l u)
unfolding range_term
range_term_lem b n m r lo up inc l u h s =
    by_bool (alike (own m r lo up inc) w)
    (λ y.
    let v : ℕ = num4 w (length w - 4) in
    let same : (m ≡ l) × (num r 0 v ≡ u) =
    argument_is l m u (num r 0 v) (subst (λ (x : List ℕ). eq_l x w ≡ true) (like_term m r lo up inc w s y) (eq_l_refl w)) in
    let found : term_position (range m r lo up inc) m (num r 0 v) ≡ term_of r lo up inc (num r 0 v) = rw (same_items_refl m) in
    rw (y, lower_is m r lo up inc b n h, upper_is m r lo up inc b n h, increment_is m r lo up inc b n h)
    (step_term m r lo up inc v (range_ends b m r lo up inc (ok_range b n (range m r lo up inc) h)).1
    ∙ ap answer_of (sym found ∙ ap (λ (k : List Unit). term_position (range m r lo up inc) k (num r 0 v)) same.0
    ∙ ap (term_position (range m r lo up inc) l) same.1)))
    (λ y.
    let none' : term_position (range m r lo up inc) l u ≡ none = by_bool (same_units m l) (λ z. rw (z, other_unit m r lo up inc l u z y)) (λ z. rw z) in
    rw (y, none'))
  where
    w : List ℕ
    w = unit_bytes l u

-- ---- any element

-- 1 and the argument's position among the element's terms, 0 where it is none of them
pub term_position_lem : (b : Base) (n : ℕ) (e : Element) (l : List Unit) (u : Unit) → wf_element b n e ≡ true → Small (unit_bytes l u)
    → term_in (bytes_of (element_fields e)) (unit_bytes l u) ≡ answer_of (term_position e l u)
unfolding term_in
term_position_lem b n (single m v) l u h s = single_term l m u v
term_position_lem b n (range m r lo up inc) l u h s = rw (range_is m r lo up inc) (range_term_lem b n m r lo up inc l u h s)
