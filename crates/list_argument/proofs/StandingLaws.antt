-- Where an argument stands, all that are left of its value follow: of its own element the terms from its own on, which a step goes through one by one, and then those of each element behind it.
use mathlib.Core.Path.{◌≡◌, refl, sym, ap, ◌∙◌, subst}
use mathlib.Core.Bool.{Bool, true, false, false≢true}
use mathlib.Core.List.{List, [], ◌∷◌, map, map-map, append-nil}
use Prim.Native.Nat.{ℕ, suc, ◌+◌, ◌-◌, ◌≤◌, ◌<◌}
use native.Mathlib.Omega.{arith}
use borrow.Author.Tests.{le-leb, lt-leb, leb-true, leb-false}
use lib.Dec.{leb}
use lib.ListN.{length, length-append, length-map}
use Rattle.laws.specs.Cases.{by_bool, and_l, and_r, conjuncts}
use Rattle.laws.specs.Lists.{concat}
use Rattle.rules.specs.Units.{Base, num}
use Rattle.rules.specs.Commands.{Element, single, range}
use Rattle.rules.specs.Records.{bytes_of, element_fields, num4}
use Rattle.rules.specs.WellFormed.{wf_element}
use Rattle.rules.specs.Orders.{stepping, arguments}
use Rattle.rules.proofs.DirectIsList.{range_ends, arguments_length}
use Rattle.rules.proofs.Counts.{terms_pos}
use Rattle.rules.proofs.DecodeEncode.{value_small}
use Rattle.rules.proofs.Progression.{stepping_is, stepping_past}
use Rattle.rules.proofs.ValueBack.{ok_range}
use Rattle.record_walk.specs.Runs.{ElementTo, bytes_in}
use Rattle.record_walk.proofs.RunLaws.{bytes_none}
use Rattle.record_walk.specs.Values.{value_bytes, Holds, Value}
use Rattle.record_walk.proofs.ValueLaws.{element_some, value_cons, first_bytes, behind_first, fine_first, end_is}
use Rattle.order_argument.specs.Terms.{is_range, upper_at, increment_at, valued_bytes}
use Rattle.order_argument.proofs.TermLaws.{range_long, range_is, single_is, upper_is, increment_is, lower_is, valued_single, valued_range}
use Rattle.list_argument.specs.declared.Standing.{Standing}
use Rattle.list_argument.specs.Standings.{choices_of, arguments_from, left_of, NotPast, Ends, Stands, Argument, IsFirst, IsNext, first_term, goes_on}

-- ---- the arguments of elements

pub alone : (as' : List Element) → map value_bytes (map (λ a. a ∷ []) as') ≡ map (λ a. value_bytes (a ∷ [])) as'
alone as' = map-map value_bytes (λ a. a ∷ []) as'

-- an element's terms from its first one are its arguments
from_first : (b : Base) (m : ℕ) (e : Element) → wf_element b m e ≡ true → arguments_from e (first_term (bytes_of (element_fields e))) ≡ arguments e
unfolding first_term
from_first b m (single l u) h = refl
from_first b m (range l r lo up inc) h = rw (range_is l r lo up inc, lower_is l r lo up inc b m h)

first_not_past : (b : Base) (m : ℕ) (e : Element) → wf_element b m e ≡ true → NotPast e (first_term (bytes_of (element_fields e)))
unfolding first_term
first_not_past b m (single l u) h = tt
first_not_past b m (range l r lo up inc) h =
    rw (range_is l r lo up inc, lower_is l r lo up inc b m h) (range_ends b l r lo up inc (ok_range b m (range l r lo up inc) h)).0

-- ---- the first

pub first_some : {rec : List ℕ} {from to end t : ℕ} → from < to → ElementTo rec from end → t ≡ first_term (bytes_in rec from end)
    → IsFirst rec from to (record { start = from; end = end; term = t })
first_some {rec} {from} {to} {end} {t} lt te et = record { start = refl; stands = go }
  where
    go : (es : List Element) → Holds rec from to es → Stands rec to (record { start = from; end = end; term = t }) (choices_of es)
    go [] h = absurd (omega (arith, h.ends))
    go (e ∷ es) h =
        let q : end ≡ from + length (bytes_of (element_fields e)) = end_is e es h te in
        let w : wf_element h.base h.lead e ≡ true = fine_first e es h q in
        let n : t ≡ first_term (bytes_of (element_fields e)) = et ∙ ap first_term (first_bytes e es h q) in
        record {
          elements = e ∷ es;
          holds = h;
          ends = (q, rw n (first_not_past h.base h.lead e w));
          is = alone (concat (map arguments (e ∷ es))) ∙ rw (n, from_first h.base h.lead e w);
        }

pub first_none : {rec : List ℕ} {from to : ℕ} → to ≤ from → IsFirst rec from to (record { start = from; end = from; term = 0 })
first_none {rec} {from} {to} k = record { start = refl; stands = go }
  where
    go : (es : List Element) → Holds rec from to es → Stands rec to (record { start = from; end = from; term = 0 }) (choices_of es)
    go [] h = record { elements = []; holds = h; ends = refl; is = refl }
    go (e ∷ es) h = absurd (omega (arith, h.ends, value_cons e es, element_some e))

-- ---- where it stands in the record

bounds : {rec : List ℕ} {to : ℕ} (es : List Element) (s : Standing) → Holds rec s.start to es → Ends es s → (s.start ≤ s.end) × (s.end ≤ to)
bounds [] s h q = (omega arith, omega (arith, h.ends))
bounds (e ∷ es) s h q = (omega (arith, q.0), omega (arith, q.0, h.ends, value_cons e es))

module _ {rec : List ℕ} {to : ℕ} {s : Standing} {left : List (List ℕ)} (st : Stands rec to s left) where
  pub stands_order : s.start ≤ s.end
  stands_order = (bounds st.elements s st.holds st.ends).0

  pub stands_inside : s.end ≤ to
  stands_inside = (bounds st.elements s st.holds st.ends).1

  pub stands_within : to ≤ length rec
  stands_within = st.holds.inside

-- what stands there is left
left_some : (es : List Element) (s : Standing) → Ends es s → 0 < length (left_of es s.term)
left_some [] s q = omega arith
left_some (single l u ∷ es) s q = omega arith
left_some (range l r lo up inc ∷ es) s q = rw (le-leb s.term up q.1) (omega arith)

pub stands_some : {rec : List ℕ} {to : ℕ} {s : Standing} {left : List (List ℕ)} → Stands rec to s left → 0 < length left
stands_some {s = s} st = rw st.is (left_some st.elements s st.ends)

-- ---- its bytes

no_element : (t : ℕ) → valued_bytes [] t ≡ []
unfolding valued_bytes is_range
no_element t = refl

pub alone_is : (a : Element) → value_bytes (a ∷ []) ≡ bytes_of (element_fields a)
alone_is a = ap bytes_of (append-nil (element_fields a))

abbrev first_of : List (List ℕ) → List ℕ
first_of [] = []
first_of (x ∷ xs) = x

first_left : {rec : List ℕ} {to : ℕ} (es : List Element) (s : Standing) (x : List ℕ) (xs : List (List ℕ)) → Holds rec s.start to es → Ends es s
    → x ∷ xs ≡ left_of es s.term → valued_bytes (bytes_in rec s.start s.end) s.term ≡ x
first_left {rec} [] s x xs h q e =
    let none : bytes_in rec s.start s.end ≡ [] = ap (bytes_in rec s.start) q ∙ bytes_none rec s.start in
    ap (λ (y : List ℕ). valued_bytes y s.term) none ∙ no_element s.term ∙ cc
first_left (single l u ∷ es) s x xs h q e =
    ap (λ (y : List ℕ). valued_bytes y s.term) (first_bytes (single l u) es h q.0) ∙ valued_single l u s.term ∙ sym (alone_is (single l u)) ∙ cc
first_left (range l r lo up inc ∷ es) s x xs h q e =
    let own : value_bytes (single l (num r 0 s.term) ∷ []) ≡ x = sym (ap first_of e ∙ rw (le-leb s.term up q.1)) in
    ap (λ (y : List ℕ). valued_bytes y s.term) (first_bytes (range l r lo up inc) es h q.0) ∙ valued_range l r lo up inc s.term
    ∙ sym (alone_is (single l (num r 0 s.term))) ∙ own

-- the argument that stands there is the first of those that are left
pub stands_bytes : {rec : List ℕ} {to : ℕ} {s : Standing} {x : List ℕ} {xs : List (List ℕ)} → Stands rec to s (x ∷ xs)
    → valued_bytes (bytes_in rec s.start s.end) s.term ≡ x
stands_bytes {s = s} {x = x} {xs = xs} st = first_left st.elements s x xs st.holds st.ends st.is

-- ---- the next term of a range, or none

step_on : (n up inc : ℕ) → 1 ≤ inc → n + inc ≤ up → stepping (suc (up - n)) n up inc ≡ n ∷ stepping (suc (up - (n + inc))) (n + inc) up inc
step_on n up inc p h =
    rw (le-leb n up (omega arith))
    (ap (λ (l : List ℕ). n ∷ l) (stepping_is (up - n) (n + inc) up inc p h (omega arith) ∙ sym (stepping_is (suc (up - (n + inc))) (n + inc) up inc p h (omega arith))))

step_last : (n up inc : ℕ) → n ≤ up → up < n + inc → stepping (suc (up - n)) n up inc ≡ n ∷ []
step_last n up inc h k = rw (le-leb n up h) (ap (λ (l : List ℕ). n ∷ l) (stepping_past (up - n) (n + inc) up inc k))

-- every element names an argument
pub arguments_some : (b : Base) (m : ℕ) (e : Element) → wf_element b m e ≡ true → 0 < length (arguments e)
arguments_some b m e h = omega (arith, arguments_length b e (ok_range b m e h), terms_pos e)

none_range : is_range [] ≡ false
unfolding is_range
none_range = refl

-- ---- whether a range goes on

-- a range has its own field and its last unit's
pub range_room : (x : List ℕ) {r : Bool} → r ≡ is_range x → r ≡ true → 20 ≤ length x
range_room x e h = range_long x (sym e ∙ h)

-- what goes on is a range
pub goes_long : (x : List ℕ) (t : ℕ) {g : Bool} → g ≡ goes_on x t → g ≡ true → increment_at + 4 ≤ length x
goes_long x t e h = omega (arith, range_long x (and_l (is_range x) (leb (t + num4 x increment_at) (num4 x upper_at)) (sym e ∙ h)))

module _ (rec : List ℕ) (to : ℕ) (s : Standing) where
  abbrev own_bytes_lem : List ℕ
  own_bytes_lem = bytes_in rec s.start s.end

  -- it is, with the increment added
  abbrev stepped : Standing
  stepped = record { start = s.start; end = s.end; term = s.term + num4 own_bytes_lem increment_at }

  record Goes (es : List Element) : Type 0 where
    first : List ℕ
    is : left_of es s.term ≡ first ∷ left_of es stepped.term
    ends : Ends es stepped
    some : 0 < length (left_of es stepped.term)
    short : s.start < to
    fits : stepped.term < 4294967296

  goes : (es : List Element) → Holds rec s.start to es → Ends es s → goes_on own_bytes_lem s.term ≡ true → Goes es
  goes [] h q g = absurd (false≢true (sym (ap (λ (x : List ℕ). goes_on x s.term) (ap (bytes_in rec s.start) q ∙ bytes_none rec s.start) ∙ rw none_range) ∙ g))
  goes (single l u ∷ es) h q g =
      let x : own_bytes_lem ≡ bytes_of (element_fields (single l u)) = first_bytes (single l u) es h q.0 in
      absurd (false≢true (sym (ap (λ (y : List ℕ). goes_on y s.term) x ∙ rw (single_is l u)) ∙ g))
  goes (range l r lo up inc ∷ es) h q g =
      let e : Element = range l r lo up inc in
      let own : List ℕ = bytes_of (element_fields e) in
      let x : own_bytes_lem ≡ own = first_bytes e es h q.0 in
      let w : wf_element h.base h.lead e ≡ true = fine_first e es h q.0 in
      let i : num4 own_bytes_lem increment_at ≡ inc = ap (λ (y : List ℕ). num4 y increment_at) x ∙ increment_is l r lo up inc h.base h.lead w in
      let k : num4 own_bytes_lem upper_at ≡ up = ap (λ (y : List ℕ). num4 y upper_at) x ∙ upper_is l r lo up inc h.base h.lead w in
      let le : s.term + num4 own_bytes_lem increment_at ≤ num4 own_bytes_lem upper_at =
      leb-true (s.term + num4 own_bytes_lem increment_at) (num4 own_bytes_lem upper_at) (and_r (is_range own_bytes_lem) (leb (s.term + num4 own_bytes_lem increment_at) (num4 own_bytes_lem upper_at)) g) in
      let p : 1 ≤ inc = (range_ends h.base l r lo up inc (ok_range h.base h.lead e w)).1 in
      let on : s.term + inc ≤ up = omega (arith, i, k) in
      record {
        first = value_bytes (single l (num r 0 s.term) ∷ []);
        is = rw (i, step_on s.term up inc p on);
        ends = (q.0, omega (arith, i));
        some = rw (i, le-leb (s.term + inc) up on) (omega arith);
        short = omega (arith, h.ends, value_cons e es, element_some e);
        fits = let small : up ≤ 4294967295 = leb-true up 4294967295 (value_small h.base r 0 up (search (conjuncts, ok_range h.base h.lead e w))) in omega (arith, i);
      }

  -- it is not: what is left are the arguments of the elements behind
  record Stops (es : List Element) : Type 0 where
    behind : List Element
    first : List ℕ
    is : left_of es s.term ≡ first ∷ map (λ a. value_bytes (a ∷ [])) (concat (map arguments behind))
    holds : Holds rec s.end to behind

  stops : (es : List Element) → Holds rec s.start to es → Ends es s → goes_on own_bytes_lem s.term ≡ false → Stops es
  stops [] h q g = record { behind = []; first = []; is = refl; holds = subst (λ (n : ℕ). Holds rec n to []) (sym q) h }
  stops (single l u ∷ es) h q g =
      record { behind = es; first = value_bytes (single l u ∷ []); is = refl; holds = behind_first (single l u) es h q.0 }
  stops (range l r lo up inc ∷ es) h q g =
      let e : Element = range l r lo up inc in
      let x : own_bytes_lem ≡ bytes_of (element_fields e) = first_bytes e es h q.0 in
      let w : wf_element h.base h.lead e ≡ true = fine_first e es h q.0 in
      let i : num4 own_bytes_lem increment_at ≡ inc = ap (λ (y : List ℕ). num4 y increment_at) x ∙ increment_is l r lo up inc h.base h.lead w in
      let k : num4 own_bytes_lem upper_at ≡ up = ap (λ (y : List ℕ). num4 y upper_at) x ∙ upper_is l r lo up inc h.base h.lead w in
      let y : is_range own_bytes_lem ≡ true = ap is_range x ∙ range_is l r lo up inc in
      let past : leb (s.term + inc) up ≡ false = sym (rw (y, i, k)) ∙ g in
      record {
        behind = es;
        first = value_bytes (single l (num r 0 s.term) ∷ []);
        is = rw (step_last s.term up inc q.1 (leb-false (s.term + inc) up past));
        holds = behind_first e es h q.0;
      }

-- ---- the next

-- the first argument behind an element, if there is one
after_more : {rec : List ℕ} {to end : ℕ} {r : Standing} (bs : List Element) (x : List ℕ) (xs : List (List ℕ)) → Holds rec end to bs → IsFirst rec end to r
    → x ∷ xs ≡ map (λ a. value_bytes (a ∷ [])) (concat (map arguments bs)) → Stands rec to r (x ∷ xs) × (r.start < to)
after_more [] x xs h f e = absurd (omega (arith, ap length e))
after_more {rec} {to} {end} {r} (b ∷ bs) x xs h f e =
    let same : choices_of (b ∷ bs) ≡ x ∷ xs = alone (concat (map arguments (b ∷ bs))) ∙ sym e in
    (subst (Stands rec to r) same (f.stands (b ∷ bs) h), omega (arith, f.start, h.ends, value_cons b bs, element_some b))

after_last : {rec : List ℕ} {to end : ℕ} {r : Standing} (bs : List Element) → Holds rec end to bs → IsFirst rec end to r
    → [] ≡ map (λ a. value_bytes (a ∷ [])) (concat (map arguments bs)) → to ≤ r.start
after_last [] h f e = omega (arith, f.start, h.ends)
after_last {end = end} (b ∷ bs) h f e =
    let n : length (map (λ a. value_bytes (a ∷ [])) (concat (map arguments (b ∷ bs)))) ≡ length (arguments b) + length (concat (map arguments bs)) =
    length-map (concat (map arguments (b ∷ bs))) (λ a. value_bytes (a ∷ [])) ∙ length-append (arguments b) (concat (map arguments bs)) in
    absurd (omega (arith, ap length e, arguments_some h.base h.lead b (fine_first {end = end + length (bytes_of (element_fields b))} b bs h refl)))

module _ {rec : List ℕ} {to : ℕ} {s : Standing} where
  pub next_term : {i : ℕ} {g : Bool} → g ≡ goes_on (bytes_in rec s.start s.end) s.term → g ≡ true → i ≡ num4 (bytes_in rec s.start s.end) increment_at
      → IsNext rec to s (record { start = s.start; end = s.end; term = s.term + i })
  next_term {i} eg yes' ei =
      rw ei
      (record {
        more = λ a x xs st.
            let g : Goes rec to s st.elements = goes rec to s st.elements st.holds st.ends (sym eg ∙ yes') in
            let e : a ∷ x ∷ xs ≡ g.first ∷ left_of st.elements (stepped rec to s).term = st.is ∙ g.is in
            (record { elements = st.elements; holds = st.holds; ends = g.ends; is = cc }, g.short);
        last = λ a st.
            let g : Goes rec to s st.elements = goes rec to s st.elements st.holds st.ends (sym eg ∙ yes') in
            absurd (omega (arith, ap length (st.is ∙ g.is), g.some));
      })

  -- no term is above four bytes
  pub next_fits : {i : ℕ} {g : Bool} → Argument rec to s → g ≡ goes_on (bytes_in rec s.start s.end) s.term → g ≡ true
      → i ≡ num4 (bytes_in rec s.start s.end) increment_at → s.term + i < 4294967296
  next_fits a eg yes' ei =
      let st = a.stands in omega (arith, (goes rec to s st.elements st.holds st.ends (sym eg ∙ yes')).fits)

  stopped : {g : Bool} {left : List (List ℕ)} → g ≡ goes_on (bytes_in rec s.start s.end) s.term → g ≡ false → (st : Stands rec to s left) → Stops rec to s st.elements
  stopped eg no' st = stops rec to s st.elements st.holds st.ends (sym eg ∙ no')

  pub behind_value : {g : Bool} → g ≡ goes_on (bytes_in rec s.start s.end) s.term → g ≡ false → Argument rec to s → Value rec s.end to
  behind_value eg no' a = let p = stopped eg no' a.stands in record { elements = p.behind; holds = p.holds }

  pub next_element_lem : {g : Bool} {r : Standing} → g ≡ goes_on (bytes_in rec s.start s.end) s.term → g ≡ false → IsFirst rec s.end to r → IsNext rec to s r
  next_element_lem eg no' f = record {
    more = λ a x xs st. let p = stopped eg no' st in let e : a ∷ x ∷ xs ≡ p.first ∷ _ = st.is ∙ p.is in after_more p.behind x xs p.holds f cc;
    last = λ a st. let p = stopped eg no' st in let e : a ∷ [] ≡ p.first ∷ _ = st.is ∙ p.is in after_last p.behind p.holds f cc;
  }
