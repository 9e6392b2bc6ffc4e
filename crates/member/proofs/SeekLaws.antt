-- The position of an argument in a value is sought element by element: what was passed over, and the position among the elements that are left, are the position among all.
use mathlib.Core.Path.{◌≡◌, refl, sym, ap, ◌∙◌, subst}
use mathlib.Core.Bool.{true}
use mathlib.Core.List.{List, [], ◌∷◌, map}
use mathlib.Core.Option.{Option, none, some}
use Prim.Native.Nat.{ℕ, ◌+◌, ◌-◌, ◌≤◌, ◌<◌}
use native.Mathlib.Omega.{arith}
use lib.ListN.{length}
use Rattle.laws.specs.Cases.{by_option, conjuncts}
use Rattle.rules.specs.Units.{Base, Unit}
use Rattle.rules.specs.Commands.{Element, single, range, terms, sum}
use Rattle.rules.specs.Records.{bytes_of, element_fields}
use Rattle.rules.specs.WellFormed.{wf_element, wf_value}
use Rattle.rules.specs.Positions.{unit_bytes, shifted, or_later, term_position, position_of, answer_of}
use Rattle.rules.proofs.FirstPosition.{position_below}
use Rattle.rules.proofs.LocateCall.{answer_none}
use Rattle.record_walk.specs.Runs.{Whole, ElementTo, bytes_in}
use Rattle.record_walk.specs.Values.{Holds, Value}
use Rattle.record_walk.proofs.FrontLaws.{Small}
use Rattle.record_walk.proofs.ValueLaws.{element_some, value_cons, first_bytes, behind_first, fine_first, end_is, element_on, value_whole}
use Rattle.order_argument.specs.Terms.{more_terms}
use Rattle.order_argument.proofs.TermLaws.{terms_are}
use Rattle.member.specs.Seeking.{term_in, Sought, IsPosition}
use Rattle.member.proofs.ElementLaws.{term_position_lem}

-- ---- answers

shifted_twice : (a b : ℕ) (o : Option ℕ) → shifted a (shifted b o) ≡ shifted (a + b) o
shifted_twice a b none = refl
shifted_twice a b (some k) = let z : a + (b + k) ≡ a + b + k = omega arith in ap some z

-- a first position that there is, counted from earlier
answer_here : (passed : ℕ) (o q : Option ℕ) → 0 < answer_of o → answer_of (shifted passed (or_later o q)) ≡ passed + answer_of o
answer_here passed none q h = absurd (omega arith)
answer_here passed (some k) q h = omega arith

-- ---- the loop

-- the elements that are left, of all that may stand there
pub record Rest (rec : List ℕ) (to at passed : ℕ) (v : List Element) (l : List Unit) (u : Unit) : Type 0 where
  pub elements : List Element
  pub holds : Holds rec at to elements
  pub is : position_of v l u ≡ shifted passed (position_of elements l u)
  pub sum : sum (map terms v) ≡ passed + sum (map terms elements)

pub record Seeking (rec w : List ℕ) (from to at passed : ℕ) : Type 0 where
  pub sought : Sought rec from to w
  pub inside : at ≤ to
  pub rest : (v : List Element) (l : List Unit) (u : Unit) → Holds rec from to v → unit_bytes l u ≡ w → Rest rec to at passed v l u

pub seeking_none : {rec w : List ℕ} {from to : ℕ} → Sought rec from to w → Seeking rec w from to from 0
seeking_none s = record {
  sought = s;
  inside = omega (arith, s.holds.ends);
  rest = λ v l u h e. record { elements = v; holds = h; is = zero_shift (position_of v l u); sum = omega arith };
}
  where
    zero_shift : (o : Option ℕ) → o ≡ shifted 0 o
    zero_shift none = refl
    zero_shift (some k) = let z : k ≡ 0 + k = omega arith in ap some z

-- a value has no more arguments than it may
value_few : (b : Base) (v : List Element) → wf_value b v ≡ true → sum (map terms v) ≤ 4096
value_few b [] h = omega arith
value_few b (e ∷ es) h = search conjuncts

module _ {rec w : List ℕ} {from to at passed : ℕ} (s : Seeking rec w from to at passed) where
  -- what is left of the value that was asked for
  pub seeking_value : Value rec at to
  seeking_value =
      let q : Sought rec from to w = s.sought in
      let r = s.rest q.elements q.lead q.last q.holds q.bytes in
      record { elements = r.elements; holds = r.holds }

  pub seeking_whole : Whole rec at
  seeking_whole = value_whole seeking_value

  pub seeking_end : to ≤ at → IsPosition rec from to w 0
  seeking_end k v l u h e = let r : Rest rec to at passed v l u = s.rest v l u h e in ended r.elements r.holds r.is
    where
      ended : (es : List Element) → Holds rec at to es → position_of v l u ≡ shifted passed (position_of es l u) → 0 ≡ answer_of (position_of v l u)
      ended [] g q = rw q
      ended (b ∷ bs) g q = absurd (omega (arith, g.ends, value_cons b bs, element_some b))

  module _ {end : ℕ} (lt : at < to) (t : ElementTo rec at end) where
    pub seeking_less : to - end < to - at
    seeking_less = omega (arith, element_on seeking_value lt t)

    pub seeking_part : (at ≤ end) × (end ≤ length rec)
    seeking_part = (omega (arith, element_on seeking_value lt t), omega (arith, element_on seeking_value lt t, seeking_value.holds.inside))

    -- an element has its own field
    pub seeking_long : 3 ≤ length (bytes_in rec at end)
    seeking_long = go seeking_value.elements seeking_value.holds
      where
        head_long : (e : Element) → 3 ≤ length (bytes_of (element_fields e))
        head_long (single l u) = omega arith
        head_long (range l r lo up inc) = omega arith

        go : (es : List Element) → Holds rec at to es → 3 ≤ length (bytes_in rec at end)
        go [] h = absurd (omega (arith, h.ends))
        go (e ∷ es) h = omega (arith, ap length (first_bytes e es h (end_is e es h t)), head_long e)

    module _ {n : ℕ} (sm : Small w) (en : n ≡ term_in (bytes_in rec at end) w) where
      -- the number is that of the first element that is left
      record Front (v : List Element) (l : List Unit) (u : Unit) : Type 0 where
        e : Element
        es : List Element
        holds : Holds rec end to es
        fine : (b : Base) × ((k : ℕ) × (wf_element b k e ≡ true))
        bytes : bytes_in rec at end ≡ bytes_of (element_fields e)
        term : n ≡ answer_of (term_position e l u)
        is : position_of v l u ≡ shifted passed (or_later (term_position e l u) (shifted (terms e) (position_of es l u)))
        total : sum (map terms v) ≡ passed + (terms e + sum (map terms es))

      front_of : (v : List Element) (l : List Unit) (u : Unit) → unit_bytes l u ≡ w → (es : List Element) → Holds rec at to es → position_of v l u ≡ shifted passed (position_of es l u)
          → sum (map terms v) ≡ passed + sum (map terms es) → Front v l u
      front_of v l u k [] h q z = absurd (omega (arith, h.ends))
      front_of v l u k (e ∷ es) h q z =
          let end-at = end_is e es h t in
          let x : bytes_in rec at end ≡ bytes_of (element_fields e) = first_bytes e es h end-at in
          let w' : term_in (bytes_of (element_fields e)) (unit_bytes l u) ≡ answer_of (term_position e l u) =
          term_position_lem h.base h.lead e l u (fine_first e es h end-at) (subst Small (sym k) sm) in
          record {
            e = e;
            es = es;
            holds = behind_first e es h end-at;
            fine = (h.base, (h.lead, fine_first e es h end-at));
            bytes = x;
            term = en ∙ ap (λ (y : List ℕ). term_in y w) x ∙ ap (term_in (bytes_of (element_fields e))) (sym k) ∙ w';
            is = q;
            total = z;
          }

      front : (v : List Element) (l : List Unit) (u : Unit) → Holds rec from to v → unit_bytes l u ≡ w → Front v l u
      front v l u h k = let r : Rest rec to at passed v l u = s.rest v l u h k in front_of v l u k r.elements r.holds r.is r.sum

      -- found: the first element that names the argument is the first that has a term for it
      pub seeking_found : 0 < n → IsPosition rec from to w (passed + n)
      seeking_found z v l u h k =
          let f : Front v l u = front v l u h k in
          let here : 0 < answer_of (term_position f.e l u) = omega (arith, f.term) in
          omega (arith, f.term, answer_here passed (term_position f.e l u) (shifted (terms f.e) (position_of f.es l u)) here, ap answer_of f.is)

      -- which is no more than a value's arguments
      pub seeking_most : 0 < n → passed + n ≤ 4096
      seeking_most z =
          let q : Sought rec from to w = s.sought in
          let is : passed + n ≡ answer_of (position_of q.elements q.lead q.last) = seeking_found z q.elements q.lead q.last q.holds q.bytes in
          by_option (position_of q.elements q.lead q.last)
          (λ y. omega (arith, ap answer_of y))
          (λ k y.
          let below = position_below q.base q.elements q.lead q.last k q.well y in
          omega (arith, ap answer_of y, below.0, below.1))

      module _ {more : ℕ} (em : more ≡ more_terms (bytes_in rec at end)) where
        passed_terms : (v : List Element) (l : List Unit) (u : Unit) (f : Front v l u) → more + 1 ≡ terms f.e
        passed_terms v l u f = ap (λ (k : ℕ). k + 1) (em ∙ ap more_terms f.bytes) ∙ terms_are f.fine.0 f.fine.1.0 f.e f.fine.1.1

        -- not found: the element is passed over by its number of terms
        pub seeking_on : n ≤ 0 → Seeking rec w from to end (passed + (more + 1))
        seeking_on z = record {
          sought = s.sought;
          inside = (element_on seeking_value lt t).1;
          rest = λ v l u h k.
              let f : Front v l u = front v l u h k in
              let m : more + 1 ≡ terms f.e = passed_terms v l u f in
              let none' : term_position f.e l u ≡ none = answer_none (term_position f.e l u) (omega (arith, f.term)) in
              let p : position_of v l u ≡ shifted passed (shifted (terms f.e) (position_of f.es l u)) =
              f.is ∙ ap (λ (o : Option ℕ). shifted passed (or_later o (shifted (terms f.e) (position_of f.es l u)))) none' in
              record {
                elements = f.es;
                holds = f.holds;
                is = p ∙ shifted_twice passed (terms f.e) (position_of f.es l u) ∙ ap (λ (j : ℕ). shifted (passed + j) (position_of f.es l u)) (sym m);
                sum = omega (arith, f.total, m);
              };
        }

        pub seeking_fits : passed + (more + 1) ≤ 4096
        seeking_fits =
            let q : Sought rec from to w = s.sought in
            let f : Front q.elements q.lead q.last = front q.elements q.lead q.last q.holds q.bytes in
            omega (arith, f.total, passed_terms q.elements q.lead q.last f, value_few q.base q.elements q.well)
