-- The walk: at every turn the elements behind those counted are the rules' elements from the n-th unit on.
use Prim.Native.Nat.{ℕ, suc, ◌+◌, ◌-◌, ◌*◌, ◌/◌, ◌^◌, ◌≤◌, ◌<◌}
use mathlib.Core.Path.{◌≡◌, refl, sym, ◌∙◌, ap, ap₂, subst}
use mathlib.Core.Bool.{true}
use mathlib.Core.List.{List, [], ◌∷◌, map}
use native.Mathlib.Omega.{arith}
use native.Mathlib.Nat.{add-zero}
use native.Mathlib.Numerals.{add-one}
use borrow.Author.Tests.{eqb-true, ltb-true, ltb-false, eq-eqb, ne_eqb, le-leb, lt-leb}
use lib.Dec.{ltb, eqb}
use lib.ListN.{length}
use Rattle.laws.specs.Cases.{Always, by_bool}
use Rattle.laws.specs.Lists.{is_nil}
use Rattle.rules.specs.Commands.{Element, single, range, leading, sum, terms}
use Rattle.rules.specs.Groups.{Join, Group, group, upper, Arg, arg, first_arg, full_arg, later_arg, later, later_elements, elements, collect, groups_of}
use Rattle.rules.specs.Refusals.{Res, ok, bad, map_r, group_broken, too_many}
use Rattle.rules.specs.Tokens.{sep_code, amp_}
use Rattle.rules.specs.Units.{Unit}
use Rattle.rules.proofs.ResultLaws.{by_res}
use Rattle.read_joins.specs.Joins.{joins_in, kind_at, unit_at, units_from, inner_at, groups_at, dashes_at, next_at, count, sep_kind, sep_place, begins_kind}
use Rattle.read_joins.specs.Answers.{element_answer, next_of, more_of, ArgEnd}
use Rattle.read_elements.specs.Shapes.{Later, group_at}
use Rattle.read_joins.specs.declared.Shape.{Shape}
use Rattle.read_joins.specs.declared.Shape.TheVariants.{Single, Range}
use Rattle.std.proofs.Common.{Result, Ok, Err}
use Rattle.rules.specs.declared.Refusal.{Refusal}
use Rattle.rules.specs.Reasons.{refusal}
use Rattle.token_table.specs.declared.Token.{Token as Entry}
use Rattle.read_elements.specs.Walk.{value_answer}
use Rattle.read_elements.specs.declared.Value.{Value}
use Rattle.read_joins.proofs.JoinLaws.{joins_length, kind_is, sep_place_is, group_end, group_more, groups_next, begins_next, dash_inside, dash_end, full_at, units_length}
use Rattle.read_elements.proofs.KeepLaws.{Keeps, upper_keeps}
use Rattle.read_elements.proofs.ElementLaws.{inner_sep}

-- ---- an element has as many leading units as the one before

abbrev LeadLong : ℕ → Res Element → Type 0
LeadLong k (ok e) = length (leading e) ≡ k
LeadLong k (bad n p) = Always

lead_long : (l : List Unit) (u : Unit) (k : ℕ) (r : Res Element) → length l ≡ k → Keeps l u r → LeadLong k r
lead_long l u k (ok e) h i = rw i.0 h
lead_long l u k (bad n p) h i = tt

later_arg_long : (l : List Unit) (p : ℕ) (a : Arg) → LeadLong (length l) (later_arg l p a)
later_arg_long l p (arg m u r) =
    by_bool (eqb (length m) (length l))
    (λ y. rw (y, later_arg) (lead_long m u (length l) (upper m u r) (eqb-true (length m) (length l) y) (upper_keeps r m u)))
    (λ y. rw (y, later_arg) tt)

later_long : (l : List Unit) (g : Group) → LeadLong (length l) (later l g)
later_long l (group s q p i js) =
    by_bool (eqb (sep_code s) (sep_code amp_))
    (λ y. by_bool (is_nil l) (λ z. rw (y, later, z) tt) (λ z. rw (y, later, z) (lead_long l i (length l) (upper l i js) refl (upper_keeps js l i))))
    (λ y. rw (y, later) (later_arg_long l p (full_arg i js)))

-- ---- the first element is one in full that has its own number of units

first_later : (js : List (Join Unit)) → dashes_at js 1 ≤ 3 → (kind_at js 0 ≡ 2 → ⊥)
    → first_arg (inner_at js 1) (full_arg (unit_at js 0) (inner_at js 1)) ≡ later (units_from js 0 (dashes_at js 1)) (group_at js 0)
first_later js h k =
    let d = dashes_at js 1 in
    rw (full_at js 0, units_length d js 0, le-leb d 3 h, first_arg, ne_eqb (kind_at js 0) 2 k, later, full_at js 0, units_length d js 0, eq-eqb d d refl, later_arg)

module _ (b : ℕ) (cs : List ℕ) (ts : List Entry) where
  groups_all : groups_at (joins_in b cs ts) 0 ≡ groups_of (collect (joins_in b cs ts))
  unfolding groups_at
  groups_all = refl

  kind_first : kind_at (joins_in b cs ts) 0 ≡ 3
  unfolding sep_kind
  kind_first = kind_is b cs ts 0

  pub starts_first : begins_kind (kind_at (joins_in b cs ts) 0) ≡ true
  starts_first = rw kind_first

  -- the value's first element, and those behind it
  all_groups : 0 < count ts → groups_of (collect (joins_in b cs ts)) ≡ group_at (joins_in b cs ts) 0 ∷ groups_at (joins_in b cs ts) 1
  all_groups h = sym groups_all ∙ group_more (joins_in b cs ts) 0 (omega (arith, joins_length b cs ts)) starts_first

  pub elements_later : dashes_at (joins_in b cs ts) 1 ≤ 3
      → elements (groups_of (collect (joins_in b cs ts))) ≡ later_elements 1 (units_from (joins_in b cs ts) 0 (dashes_at (joins_in b cs ts) 1)) (groups_at (joins_in b cs ts) 0)
  elements_later h =
      let js = joins_in b cs ts in
      let k : kind_at js 0 ≡ 2 → ⊥ = λ e. absurd (omega (arith, kind_first)) in
      by_bool (ltb 0 (count ts))
      (λ y. rw (groups_all, all_groups (ltb-true 0 (count ts) y), first_later js h k))
      (λ y. rw (← groups_all, group_end js 0 (omega (arith, joins_length b cs ts, ltb-false 0 (count ts) y))))

  -- more than three leading units in the first: the fifth unit is too many
  pub elements_long : 3 < dashes_at (joins_in b cs ts) 1 → elements (groups_of (collect (joins_in b cs ts))) ≡ bad group_broken (sep_place ts 4)
  elements_long h =
      let js = joins_in b cs ts in let d = dashes_at js 1 in
      by_bool (ltb 0 (count ts))
      (λ y. rw (all_groups (ltb-true 0 (count ts) y), full_at js 0, units_length d js 0, lt-leb d 3 h, first_arg, inner_sep 3 js 1 h, sep_place_is b cs ts 4))
      (λ y. let z : d ≡ 0 = dash_end js 1 (λ e. absurd (omega (arith, dash_inside js 1 e, joins_length b cs ts, ltb-false 0 (count ts) y))) in absurd (omega arith))

-- ---- a value of one unit is one element

pub one_element : (b : ℕ) (cs : List ℕ) (ts : List Entry) → length ts ≡ 1 → elements (groups_of (collect (joins_in b cs ts))) ≡ ok (single [] (unit_at (joins_in b cs ts) 0) ∷ [])
unfolding joins_in unit_at
one_element b cs [] h = absurd (omega arith)
one_element b cs (t ∷ []) h = refl
one_element b cs (t ∷ u ∷ ts) h = absurd (omega arith)

pub one_answer : (b : ℕ) (cs : List ℕ) (ts : List Entry) → length ts ≡ 1 → Ok (record { count = 1; args = 1 }) ≡ value_answer (elements (groups_of (collect (joins_in b cs ts))))
one_answer b cs ts h = rw (one_element b cs ts h)

-- ---- a step's answer and the rules' element

-- what an answer tells of the element that it is
pub answer_next : (n : ℕ) (e : Element) {x : Shape} → Ok x ≡ element_answer n (ok e) → next_of x ≡ n
answer_next n (single l u) {x} h = let q : x ≡ Single n = cc in rw q
answer_next n (range l r lo up inc) {x} h = let q : x ≡ Range up inc ((up - lo) / inc) n = cc in rw q

pub answer_more : (n : ℕ) (e : Element) {x : Shape} → Ok x ≡ element_answer n (ok e) → more_of x + 1 ≡ terms e
answer_more n (single l u) {x} h = let q : x ≡ Single n = cc in rw q
answer_more n (range l r lo up inc) {x} h = let q : x ≡ Range up inc ((up - lo) / inc) n = cc in rw q

answer_fine : {C : Type 0} (n : ℕ) (e : Element) {r : Refusal} → Err r ≡ element_answer n (ok e) → C
answer_fine n (single l u) h = absurd cc
answer_fine n (range l r lo up inc) h = absurd cc

pub next_from : (js : List (Join Unit)) (n : ℕ) → n ≤ next_at js n
unfolding next_at
next_from js n = omega arith

-- an element that was found
record Found (js : List (Join Unit)) (l : List Unit) (n : ℕ) (x : Shape) : Type 0 where
  el : Element
  is : later l (group_at js n) ≡ ok el
  next : next_of x ≡ next_at js (n + 1)
  size : more_of x + 1 ≡ terms el
  long : length (leading el) ≡ length l

module _ (js : List (Join Unit)) (l : List Unit) (k n : ℕ) (h : length l ≡ k) where
  found : {x : Shape} → Later js k n (Ok x) → Found js l n x
  found {x} y =
      by_res (later l (group_at js n))
      (λ el t.
      let v : Ok x ≡ element_answer (next_at js (n + 1)) (ok el) = y l h ∙ rw t in
      record {
        el = el;
        is = t;
        next = answer_next (next_at js (n + 1)) el v;
        size = answer_more (next_at js (n + 1)) el v;
        long = subst (LeadLong (length l)) t (later_long l (group_at js n));
      })
      (λ nr p t. let v : Ok x ≡ Err (refusal nr p) = y l h ∙ rw t in absurd cc)

  missed : {C : Type 0} {r : Refusal} → Later js k n (Err r) → ((nr p : ℕ) → later l (group_at js n) ≡ bad nr p → r ≡ refusal nr p → C) → C
  missed {C} {r} y f =
      by_res (later l (group_at js n))
      (λ el t. answer_fine (next_at js (n + 1)) el (y l h ∙ rw t))
      (λ nr p t. let v : Err r ≡ element_answer (next_at js (n + 1)) (bad nr p) = y l h ∙ rw t in f nr p t cc)

-- ---- the invariant

-- an answer
abbrev counted : ℕ → ℕ → Result Value Refusal
counted c a = Ok (record { count = c; args = a })

-- the answer where c elements of a arguments come before
abbrev more_answer : ℕ → ℕ → Res (List Element) → Result Value Refusal
more_answer c a (ok es) = Ok (record { count = c + length es; args = a + sum (map terms es) })
more_answer c a (bad k p) = Err (refusal k p)

more_none : (r : Res (List Element)) → value_answer r ≡ more_answer 0 0 r
more_none (ok es) = ap₂ counted (omega arith) (omega arith)
more_none (bad n p) = refl

more_cons : (c a : ℕ) (e : Element) (r : Res (List Element)) → more_answer c a (map_r (λ es. e ∷ es) r) ≡ more_answer (suc c) (a + terms e) r
more_cons c a e (ok es) = ap₂ counted (omega arith) (omega arith)
more_cons c a e (bad n p) = refl

one_step : (js : List (Join Unit)) (l : List Unit) (c a n : ℕ) (el : Element) (nx mo : ℕ) → c < 64 → groups_at js n ≡ group_at js n ∷ groups_at js (n + 1)
    → later l (group_at js n) ≡ ok el → nx ≡ next_at js (n + 1) → mo + 1 ≡ terms el
    → more_answer c a (later_elements (suc c) l (groups_at js n)) ≡ more_answer (c + 1) (a + (mo + 1)) (later_elements (suc (c + 1)) (leading el) (groups_at js nx))
one_step js l c a n el nx mo f g t en em =
    rw (g, le-leb (suc c) 64 (omega arith), later_elements, t, em, en, groups_next js (n + 1), add-one c) (more_cons c a el (later_elements (suc (suc c)) (leading el) (groups_at js (n + 1))))

pub record Walking (js : List (Join Unit)) (k n c a : ℕ) : Type 0 where
  pub l : List Unit
  pub long : length l ≡ k
  pub is : value_answer (elements (groups_of (collect js))) ≡ more_answer c a (later_elements (suc c) l (groups_at js n))
  pub starts : begins_kind (kind_at js n) ≡ true
  pub few : c ≤ 64
  pub small : a ≤ c * 4294967296

module _ (b : ℕ) (cs : List ℕ) (ts : List Entry) where
  pub walking_none : {q : ℕ} → ArgEnd ts 1 q → q - 1 ≤ 3 → Walking (joins_in b cs ts) (q - 1) 0 0 0
  walking_none {q} a h =
      let js = joins_in b cs ts in
      let d : q - 1 ≡ dashes_at js 1 = omega (arith, a b cs) in
      record {
        l = units_from js 0 (dashes_at js 1);
        long = units_length (dashes_at js 1) js 0 ∙ sym d;
        is = more_none (elements (groups_of (collect js))) ∙ ap (more_answer 0 0) (elements_later b cs ts (omega arith));
        starts = starts_first b cs ts;
        few = omega arith;
        small = omega arith;
      }

  pub walking_long : {q p : ℕ} {x : Refusal} → ArgEnd ts 1 q → 3 < q - 1 → p ≡ sep_place ts 4 → x ≡ refusal group_broken p → Err x ≡ value_answer (elements (groups_of (collect (joins_in b cs ts))))
  walking_long a h v x = rw (x, elements_long b cs ts (omega (arith, a b cs)), v)

module _ (b : ℕ) (cs : List ℕ) (ts : List Entry) {k n c a : ℕ} (w : Walking (joins_in b cs ts) k n c a) where
  pub walking_end : {m : ℕ} → m ≡ count ts → m ≤ n → Ok (record { count = c; args = a }) ≡ value_answer (elements (groups_of (collect (joins_in b cs ts))))
  walking_end e h =
      let g = group_end (joins_in b cs ts) n (omega (arith, joins_length b cs ts)) in
      sym (w.is ∙ rw (g, add-zero c, add-zero a))

  here : {m : ℕ} → m ≡ count ts → n < m → groups_at (joins_in b cs ts) n ≡ group_at (joins_in b cs ts) n ∷ groups_at (joins_in b cs ts) (n + 1)
  here e h = group_more (joins_in b cs ts) n (omega (arith, joins_length b cs ts)) w.starts

  pub walking_many : {m p : ℕ} {x : Refusal} → m ≡ count ts → n < m → 64 ≤ c → p ≡ sep_place ts n → x ≡ refusal too_many p → Err x ≡ value_answer (elements (groups_of (collect (joins_in b cs ts))))
  walking_many e h f v x = rw x (sym (w.is ∙ rw (here e h, lt-leb (suc c) 64 (omega arith), later_elements, sep_place_is b cs ts n, v)))

  module _ {m : ℕ} (e : m ≡ count ts) (h : n < m) where
    pub walking_bad : {r : Refusal} → Later (joins_in b cs ts) k n (Err r) → c < 64 → Err r ≡ value_answer (elements (groups_of (collect (joins_in b cs ts))))
    walking_bad y f =
        missed (joins_in b cs ts) w.l k n w.long y
        (λ nr p t q. ap Err q ∙ sym (w.is ∙ rw (here e h, le-leb (suc c) 64 (omega arith), later_elements, t)))

    pub walking_more : {x : Shape} {nx mo : ℕ} → Later (joins_in b cs ts) k n (Ok x) → c < 64 → nx ≡ next_of x → mo ≡ more_of x → mo < 2 ^ 32
        → Walking (joins_in b cs ts) k nx (c + 1) (a + (mo + 1))
    walking_more {x} {nx} {mo} y f en em sm =
        let js = joins_in b cs ts in
        let v = found js w.l k n w.long y in
        record {
          l = leading v.el;
          long = v.long ∙ w.long;
          is = w.is ∙ one_step js w.l c a n v.el nx mo f (here e h) v.is (en ∙ v.next) (omega (arith, v.size));
          starts = rw (en ∙ v.next) (begins_next js (n + 1));
          few = omega arith;
          small = omega (arith, w.small);
        }

    pub walking_less : {x : Shape} {nx : ℕ} → Later (joins_in b cs ts) k n (Ok x) → nx ≡ next_of x → count ts - nx < count ts - n
    walking_less y en = let v = found (joins_in b cs ts) w.l k n w.long y in omega (arith, en ∙ v.next, next_from (joins_in b cs ts) (n + 1))
