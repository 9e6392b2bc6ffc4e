-- A value that was read from the front of bytes is well formed and written to the same bytes again; and a well-formed value is read back from its fields.
use mathlib.Core.Path.{◌≡◌, refl, sym, ap, subst}
use mathlib.Core.Bool.{Bool, true, false, ◌&&◌, ◌||◌, not}
use mathlib.Core.List.{List, [], ◌∷◌, ◌++◌, map}
use mathlib.Core.Option.{some}
use Prim.Native.Nat.{ℕ, suc, ◌+◌, ◌≤◌}
use native.Mathlib.Omega.{arith}
use borrow.Author.Tests.{not-true, eqb-true, eq-eqb, ne_eqb, le-leb, leb-true}
use lib.Dec.{leb, eqb}
use lib.ListN.{length}
use Rattle.laws.specs.Cases.{and_l, and_r, or_true}
use Rattle.laws.specs.Lists.{all}
use Rattle.rules.specs.Units.{Base}
use Rattle.rules.specs.Commands.{Element, single, range, leading, terms, sum, value_count}
use Rattle.rules.specs.Records.{is_unit, is_element, element_fields, many, bytes_of}
use Rattle.rules.specs.WellFormed.{wf_element, wf_value}
use Rattle.rules.proofs.ValueBack.{v_lead, v_all, v_few, v_count, ok_length, and_both}
use Rattle.record_walk.specs.Fronts.{head_tag}
use Rattle.record_walk.proofs.FrontLaws.{only_some, Small, goods, several_is, several_all}
use Rattle.judge_value.specs.Elements.{element, Before, joins, joining, next_element, behind, none_before, value}
use Rattle.judge_value.proofs.ElementBytes.{element_is, element_back}

-- an element that is well formed and joins those before it
abbrev good : Before → Element → Bool
good s e = wf_element s.base (length (leading e)) e && leb (length (leading e)) 3 && joining s e

abbrev all_good : Before → List Element → Bool
all_good s es = goods is_element next_element behind good element_fields s es

next_is_lem : (s : Before) (r : List ℕ) (e : Element) (r' : List ℕ) → Small r → is_element (head_tag r) ≡ true → next_element s r ≡ some (e, r')
    → (good s e ≡ true) × (r ≡ bytes_of (element_fields e) ++ r')
unfolding next_element
next_is_lem s r e r' sm h q =
    only_some (joining s) (element s.base r) e r' q
    (λ j k. let w = element_is s.base r e r' sm h k in (rw (w.well, le-leb (length (leading e)) 3 w.few, j), w.bytes))

ruleset parts = (and_l, and_r)

module _ (s : Before) (e : Element) (h : good s e ≡ true) where
  g_well : wf_element s.base (length (leading e)) e ≡ true
  g_well = search parts

  g_few : leb (length (leading e)) 3 ≡ true
  g_few = search parts

  g_joins : joining s e ≡ true
  g_joins = search parts

good_of : (s : Before) (e : Element) → wf_element s.base (length (leading e)) e ≡ true → leb (length (leading e)) 3 ≡ true → joining s e ≡ true → good s e ≡ true
good_of s e h k j = rw (h, k, j)

-- the tags that end an element's units
abbrev ended : ℕ → Bool
ended t = not (is_unit t)

next_back : (s : Before) (e : Element) (rest : List ℕ) → good s e ≡ true → ended (head_tag rest) ≡ true → next_element s (bytes_of (element_fields e) ++ rest) ≡ some (e, rest)
unfolding next_element
next_back s e rest h t =
    rw (
      element_back s.base e rest (g_well s e h) (leb-true (length (leading e)) 3 (g_few s e h)) (not-true (is_unit (head_tag rest)) t),
      g_joins s e h,
    )

opens : (e : Element) (rest : List ℕ) → is_element (head_tag (bytes_of (element_fields e) ++ rest)) ≡ true
opens (single l u) rest = refl
opens (range l r lo up inc) rest = refl

closes : (e : Element) (rest : List ℕ) → ended (head_tag (bytes_of (element_fields e) ++ rest)) ≡ true
closes (single l u) rest = refl
closes (range l r lo up inc) rest = refl

-- ---- joined elements and the rule on values

abbrev pub state : Base → ℕ → ℕ → Before
state b k a = record { base = b; units = k; arguments = a }

pub joins_sum : (k a n m : ℕ) → joins k a n m ≡ true → a + m ≤ 4096
unfolding joins
joins_sum k a n m h = leb-true (a + m) 4096 (and_l (leb (a + m) 4096) (eqb k 0 || eqb k n) h)

joins_same : (k a n m : ℕ) → joins (suc k) a (suc n) m ≡ true → n ≡ k
unfolding joins
joins_same k a n m h =
    let q : eqb (suc k) (suc n) ≡ true = rw (ne_eqb (suc k) 0 (omega arith)) at (and_r (leb (a + m) 4096) (eqb (suc k) 0 || eqb (suc k) (suc n)) h) in
    omega (arith, eqb-true (suc k) (suc n) q)

joined : (k a n m : ℕ) → a + m ≤ 4096 → k ≡ n → joins k a n m ≡ true
unfolding joins
joined k a n m h e = rw (le-leb (a + m) 4096 h, eq-eqb k n e, or_true (eqb k 0))

joined_first : (n m : ℕ) → m ≤ 4096 → joins 0 0 n m ≡ true
unfolding joins
joined_first n m h = rw (le-leb (0 + m) 4096 (omega arith))

later_well : (b : Base) (n a : ℕ) (es : List Element) → a ≤ 4096 → all_good (state b (suc n) a) es ≡ true → (all (wf_element b n) es ≡ true) × (a + sum (map terms es) ≤ 4096)
later_well b n a [] h g = (refl, omega arith)
later_well b n a (e ∷ es) h g =
    let s : Before = state b (suc n) a in
    let ge : good s e ≡ true = and_l (good s e) (all_good (behind s e) es) g in
    let same : length (leading e) ≡ n = joins_same n a (length (leading e)) (terms e) (g_joins s e ge) in
    let few : a + terms e ≤ 4096 = joins_sum (suc n) a (suc (length (leading e))) (terms e) (g_joins s e ge) in
    let ih = later_well b n (a + terms e) es few (rw same at (and_r (good s e) (all_good (behind s e) es) g)) in
    (rw (subst (λ m. wf_element b m e ≡ true) same (g_well s e ge)) ih.0, omega (arith, ih.1))

later_good : (b : Base) (n a : ℕ) (es : List Element) → n ≤ 3 → all (wf_element b n) es ≡ true → a + sum (map terms es) ≤ 4096 → all_good (state b (suc n) a) es ≡ true
later_good b n a [] k h c = refl
later_good b n a (e ∷ es) k h c =
    let we : wf_element b n e ≡ true = and_l (wf_element b n e) (all (wf_element b n) es) h in
    let same : n ≡ length (leading e) = sym (ok_length b n e we) in
    let ih = later_good b n (a + terms e) es k (and_r (wf_element b n e) (all (wf_element b n) es) h) (omega arith) in
    and_both (good (state b (suc n) a) e) (all_good (behind (state b (suc n) a) e) es)
    (good_of (state b (suc n) a) e (subst (λ m. wf_element b m e ≡ true) same we) (le-leb (length (leading e)) 3 (omega arith))
    (joined (suc n) a (suc (length (leading e))) (terms e) (omega arith) (ap suc same)))
    (subst (λ m. all_good (state b (suc m) (a + terms e)) es ≡ true) same ih)

value_well : (b : Base) (v : List Element) → length v ≤ 64 → all_good (none_before b) v ≡ true → wf_value b v ≡ true
value_well b [] n g = refl
value_well b (e ∷ es) n g =
    let s : Before = none_before b in
    let ge : good s e ≡ true = and_l (good s e) (all_good (behind s e) es) g in
    let few : 0 + terms e ≤ 4096 = joins_sum 0 0 (suc (length (leading e))) (terms e) (g_joins s e ge) in
    let w = later_well b (length (leading e)) (0 + terms e) es few (and_r (good s e) (all_good (behind s e) es) g) in
    rw (g_few s e ge, g_well s e ge, w.0, le-leb (length (e ∷ es)) 64 n, le-leb (value_count (e ∷ es)) 4096 (omega (arith, w.1)))

value_good : (b : Base) (v : List Element) → wf_value b v ≡ true → (length v ≤ 64) × (all_good (none_before b) v ≡ true)
value_good b [] h = (omega arith, refl)
value_good b (e ∷ es) h =
    let n : ℕ = length (leading e) in
    let c : terms e + sum (map terms es) ≤ 4096 = leb-true (value_count (e ∷ es)) 4096 (v_count b e es h) in (
      leb-true (length (e ∷ es)) 64 (v_few b e es h),
      and_both (good (none_before b) e) (all_good (behind (none_before b) e) es)
          (good_of (none_before b) e (and_l (wf_element b n e) (all (wf_element b n) es) (v_all b e es h)) (v_lead b e es h) (joined_first (suc n) (terms e) (omega arith)))
          (later_good b n (0 + terms e) es (leb-true n 3 (v_lead b e es h)) (and_r (wf_element b n e) (all (wf_element b n) es) (v_all b e es h)) (omega arith)),
    )

-- ---- the value

pub value_is : (b : Base) (r : List ℕ) (v : List Element) (r' : List ℕ) → Small r → value b r ≡ some (v, r')
    → (wf_value b v ≡ true) × (r ≡ bytes_of (many element_fields v) ++ r')
value_is b r v r' s e =
    let w = several_is is_element next_element behind good element_fields next_is_lem 64 (none_before b) r v r' s e in
    (value_well b v w.few w.well, w.bytes)

pub value_back : (b : Base) (v : List Element) (rest : List ℕ) → wf_value b v ≡ true → is_element (head_tag rest) ≡ false → is_unit (head_tag rest) ≡ false
    → value b (bytes_of (many element_fields v) ++ rest) ≡ some (v, rest)
value_back b v rest h t n =
    let g = value_good b v h in
    several_all is_element next_element behind good element_fields ended next_back opens closes v 64 (none_before b) rest g.1 g.0 t (rw n)
