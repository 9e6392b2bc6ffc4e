-- One element, decision by decision: each answer is the rule for the joined units that stand there.
use Prim.Native.Nat.{ℕ, zero, suc, ◌+◌, ◌-◌, ◌/◌, ◌≤◌, ◌<◌}
use mathlib.Core.Path.{◌≡◌, refl, sym, ap, ◌∙◌, subst}
use mathlib.Core.Bool.{Bool, true, false, cond}
use mathlib.Core.List.{List, [], ◌∷◌}
use Rattle.std.proofs.Common.{Option, Some, None, Result, Ok, Err}
use native.Mathlib.Omega.{arith}
use native.Mathlib.Nat.{add-zero}
use borrow.Author.Tests.{eq-eqb, ne_eqb, le-leb, lt-leb, eqb-true, eqb-false}
use lib.Dec.{leb, eqb, eqb-suc-zero}
use lib.ListN.{length}
use Rattle.laws.specs.Cases.{by_bool}
use Rattle.laws.specs.Lists.{is_nil}
use Rattle.rules.specs.Groups.{Join, end_of, increment, upper, later_arg, later, sep_at as sepPlaceIn}
use Rattle.rules.specs.Refusals.{group_broken}
use Rattle.rules.specs.Units.{size, Unit}
use Rattle.read_joins.specs.Joins.{joins_in, kind_at, sep_place_at, unit_at, units_from, inner_at, dashes_at, next_at, sep_kind, sep_place, unit_place, begins_kind}
use Rattle.read_joins.specs.Answers.{end_answer, end_at, both_ends, step_end, element_answer, ArgEnd, NoMore}
use Rattle.read_elements.specs.Shapes.{Increment, Upper, Ranged, Ordered, Later, LastEnd, broken_place}
use Rattle.read_joins.specs.declared.End.{End}
use Rattle.read_joins.specs.declared.Ends.{Ends}
use Rattle.rules.specs.declared.Refusal.{Refusal}
use Rattle.rules.specs.Reasons.{refusal}
use denote.Enum.Bare.{sameb}
use Rattle.token_table.specs.contracts.Kind.{the_type}
use Rattle.token_table.specs.declared.Kind.{Kind}
use Rattle.token_table.specs.declared.Kind.TheVariants.{AmpDash, PlusPlus}
use Rattle.token_table.specs.declared.Token.{Token as Entry}
use Rattle.token_table.specs.Table.{number}
use Rattle.read_joins.specs.declared.Shape.{Shape}
use Rattle.read_joins.specs.declared.Shape.TheVariants.{Single, Range}
use Rattle.read_joins.proofs.JoinLaws.{kind_is, sep_place_is, place_is, inner_more, inner_end, next_end, next_more, dash_more, dash_test_lem, full_at, units_length}
use Rattle.read_joins.proofs.EndLaws.{step_none, step_some, ends_apart, ends_both}
use Rattle.read_joins.proofs.GroupLaws.{told_same, told_apart, begins_is}

units_nil : (d : ℕ) (js : List (Join Unit)) (n : ℕ) → is_nil (units_from js n d) ≡ eqb d 0
units_nil zero js n = refl
units_nil (suc d) js n = sym (eqb-suc-zero d)

next_dashes : (d : ℕ) (js : List (Join Unit)) (n : ℕ) → dashes_at js n ≡ d → next_at js (n + d) ≡ next_at js n
next_dashes zero js n h = rw (add-zero n)
next_dashes (suc d) js n h =
    let e = dash_test_lem js n d h in
    let y : begins_kind (kind_at js n) ≡ false = rw e in
    let m = dash_more js n e in
    let i : dashes_at js (n + 1) ≡ d = omega arith in
    let q : n + suc d ≡ n + 1 + d = omega arith in
    rw q (next_dashes d js (n + 1) i ∙ sym (next_more js n y))

pub inner_sep : (i : ℕ) (js : List (Join Unit)) (n : ℕ) → i < dashes_at js n → sepPlaceIn i (inner_at js n) ≡ sep_place_at js (n + i)
inner_sep i js n h = go i n (dashes_at js n) refl h
  where
    go : (i n d : ℕ) → dashes_at js n ≡ d → i < d → sepPlaceIn i (inner_at js n) ≡ sep_place_at js (n + i)
    go i n zero e h = absurd (omega arith)
    go zero n (suc d) e h =
        let y : begins_kind (kind_at js n) ≡ false = rw (dash_test_lem js n d e) in
        rw (inner_more js n y, add-zero n)
    go (suc i) n (suc d) e h =
        let k = dash_test_lem js n d e in
        let y : begins_kind (kind_at js n) ≡ false = rw k in
        let m = dash_more js n k in
        let q : n + suc i ≡ n + 1 + i = omega arith in
        rw (inner_more js n y, q) (go i (n + 1) d (omega arith) (omega arith))

module _ (b : ℕ) (cs : List ℕ) (ts : List Entry) (n : ℕ) where
  kind_of_lem : {k : ℕ} → k ≡ sep_kind ts n → kind_at (joins_in b cs ts) n ≡ k
  kind_of_lem e = kind_is b cs ts n ∙ sym e

  module _ (z lo up : ℕ) where
    pub stepped_bad : {e : Option End} {p : ℕ} {x : Refusal} → sep_kind ts n ≡ 4 → e ≡ end_at (joins_in b cs ts) n → None ≡ step_end z e → p ≡ unit_place ts n → x ≡ refusal group_broken p
        → Increment (joins_in b cs ts) n z lo up (Err x)
    unfolding end_at
    stepped_bad h e q v x l r s =
        let k = kind_is b cs ts n ∙ h in
        let y : begins_kind (kind_at (joins_in b cs ts) n) ≡ false = rw k in
        let st : step_end (size r) (end_answer (end_of (unit_at (joins_in b cs ts) n))) ≡ None = rw (← s, ← e, ← q) in
        rw (x, inner_more (joins_in b cs ts) n y, eq-eqb (kind_at (joins_in b cs ts) n) 4 k, increment, step_none r (unit_at (joins_in b cs ts) n) st, place_is b cs ts n, v)

    pub stepped_more : {e : Option End} {inc : ℕ} {x : Result Shape Refusal} → sep_kind ts n ≡ 4 → e ≡ end_at (joins_in b cs ts) n → Some inc ≡ step_end z e
        → NoMore ts (n + 1) lo up inc x → Increment (joins_in b cs ts) n z lo up x
    unfolding end_at
    stepped_more {e} {inc} {x} h e' q m l r s =
        let k = kind_is b cs ts n ∙ h in
        let y : begins_kind (kind_at (joins_in b cs ts) n) ≡ false = rw k in
        let st : step_end (size r) (end_answer (end_of (unit_at (joins_in b cs ts) n))) ≡ Some inc = rw (← s, ← e', ← q) in
        rw (next_more (joins_in b cs ts) n y, inner_more (joins_in b cs ts) n y, eq-eqb (kind_at (joins_in b cs ts) n) 4 k, increment, step_some r (unit_at (joins_in b cs ts) n) inc st) (m b cs l r)

    pub inc_end : {k t : ℕ} {f : Bool} → k ≡ sep_kind ts n → f ≡ begins_kind k → f ≡ true → t ≡ up - lo → Increment (joins_in b cs ts) n z lo up (Ok (Range up 1 t n))
    inc_end e g h q l r s =
        let y = begins_is b cs ts n true e g h in
        let d : (up - lo) / 1 ≡ up - lo = omega arith in
        rw (inner_end (joins_in b cs ts) n y, next_end (joins_in b cs ts) n y, d, q)

    pub inc_bad : (k : Kind) {p : ℕ} {f g : Bool} {x : Refusal} → number k ≡ sep_kind ts n → f ≡ begins_kind (number k) → f ≡ false → g ≡ sameb the_type k PlusPlus → g ≡ false
        → p ≡ sep_place ts n → x ≡ refusal group_broken p → Increment (joins_in b cs ts) n z lo up (Err x)
    inc_bad k e g h i o v x l r s =
        let y = begins_is b cs ts n false e g h in
        rw (x, inner_more (joins_in b cs ts) n y, ne_eqb (kind_at (joins_in b cs ts) n) 4 (λ w. told_apart k PlusPlus i o (sym (kind_of_lem e) ∙ w)), increment, sep_place_is b cs ts n, v)

    pub ord_yes : {x : Result Shape Refusal} → begins_kind (sep_kind ts n) ≡ false → lo ≤ up → Increment (joins_in b cs ts) (n + 1) z lo up x → Ordered (joins_in b cs ts) n z lo up x
    ord_yes g h i l r s =
        let y : begins_kind (kind_at (joins_in b cs ts) n) ≡ false = rw (kind_is b cs ts n, g) in
        rw (next_more (joins_in b cs ts) n y, le-leb lo up h) (i l r s)

    pub ord_bad : {p : ℕ} {x : Refusal} → up < lo → p ≡ unit_place ts n → x ≡ refusal group_broken p → Ordered (joins_in b cs ts) n z lo up (Err x)
    ord_bad h v x l r s = rw (x, lt-leb lo up h, place_is b cs ts n, v)

  pub ran_both : {d e : Option End} {x : Ends} {y : Result Shape Refusal} → begins_kind (sep_kind ts n) ≡ false → d ≡ end_at (joins_in b cs ts) (n - 1) → e ≡ end_at (joins_in b cs ts) n
      → Some x ≡ both_ends d e → Ordered (joins_in b cs ts) n x.size x.lower x.upper y → Ranged (joins_in b cs ts) n y
  unfolding end_at
  ran_both {d} {e} {x} {y} g h i w o l k =
      let js = joins_in b cs ts in
      let f : begins_kind (kind_at js n) ≡ false = rw (kind_is b cs ts n, g) in
      let a : both_ends (end_answer (end_of (unit_at js (n - 1)))) (end_answer (end_of (unit_at js n))) ≡ Some x = rw (← h, ← i, ← w) in
      let m = ends_both (end_of (unit_at js (n - 1))) (end_of (unit_at js n)) x a in
      let t = o l m.radix m.sized in
      by_bool (leb x.lower x.upper)
      (λ c. rw (inner_more js n f, eq-eqb (kind_at js n) (cond (is_nil l) 1 0) k, upper, m.is, c) (rw c at t))
      (λ c. rw (inner_more js n f, eq-eqb (kind_at js n) (cond (is_nil l) 1 0) k, upper, m.is, c) (rw c at t))

  pub ran_apart : {d e : Option End} {p : ℕ} {x : Refusal} → begins_kind (sep_kind ts n) ≡ false → d ≡ end_at (joins_in b cs ts) (n - 1) → e ≡ end_at (joins_in b cs ts) n
      → None ≡ both_ends d e → p ≡ sep_place ts n → x ≡ refusal group_broken p → Ranged (joins_in b cs ts) n (Err x)
  unfolding end_at
  ran_apart {d} {e} g h i w v x l k =
      let y : begins_kind (kind_at (joins_in b cs ts) n) ≡ false = rw (kind_is b cs ts n, g) in
      let a : both_ends (end_answer (end_of (unit_at (joins_in b cs ts) (n - 1)))) (end_answer (end_of (unit_at (joins_in b cs ts) n))) ≡ None = rw (← h, ← i, ← w) in
      rw (x, inner_more (joins_in b cs ts) n y, eq-eqb (kind_at (joins_in b cs ts) n) (cond (is_nil l) 1 0) k, upper, ends_apart (end_of (unit_at (joins_in b cs ts) (n - 1))) (end_of (unit_at (joins_in b cs ts) n)) a, sep_place_is b cs ts n, v)

  -- what follows an argument
  module _ (s : Bool) where
    pub up_end : {k : ℕ} {f : Bool} → k ≡ sep_kind ts n → f ≡ begins_kind k → f ≡ true → Upper (joins_in b cs ts) n s (Ok (Single n))
    up_end e g h l i = let y = begins_is b cs ts n true e g h in rw (inner_end (joins_in b cs ts) n y, next_end (joins_in b cs ts) n y)

    pub up_range : (k w : Kind) {t : Bool} {x : Result Shape Refusal} → number k ≡ sep_kind ts n → number w ≡ cond s 1 0 → t ≡ sameb the_type k w → t ≡ true → Ranged (joins_in b cs ts) n x → Upper (joins_in b cs ts) n s x
    up_range k w e v g h r l i = r l (kind_of_lem e ∙ told_same k w g h ∙ v ∙ rw i)

    pub up_bad : (k w : Kind) {p : ℕ} {f t : Bool} {x : Refusal} → number k ≡ sep_kind ts n → f ≡ begins_kind (number k) → f ≡ false → number w ≡ cond s 1 0 → t ≡ sameb the_type k w → t ≡ false
        → p ≡ sep_place ts n → x ≡ refusal group_broken p → Upper (joins_in b cs ts) n s (Err x)
    up_bad k w e g h v u o q x l i =
        let js = joins_in b cs ts in
        let y = begins_is b cs ts n false e g h in
        let m : kind_at js n ≡ cond (is_nil l) 1 0 → ⊥ = λ c. told_apart k w u o (sym (kind_of_lem e) ∙ (c ∙ rw (i, v))) in
        rw (x, inner_more js n y, ne_eqb (kind_at js n) (cond (is_nil l) 1 0) m, upper, sep_place_is b cs ts n, q)

-- an argument in full, and what follows it
arg_upper : (js : List (Join Unit)) (m k : ℕ) (s : Bool) (x : Result Shape Refusal) → k ≡ m + 1 + dashes_at js (m + 1) → s ≡ eqb (dashes_at js (m + 1)) 0 → Upper js k s x
    → x ≡ element_answer (next_at js (m + 1)) (upper (units_from js m (dashes_at js (m + 1))) (unit_at js (m + dashes_at js (m + 1))) (inner_at js (m + dashes_at js (m + 1) + 1)))
arg_upper js m k s x e v u =
    let d = dashes_at js (m + 1) in
    let t = u (units_from js m d) (units_nil d js m ∙ sym v) in
    let q1 : k - 1 ≡ m + d = omega arith in
    let q2 : k ≡ m + d + 1 = omega arith in
    let q3 : m + 1 + d ≡ m + d + 1 = omega arith in
    let q4 : next_at js (m + d + 1) ≡ next_at js (m + 1) = rw (← q3) (next_dashes d js (m + 1) refl) in
    rw (q1, q2, q4) at t

nil_length : (l : List Unit) → is_nil l ≡ eqb (length l) 0
nil_length [] = refl
nil_length (i ∷ l) = sym (eqb-suc-zero (length l))

-- an element behind `&-`, and one behind `&`
module _ (b : ℕ) (cs : List ℕ) (ts : List Entry) (n k : ℕ) where
  short_bad : kind_at (joins_in b cs ts) n ≡ 2 → k ≡ 0 → Later (joins_in b cs ts) k n (Err (refusal group_broken (sep_place ts n)))
  short_bad h z l q =
      let js = joins_in b cs ts in
      rw (eq-eqb (kind_at js n) 2 h, later, nil_length l ∙ eq-eqb (length l) 0 (q ∙ z), sep_place_is b cs ts n)

  short_yes : {s : Bool} {x : Result Shape Refusal} → kind_at (joins_in b cs ts) n ≡ 2 → (k ≡ 0 → ⊥) → s ≡ eqb k 0 → Upper (joins_in b cs ts) (n + 1) s x → Later (joins_in b cs ts) k n x
  short_yes {s} {x} h z v u l q =
      let js = joins_in b cs ts in
      let o = ne_eqb k 0 z in
      let y : is_nil l ≡ false = nil_length l ∙ rw q o in
      let e : n + 1 - 1 ≡ n = omega arith in
      rw (eq-eqb (kind_at js n) 2 h, later, y) (rw e at (u l (y ∙ sym (v ∙ o))))

  full_yes : {s : Bool} {x : Result Shape Refusal} → (kind_at (joins_in b cs ts) n ≡ 2 → ⊥) → dashes_at (joins_in b cs ts) (n + 1) ≡ k → s ≡ eqb k 0 → Upper (joins_in b cs ts) (n + 1 + k) s x
      → Later (joins_in b cs ts) k n x
  full_yes {s} {x} h g v u l q =
      let js = joins_in b cs ts in
      let d = dashes_at js (n + 1) in
      rw (ne_eqb (kind_at js n) 2 h, later, full_at js n, units_length d js n, eq-eqb d (length l) (omega arith), later_arg)
      (arg_upper js n (n + 1 + k) s x (omega arith) (v ∙ rw g) u)

  full_bad : (kind_at (joins_in b cs ts) n ≡ 2 → ⊥) → (dashes_at (joins_in b cs ts) (n + 1) ≡ k → ⊥) → Later (joins_in b cs ts) k n (Err (refusal group_broken (unit_place ts n)))
  full_bad h g l q =
      let js = joins_in b cs ts in
      let d = dashes_at js (n + 1) in
      let o : d ≡ length l → ⊥ = λ c. g (c ∙ q) in
      rw (ne_eqb (kind_at js n) 2 h, later, full_at js n, units_length d js n, ne_eqb d (length l) o, later_arg, place_is b cs ts n)

-- the unit behind the argument, by the tests of `last_end`
module _ (ts : List Entry) (n k : ℕ) where
  pub end_none : {a : Kind} → number a ≡ sep_kind ts n → a ≡ AmpDash → k ≡ 0 → LastEnd ts k n None
  end_none {a} e h z b cs = let q : number a ≡ 2 = ap number h in rw (kind_is b cs ts n, ← e, q, eq-eqb k 0 z)

  pub end_short : {a : Kind} → number a ≡ sep_kind ts n → a ≡ AmpDash → (k ≡ 0 → ⊥) → LastEnd ts k n (Some (n + 1))
  end_short {a} e h z b cs = let q : number a ≡ 2 = ap number h in rw (kind_is b cs ts n, ← e, q, ne_eqb k 0 z)

  module _ (a : Kind) {m : ℕ} {f : Bool} (e : number a ≡ sep_kind ts n) (i : f ≡ sameb the_type a AmpDash) (h : f ≡ false) (g : ArgEnd ts (n + 1) m) where
    pub end_full : m - n - 1 ≡ k → LastEnd ts k n (Some m)
    end_full z b cs =
        let d = dashes_at (joins_in b cs ts) (n + 1) in
        let w = g b cs in
        let q : m ≡ n + 1 + k = omega arith in
        rw (kind_is b cs ts n, ← e, ne_eqb (number a) 2 (told_apart a AmpDash i h), eq-eqb d k (omega arith)) (ap Some q)

    pub end_other : (m - n - 1 ≡ k → ⊥) → LastEnd ts k n None
    end_other z b cs =
        let d = dashes_at (joins_in b cs ts) (n + 1) in
        let w = g b cs in
        rw (kind_is b cs ts n, ← e, ne_eqb (number a) 2 (told_apart a AmpDash i h), ne_eqb d k (λ c. z (omega arith)))

-- the element by that: refused, or what follows its argument
module _ (b : ℕ) (cs : List ℕ) (ts : List Entry) (n k : ℕ) where
  pub last_bad : {p : ℕ} {x : Refusal} → LastEnd ts k n None → p ≡ broken_place ts n → x ≡ refusal group_broken p → Later (joins_in b cs ts) k n (Err x)
  last_bad {p} a v x l q =
      let js = joins_in b cs ts in let d = dashes_at js (n + 1) in
      by_bool (eqb (kind_at js n) 2)
      (λ y. let w : p ≡ sep_place ts n = v ∙ rw (← kind_is b cs ts n, y) in
      by_bool (eqb k 0)
      (λ o. rw (x, w) (short_bad b cs ts n k (eqb-true (kind_at js n) 2 y) (eqb-true k 0 o) l q))
      (λ o. let e : None ≡ Some (n + 1) = a b cs ∙ rw (y, o) in absurd cc))
      (λ y. let w : p ≡ unit_place ts n = v ∙ rw (← kind_is b cs ts n, y) in
      by_bool (eqb d k)
      (λ o. let e : None ≡ Some (n + 1 + k) = a b cs ∙ rw (y, o) in absurd cc)
      (λ o. rw (x, w) (full_bad b cs ts n k (eqb-false (kind_at js n) 2 y) (eqb-false d k o) l q)))

  pub last_yes : {m : ℕ} {s : Bool} {x : Result Shape Refusal} → LastEnd ts k n (Some m) → s ≡ eqb k 0 → Upper (joins_in b cs ts) m s x → Later (joins_in b cs ts) k n x
  last_yes {m} {s} {x} a v u =
      let js = joins_in b cs ts in let d = dashes_at js (n + 1) in
      by_bool (eqb (kind_at js n) 2)
      (λ y. by_bool (eqb k 0)
      (λ o. let e : Some m ≡ None = a b cs ∙ rw (y, o) in absurd cc)
      (λ o. let e : Some m ≡ Some (n + 1) = a b cs ∙ rw (y, o) in let i : m ≡ n + 1 = cc in short_yes b cs ts n k (eqb-true (kind_at js n) 2 y) (eqb-false k 0 o) v (subst (λ i. Upper js i s x) i u)))
      (λ y. by_bool (eqb d k)
      (λ o. let e : Some m ≡ Some (n + 1 + k) = a b cs ∙ rw (y, o) in let i : m ≡ n + 1 + k = cc in full_yes b cs ts n k (eqb-false (kind_at js n) 2 y) (eqb-true d k o) v (subst (λ i. Upper js i s x) i u))
      (λ o. let e : Some m ≡ None = a b cs ∙ rw (y, o) in absurd cc))
