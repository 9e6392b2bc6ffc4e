-- A unit as the end of a range: the code's cases are the rules', since only a numeral without fraction is an end.
use Prim.Native.Nat.{ℕ, ◌+◌, ◌≤◌, ◌<◌}
use mathlib.Core.Path.{◌≡◌, refl, sym, ap}
use mathlib.Core.List.{List}
use mathlib.Core.Option.{Option as Found, none, some}
use Rattle.std.proofs.Common.{Option, Some, None, Ok, Err}
use native.Mathlib.Omega.{arith}
use borrow.Author.Tests.{ne_eqb, le-leb, eqb-true, eqb-false}
use lib.Dec.{ltb, eqb}
use lib.ListN.{get_or}
use Rattle.laws.specs.Cases.{by_bool}
use Rattle.rules.specs.Groups.{end_of, ends, inc_of}
use Rattle.rules.specs.Units.{Radix, size, Unit, num, keyed, identifier, symbolic, text}
use Rattle.units.specs.Words.{Answer, unit_under, read_as}
use Rattle.units.specs.declared.Word.TheVariants.{Numeral, Keyed, Identifier, Symbolic}
use Rattle.units.specs.declared.Fault.TheVariants.{Unreadable, TooBig}
use Rattle.token_table.specs.declared.Token.{Token as Entry}
use Rattle.token_table.specs.Table.{number, kind_in, content_in, lex_of_kind}
use Rattle.token_table.specs.declared.Kind.TheVariants.{Word}
use Rattle.token_table.proofs.KindLaws.{other_kind}
use Rattle.read_joins.specs.Joins.{or_text, unit_in, no_token, joins_in, count}
use Rattle.read_joins.specs.Answers.{end_answer, end_at, unit_end, both_ends, step_end}
use Rattle.read_joins.specs.declared.End.{End}
use Rattle.read_joins.specs.declared.Ends.{Ends}
use Rattle.read_joins.proofs.JoinLaws.{unit_in_lem, unit_past}

unit_end_lem : (w : List ℕ) (u : Answer) → end_answer (end_of (or_text (read_as 0 w u))) ≡ unit_end u
unfolding read_as
unit_end_lem w (Ok (Numeral l f v)) = by_bool (eqb f 0) (λ y. rw y) (λ y. rw y)
unit_end_lem w (Ok (Keyed k)) = refl
unit_end_lem w (Ok Identifier) = refl
unit_end_lem w (Ok Symbolic) = refl
unit_end_lem w (Err Unreadable) = refl
unit_end_lem w (Err TooBig) = refl

module _ (b : ℕ) (cs : List ℕ) (t : Entry) where
  pub end_word : kind_in t ≡ 10 → end_answer (end_of (unit_in b cs t)) ≡ unit_end (unit_under b (content_in cs t))
  unfolding unit_in lex_of_kind
  end_word h = rw h (unit_end_lem (content_in cs t) (unit_under b (content_in cs t)))

  pub end_other : (kind_in t ≡ 10 → ⊥) → end_answer (end_of (unit_in b cs t)) ≡ None
  unfolding unit_in lex_of_kind
  end_other h = by_bool (ltb (kind_in t) 10) (λ y. rw y) (λ y. rw (y, ne_eqb (kind_in t) 10 h))

module _ (b : ℕ) (cs : List ℕ) (ts : List Entry) (n : ℕ) where
  pub end_at_word : {m : ℕ} {w : List ℕ} {u : Answer} {r : Option End} → m ≡ count ts → n < m → Entry.kind (get_or ts (n + n) no_token) ≡ Word
      → w ≡ content_in cs (get_or ts (n + n) no_token) → u ≡ unit_under b w → r ≡ unit_end u → r ≡ end_at (joins_in b cs ts) n
  unfolding end_at
  end_at_word c h k w v q = rw (q, v, w, unit_in_lem b cs ts n (rw c at h)) (sym (end_word b cs (get_or ts (n + n) no_token) (ap number k)))

  pub end_at_other : {m : ℕ} → m ≡ count ts → n < m → (Entry.kind (get_or ts (n + n) no_token) ≡ Word → ⊥) → None ≡ end_at (joins_in b cs ts) n
  unfolding end_at
  end_at_other c h k = rw (unit_in_lem b cs ts n (rw c at h)) (sym (end_other b cs (get_or ts (n + n) no_token) (other_kind k)))

  pub end_at_past : {m : ℕ} → m ≡ count ts → m ≤ n → None ≡ end_at (joins_in b cs ts) n
  unfolding end_at
  end_at_past c h = rw (unit_past b cs ts n (rw c at h))

-- an increment by what it is as an end
pub step_none : (r : Radix) (i : Unit) → step_end (size r) (end_answer (end_of i)) ≡ None → inc_of r i ≡ none
step_none r (num s f v) h =
    by_bool (eqb (size r) (size s))
    (λ x. by_bool (eqb f 0)
    (λ y. by_bool (eqb v 0) (λ z. let e : v ≡ 0 = eqb-true v 0 z in rw (x, y, e)) (λ z. let e : None ≡ Some v = sym (rw (y, x, z) at h) in absurd cc))
    (λ y. rw (x, y)))
    (λ x. rw x)
step_none r (keyed w) h = refl
step_none r (identifier w) h = refl
step_none r (symbolic w) h = refl
step_none r (text w) h = refl

pub step_some : (r : Radix) (i : Unit) (k : ℕ) → step_end (size r) (end_answer (end_of i)) ≡ Some k → inc_of r i ≡ some k
step_some r (num s f v) k h =
    by_bool (eqb (size r) (size s))
    (λ x. by_bool (eqb f 0)
    (λ y. by_bool (eqb v 0)
    (λ z. let e : None ≡ Some k = rw (y, x, z) at h in absurd cc)
    (λ z. let e : Some v ≡ Some k = rw (y, x, z) at h in
    let n : v ≡ 0 → ⊥ = eqb-false v 0 z in
    let q : v ≡ k = cc in
    rw (x, y, le-leb 1 v (omega arith), q)))
    (λ y. let e : None ≡ Some k = rw y at h in absurd cc))
    (λ x. by_bool (eqb f 0)
    (λ y. let e : None ≡ Some k = rw (y, x) at h in absurd cc)
    (λ y. let e : None ≡ Some k = rw y at h in absurd cc))
step_some r (keyed w) k h = absurd cc
step_some r (identifier w) k h = absurd cc
step_some r (symbolic w) k h = absurd cc
step_some r (text w) k h = absurd cc

-- an increment is not 0
pub step_least : (z : ℕ) (e : Option End) (k : ℕ) → step_end z e ≡ Some k → 1 ≤ k
step_least z None k h = absurd cc
step_least z (Some a) k h =
    by_bool (eqb z a.size)
    (λ x. by_bool (eqb a.value 0)
    (λ y. let e : None ≡ Some k = rw (x, y) at h in absurd cc)
    (λ y. let e : Some a.value ≡ Some k = rw (x, y) at h in
    let n : a.value ≡ 0 → ⊥ = eqb-false a.value 0 y in
    let q : a.value ≡ k = cc in
    omega arith))
    (λ x. let e : None ≡ Some k = rw x at h in absurd cc)

-- both ends of a range
pub ends_apart : (a b : Found (Radix × ℕ)) → both_ends (end_answer a) (end_answer b) ≡ None → ends a b ≡ none
ends_apart none b h = refl
ends_apart (some x) none h = refl
ends_apart (some x) (some y) h =
    by_bool (eqb (size x.0) (size y.0))
    (λ z. let e : Some (record { size = size x.0; lower = x.1; upper = y.1 }) ≡ None = rw z at h in absurd cc)
    (λ z. rw z)

pub record EndsAre (a b : Found (Radix × ℕ)) (e : Ends) : Type 0 where
  pub radix : Radix
  pub sized : e.size ≡ size radix
  pub is : ends a b ≡ some (radix, e.lower, e.upper)

pub ends_both : (a b : Found (Radix × ℕ)) (e : Ends) → both_ends (end_answer a) (end_answer b) ≡ Some e → EndsAre a b e
ends_both none b e h = absurd cc
ends_both (some x) none e h = absurd cc
ends_both (some x) (some y) e h =
    by_bool (eqb (size x.0) (size y.0))
    (λ t. let q : Some (record { size = size x.0; lower = x.1; upper = y.1 }) ≡ Some e = rw t at h in
    let p : record { size = size x.0; lower = x.1; upper = y.1 } ≡ e = cc in
    rw (← p) (record { radix = x.0; sized = refl; is = rw t }))
    (λ t. let q : None ≡ Some e = rw t at h in absurd cc)
