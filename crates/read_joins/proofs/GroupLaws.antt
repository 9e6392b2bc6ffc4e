-- The loops and tests of an element read the separators' kinds, and these are the joined units' own.
use Prim.Native.Nat.{ℕ, zero, suc, ◌+◌, ◌-◌, ◌*◌, ◌/◌, ◌^◌, ◌<◌, ◌≤◌}
use mathlib.Core.Path.{◌≡◌, sym, ap, ◌∙◌}
use mathlib.Core.Bool.{Bool, true, false, false≢true}
use mathlib.Core.List.{List, []}
use native.Mathlib.Omega.{arith}
use mir.Syntax.{w64}
use mir.Val.{Fits}
use lib.ListN.{length, get_or}
use lib.Dec.{eqb}
use borrow.Author.Tests.{ne_eqb, eq-eqb, eqb-true, eqb-false, lt-ltb, le-ltb}
use Rattle.laws.specs.Cases.{by_bool}
use Rattle.rules.specs.Refusals.{group_broken}
use Rattle.read_joins.specs.Joins.{joins_in, join_kind, no_token, kind_at, dashes_at, count, sep_kind, sep_place, begins_kind}
use Rattle.read_joins.specs.Answers.{ArgEnd, NoMore}
use Rattle.read_joins.specs.declared.Shape.TheVariants.{Range}
use Rattle.rules.specs.Reasons.{refusal}
use Rattle.rules.specs.declared.Refusal.{Refusal}
use Rattle.std.proofs.Common.{Ok, Err}
use Rattle.token_table.specs.declared.Kind.{Kind}
use Rattle.token_table.specs.declared.Kind.TheVariants.{Dash}
use Rattle.token_table.specs.declared.Token.{Token as Entry}
use Rattle.token_table.specs.Table.{number, kind_in, place_in}
use Rattle.token_table.proofs.KindLaws.{same_is}
use denote.Enum.Bare.{sameb}
use Rattle.token_table.specs.contracts.Kind.{the_type}
use Rattle.read_joins.proofs.JoinLaws.{joins_length, kind_is, sep_place_is, inside, inner_more, inner_end, next_end, dash_inside, dash_more, dash_end}

-- a test finds two kinds the same, or tells them apart
pub told_same : (k j : Kind) {f : Bool} → f ≡ sameb the_type k j → f ≡ true → number k ≡ number j
told_same k j g h = eqb-true (number k) (number j) (sym (same_is k j) ∙ sym g ∙ h)

pub told_apart : (k j : Kind) {f : Bool} → f ≡ sameb the_type k j → f ≡ false → number k ≡ number j → ⊥
told_apart k j g h = eqb-false (number k) (number j) (sym (same_is k j) ∙ sym g ∙ h)

-- ---- where an argument ends

module _ (ts : List Entry) (n m : ℕ) where
  pub dashes_more : {k : Kind} → ((b : ℕ) (cs : List ℕ) → n + dashes_at (joins_in b cs ts) n ≡ m + dashes_at (joins_in b cs ts) m) → number k ≡ sep_kind ts m → k ≡ Dash
      → (b : ℕ) (cs : List ℕ) → n + dashes_at (joins_in b cs ts) n ≡ m + 1 + dashes_at (joins_in b cs ts) (m + 1)
  dashes_more q e h b cs =
      let d = dash_more (joins_in b cs ts) m (kind_is b cs ts m ∙ sym e ∙ ap number h) in
      omega (arith, q b cs)

  pub dashes_end : (k : Kind) {f : Bool} → ((b : ℕ) (cs : List ℕ) → n + dashes_at (joins_in b cs ts) n ≡ m + dashes_at (joins_in b cs ts) m) → number k ≡ sep_kind ts m → f ≡ sameb the_type k Dash → f ≡ false
      → ArgEnd ts n m
  dashes_end k q e g h b cs =
      let d = dash_end (joins_in b cs ts) m (λ z. told_apart k Dash g h (e ∙ sym (kind_is b cs ts m) ∙ z)) in
      omega (arith, q b cs)

module _ (ts : List Entry) (m : ℕ) {k : Kind} (e : number k ≡ sep_kind ts m) (h : k ≡ Dash) where
  dash_room : m < count ts
  dash_room =
      let i = dash_inside (joins_in 0 [] ts) m (kind_is 0 [] ts m ∙ sym e ∙ ap number h) in
      omega (arith, joins_length 0 [] ts)

  pub dash_fits : length ts * 8 < 2 ^ 63 → Fits w64 (m + 1)
  dash_fits g = omega (arith, dash_room)

  pub dash_less : count ts - (m + 1) < count ts - m
  dash_less = omega (arith, dash_room)

-- ---- what stands before the n-th unit, read from the table

module _ (ts : List Entry) (n : ℕ) where
  pub kind_inside : {m k : ℕ} → 0 < n → m ≡ count ts → n < m → k ≡ join_kind (kind_in (get_or ts (n + n - 1) no_token)) → k ≡ sep_kind ts n
  unfolding sep_kind
  kind_inside h e l v = let z : n ≡ 0 → ⊥ = λ y. absurd (omega arith) in rw (v, ne_eqb n 0 z, lt-ltb n (count ts) (omega arith))

  pub kind_first : n ≤ 0 → 3 ≡ sep_kind ts n
  unfolding sep_kind
  kind_first h = rw (eq-eqb n 0 (omega arith))

  pub kind_past : {m : ℕ} → m ≡ count ts → m ≤ n → 3 ≡ sep_kind ts n
  unfolding sep_kind
  kind_past e h = by_bool (eqb n 0) (λ y. rw y) (λ y. rw (y, le-ltb n (count ts) (omega arith)))

  pub place_inside : {m k : ℕ} → 0 < n → m ≡ count ts → n < m → k ≡ place_in (get_or ts (n + n - 1) no_token) → k ≡ sep_place ts n
  unfolding sep_place
  place_inside h e l v = let z : n ≡ 0 → ⊥ = λ y. absurd (omega arith) in rw (v, ne_eqb n 0 z, lt-ltb n (count ts) (omega arith))

  pub place_first : n ≤ 0 → 0 ≡ sep_place ts n
  unfolding sep_place
  place_first h = rw (eq-eqb n 0 (omega arith))

  pub place_past : {m : ℕ} → m ≡ count ts → m ≤ n → 0 ≡ sep_place ts n
  unfolding sep_place
  place_past e h = by_bool (eqb n 0) (λ y. rw y) (λ y. rw (y, le-ltb n (count ts) (omega arith)))

-- ---- the separator before the n-th unit

module _ (b : ℕ) (cs : List ℕ) (ts : List Entry) (n : ℕ) where
  pub begins_is : (t : Bool) {k : ℕ} {f : Bool} → k ≡ sep_kind ts n → f ≡ begins_kind k → f ≡ t → begins_kind (kind_at (joins_in b cs ts) n) ≡ t
  begins_is t e g h = rw (kind_is b cs ts n, ← e, ← g, h)

  pub room : {k : ℕ} {f : Bool} → k ≡ sep_kind ts n → f ≡ begins_kind k → f ≡ false → n < count ts
  room e g h = omega (arith, inside (joins_in b cs ts) n (begins_is false e g h), joins_length b cs ts)

-- not the first, and inside
pub inner_room : (ts : List Entry) (n : ℕ) {k : ℕ} {f : Bool} → k ≡ sep_kind ts n → f ≡ begins_kind k → f ≡ false → (0 < n) × (n < count ts)
unfolding sep_kind
inner_room ts zero {k} {f} e g h = let z : begins_kind k ≡ true = rw e in absurd (false≢true (sym h ∙ g ∙ z))
inner_room ts (suc n) e g h = (omega arith, room 0 [] ts (suc n) e g h)

module _ (ts : List Entry) (n lo up inc : ℕ) where
  pub no_more_end : {k : ℕ} {f : Bool} → k ≡ sep_kind ts n → f ≡ begins_kind k → f ≡ true → NoMore ts n lo up inc (Ok (Range up inc ((up - lo) / inc) n))
  no_more_end e g h b cs l r = let y = begins_is b cs ts n true e g h in rw (inner_end (joins_in b cs ts) n y, next_end (joins_in b cs ts) n y)

  pub no_more_bad : {k p : ℕ} {f : Bool} {x : Refusal} → k ≡ sep_kind ts n → f ≡ begins_kind k → f ≡ false → p ≡ sep_place ts n → x ≡ refusal group_broken p → NoMore ts n lo up inc (Err x)
  no_more_bad e g h v x b cs l r = let y = begins_is b cs ts n false e g h in rw (x, inner_more (joins_in b cs ts) n y, sep_place_is b cs ts n, v)
