-- The joined units by their index: `collect` from the n-th unit on, by its two clauses, is a step to the right.
use Prim.Native.Nat.{ℕ, zero, suc, ◌+◌, ◌-◌, ◌/◌, ◌≤◌, ◌<◌}
use mathlib.Core.Path.{◌≡◌, refl, sym, ◌∙◌, ap}
use native.Mathlib.Nat.{add-zero}
use mathlib.Core.Bool.{false≢true, true, false, cond}
use mathlib.Core.List.{List, [], ◌∷◌}
use native.Mathlib.Omega.{arith}
use native.Mathlib.Numerals.{add-one}
use borrow.Author.Tests.{ltb-true, ltb-false, leb-true, eqb-true, eqb-false, eq-eqb, ne_eqb}
use lib.Dec.{leb, ltb, eqb}
use lib.ListN.{length, get_or, drop, drop_of_length-le, get_or-eq_default}
use lib.Seq.{drop-cons, drop-drop}
use Rattle.laws.specs.Cases.{by_bool}
use Rattle.rules.specs.Groups.{Join, join, group, begins_j, Collected, collected, collect, collect_one, groups_of, arg, full_arg}
use Rattle.rules.specs.Tokens.{sep_code}
use Rattle.rules.specs.Units.{Unit, text}
use Rattle.token_table.specs.declared.Token.{Token as Entry}
use Rattle.token_table.specs.Table.{kind_in, place_in}
use Rattle.token_table.proofs.AltLaws.{sep_code_lem}
use Rattle.read_joins.specs.Joins.{unit_in, join_kind, join_sep, first_amp, no_token, joined, joins_in, no_join, sep_of_j, sep_place_of_j, place_of_j, unit_of_j, sep_at, kind_at, sep_place_at}
use Rattle.read_joins.specs.Joins.{place_at, unit_at, pre_of, inner_at, groups_at, units_from, dashes, dashes_at, next_at, count, sep_kind, sep_place, unit_place, begins_kind}

module _ (b : ℕ) (cs : List ℕ) where
  joined_length : (us : List Entry) → length (joined b cs us) ≡ length us / 2
  joined_length [] = refl
  joined_length (u ∷ []) = refl
  joined_length (u ∷ t ∷ us) = let i : length (joined b cs us) ≡ length us / 2 = joined_length us in omega arith

  joined_at : (us : List Entry) (n : ℕ) → n + n + 1 < length us
      → get_or (joined b cs us) n no_join ≡ join (join_sep (get_or us (n + n) no_token)) (place_in (get_or us (n + n) no_token)) (place_in (get_or us (n + n + 1) no_token)) (unit_in b cs (get_or us (n + n + 1) no_token))
  joined_at [] n h = absurd (omega arith)
  joined_at (u ∷ []) n h = absurd (omega arith)
  joined_at (u ∷ t ∷ us) zero h = refl
  joined_at (u ∷ t ∷ us) (suc n) h =
      let q : suc n + suc n ≡ suc (suc (n + n)) = omega arith in
      let q1 : suc n + suc n + 1 ≡ suc (suc (n + n + 1)) = omega arith in
      rw (q1, q) (joined_at us n (omega arith))

  pub joins_length : (ts : List Entry) → length (joins_in b cs ts) ≡ count ts
  unfolding joins_in
  joins_length ts = joined_length (first_amp ∷ ts) ∙ omega arith

cons_at : (x : Entry) (ts : List Entry) (k : ℕ) → 0 < k → get_or (x ∷ ts) k no_token ≡ get_or ts (k - 1) no_token
cons_at x ts zero h = absurd (omega arith)
cons_at x ts (suc k) h = let q : suc k - 1 ≡ k = omega arith in rw q

joins_at : (b : ℕ) (cs : List ℕ) (ts : List Entry) (n : ℕ) → n < count ts
    → get_or (joins_in b cs ts) n no_join ≡ join (join_sep (get_or (first_amp ∷ ts) (n + n) no_token)) (place_in (get_or (first_amp ∷ ts) (n + n) no_token)) (place_in (get_or ts (n + n) no_token)) (unit_in b cs (get_or ts (n + n) no_token))
unfolding joins_in
joins_at b cs ts n h = joined_at b cs (first_amp ∷ ts) n (omega arith) ∙ rw (add-one (n + n))

join_kind_small : (k : ℕ) → join_kind k < 10
join_kind_small k = by_bool (leb k 5) (λ y. rw y (omega (arith, leb-true k 5 y))) (λ y. rw y (omega arith))

module _ (b : ℕ) (cs : List ℕ) (ts : List Entry) (n : ℕ) where
  past : count ts ≤ n → get_or (joins_in b cs ts) n no_join ≡ no_join
  past h = get_or-eq_default (joins_in b cs ts) no_join (omega (arith, joins_length b cs ts))

  pub kind_is : kind_at (joins_in b cs ts) n ≡ sep_kind ts n
  unfolding sep_at sep_kind
  kind_is =
      by_bool (ltb n (count ts))
      (λ y. let h = ltb-true n (count ts) y in by_bool (eqb n 0)
      (λ z. let e = eqb-true n 0 z in let h0 : 0 < count ts = omega arith in rw (e, joins_at b cs ts 0 h0))
      (λ z. let e = eqb-false n 0 z in
      rw (joins_at b cs ts n h, cons_at first_amp ts (n + n) (omega arith), sep_code_lem (join_kind (kind_in (get_or ts (n + n - 1) no_token))) (join_kind_small (kind_in (get_or ts (n + n - 1) no_token))), z, y)))
      (λ y. let h = past (ltb-false n (count ts) y) in by_bool (eqb n 0) (λ z. rw (h, z)) (λ z. rw (h, z, y)))

  pub sep_place_is : sep_place_at (joins_in b cs ts) n ≡ sep_place ts n
  unfolding sep_place_at sep_place
  sep_place_is =
      by_bool (ltb n (count ts))
      (λ y. let h = ltb-true n (count ts) y in by_bool (eqb n 0)
      (λ z. let e = eqb-true n 0 z in let h0 : 0 < count ts = omega arith in rw (e, joins_at b cs ts 0 h0))
      (λ z. let e = eqb-false n 0 z in rw (joins_at b cs ts n h, cons_at first_amp ts (n + n) (omega arith), z, y)))
      (λ y. let h = past (ltb-false n (count ts) y) in by_bool (eqb n 0) (λ z. rw (h, z)) (λ z. rw (h, z, y)))

  pub place_is : place_at (joins_in b cs ts) n ≡ unit_place ts n
  unfolding place_at unit_place
  place_is =
      by_bool (ltb n (count ts))
      (λ y. rw (joins_at b cs ts n (ltb-true n (count ts) y), y))
      (λ y. rw (past (ltb-false n (count ts) y), y))

  pub unit_in_lem : n < count ts → unit_at (joins_in b cs ts) n ≡ unit_in b cs (get_or ts (n + n) no_token)
  unfolding unit_at
  unit_in_lem h = rw (joins_at b cs ts n h)

  pub unit_past : count ts ≤ n → unit_at (joins_in b cs ts) n ≡ text []
  unfolding unit_at
  unit_past h = rw (past h)

-- ---- any joined units

join_eta : (j : Join Unit) → j ≡ join (sep_of_j j) (sep_place_of_j j) (place_of_j j) (unit_of_j j)
join_eta (join s q p i) = refl

begins_kind_lem : (j : Join Unit) → begins_j j ≡ begins_kind (sep_code (sep_of_j j))
begins_kind_lem (join s q p i) = refl

next_join : (js : List (Join Unit)) (n : ℕ) → n < length js → drop n js ≡ get_or js n no_join ∷ drop (n + 1) js
next_join js n h = rw (add-one, drop-cons js n no_join)

pre_false : (j : Join Unit) (c : Collected) → pre_of (collect_one false j c) ≡ j ∷ pre_of c
pre_false j (collected pre gs) = refl

groups_false : (j : Join Unit) (c : Collected) → groups_of (collect_one false j c) ≡ groups_of c
groups_false j (collected pre gs) = refl

pre_true : (j : Join Unit) (c : Collected) → pre_of (collect_one true j c) ≡ []
pre_true (join s q p i) (collected pre gs) = refl

groups_true : (j : Join Unit) (c : Collected) → groups_of (collect_one true j c) ≡ group (sep_of_j j) (sep_place_of_j j) (place_of_j j) (unit_of_j j) (pre_of c) ∷ groups_of c
groups_true (join s q p i) (collected pre gs) = refl

only_groups : (j : Join Unit) (c : Collected) → collect_one true j c ≡ collected [] (groups_of (collect_one true j c))
only_groups (join s q p i) (collected pre gs) = refl

skip : (xs : List (Join Unit)) → collect (drop (length (pre_of (collect xs))) xs) ≡ collected [] (groups_of (collect xs))
skip [] = refl
skip (j ∷ xs) =
    by_bool (begins_j j)
    (λ y. rw (y, pre_true j (collect xs), y) (only_groups j (collect xs)))
    (λ y. rw (y, pre_false j (collect xs), groups_false j (collect xs)) (skip xs))

dashes_cons : (j : Join Unit) (js : List (Join Unit)) → dashes (j ∷ js) ≡ cond (eqb (sep_code (sep_of_j j)) 5) (suc (dashes js)) 0
dashes_cons (join s q p i) js = refl

module _ (js : List (Join Unit)) (n : ℕ) where
  pub inside : begins_kind (kind_at js n) ≡ false → n < length js
  unfolding sep_at
  inside h = by_bool (ltb n (length js)) (λ y. ltb-true n (length js) y)
      (λ y. absurd (false≢true (sym (rw (get_or-eq_default js no_join (ltb-false n (length js) y)) at h))))

  pub inner_more : begins_kind (kind_at js n) ≡ false → inner_at js n ≡ join (sep_at js n) (sep_place_at js n) (place_at js n) (unit_at js n) ∷ inner_at js (n + 1)
  unfolding sep_at sep_place_at place_at unit_at inner_at
  inner_more h = rw (next_join js n (inside h), begins_kind_lem (get_or js n no_join) ∙ h, pre_false (get_or js n no_join) (collect (drop (n + 1) js)), ← join_eta (get_or js n no_join))

  pub inner_end : begins_kind (kind_at js n) ≡ true → inner_at js n ≡ []
  unfolding sep_at inner_at
  inner_end h =
      by_bool (ltb n (length js))
      (λ y. rw (next_join js n (ltb-true n (length js) y), begins_kind_lem (get_or js n no_join) ∙ h, pre_true (get_or js n no_join) (collect (drop (n + 1) js))))
      (λ y. rw (drop_of_length-le js (ltb-false n (length js) y)))

  pub group_end : length js ≤ n → groups_at js n ≡ []
  unfolding groups_at
  group_end h = rw (drop_of_length-le js h)

  pub group_more : n < length js → begins_kind (kind_at js n) ≡ true
      → groups_at js n ≡ group (sep_at js n) (sep_place_at js n) (place_at js n) (unit_at js n) (inner_at js (n + 1)) ∷ groups_at js (n + 1)
  unfolding sep_at sep_place_at place_at unit_at inner_at groups_at
  group_more l h = rw (next_join js n l, begins_kind_lem (get_or js n no_join) ∙ h, groups_true (get_or js n no_join) (collect (drop (n + 1) js)))

  pub next_end : begins_kind (kind_at js n) ≡ true → next_at js n ≡ n
  unfolding next_at
  next_end h = rw (inner_end h, add-zero n)

  pub next_more : begins_kind (kind_at js n) ≡ false → next_at js n ≡ next_at js (n + 1)
  unfolding next_at
  next_more h = rw (inner_more h) (omega arith)

  pub dash_inside : kind_at js n ≡ 5 → n < length js
  unfolding sep_at
  dash_inside h = by_bool (ltb n (length js)) (λ y. ltb-true n (length js) y)
      (λ y. let z : 3 ≡ 5 = rw (get_or-eq_default js no_join (ltb-false n (length js) y)) at h in absurd (omega arith))

  pub dash_more : kind_at js n ≡ 5 → dashes_at js n ≡ suc (dashes_at js (n + 1))
  unfolding dashes_at sep_at
  dash_more h = rw (next_join js n (dash_inside h), dashes_cons (get_or js n no_join) (drop (n + 1) js), h)

  pub dash_end : (kind_at js n ≡ 5 → ⊥) → dashes_at js n ≡ 0
  unfolding dashes_at sep_at
  dash_end h =
      by_bool (ltb n (length js))
      (λ y. rw (next_join js n (ltb-true n (length js) y), dashes_cons (get_or js n no_join) (drop (n + 1) js), ne_eqb (kind_at js n) 5 h))
      (λ y. rw (drop_of_length-le js (ltb-false n (length js) y)))

  inner_next : inner_at js (next_at js n) ≡ []
  unfolding next_at inner_at
  inner_next = rw (← drop-drop (length (pre_of (collect (drop n js)))) n js, skip (drop n js))

  pub groups_next : groups_at js (next_at js n) ≡ groups_at js n
  unfolding next_at inner_at groups_at
  groups_next = rw (← drop-drop (length (pre_of (collect (drop n js)))) n js, skip (drop n js))

-- behind an element the next one begins
pub begins_next : (js : List (Join Unit)) (n : ℕ) → begins_kind (kind_at js (next_at js n)) ≡ true
begins_next js n =
    by_bool (begins_kind (kind_at js (next_at js n))) (λ y. y)
    (λ y. let z = ap length (sym (inner_more js (next_at js n) y) ∙ inner_next js n) in absurd (omega arith))

pub dash_test_lem : (js : List (Join Unit)) (n d : ℕ) → dashes_at js n ≡ suc d → kind_at js n ≡ 5
dash_test_lem js n d h =
    by_bool (eqb (kind_at js n) 5) (λ y. eqb-true (kind_at js n) 5 y)
    (λ y. let z = dash_end js n (eqb-false (kind_at js n) 5 y) in absurd (omega arith))

-- an argument in full: its leading units, its last, and what follows
full_from : (d : ℕ) (js : List (Join Unit)) (m : ℕ) → dashes_at js (m + 1) ≡ d
    → full_arg (unit_at js m) (inner_at js (m + 1)) ≡ arg (units_from js m d) (unit_at js (m + d)) (inner_at js (m + d + 1))
full_from zero js m h =
    by_bool (begins_kind (kind_at js (m + 1)))
    (λ y. rw (add-zero m, inner_end js (m + 1) y))
    (λ y. let n : kind_at js (m + 1) ≡ 5 → ⊥ = λ e. (let z = dash_more js (m + 1) e in absurd (omega arith)) in
    rw (add-zero m, inner_more js (m + 1) y, ne_eqb (kind_at js (m + 1)) 5 n, full_arg))
full_from (suc d) js m h =
    let e = dash_test_lem js (m + 1) d h in
    let y : begins_kind (kind_at js (m + 1)) ≡ false = rw e in
    let q : m + suc d ≡ m + 1 + d = omega arith in
    let ih = full_from d js (m + 1) (omega (arith, dash_more js (m + 1) e)) in
    rw (inner_more js (m + 1) y, eq-eqb (kind_at js (m + 1)) 5 e, full_arg, q, ih)

pub full_at : (js : List (Join Unit)) (m : ℕ)
    → let d = dashes_at js (m + 1) in full_arg (unit_at js m) (inner_at js (m + 1)) ≡ arg (units_from js m d) (unit_at js (m + d)) (inner_at js (m + d + 1))
full_at js m = full_from (dashes_at js (m + 1)) js m refl

pub units_length : (d : ℕ) (js : List (Join Unit)) (n : ℕ) → length (units_from js n d) ≡ d
units_length zero js n = refl
units_length (suc d) js n = rw (units_length d js (n + 1))

-- the units joined by `-` behind one that is there are there too
pub dashes_inside : (d : ℕ) (js : List (Join Unit)) (m : ℕ) → m < length js → dashes_at js (m + 1) ≡ d → m + d < length js
dashes_inside zero js m l h = omega arith
dashes_inside (suc d) js m l h =
    let e = dash_test_lem js (m + 1) d h in
    let i = dashes_inside d js (m + 1) (dash_inside js (m + 1) e) (omega (arith, dash_more js (m + 1) e)) in
    omega arith
