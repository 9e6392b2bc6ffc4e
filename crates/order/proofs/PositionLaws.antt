-- The loop from the last place back keeps the rule's positions behind it, and the rule's quotient; so the row becomes the plan of order k.
use mathlib.Core.Path.{◌≡◌, refl, sym, ap, ap₂, ◌∙◌, subst}
use mathlib.Core.Bool.{true, false, false≢true}
use mathlib.Core.List.{List, [], ◌∷◌, ◌++◌, map, append_assoc, append-nil}
use Prim.Native.Nat.{ℕ, ◌+◌, ◌-◌, ◌*◌, ◌/◌, ◌%◌, ◌≤◌, ◌<◌}
use native.Mathlib.Nat.{le_refl}
use native.Mathlib.Omega.{arith}
use borrow.Author.Tests.{lt-ltb, ltb-false, ne_eqb, leb-true}
use lib.Dec.{ltb}
use lib.ListN.{length, get_or, take, drop, set, length-set, length-take, get_or-append}
use lib.Seq.{take-add, set_at, take-length, drop-length, length-take-le, get_or-take}
use Rattle.laws.specs.Cases.{by_bool, pick, and_l, and_r}
use Rattle.laws.specs.Lists.{all}
use Rattle.rules.specs.Units.{Base}
use Rattle.rules.specs.Refusals.{ok}
use Rattle.rules.specs.Commands.{Element, single, range, Place, place, Command, terms, sum, value_count, place_count}
use Rattle.rules.specs.Records.{field_bytes, bytes_of, many, element_fields, place_fields, name_tag, single_tag, range_tag}
use Rattle.rules.specs.WellFormed.{wf_value, body_of}
use Rattle.rules.proofs.EncodeDecode.{IsBody, body_is}
use Rattle.rules.proofs.FieldLaws.{bytes_append}
use Rattle.rules.proofs.ValueBack.{v_count}
use Rattle.record_walk.specs.Fronts.{tag_of}
use Rattle.record_walk.specs.Spans.{size, head_fields, spans_of}
use Rattle.record_walk.proofs.RunLaws.{drop_behind}
use Rattle.order.specs.Reduced.{positions_of, Part, kept, placed, part_fields, parts_bytes, parts_of, Below, places_in}
use Rattle.judge.specs.Judged.{Told}
use Rattle.judge.proofs.ToldLaws.{three_front}
use Rattle.order.specs.Plans.{kept_mark, is_reduced, plan_of, position_in, positions_in, Plans, slot_for, goes_on}
use Rattle.order.proofs.PartLaws.{part_places, fine_part, parts_fields, parts_in, parts_fine, part_tag, part_spans, spans_long, spans_are, behind, left_of, positions_below}

-- ---- the loop

-- the last places' numbers made positions, and what is left of k before them
abbrev plan_back : List ℕ → List ℕ → ℕ → List ℕ × ℕ
plan_back rec [] k = ([], k)
plan_back rec (n ∷ []) k = (n ∷ [], k)
plan_back rec (n ∷ (s ∷ [])) k = (n ∷ s ∷ [], k)
plan_back rec (n ∷ (s ∷ (e ∷ row))) k = let (r, q) = plan_back rec row k in (slot_for rec s n q ∷ s ∷ e ∷ r, goes_on n q)

-- from the i-th number on the row has positions
pub record Placing (rec row : List ℕ) (k i l : ℕ) (o : List ℕ) : Type 0 where
  pub low : i ≤ length row
  pub turns : ℕ
  pub threes : i ≡ 3 * turns
  pub left : l ≡ (plan_back rec (drop i row) k).1
  pub out : o ≡ take i row ++ (plan_back rec (drop i row) k).0
  pub long : length o ≡ length row

told_long : {rec row : List ℕ} (t : Told rec row) → length row ≡ 3 * length (part_places (parts_of t.tree))
told_long t = ap length (t.told ∙ spans_are t.tree) ∙ spans_long 0 (parts_of t.tree)

pub placing_none : {rec row : List ℕ} (k : ℕ) → Told rec row → Placing rec row k (length row) k row
placing_none {rec} {row} k t =
    record {
      low = le_refl (length row);
      turns = length (part_places (parts_of t.tree));
      threes = told_long t;
      left = rw drop-length;
      out = rw (drop-length, append-nil, take-length);
      long = refl;
    }

-- the row up to behind a place's three numbers
three_back : (row : List ℕ) (j : ℕ) → j + 3 ≤ length row → take (j + 3) row ≡ take j row ++ (get_or row j 0 ∷ get_or row (j + 1) 0 ∷ get_or row (j + 2) 0 ∷ [])
three_back row j h = take-add j 3 row ∙ ap (λ (r : List ℕ). take j row ++ take 3 r) (three_front row j h)

module _ {rec row o : List ℕ} {k i l : ℕ} (d : Placing rec row k i l o) where
  -- what stands before i is still as it was
  placing_next : (j : ℕ) → j < i → get_or o j 0 ≡ get_or row j 0
  placing_next j h =
      ap (λ (x : List ℕ). get_or x j 0) d.out
      ∙ get_or-append (take i row) (plan_back rec (drop i row) k).0 0 j (omega (arith, length-take i row, d.low))
      ∙ get_or-take i row j 0 h

  -- a turn: the last place's number becomes its position
  pub placing_more : {p q : ℕ} → 0 < i → p ≡ slot_for rec (get_or o (i - 3 + 1) 0) (get_or o (i - 3) 0) l → q ≡ goes_on (get_or o (i - 3) 0) l → Placing rec row k (i - 3) q (set o (i - 3) p)
  placing_more some ep eq =
      let j : ℕ = i - 3 in
      let e : i ≡ j + 3 = omega (arith, d.threes) in
      let h : j + 3 ≤ length row = omega (arith, d.low) in
      let n : ℕ = get_or row j 0 in
      let s : ℕ = get_or row (j + 1) 0 in
      let t : ℕ = get_or row (j + 2) 0 in
      let b : List ℕ = (plan_back rec (drop (j + 3) row) k).0 in
      let dl : l ≡ (plan_back rec (drop (j + 3) row) k).1 = rw e at d.left in
      let dout : o ≡ take j row ++ (n ∷ s ∷ t ∷ b) =
      (rw e at d.out) ∙ ap (λ (x : List ℕ). x ++ b) (three_back row j h) ∙ append_assoc (take j row) (n ∷ s ∷ t ∷ []) b in
      let f : plan_back rec (drop j row) k ≡ (slot_for rec s n l ∷ s ∷ t ∷ b, goes_on n l) =
      ap (λ (r : List ℕ). plan_back rec r k) (three_front row j h) ∙ ap (λ (q : ℕ). (slot_for rec s n q ∷ s ∷ t ∷ b, goes_on n q)) (sym dl) in
      rw (ep, eq, placing_next j (omega arith), placing_next (j + 1) (omega arith)) (record {
        low = omega arith;
        turns = d.turns - 1;
        threes = omega (arith, d.threes);
        left = ap (λ (x : List ℕ × ℕ). x.1) (sym f);
        long = length-set o j (slot_for rec s n l) ∙ d.long;
        out =
            ap (λ (x : List ℕ). set x j (slot_for rec s n l)) dout ∙ set_at (take j row) n (s ∷ t ∷ b) (slot_for rec s n l) j (length-take-le j row (omega arith))
            ∙ ap (λ (x : List ℕ × ℕ). take j row ++ x.0) (sym f);
      })

-- ---- one place: what the code puts is what the plan says

terms_some : (e : Element) → 1 ≤ terms e
terms_some (single l u) = omega arith
terms_some (range l r lo up inc) = omega arith

one_left : (n l : ℕ) → ltb 1 n ≡ false → 1 ≤ n → l % n ≡ 0
one_left n l y h =
    let z : n ≡ 1 = omega (arith, ltb-false 1 n y) in
    let q : l % 1 ≡ 0 = omega arith in
    ap (λ (m : ℕ). l % m) z ∙ q

module _ (rec : List ℕ) (value : ℕ) (rest : List ℕ) (l : ℕ) where
  slot_is : (v : List Element) → drop value rec ≡ bytes_of (many element_fields v) ++ rest → tag_of rest < name_tag
      → slot_for rec value (sum (map terms v)) l ≡ pick (is_reduced v) kept_mark (l % value_count v)
  unfolding slot_for
  slot_is [] d t = let z : tag_of (drop value rec) ≡ tag_of rest = ap tag_of d in rw (z, ne_eqb (tag_of rest) range_tag (λ q. absurd (omega arith)))
  slot_is (single x u ∷ []) d t = let z : tag_of (drop value rec) ≡ single_tag = ap tag_of d in rw z
  slot_is (range x r lo up inc ∷ []) d t =
      let n : ℕ = terms (range x r lo up inc) + 0 in
      let z : tag_of (drop value rec) ≡ range_tag = ap tag_of d in
      by_bool (ltb 1 n) (λ y. rw y) (λ y. rw (y, z) (sym (one_left n l y (omega arith))))
  slot_is (single x u ∷ (f ∷ es)) d t = rw (lt-ltb 1 (sum (map terms (single x u ∷ (f ∷ es)))) (omega (arith, terms_some f)))
  slot_is (range x r lo up inc ∷ (f ∷ es)) d t = rw (lt-ltb 1 (sum (map terms (range x r lo up inc ∷ (f ∷ es)))) (omega (arith, terms_some f)))

on_is : (v : List Element) (l : ℕ) → goes_on (sum (map terms v)) l ≡ l / value_count v
unfolding goes_on
on_is [] l = omega arith
on_is (e ∷ es) l =
    let n : ℕ = sum (map terms (e ∷ es)) in
    by_bool (ltb 1 n) (λ y. rw y)
    (λ y.
    let z : n ≡ 1 = omega (arith, ltb-false 1 n y, terms_some e) in
    let q : l / 1 ≡ l = omega arith in
    rw y (sym (ap (λ (m : ℕ). l / m) z ∙ q)))

-- ---- all places

pub head_bytes_lem : (b : Base) (nm : List (List ℕ)) (v : List Element)
    → bytes_of (place_fields (place b nm v)) ≡ bytes_of (head_fields (place b nm v)) ++ bytes_of (many element_fields v)
head_bytes_lem b nm v = bytes_append (head_fields (place b nm v)) (many element_fields v)

plan_is : (rec : List ℕ) (k at : ℕ) (ps : List Part) → drop at rec ≡ parts_bytes ps → all fine_part ps ≡ true
    → plan_back rec (part_spans at ps) k ≡ (plan_of at ps (behind (map place_count (part_places ps)) k), left_of (map place_count (part_places ps)) k)
plan_is rec k at [] e h = refl
plan_is rec k at (kept f ∷ ps) e h =
    plan_is rec k (at + length (field_bytes f)) ps (drop_behind rec at (field_bytes f) (parts_bytes ps) e) (and_r (fine_part (kept f)) (all fine_part ps) h)
plan_is rec k at (placed (place b nm v) ∷ ps) e h =
    let p : Place = place b nm v in
    let n : ℕ = sum (map terms v) in
    let s : ℕ = at + size (head_fields p) in
    let t : ℕ = at + size (place_fields p) in
    let rest : List ℕ = parts_bytes ps in
    let fine : all fine_part ps ≡ true = and_r (wf_value b v) (all fine_part ps) h in
    let l : ℕ = left_of (map place_count (part_places ps)) k in
    let r : List ℕ = plan_of t ps (behind (map place_count (part_places ps)) k) in
    let joined : drop at rec ≡ bytes_of (place_fields p) ++ rest = e ∙ bytes_append (place_fields p) (many part_fields ps) in
    let apart : drop at rec ≡ bytes_of (head_fields p) ++ (bytes_of (many element_fields v) ++ rest) =
    joined ∙ ap (λ (x : List ℕ). x ++ rest) (head_bytes_lem b nm v) ∙ append_assoc (bytes_of (head_fields p)) (bytes_of (many element_fields v)) rest in
    let value : drop s rec ≡ bytes_of (many element_fields v) ++ rest = drop_behind rec at (bytes_of (head_fields p)) (bytes_of (many element_fields v) ++ rest) apart in
    let ih : plan_back rec (part_spans t ps) k ≡ (r, l) = plan_is rec k t ps (drop_behind rec at (bytes_of (place_fields p)) rest joined) fine in
    ap (λ (x : List ℕ × ℕ). (slot_for rec s n x.1 ∷ s ∷ t ∷ x.0, goes_on n x.1)) ih
    ∙ ap₂ (λ (x y : ℕ). (x ∷ s ∷ t ∷ r, y)) (slot_is rec s rest l v value (part_tag ps fine)) (on_is v l)

-- ---- the positions in a plan

reduced_one : (v : List Element) → is_reduced v ≡ true → value_count v ≡ 1
reduced_one [] h = refl
reduced_one (single l u ∷ []) h = refl
reduced_one (range l r lo up inc ∷ []) h = absurd (false≢true h)
reduced_one (single l u ∷ (e ∷ es)) h = absurd (false≢true h)
reduced_one (range l r lo up inc ∷ (e ∷ es)) h = absurd (false≢true h)

-- a position is below the mark
pub position_low : (b : Base) (v : List Element) (n : ℕ) → wf_value b v ≡ true → n < value_count v → n < kept_mark
position_low b [] n w h = omega arith
position_low b (e ∷ es) n w h = omega (arith, leb-true (value_count (e ∷ es)) kept_mark (v_count b e es w))

slot_position : (b : Base) (v : List Element) (n : ℕ) → wf_value b v ≡ true → n < value_count v → position_in (pick (is_reduced v) kept_mark n) ≡ n
slot_position b v n w h =
    by_bool (is_reduced v)
    (λ y. let z : n ≡ 0 = omega (arith, reduced_one v y) in rw y (sym z))
    (λ y. rw (y, lt-ltb n kept_mark (position_low b v n w h)))

plan_positions : (at : ℕ) (ps : List Part) (ns : List ℕ) → all fine_part ps ≡ true → Below (part_places ps) ns → positions_in (plan_of at ps ns) ≡ ns
unfolding positions_in
plan_positions at [] [] h b = refl
plan_positions at [] (n ∷ ns) h b = absurd b
plan_positions at (kept f ∷ ps) ns h b = plan_positions (at + length (field_bytes f)) ps ns (and_r (fine_part (kept f)) (all fine_part ps) h) b
plan_positions at (placed p ∷ ps) [] h b = absurd b
plan_positions at (placed (place a nm v) ∷ ps) (n ∷ ns) h (k, b) =
    ap₂ (λ (x : ℕ) (l : List ℕ). x ∷ l) (slot_position a v n (and_l (wf_value a v) (all fine_part ps) h) k)
    (plan_positions (at + size (place_fields (place a nm v))) ps ns (and_r (wf_value a v) (all fine_part ps) h) b)

-- ---- the row at the end

plans_made : (rec : List ℕ) (k : ℕ) (c : Command) → body_of rec ≡ ok c → Plans rec k (plan_back rec (spans_of c) k).0
unfolding positions_of
plans_made rec k c is =
    let w : IsBody rec c = body_is rec c is in
    let ps : List Part = parts_of c in
    let ns : List ℕ = behind (map place_count (places_in c)) k in
    let stands : rec ≡ parts_bytes ps = sym w.bytes ∙ ap bytes_of (sym (parts_fields c)) in
    let fine : all fine_part ps ≡ true = parts_fine c w.well in
    let row : List ℕ = (plan_back rec (spans_of c) k).0 in
    let e : row ≡ plan_of 0 ps ns =
    ap (λ (r : List ℕ). (plan_back rec r k).0) (spans_are c) ∙ ap (λ (x : List ℕ × ℕ). x.0) (plan_is rec k 0 ps stands fine)
    ∙ ap (λ (l : List Place). plan_of 0 ps (behind (map place_count l) k)) (parts_in c) in
    let below : Below (places_in c) ns = positions_below (places_in c) k in
    let held : positions_in row ≡ ns = ap positions_in e ∙ plan_positions 0 ps ns fine (rw (parts_in c) below) in
    record {
      planned = record { tree = c; is = is; below = rw held below; plan = rw held e };
      positions = held;
    }

pub placing_all : {rec row o : List ℕ} {k i l : ℕ} → Told rec row → Placing rec row k i l o → i ≤ 0 → Plans rec k o
placing_all {rec} {row} {o} {k} {i} t d z =
    let e : i ≡ 0 = omega arith in
    let q : o ≡ (plan_back rec row k).0 = rw e at d.out in
    let s : o ≡ (plan_back rec (spans_of t.tree) k).0 = q ∙ ap (λ (r : List ℕ). (plan_back rec r k).0) t.told in
    subst (Plans rec k) (sym s) (plans_made rec k t.tree t.is)
