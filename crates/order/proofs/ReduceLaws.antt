-- The parts that are left are reduced one place after the other: what is written, then the bytes that are not yet copied, then the parts that are left,
-- reduced, are the whole.
use mathlib.Core.Path.{◌≡◌, refl, sym, ap, ◌∙◌, subst}
use mathlib.Core.Bool.{true, false, false≢true}
use mathlib.Core.List.{List, [], ◌∷◌, ◌++◌, append_assoc, append-nil}
use Prim.Native.Nat.{ℕ, ◌+◌, ◌-◌, ◌*◌, ◌≤◌, ◌<◌}
use native.Mathlib.Omega.{arith}
use lib.ListN.{length, get_or, drop, length-append, length-take, length-drop, drop_of_length-le, take-append-drop}
use lib.Seq.{drop-drop}
use Rattle.laws.specs.Cases.{by_bool, and_l, and_r}
use Rattle.laws.specs.Lists.{all}
use Rattle.rules.specs.Characters.{between}
use Rattle.rules.specs.Units.{Base}
use Rattle.rules.specs.Commands.{Element, single, range, leading, Place, place, value_count}
use Rattle.rules.specs.Records.{field_bytes, bytes_of, many, element_fields, place_fields, single_tag, string_tag}
use Rattle.rules.specs.WellFormed.{wf_value}
use Rattle.rules.specs.Orders.{value_at, argument_at}
use Rattle.rules.proofs.EncodeDecode.{IsBody, body_is}
use Rattle.rules.proofs.FieldLaws.{bytes_append}
use Rattle.rules.proofs.ValueBack.{v_all}
use Rattle.record_walk.specs.Fronts.{tag_of}
use Rattle.record_walk.specs.Runs.{Whole, bytes_in}
use Rattle.record_walk.specs.Spans.{size, head_fields}
use Rattle.record_walk.proofs.RunLaws.{drop_behind, stands_inside, bytes_none, bytes_on, low_tag}
use Rattle.order_argument.specs.Terms.{argument_bytes, IsArgument}
use Rattle.order_argument.specs.declared.Argument.{Argument}
use Rattle.order.specs.Reduced.{Part, kept, placed, part_fields, parts_bytes, parts_of, reduce, reduced, Below}
use Rattle.order.specs.Plans.{kept_mark, is_reduced, slot_of, plan_of, positions_in, Planned, changed}
use Rattle.order.proofs.PartLaws.{part_places, fine_part, parts_fields, parts_in, parts_fine, part_tag}
use Rattle.judge.proofs.ToldLaws.{three_front}
use Rattle.order.proofs.PositionLaws.{position_low, head_bytes_lem}

-- ---- bytes of a record

pub bytes_long : (rec : List ℕ) (a e : ℕ) → a ≤ e → e ≤ length rec → length (bytes_in rec a e) ≡ e - a
bytes_long rec a e h k = omega (arith, length-take (e - a) (drop a rec), length-drop a rec)

-- ---- the next place

abbrev value_bytes : List Element → List ℕ
value_bytes v = bytes_of (many element_fields v)

-- the next place of parts, with its position, and what stands behind it
record NextPlace : Type 0 where
  base : Base
  name : List (List ℕ)
  value : List Element
  position : ℕ
  positions : List ℕ
  more : List Part
  fine : wf_value base value ≡ true
  under : position < value_count value
  rest : all fine_part more ≡ true
  below : Below (part_places more) positions

-- of parts that begin at q: the bytes before its value, and the row's three numbers for it
record Next (q : ℕ) (row ns : List ℕ) (ps : List Part) : Type 0 where
  head : List ℕ
  at : NextPlace
  end : ℕ
  at_end : end ≡ q + length head + length (value_bytes at.value)
  row_is : row ≡ slot_of (place at.base at.name at.value) at.position ∷ (q + length head) ∷ end ∷ plan_of end at.more at.positions
  bytes : parts_bytes ps ≡ head ++ (value_bytes at.value ++ parts_bytes at.more)
  reduces : parts_bytes (reduce ps ns) ≡ head ++ (value_bytes (value_at at.value at.position) ++ parts_bytes (reduce at.more at.positions))

-- a place, and others behind it
place_bytes_lem : (b : Base) (nm : List (List ℕ)) (v : List Element) (ps : List Part)
    → parts_bytes (placed (place b nm v) ∷ ps) ≡ bytes_of (head_fields (place b nm v)) ++ (value_bytes v ++ parts_bytes ps)
place_bytes_lem b nm v ps =
    bytes_append (place_fields (place b nm v)) (many part_fields ps) ∙ ap (λ (x : List ℕ). x ++ parts_bytes ps) (head_bytes_lem b nm v)
    ∙ append_assoc (bytes_of (head_fields (place b nm v))) (value_bytes v) (parts_bytes ps)

next_place : (q : ℕ) (row ns : List ℕ) (ps : List Part) → row ≡ plan_of q ps ns → 0 < length row → all fine_part ps ≡ true → Below (part_places ps) ns → Next q row ns ps
next_place q row ns [] e h f b = absurd (omega (arith, ap length e))
next_place q row ns (kept g ∷ ps) e h f b =
    let w : List ℕ = field_bytes g in
    let i : Next (q + length w) row ns ps = next_place (q + length w) row ns ps e h (and_r (fine_part (kept g)) (all fine_part ps) f) b in
    let z : q + length w + length i.head ≡ q + length (w ++ i.head) = omega (arith, length-append w i.head) in
    record {
      head = w ++ i.head;
      at = i.at;
      end = i.end;
      at_end = omega (arith, i.at_end);
      row_is = i.row_is ∙ ap (λ (n : ℕ). slot_of (place i.at.base i.at.name i.at.value) i.at.position ∷ n ∷ i.end ∷ plan_of i.end i.at.more i.at.positions) z;
      bytes = ap (λ (x : List ℕ). w ++ x) i.bytes ∙ sym (append_assoc w i.head (value_bytes i.at.value ++ parts_bytes i.at.more));
      reduces =
          ap (λ (x : List ℕ). w ++ x) i.reduces
          ∙ sym (append_assoc w i.head (value_bytes (value_at i.at.value i.at.position) ++ parts_bytes (reduce i.at.more i.at.positions)));
    }
next_place q row [] (placed p ∷ ps) e h f b = absurd b
next_place q row (n ∷ ns) (placed (place b nm v) ∷ ps) e h f (k, l) =
    let p : Place = place b nm v in
    let w : List ℕ = bytes_of (head_fields p) in
    record {
      head = w;
      at = record {
        base = b;
        name = nm;
        value = v;
        position = n;
        positions = ns;
        more = ps;
        fine = and_l (wf_value b v) (all fine_part ps) f;
        under = k;
        rest = and_r (wf_value b v) (all fine_part ps) f;
        below = l;
      };
      end = q + length (bytes_of (place_fields p));
      at_end = omega (arith, ap length (head_bytes_lem b nm v), length-append w (value_bytes v));
      row_is = e;
      bytes = place_bytes_lem b nm v ps;
      reduces = place_bytes_lem b nm (value_at v n) (reduce ps ns);
    }

-- ---- what becomes of its value

-- an omitted value is its own argument, and so is one single element
kept_same : (v : List Element) (n : ℕ) → is_reduced v ≡ true → value_at v n ≡ v
kept_same [] n h = refl
kept_same (single l u ∷ []) n h = refl
kept_same (range l r lo up inc ∷ []) n h = absurd (false≢true h)
kept_same (single l u ∷ (e ∷ es)) n h = absurd (false≢true h)
kept_same (range l r lo up inc ∷ (e ∷ es)) n h = absurd (false≢true h)

slot_kept : (b : Base) (nm : List (List ℕ)) (v : List Element) (n : ℕ) → wf_value b v ≡ true → n < value_count v → kept_mark ≤ slot_of (place b nm v) n → is_reduced v ≡ true
slot_kept b nm v n w h k =
    by_bool (is_reduced v) (λ y. y) (λ y. let z : kept_mark ≤ n = rw y at k in absurd (omega (arith, position_low b v n w h)))

slot_changed : (b : Base) (nm : List (List ℕ)) (v : List Element) (n : ℕ) → slot_of (place b nm v) n < kept_mark → is_reduced v ≡ false
slot_changed b nm v n k = by_bool (is_reduced v) (λ y. let z : kept_mark < kept_mark = rw y at k in absurd (omega arith)) (λ y. y)

slot_position : (b : Base) (nm : List (List ℕ)) (v : List Element) (n : ℕ) → is_reduced v ≡ false → slot_of (place b nm v) n ≡ n
slot_position b nm v n y = rw y

-- a value that is written anew is not omitted, and the argument found is its argument at the position
argument_is : (rec : List ℕ) (s : ℕ) (b : Base) (v : List Element) (n : ℕ) (a : Argument) (rest : List ℕ) → IsArgument rec s n a → drop s rec ≡ value_bytes v ++ rest
    → wf_value b v ≡ true → n < value_count v → between single_tag string_tag (tag_of rest) ≡ false → is_reduced v ≡ false
    → argument_bytes (bytes_in rec a.start a.end) a.term ≡ value_bytes (value_at v n)
argument_is rec s b [] n a rest i d w h t y = absurd (false≢true (sym y))
argument_is rec s b (e ∷ es) n a rest i d w h t y =
    i.is b (length (leading e)) e es rest d (v_all b e es w) h t ∙ ap bytes_of (sym (append-nil (element_fields (argument_at e es n))))

-- ---- one place after the other

-- up to `at` and to the row's i-th number the record is reduced to `done`; the parts that are left begin at q
pub record Reducing (rec row : List ℕ) (at i : ℕ) (done : List ℕ) : Type 0 where
  pub q : ℕ
  pub parts : List Part
  pub ns : List ℕ
  pub stands : drop q rec ≡ parts_bytes parts
  pub behind : at ≤ q
  pub inside : q ≤ length rec
  pub fine : all fine_part parts ≡ true
  pub below : Below (part_places parts) ns
  pub plan : drop i row ≡ plan_of q parts ns
  pub places : ℕ
  pub threes : length row ≡ i + 3 * places
  pub total : reduced rec (positions_in row) ≡ (done ++ bytes_in rec at q) ++ parts_bytes (reduce parts ns)

-- three numbers for each position
plan_long : (q : ℕ) (ps : List Part) (ns : List ℕ) → Below (part_places ps) ns → length (plan_of q ps ns) ≡ 3 * length ns
plan_long q [] [] b = refl
plan_long q [] (n ∷ ns) b = absurd b
plan_long q (kept f ∷ ps) ns b = plan_long (q + length (field_bytes f)) ps ns b
plan_long q (placed p ∷ ps) [] b = absurd b
plan_long q (placed p ∷ ps) (n ∷ ns) (k, b) = omega (arith, plan_long (q + size (place_fields p)) ps ns b)

pub reducing_none : (rec row : List ℕ) → Planned rec row → Reducing rec row 0 0 []
unfolding reduced
reducing_none rec row f =
    let w : IsBody rec f.tree = body_is rec f.tree f.is in
    let below : Below (part_places (parts_of f.tree)) (positions_in row) = rw (parts_in f.tree) f.below in
    record {
      q = 0;
      parts = parts_of f.tree;
      ns = positions_in row;
      stands = sym w.bytes ∙ ap bytes_of (sym (parts_fields f.tree));
      behind = omega arith;
      inside = omega arith;
      fine = parts_fine f.tree w.well;
      below = below;
      plan = f.plan;
      places = length (positions_in row);
      threes = omega (arith, ap length f.plan, plan_long 0 (parts_of f.tree) (positions_in row) below);
      total = rw f.is;
    }

-- the next place's value in the record, from start to end
pub record Turn (rec row : List ℕ) (at i slot start end : ℕ) (done : List ℕ) : Type 0 where
  pub behind : at ≤ start
  pub order : start ≤ end
  pub inside : end ≤ length rec
  pub whole : Whole rec start
  pub same : kept_mark ≤ slot → Reducing rec row at (i + 3) done
  pub anew : slot < kept_mark → {a : Argument} → IsArgument rec start slot a → Reducing rec row end (i + 3) (done ++ changed rec at start a)

row_three : (row : List ℕ) (i : ℕ) {n s e : ℕ} {rest : List ℕ} → drop i row ≡ n ∷ s ∷ e ∷ rest
    → (get_or row i 0 ≡ n) × (get_or row (i + 1) 0 ≡ s) × (get_or row (i + 2) 0 ≡ e) × (drop (i + 3) row ≡ rest)
row_three row i {n} {s} {e} {rest} h =
    let q : get_or row i 0 ∷ get_or row (i + 1) 0 ∷ get_or row (i + 2) 0 ∷ drop (i + 3) row ≡ n ∷ s ∷ e ∷ rest =
    sym (three_front row i (omega (arith, ap length h, length-drop i row))) ∙ h in
    ((cc), (cc), (cc), (cc))

-- no place stands among parts that have no row
unplaced : (q : ℕ) (ps : List Part) (ns : List ℕ) → [] ≡ plan_of q ps ns → Below (part_places ps) ns → parts_bytes (reduce ps ns) ≡ parts_bytes ps
unplaced q [] ns e b = refl
unplaced q (kept f ∷ ps) ns e b = ap (λ (l : List ℕ). field_bytes f ++ l) (unplaced (q + length (field_bytes f)) ps ns e b)
unplaced q (placed p ∷ ps) [] e b = absurd b
unplaced q (placed p ∷ ps) (n ∷ ns) e b = absurd (omega (arith, ap length e))

module _ {rec row : List ℕ} {at i : ℕ} {done : List ℕ} (r : Reducing rec row at i done) where
  module _ (x : Next r.q (drop i row) r.ns r.parts) where
    abbrev start : ℕ
    start = r.q + length x.head

    abbrev left : List ℕ
    left = parts_bytes (reduce x.at.more x.at.positions)

    abbrev place_at : Place
    place_at = place x.at.base x.at.name x.at.value

    from_q : drop r.q rec ≡ x.head ++ (value_bytes x.at.value ++ parts_bytes x.at.more)
    from_q = r.stands ∙ x.bytes

    from_start : drop start rec ≡ value_bytes x.at.value ++ parts_bytes x.at.more
    from_start = drop_behind rec r.q x.head (value_bytes x.at.value ++ parts_bytes x.at.more) from_q

    start_inside : start ≤ length rec
    start_inside = stands_inside rec r.q x.head (value_bytes x.at.value ++ parts_bytes x.at.more) from_q r.inside

    end_is : start + length (value_bytes x.at.value) ≡ x.end
    end_is = sym x.at_end

    from_end : drop x.end rec ≡ parts_bytes x.at.more
    from_end =
        ap (λ (n : ℕ). drop n rec) (sym end_is) ∙ drop_behind rec start (value_bytes x.at.value) (parts_bytes x.at.more) from_start

    end_inside : x.end ≤ length rec
    end_inside = rw x.at_end (stands_inside rec start (value_bytes x.at.value) (parts_bytes x.at.more) from_start start_inside)

    -- what is not yet copied, up to the value
    copied : bytes_in rec at start ≡ bytes_in rec at r.q ++ x.head
    copied = bytes_on rec at r.q x.head (value_bytes x.at.value ++ parts_bytes x.at.more) r.behind from_q

    -- the whole, from the value on
    whole_is : reduced rec (positions_in row) ≡ (done ++ bytes_in rec at start) ++ (value_bytes (value_at x.at.value x.at.position) ++ left)
    whole_is =
        let v : List ℕ = value_bytes (value_at x.at.value x.at.position) in
        let u : List ℕ = bytes_in rec at r.q in
        r.total ∙ ap (λ (l : List ℕ). (done ++ u) ++ l) x.reduces ∙ sym (append_assoc (done ++ u) x.head (v ++ left))
        ∙ ap (λ (l : List ℕ). l ++ (v ++ left)) (append_assoc done u x.head ∙ ap (λ (l : List ℕ). done ++ l) (sym copied))

    -- behind the value, where it is shown what the whole is
    moved : {from : ℕ} {new : List ℕ} → from ≤ x.end → reduced rec (positions_in row) ≡ (new ++ bytes_in rec from x.end) ++ left → Reducing rec row from (i + 3) new
    moved h e =
        record {
          q = x.end;
          parts = x.at.more;
          ns = x.at.positions;
          stands = from_end;
          behind = h;
          inside = end_inside;
          fine = x.at.rest;
          below = x.at.below;
          plan = (row_three row i x.row_is).3;
          places = r.places - 1;
          threes = omega (arith, r.threes, ap length x.row_is, length-drop i row);
          total = e;
        }

    same_on : kept_mark ≤ slot_of place_at x.at.position → Reducing rec row at (i + 3) done
    same_on k =
        let y : is_reduced x.at.value ≡ true = slot_kept x.at.base x.at.name x.at.value x.at.position x.at.fine x.at.under k in
        let v : List ℕ = value_bytes x.at.value in
        let u : List ℕ = bytes_in rec at start in
        let e : u ++ v ≡ bytes_in rec at x.end =
        sym (bytes_on rec at start v (parts_bytes x.at.more) (omega (arith, r.behind)) from_start) ∙ ap (λ (n : ℕ). bytes_in rec at n) end_is in
        moved (omega (arith, r.behind, x.at_end))
        (whole_is ∙ ap (λ (l : List Element). (done ++ u) ++ (value_bytes l ++ left)) (kept_same x.at.value x.at.position y)
        ∙ sym (append_assoc (done ++ u) v left)
        ∙ ap (λ (l : List ℕ). l ++ left) (append_assoc done u v ∙ ap (λ (l : List ℕ). done ++ l) e))

    anew_on : slot_of place_at x.at.position < kept_mark → (a : Argument) → IsArgument rec start (slot_of place_at x.at.position) a
        → Reducing rec row x.end (i + 3) (done ++ changed rec at start a)
    unfolding changed
    anew_on k a p =
        let y : is_reduced x.at.value ≡ false = slot_changed x.at.base x.at.name x.at.value x.at.position k in
        let z : slot_of place_at x.at.position ≡ x.at.position = slot_position x.at.base x.at.name x.at.value x.at.position y in
        let low : between single_tag string_tag (tag_of (parts_bytes x.at.more)) ≡ false =
        low_tag single_tag string_tag (tag_of (parts_bytes x.at.more)) (omega (arith, part_tag x.at.more x.at.rest)) in
        let u : List ℕ = bytes_in rec at start in
        let w : List ℕ = argument_bytes (bytes_in rec a.start a.end) a.term in
        let g : w ≡ value_bytes (value_at x.at.value x.at.position) =
        argument_is rec start x.at.base x.at.value x.at.position a (parts_bytes x.at.more) (subst (λ n. IsArgument rec start n a) z p) from_start x.at.fine x.at.under low y in
        moved (omega arith)
        (whole_is ∙ ap (λ (l : List ℕ). (done ++ u) ++ (l ++ left)) (sym g) ∙ sym (append_assoc (done ++ u) w left)
        ∙ ap (λ (l : List ℕ). l ++ left)
        (append_assoc done u w ∙ sym (append-nil (done ++ (u ++ w))) ∙ ap (λ (l : List ℕ). (done ++ (u ++ w)) ++ l) (sym (bytes_none rec x.end))))

    turn_on : Turn rec row at i (get_or row i 0) (get_or row (i + 1) 0) (get_or row (i + 2) 0) done
    turn_on =
        let t = row_three row i x.row_is in
        rw (t.0, t.1, t.2) (record {
          behind = omega (arith, r.behind);
          order = omega (arith, x.at_end);
          inside = end_inside;
          whole = record {
            fs = many element_fields x.at.value ++ many part_fields x.at.more;
            is = from_start ∙ sym (bytes_append (many element_fields x.at.value) (many part_fields x.at.more));
            inside = start_inside;
          };
          same = same_on;
          anew = λ k {a} p. anew_on k a p;
        })

  pub reducing_turn : i < length row → Turn rec row at i (get_or row i 0) (get_or row (i + 1) 0) (get_or row (i + 2) 0) done
  reducing_turn h =
      turn_on (next_place r.q (drop i row) r.ns r.parts r.plan (omega (arith, length-drop i row)) r.fine r.below)

  -- no place is left
  pub reducing_all : length row ≤ i → reduced rec (positions_in row) ≡ done ++ drop at rec
  reducing_all h =
      let none : [] ≡ plan_of r.q r.parts r.ns = sym (drop_of_length-le row h) ∙ r.plan in
      let e : parts_bytes (reduce r.parts r.ns) ≡ drop r.q rec = unplaced r.q r.parts r.ns none r.below ∙ sym r.stands in
      let m : at + (r.q - at) ≡ r.q = omega (arith, r.behind) in
      let d : bytes_in rec at r.q ++ drop r.q rec ≡ drop at rec =
      ap (λ (n : ℕ). bytes_in rec at r.q ++ drop n rec) (sym m) ∙ ap (λ (l : List ℕ). bytes_in rec at r.q ++ l) (sym (drop-drop (r.q - at) at rec))
      ∙ take-append-drop (r.q - at) (drop at rec) in
      r.total ∙ ap (λ (l : List ℕ). (done ++ bytes_in rec at r.q) ++ l) e ∙ append_assoc done (bytes_in rec at r.q) (drop r.q rec)
      ∙ ap (λ (l : List ℕ). done ++ l) d
