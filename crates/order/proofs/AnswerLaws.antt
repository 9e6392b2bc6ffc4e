-- The answers of order k: each refusal where its test fails, in the rules' order, and else the order's record.
use mathlib.Core.Path.{◌≡◌, refl, sym, ap, ap₂, ◌∙◌, subst}
use mathlib.Core.Bool.{true, false}
use mathlib.Core.List.{List, ◌++◌, map}
use Prim.Native.Nat.{ℕ, ◌*◌, ◌/◌, ◌%◌, ◌≤◌, ◌<◌}
use native.Mathlib.Omega.{arith}
use Rattle.std.proofs.Common.{Option, Some, None, Result, Ok, Err}
use borrow.Author.Tests.{lt-ltb, le-ltb}
use lib.Dec.{ltb}
use lib.ListN.{length, take, drop, replicate, length-append}
use lib.Seq.{take_at, length-take-le}
use Rattle.laws.specs.Over.{over, part}
use Rattle.rules.specs.Refusals.{Res, ok, bad, not_well_formed, no_such_order, no_room, most_places}
use Rattle.rules.specs.Answers.{Answer, indexed, order_of, ordering, ordering_row, RowPromise, Orders, OrdersRow}
use Rattle.rules.specs.Commands.{Command, command, place_count, all_places}
use Rattle.rules.specs.Indexes.{offsets}
use Rattle.rules.specs.Orders.{back, block_at, count, order_at}
use Rattle.rules.specs.Records.{head_bytes, head_size, encode}
use Rattle.rules.specs.WellFormed.{well_formed, record_of, body_of}
use Rattle.rules.specs.declared.Refusal.{Refusal}
use Rattle.rules.specs.Reasons.{refusal}
use Rattle.rules.proofs.CommandBack.{c_blocks}
use Rattle.rules.proofs.CountIsField.{order_count}
use Rattle.rules.proofs.EncodeDecode.{record_is, record_room, record_part}
use Rattle.rules.proofs.OrderWellFormed.{places_order, order_wf}
use Rattle.rules.proofs.ResultLaws.{ok_inj}
use Rattle.rules.proofs.RowCalls.{order_well}
use Rattle.rules.proofs.RowPoints.{offsets_many}
use Rattle.index.specs.Rows.{Indexable, Fills, Recorded}
use Rattle.index.proofs.CallLaws.{no_room_lem, no_slots_lem, both_fit, Sound, without_row, row_refused as refused-row, row_cut as cut-row, row_fits as fits-row, row_done as done-row}
use Rattle.judge.specs.Judged.{per_place, row_length, blocks_of, IsGood, Judges, Told as Spans}
use Rattle.judge.specs.declared.Judged.{Judged}
use Rattle.order.specs.Reduced.{positions_of, places_in, order_bytes}
use Rattle.judge.proofs.ToldLaws.{judged, judged_row, judged_count, judged_cut, head_room, judged_told}
use Rattle.order.specs.Plans.{positions_in, Planned, Plans, PutsOrder, IsOrder, PutsIndexed, PlanIs, Refuses, IsPlan}
use Rattle.order.proofs.PartLaws.{reduced_order}

-- ---- the order's places

-- an order has as many places as its record
order_slots : (c : Command) (k : ℕ) {n : ℕ} → well_formed c ≡ true → n ≡ length (all_places (blocks_of c)) → n ≡ length (offsets (order_at c k))
order_slots (command c bs) k h e =
    e ∙ sym (places_order bs k (c_blocks c bs h)).0 ∙ sym (offsets_many c (back block_at bs k).0)

-- 17, of the record and of the row, or both fit
module _ {rec row : List ℕ} (f : Planned rec row) (slots : ℕ) (old : List ℕ) where
  pub put_short : {n : ℕ} → n ≡ length (order_bytes rec (positions_in row)) → length old < n → PutsOrder rec row slots old (Err (refusal no_room n)) old
  put_short e h c w p = no_room_lem c slots old (e ∙ ap length w) h

  module _ (room : length (order_bytes rec (positions_in row)) ≤ length old) where
    pub put_few : slots < length row / per_place → PutsOrder rec row slots old (Err (refusal no_room (length row / per_place))) old
    put_few h c w p = no_slots_lem c slots old (omega (arith, ap length w)) (omega arith) h

    pub put_done : {n : ℕ} {new : List ℕ} → length row / per_place ≤ slots → n ≡ length (order_bytes rec (positions_in row)) → new ≡ over (order_bytes rec (positions_in row)) old
        → PutsOrder rec row slots old (Ok n) new
    put_done h e q c w p = both_fit c slots old (omega (arith, ap length w)) (omega arith) (e ∙ ap length w) (q ∙ ap (λ (x : List ℕ). over x old) w)

-- ---- the row filled from what was written

module _ (rec plan slots old : List ℕ) {r : Answer} {new : List ℕ} (q : PutsOrder rec plan (length slots) old r new) where
  module _ (o : IsOrder rec plan) where
    found : Recorded (ok o.order) (length slots) old r new
    found = q o.order o.bytes o.three

    sound : Sound (ok o.order)
    sound c e = subst (λ (x : Command). well_formed x ≡ true) (ok_inj e) o.well

    module _ {n : ℕ} (e : r ≡ Ok n) where
      pub indexed_cut : n ≤ length new
      indexed_cut = cut-row (ok o.order) old slots found e

      pub indexed_part : n ≡ length (take n new)
      indexed_part = sym (length-take-le n new indexed_cut)

      pub indexed_fits : Indexable (take n new) (length slots)
      indexed_fits = fits-row (ok o.order) old slots found e sound

  pub indexed_refused : {w : Refusal} → r ≡ Err w → PutsIndexed rec plan old slots (Err w) new slots
  indexed_refused e o = refused-row (ok o.order) old slots (found o) e

  pub indexed_done : {n : ℕ} {filled : List ℕ} → r ≡ Ok n → Fills (take n new) slots filled → PutsIndexed rec plan old slots (Ok n) new filled
  indexed_done e f o = done-row (ok o.order) old slots (found o) e (sound o) f

-- ---- the plan

-- a row for all places is lent, cleared
pub row_threes : (row : List ℕ) → row ≡ replicate row_length 0 → length row % per_place ≡ 0
row_threes row z = rw z

pub plan_bad : (rec old row : List ℕ) (k : ℕ) {r : Option Judged} → r ≡ None → Judges (record_of rec) old row r → Refuses (order_of rec k) (refusal not_well_formed 0)
plan_bad rec old row k e j =
    let h : record_of rec ≡ bad not_well_formed 0 = subst (Judges (record_of rec) old row) e j in
    record { number = not_well_formed; place = 0; is = rw h; says = refl }

module _ (rec old row : List ℕ) (z : old ≡ replicate row_length 0) {r : Option Judged} {d : Judged} (e : r ≡ Some d) (given : Judges (record_of rec) old row r) where
  j : Judges (record_of rec) (replicate row_length 0) row r
  j = subst (λ (x : List ℕ). Judges (record_of rec) x row r) z given

  good : IsGood (record_of rec) (replicate row_length 0) row d.places d.total
  good = judged rec row e j

  pub told_row : per_place * d.places ≤ length row
  told_row = judged_row rec row e j

  pub told_count : per_place * d.places < 18446744073709551616
  told_count = judged_count rec row e j

  pub told_cut : per_place * d.places ≡ length (take (per_place * d.places) row)
  told_cut = judged_cut rec row e j

  pub told_head : head_size ≤ length rec
  told_head = head_room rec row e j

  pub told_is : Spans (part rec head_size) (take (per_place * d.places) row)
  told_is = judged_told rec row e j

  pub plan_past : (k : ℕ) → d.total ≤ k → Refuses (order_of rec k) (refusal no_such_order d.total)
  plan_past k l =
      let q : ltb k (count good.tree) ≡ false = le-ltb k (count good.tree) (omega (arith, good.total)) in
      record {
        number = no_such_order;
        place = d.total;
        is = rw (good.is, q) (ap (λ (x : ℕ). bad no_such_order x) (sym good.total));
        says = refl;
      }

  -- ps left in the row's front, which was lent
  pub plan_made : (k : ℕ) (ps : List ℕ) → k < d.total → length ps ≡ length (take (per_place * d.places) row) → Plans (part rec head_size) k ps
      → PlanIs rec k (ps ++ drop (per_place * d.places) row) (per_place * d.places)
  plan_made k ps h l f =
      let well : well_formed good.tree ≡ true = (record_is rec good.tree good.is).well in
      let front : take (per_place * d.places) (ps ++ drop (per_place * d.places) row) ≡ ps = take_at ps (drop (per_place * d.places) row) (per_place * d.places) (l ∙ sym (judged_cut rec row e j)) in
      record {
        tree = good.tree;
        is = good.is;
        below = omega (arith, good.total);
        inside = omega (arith, length-append ps (drop (per_place * d.places) row), judged_cut rec row e j);
        few = omega (arith, good.few);
        three = omega (arith, order_slots good.tree k well good.places);
        plans = subst (Plans (part rec head_size) k) (sym front) f;
      }

-- ---- the two calls over it

module _ (rec row : List ℕ) (k : ℕ) {f : Result ℕ Refusal} (w : IsPlan rec k row f) where
  module _ {r : Refusal} (e : f ≡ Err r) where
    not_found : Refuses (order_of rec k) r
    not_found = subst (IsPlan rec k row) e w

    pub order_refused : (old : List ℕ) → Orders rec k old (Err r) old
    unfolding ordering
    order_refused old =
        let q = not_found in
        rw q.says (without_row (order_of rec k) old (order_well rec k) (record { answers = rw q.is; holds = rw q.is }))

    pub row_refused : (old slots : List ℕ) → OrdersRow rec k old slots (Err r) old slots
    unfolding ordering_row
    row_refused old slots = let q = not_found in rw q.says (record { answers = rw q.is; holds = rw q.is; fills = rw q.is })

  module _ {n : ℕ} (e : f ≡ Ok n) where
    made : PlanIs rec k row n
    made = subst (IsPlan rec k row) e w

    abbrev rest : List ℕ
    rest = part rec head_size

    abbrev planned : List ℕ
    planned = take n row

    pub head_inside : head_size ≤ length rec
    head_inside = record_room rec made.tree made.is

    pub plan_inside : n ≤ length row
    plan_inside = made.inside

    pub plan_cut : n ≡ length planned
    plan_cut = sym (length-take-le n row plan_inside)

    pub plan_few : length planned ≤ row_length
    plan_few = omega (arith, plan_cut, made.few)

    pub plan_planned : Planned rest planned
    plan_planned = made.plans.planned

    well : well_formed made.tree ≡ true
    well = (record_is rec made.tree made.is).well

    -- an order's head carries 1, and its fields are those that are reduced
    order_whole : order_bytes rest (positions_in planned) ≡ encode (order_at made.tree k)
    order_whole =
        let c : Command = made.tree in
        let body : body_of rest ≡ ok c = record_part rec c made.is in
        let same : made.plans.planned.tree ≡ c = ok_inj (sym made.plans.planned.is ∙ body) in
        let ns : positions_in planned ≡ positions_of (map place_count (places_in c)) k =
        made.plans.positions ∙ ap (λ (d : Command). positions_of (map place_count (places_in d)) k) same in
        ap (order_bytes rest) ns ∙ ap₂ (λ (m : ℕ) (x : List ℕ). head_bytes m ++ x) (sym (order_count c k well)) (reduced_order rest c k body)

    slots_three : length planned ≡ per_place * length (offsets (order_at made.tree k))
    slots_three = sym plan_cut ∙ made.three

    abbrev its_order : IsOrder rest planned
    its_order = record { order = order_at made.tree k; bytes = order_whole; three = slots_three; well = order_wf made.tree k well }

    pub plan_order : IsOrder rest planned
    plan_order = its_order

    found_is : order_of rec k ≡ ok (order_at made.tree k)
    found_is = rw (made.is, lt-ltb k (count made.tree) made.below)

    pub order_at_lem : (old new : List ℕ) {a : Answer} → PutsOrder rest planned most_places old a new → Orders rec k old a new
    unfolding ordering
    order_at_lem old new {a} p =
        without_row (order_of rec k) old (order_well rec k)
        (subst (λ (x : Res Command). Recorded x most_places old a new) (sym found_is) (p (order_at made.tree k) order_whole slots_three))

    pub row_at : (old slots new filled : List ℕ) {a : Answer} → PutsIndexed rest planned old slots a new filled → OrdersRow rec k old slots a new filled
    unfolding ordering_row
    row_at old slots new filled {a} p =
        subst (λ (x : Res Command). RowPromise (indexed (length old) (length slots) x) old slots a new filled) (sym found_is)
        (p its_order)
