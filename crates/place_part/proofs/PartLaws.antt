-- The call's answer: where the row is right a slot is the place's offset, its fields stand there in the record and nothing else of their tags behind them, so their end is found.
use mathlib.Core.Path.{◌≡◌, sym, ap, ◌∙◌, subst}
use mathlib.Core.Bool.{false}
use mathlib.Core.List.{List, []}
use denote.Ref.{Bor}
use Prim.Native.Nat.{ℕ, ◌+◌, ◌-◌, ◌≤◌, ◌<◌}
use native.Mathlib.Omega.{arith}
use borrow.Author.Tests.{lt-leb}
use lib.Dec.{leb}
use lib.ListN.{length, get_or, take, drop}
use Rattle.std.proofs.Common.{Option, Some, None, Ok, Err}
use Rattle.rules.specs.declared.Refusal.{Refusal}
use Rattle.rules.specs.Reasons.{refusal}
use Rattle.rules.specs.Refusals.{ok, not_well_formed, wrong_row, no_such_place}
use Rattle.rules.specs.Commands.{Place, Command, command, all_places}
use Rattle.rules.specs.Records.{encode}
use Rattle.rules.specs.WellFormed.{record_of}
use Rattle.rules.specs.Positions.{place_of}
use Rattle.rules.specs.Indexes.{offsets, place_bytes, agreeing}
use Rattle.rules.specs.Answers.{Answer, placing, Places, HandsBack}
use Rattle.rules.proofs.EncodeDecode.{IsRecord, record_is}
use Rattle.rules.proofs.RecordBound.{record_bound}
use Rattle.rules.proofs.ResultLaws.{by_res, ok≢bad}
use Rattle.rules.proofs.RowPoints.{StandsAt, offsets_many, stands_there}
use Rattle.rules.proofs.RowCalls.{SlotRight, all_right, right_is, is_right_lem, no_record, past_places, handed_back, passed, PartFrom, part_of_record}
use Rattle.judge.specs.Judged.{blocks_of, IsGood, Judges}
use Rattle.judge.specs.declared.Judged.{Judged}
use Rattle.index.specs.Rows.{WellFormed, Agrees, HasPlace, EndsAt}

-- ---- what the judge and the row say

pub place_bad : (rec old new row : List ℕ) (m : ℕ) {r : Option Judged} → r ≡ None → Judges (record_of rec) old new r → Places rec row m (Err (refusal not_well_formed 0))
place_bad rec old new row m e j = rw (no_record rec row m not_well_formed 0 (subst (Judges (record_of rec) old new) e j))

slots_of : (c : Command) → length (all_places (blocks_of c)) ≡ length (offsets c)
slots_of (command c bs) = sym (offsets_many c bs)

module _ (rec old new : List ℕ) {r : Option Judged} {x : Judged} (e : r ≡ Some x) (j : Judges (record_of rec) old new r) where
  abbrev n : ℕ
  n = x.places

  good : IsGood (record_of rec) old new n x.total
  good = subst (Judges (record_of rec) old new) e j

  abbrev tree : Command
  tree = good.tree

  -- one offset for each place
  slots_are : n ≡ length (offsets tree)
  slots_are = good.places ∙ slots_of tree

  pub place_record : WellFormed rec
  place_record = record { tree = tree; is = good.is }

  pub wrong_small : {k : ℕ} → k < n → k < 4294967296
  wrong_small h = omega (arith, good.few)

  module _ (row : List ℕ) (m : ℕ) {k : ℕ} (a : Agrees rec row k) where
    agreed : k ≡ agreeing (offsets tree) row
    agreed = a tree good.is

    -- 28
    pub place_wrong : k < n → Places rec row m (Err (refusal wrong_row k))
    unfolding placing
    place_wrong h =
        let w : leb (length (offsets tree)) (agreeing (offsets tree) row) ≡ false = lt-leb (length (offsets tree)) (agreeing (offsets tree) row) (omega (arith, agreed, slots_are)) in
        rw (good.is, w, agreed)

    module _ (h : n ≤ k) where
      -- every slot of a place is right, and so many are
      slots_right : (i : ℕ) → i < length (offsets tree) → SlotRight (offsets tree) row i
      slots_right = is_right_lem (offsets tree) row (right_is (offsets tree) row (omega (arith, agreed, slots_are)))

      all_agreed : agreeing (offsets tree) row ≡ length (offsets tree)
      all_agreed = all_right (offsets tree) row slots_right

      -- 26
      pub place_past : n ≤ m → Places rec row m (Err (refusal no_such_place m))
      place_past l = rw (past_places rec row m tree good.is all_agreed (omega (arith, slots_are)))

      module _ (l : m < n) where
        inside : m < length (offsets tree)
        inside = omega (arith, slots_are)

        slot : SlotRight (offsets tree) row m
        slot = slots_right m inside

        pub slot_inside : m < length row
        slot_inside = slot.0

        abbrev asked : Place
        asked = place_of tree m

        placed : placing rec row m ≡ ok (place_bytes tree m)
        placed = handed_back rec row m tree good.is all_agreed inside

        part_there : PartFrom rec (get_or row m 0) (place_bytes tree m)
        part_there = part_of_record rec row m (place_bytes tree m) placed

        -- the place's fields stand where the slot says
        there : StandsAt asked rec (get_or row m 0)
        there =
            subst (λ (x : List ℕ). StandsAt asked x (get_or row m 0)) (record_is rec tree good.is).bytes
            (subst (λ (i : ℕ). StandsAt asked (encode tree) i) (sym slot.1) (stands_there tree m inside))

        module _ {s : ℕ} (q : s ≡ get_or row m 0) where
          here : StandsAt asked rec s
          here = subst (λ (i : ℕ). StandsAt asked rec i) (sym q) there

          pub place_stands : HasPlace rec s
          place_stands = record { p = asked; there = here }

          module _ {y : ℕ} (f : EndsAt rec s y) where
            end_is : y ≡ s + length (place_bytes tree m)
            end_is = f asked here

            pub end_behind : s ≤ y
            end_behind = omega (arith, end_is)

            pub part_small : y - s < 4294967296
            part_small =
                let r : IsRecord rec tree = record_is rec tree good.is in
                omega (arith, end_is, part_there.inside, ap length r.bytes, record_bound tree r.well)

            pub place_done : Places rec row m (Ok (y - s))
            place_done = let z : y - s ≡ length (place_bytes tree m) = omega (arith, end_is) in rw (placed, z)

-- ---- the part of the record

-- what the answer says of what is handed back
record Handed (rec row : List ℕ) (m len : ℕ) : Type 0 where
  bytes : List ℕ
  is : placing rec row m ≡ ok bytes
  size : length bytes ≡ len
  slot : m < length row
  small : length rec ≤ 65536
  from : PartFrom rec (get_or row m 0) bytes

handed : (rec row : List ℕ) (m len : ℕ) (w : List ℕ) → placing rec row m ≡ ok w → length w ≡ len → Handed rec row m len
handed rec row m len w y z =
    by_res (record_of rec)
    (λ c h.
    record {
      bytes = w;
      is = y;
      size = z;
      slot = passed rec row m c h w y (λ rows k same. (is_right_lem (offsets c) row rows m k).0);
      small = let r : IsRecord rec c = record_is rec c h in omega (arith, ap length r.bytes, record_bound c r.well);
      from = part_of_record rec row m w y;
    })
    (λ n p h. ok≢bad (sym (no_record rec row m n p h) ∙ y))

module _ (rec row : List ℕ) (m : ℕ) {a : Answer} (e : Places rec row m a) where
  module _ {len : ℕ} (d : a ≡ Ok len) where
    done_handed : Handed rec row m len
    done_handed =
        by_res (placing rec row m)
        (λ w y.
        let z : ◌≡◌ {A = Answer} (Ok len) (Ok (length w)) = sym d ∙ e ∙ rw y in
        let q : len ≡ length w = cc in
        handed rec row m len w y (sym q))
        (λ n p y.
        let z : ◌≡◌ {A = Answer} (Ok len) (Err (refusal n p)) = sym d ∙ e ∙ rw y in
        let w : ◌≡◌ {A = ℕ} 0 1 = cc in absurd (omega arith))

    pub handed_slot : m < length row
    handed_slot = done_handed.slot

    pub handed_small : {s : ℕ} → s ≡ get_or row m 0 → s + len < 18446744073709551616
    handed_small q = omega (arith, done_handed.size, done_handed.small, done_handed.from.inside)

    pub handed_inside : {s : ℕ} → s ≡ get_or row m 0 → s + len ≤ length rec
    handed_inside q = omega (arith, done_handed.size, done_handed.from.inside)

pub hands_part : (rec : Bor (List ℕ)) (row : List ℕ) (m : ℕ) {a : Answer} {len s : ℕ} → Places rec.now row m a → a ≡ Ok len → s ≡ get_or row m 0 → {part : Bor (List ℕ)}
    → part.now ≡ take (s + len - s) (drop s rec.now) → part.ref_ptr.0 ≡ rec.ref_ptr.0 → part.ref_ptr.1 ≡ rec.ref_ptr.1 + s → HandsBack rec row m part
hands_part rec row m {a} {len} {s} e d q holds within lies =
    let h : Handed rec.now row m len = done_handed rec.now row m e d in
    let n : s + len - s ≡ length h.bytes = omega (arith, h.size) in
    record {
      holds = holds ∙ rw (n, q) (sym h.from.is ∙ rw h.is);
      within = within;
      lies = rw h.is (lies ∙ rw q);
    }

pub hands_none : (rec : Bor (List ℕ)) (row : List ℕ) (m : ℕ) {a : Answer} {f : Refusal} → Places rec.now row m a → a ≡ Err f → {part : Bor (List ℕ)} → part.now ≡ []
    → part.ref_ptr.0 ≡ rec.ref_ptr.0 → part.ref_ptr.1 ≡ rec.ref_ptr.1 + 0 → HandsBack rec row m part
hands_none rec row m {a} {f} e d holds within lies =
    by_res (placing rec.now row m)
    (λ w y.
    let z : ◌≡◌ {A = Answer} (Err f) (Ok (length w)) = sym d ∙ e ∙ rw y in
    let w : ◌≡◌ {A = ℕ} 0 1 = cc in absurd (omega arith))
    (λ k o y. record { holds = rw y holds; within = within; lies = rw y lies })
