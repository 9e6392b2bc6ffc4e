-- M-108: the calls that fill a row and the call that asks by one. A row is let pass exactly where its slots are the offsets, so what is handed back lies in the record where the slot says;
-- refusals come in the paper's order.
use Prim.Native.Nat.{ℕ, zero, suc, ◌+◌, ◌≤◌, ◌<◌, suc-le-suc}
use mathlib.Core.Path.{◌≡◌, refl, sym, ap, ap₂, ◌∙◌, subst}
use mathlib.Core.Bool.{true}
use mathlib.Core.List.{List, [], ◌∷◌, ◌++◌}
use native.Mathlib.Nat.{le_of_suc-le-suc, not-suc-le-zero}
use native.Mathlib.Omega.{arith}
use denote.Ref.{Bor}
use lib.Dec.{eqb, leb, ltb}
use lib.ListN.{length, get_or, take, drop, length-append}
use lib.Seq.{drop_at, take-append_seam, drop-append_seam}
use borrow.Author.Tests.{eqb-true, eq-eqb, ne_eqb, leb-true, le-leb, lt-leb, ltb-true, lt-ltb, le-ltb}
use Rattle.laws.specs.Cases.{by_bool}
use Rattle.std.proofs.Common.{Ok, Err}
use Rattle.laws.specs.Over.{over}
use Rattle.rules.specs.Reasons.{refusal}
use Rattle.rules.specs.Refusals.{Res, ok, bad, map_r, no_such_order, no_such_place, wrong_row}
use Rattle.rules.specs.Commands.{Place, place, Command}
use Rattle.rules.specs.Reading.{read}
use Rattle.rules.specs.Records.{place_fields, bytes_of, encode}
use Rattle.rules.specs.WellFormed.{well_formed, record_of}
use Rattle.rules.specs.Orders.{count, order_at}
use Rattle.rules.specs.Positions.{place_of}
use Rattle.rules.specs.Indexes.{offsets, place_bytes, agreeing}
use Rattle.rules.specs.Answers.{reading, order_of, ordering, reading_row, ordering_row, placing, answered, value_of, Answer, part_of, part_at, RowPromise, Places, HandsBack}
use Rattle.rules.proofs.EncodeDecode.{record_is, record_of_lem}
use Rattle.rules.proofs.Indexed.{index_is, indexed_fitted}
use Rattle.rules.proofs.OrderWellFormed.{order_wf}
use Rattle.rules.proofs.ReadSound.{read_wf}
use Rattle.rules.proofs.ResultLaws.{ok_inj, bad_same, ok≢bad, by_res, bind_ok, guard_ok}
use Rattle.rules.proofs.RowPoints.{StandsAt, stands_there, offsets_most}

-- ---- how far a row is right

-- the row has this slot, and it is the offset
abbrev pub SlotRight : List ℕ → List ℕ → ℕ → Type 0
SlotRight os row i = (i < length row) × (get_or row i 0 ≡ get_or os i 0)

-- a slot behind the first
later : (o s : ℕ) (os row : List ℕ) (i : ℕ) → SlotRight (o ∷ os) (s ∷ row) (suc i) → SlotRight os row i
later o s os row i h = (le_of_suc-le-suc h.0, h.1)

-- the first slot that is not right
first_wrong : (os row : List ℕ) (j : ℕ) → j < length os → ((i : ℕ) → i < j → SlotRight os row i) → (SlotRight os row j → ⊥) → agreeing os row ≡ j
first_wrong [] row j h r w = absurd (not-suc-le-zero h)
first_wrong (o ∷ os) [] zero h r w = refl
first_wrong (o ∷ os) [] (suc j) h r w = absurd (not-suc-le-zero (r 0 (omega arith)).0)
first_wrong (o ∷ os) (s ∷ row) zero h r w = rw (ne_eqb s o (λ e. w (omega arith, e)))
first_wrong (o ∷ os) (s ∷ row) (suc j) h r w =
    rw (eq-eqb s o (r 0 (omega arith)).1)
    (ap suc (first_wrong os row j (le_of_suc-le-suc h) (λ i k. later o s os row i (r (suc i) (suc-le-suc k))) (λ x. w (suc-le-suc x.0, x.1))))

pub all_right : (os row : List ℕ) → ((i : ℕ) → i < length os → SlotRight os row i) → agreeing os row ≡ length os
all_right [] row r = refl
all_right (o ∷ os) [] r = absurd (not-suc-le-zero (r 0 (omega arith)).0)
all_right (o ∷ os) (s ∷ row) r =
    rw (eq-eqb s o (r 0 (omega arith)).1) (ap suc (all_right os row (λ i k. later o s os row i (r (suc i) (suc-le-suc k)))))

-- a row that begins with the offsets
begins : (os rest : List ℕ) → agreeing os (os ++ rest) ≡ length os
begins [] rest = refl
begins (o ∷ os) rest = rw (eq-eqb o o refl) (ap suc (begins os rest))

-- and only such a row is right in all slots
pub right_is : (os row : List ℕ) → length os ≤ agreeing os row → take (length os) row ≡ os
right_is [] row h = refl
right_is (o ∷ os) [] h = absurd (not-suc-le-zero h)
right_is (o ∷ os) (s ∷ row) h =
    by_bool (eqb s o)
    (λ y. ap₂ (λ (a : ℕ) (l : List ℕ). a ∷ l) (eqb-true s o y) (right_is os row (le_of_suc-le-suc (rw y at h))))
    (λ y. absurd (not-suc-le-zero (rw y at h)))

pub is_right_lem : (os row : List ℕ) → take (length os) row ≡ os → (i : ℕ) → i < length os → SlotRight os row i
is_right_lem [] row e i h = absurd (not-suc-le-zero h)
is_right_lem (o ∷ os) [] e i h = absurd (omega (arith, ap length e))
is_right_lem (o ∷ os) (s ∷ row) e zero h = (omega arith, ap (λ l. get_or l 0 0) e)
is_right_lem (o ∷ os) (s ∷ row) e (suc i) h =
    let x : SlotRight os row i = is_right_lem os row (ap (drop 1) e) i (le_of_suc-le-suc h) in (suc-le-suc x.0, x.1)

-- ---- asking

module _ (r row : List ℕ) (n : ℕ) where
  pub no_record : (nr p : ℕ) → record_of r ≡ bad nr p → placing r row n ≡ bad nr p
  unfolding placing
  no_record nr p h = rw h

  module _ (c : Command) (h : record_of r ≡ ok c) where
    pub wrong_slot : (j : ℕ) → j < length (offsets c) → ((i : ℕ) → i < j → SlotRight (offsets c) row i) → (SlotRight (offsets c) row j → ⊥) → placing r row n ≡ bad wrong_row j
    unfolding placing
    wrong_slot j k right wrong = rw h (rw (first_wrong (offsets c) row j k right wrong, lt-leb (length (offsets c)) j k))

    module _ (right : agreeing (offsets c) row ≡ length (offsets c)) where
      pub past_places : length (offsets c) ≤ n → placing r row n ≡ bad no_such_place n
      unfolding placing
      past_places k = rw h (rw (right, le-leb (length (offsets c)) (length (offsets c)) (omega arith), le-ltb n (length (offsets c)) k))

      pub handed_back : n < length (offsets c) → placing r row n ≡ ok (place_bytes c n)
      unfolding placing
      handed_back k = rw h (rw (right, le-leb (length (offsets c)) (length (offsets c)) (omega arith), lt-ltb n (length (offsets c)) k))

    -- a row that is let pass, and what is then handed back
    pub passed : {C : Type 0} (w : List ℕ) → placing r row n ≡ ok w → (take (length (offsets c)) row ≡ offsets c → n < length (offsets c) → place_bytes c n ≡ w → C) → C
    unfolding placing
    passed w e k =
        let right : ℕ = agreeing (offsets c) row in
        guard_ok (leb (length (offsets c)) right) wrong_row right _ w (rw h at e)
        (λ all' f.
        guard_ok (ltb n (length (offsets c))) no_such_place n (λ _. ok (place_bytes c n)) w f
        (λ few s. k (right_is (offsets c) row (leb-true (length (offsets c)) right all')) (ltb-true n (length (offsets c)) few) (ok_inj s)))

    -- and a row by which 26 is answered
    pub passed_past : (p : ℕ) → placing r row n ≡ bad no_such_place p → take (length (offsets c)) row ≡ offsets c
    unfolding placing
    passed_past p e =
        let right : ℕ = agreeing (offsets c) row in
        by_bool (leb (length (offsets c)) right)
        (λ y. right_is (offsets c) row (leb-true (length (offsets c)) right y))
        (λ y. let wrong : placing r row n ≡ bad wrong_row right = rw h (rw y) in absurd (omega (arith, (bad_same (sym wrong ∙ e)).0)))

-- a place has a field at least
place_some : (p : Place) → 4 ≤ length (bytes_of (place_fields p))
place_some (place b nm v) = omega arith

-- what is handed back: bytes of the record, from the slot's offset on
pub record PartFrom (r : List ℕ) (offset : ℕ) (w : List ℕ) : Type 0 where
  pub is : w ≡ take (length w) (drop offset r)
  pub inside : offset + length w ≤ length r
  pub some : 4 ≤ length w

part_there : (p : Place) (r : List ℕ) (offset : ℕ) → StandsAt p r offset → PartFrom r offset (bytes_of (place_fields p))
part_there p r offset s =
    let w : List ℕ = bytes_of (place_fields p) in
    let at : drop offset r ≡ w ++ bytes_of s.behind = ap (drop offset) s.is ∙ drop_at s.before (w ++ bytes_of s.behind) offset s.size in
    record {
      is = sym (ap (take (length w)) at ∙ take-append_seam w (bytes_of s.behind));
      inside = omega (arith, ap length s.is, length-append s.before (w ++ bytes_of s.behind), length-append w (bytes_of s.behind), s.size);
      some = place_some p;
    }

-- a place's fields are no longer than the record
pub place_small : (c : Command) (n : ℕ) → n < length (offsets c) → length (place_bytes c n) ≤ length (encode c)
place_small c n h =
    omega (arith, (part_there (place_of c n) (encode c) (get_or (offsets c) n 0) (stands_there c n h)).inside)

-- "hands back that place's fields as part of the record itself"
pub part_of_record : (r row : List ℕ) (n : ℕ) (w : List ℕ) → placing r row n ≡ ok w → PartFrom r (get_or row n 0) w
part_of_record r row n w e =
    by_res (record_of r)
    (λ c h.
    passed r row n c h w e
    (λ rows k same.
    let slot : SlotRight (offsets c) row n = is_right_lem (offsets c) row rows n k in
    subst (λ x. PartFrom r (get_or row n 0) x) same
    (part_there (place_of c n) r (get_or row n 0) (subst (λ x. StandsAt (place_of c n) x (get_or row n 0)) (record_is r c h).bytes (subst (λ i. StandsAt (place_of c n) (encode c) i) (sym slot.1) (stands_there c n k))))))
    (λ nr p h. ok≢bad (sym (no_record r row n nr p h) ∙ e))

-- what the call promises of its answer and of the part
module _ (r : Bor (List ℕ)) (row : List ℕ) (n : ℕ) (answer : Answer) (part : Bor (List ℕ)) (a : Places r.now row n answer) (b : HandsBack r row n part) where
  pub part_lies : (w : List ℕ) → placing r.now row n ≡ ok w
      → (answer ≡ Ok (length w)) × (part.now ≡ w) × (part.ref_ptr.0 ≡ r.ref_ptr.0) × (part.ref_ptr.1 ≡ r.ref_ptr.1 + get_or row n 0)
  part_lies w h =
      (a ∙ ap (λ x. answered (map_r length x)) h, b.holds ∙ ap part_of h, b.within, b.lies ∙ ap (λ x. r.ref_ptr.1 + part_at x (get_or row n 0)) h)

  pub no_part : (nr p : ℕ) → placing r.now row n ≡ bad nr p → (answer ≡ Err (refusal nr p)) × (part.now ≡ [])
  no_part nr p h = (a ∙ ap (λ x. answered (map_r length x)) h, b.holds ∙ ap part_of h)

-- ---- asking by a row that was filled

module _ (c : Command) (h : well_formed c ≡ true) (slots : List ℕ) (n : ℕ) where
  pub asked_filled : n < length (offsets c) → placing (encode c) (over (offsets c) slots) n ≡ ok (place_bytes c n)
  asked_filled k = handed_back (encode c) (over (offsets c) slots) n c (record_of_lem c h) (begins (offsets c) (drop (length (offsets c)) slots)) k

  pub asked_past : length (offsets c) ≤ n → placing (encode c) (over (offsets c) slots) n ≡ bad no_such_place n
  asked_past k = past_places (encode c) (over (offsets c) slots) n c (record_of_lem c h) (begins (offsets c) (drop (length (offsets c)) slots)) k

-- ---- filling

-- an order is well formed
pub order_well : (r : List ℕ) (k : ℕ) (c : Command) → order_of r k ≡ ok c → well_formed c ≡ true
order_well r k c h =
    bind_ok (record_of r) _ c h
    (λ d q e.
    guard_ok (ltb k (count d)) no_such_order (count d) (λ _. ok (order_at d k)) c e
    (λ t s. subst (λ x. well_formed x ≡ true) (ok_inj s) (order_wf d k (record_is r d q).well)))

-- what is filled is well formed
pub read_row_well : (text letters old row : List ℕ) (c : Command) → reading_row text letters old row ≡ ok c → well_formed c ≡ true
unfolding reading_row
read_row_well text letters old row c h = index_is old (length row) (read letters text) c h (λ q room many. read_wf letters text c q)

pub order_row_well : (r : List ℕ) (k : ℕ) (old row : List ℕ) (c : Command) → ordering_row r k old row ≡ ok c → well_formed c ≡ true
unfolding ordering_row
order_row_well r k old row c h = index_is old (length row) (order_of r k) c h (λ q room many. order_well r k c q)

-- what a call that fills promises of buffer and row
module _ (result : Res Command) (old row : List ℕ) (answer : Answer) (new filled : List ℕ) (p : RowPromise result old row answer new filled) where
  -- "nothing written"
  pub nothing_written : (n q : ℕ) → result ≡ bad n q → (new ≡ old) × (filled ≡ row)
  nothing_written n q h = let kept : RowPromise (bad n q) old row answer new filled = subst (λ x. RowPromise x old row answer new filled) h p in (kept.holds, kept.fills)

  module _ (c : Command) (h : result ≡ ok c) where
    done : RowPromise (ok c) old row answer new filled
    done = subst (λ x. RowPromise x old row answer new filled) h p

    filled_is : filled ≡ over (offsets c) row
    filled_is = done.fills

    -- "slots beyond the places keep their numbers"
    pub slots_kept : (take (length (offsets c)) filled ≡ offsets c) × (drop (length (offsets c)) filled ≡ drop (length (offsets c)) row)
    slots_kept =
        let beyond : List ℕ = drop (length (offsets c)) row in
        (ap (take (length (offsets c))) filled_is ∙ take-append_seam (offsets c) beyond, ap (drop (length (offsets c))) filled_is ∙ drop-append_seam (offsets c) beyond)

    -- the bytes written are the record
    written_is : take (value_of answer) new ≡ encode c
    written_is = ap₂ take (ap value_of done.answers) done.holds ∙ take-append_seam (encode c) (drop (length (encode c)) old)

    pub asked_written : (n : ℕ) → well_formed c ≡ true → n < length (offsets c) → placing (take (value_of answer) new) filled n ≡ ok (place_bytes c n)
    asked_written n well few = rw (written_is, filled_is) (asked_filled c well row n few)

-- 32 slots are enough for every record
pub read_row_most : (text letters row : List ℕ) → 32 ≤ length row → (c : Command) → read letters text ≡ ok c → length (offsets c) ≤ length row
read_row_most text letters row h c q = omega (arith, offsets_most c (read_wf letters text c q))

pub order_row_most : (r : List ℕ) (k : ℕ) (row : List ℕ) → 32 ≤ length row → (c : Command) → order_of r k ≡ ok c → length (offsets c) ≤ length row
order_row_most r k row h c q = omega (arith, offsets_most c (order_well r k c q))

-- and with enough of them the call writes what it writes without a row
pub read_row : (text letters old row : List ℕ) → ((c : Command) → read letters text ≡ ok c → length (offsets c) ≤ length row)
    → map_r encode (reading_row text letters old row) ≡ reading text letters old
unfolding reading_row reading
read_row text letters old row h = indexed_fitted old (length row) (read letters text) h

pub order_row : (r : List ℕ) (k : ℕ) (old row : List ℕ) → ((c : Command) → order_of r k ≡ ok c → length (offsets c) ≤ length row)
    → map_r encode (ordering_row r k old row) ≡ ordering r k old
unfolding ordering_row ordering
order_row r k old row h = indexed_fitted old (length row) (order_of r k) h
