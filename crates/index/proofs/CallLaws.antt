-- A call that fills a row: what it wrote is the record of a well-formed command, so its places can be walked; and with as many slots as there can be places it is the call without a row.
use mathlib.Core.Path.{◌≡◌, refl, sym, ap, ◌∙◌, subst}
use mathlib.Core.Bool.{true}
use mathlib.Core.List.{List}
use Prim.Native.Nat.{ℕ, ◌≤◌, ◌<◌}
use native.Mathlib.Omega.{arith}
use lib.ListN.{length, take, drop, length-append}
use lib.Seq.{take_at}
use Rattle.laws.specs.Over.{over}
use Rattle.std.proofs.Common.{Ok, Err}
use Rattle.rules.specs.declared.Refusal.{Refusal}
use Rattle.rules.specs.Reasons.{refusal}
use Rattle.rules.specs.Refusals.{Res, ok, map_r, no_room, most_places}
use Rattle.rules.specs.Commands.{Command}
use Rattle.rules.specs.Records.{encode}
use Rattle.rules.specs.WellFormed.{well_formed, record_of}
use Rattle.rules.specs.Indexes.{offsets}
use Rattle.rules.specs.Answers.{Answer, fitted, indexed, Promise, RowPromise}
use Rattle.rules.proofs.EncodeDecode.{record_at}
use Rattle.rules.proofs.Indexed.{index_no_room, index_no_slots, index_ok, index_is, indexed_fitted}
use Rattle.rules.proofs.ResultLaws.{by_res}
use Rattle.rules.proofs.RowPoints.{offsets_most}
use Rattle.index.specs.Rows.{Indexable, Fills, Recorded}

-- ---- a call that has found its command

module _ (c : Command) (slots : ℕ) (old : List ℕ) where
  -- 17 of the record
  pub no_room_lem : {n : ℕ} → n ≡ length (encode c) → length old < n → Recorded (ok c) slots old (Err (refusal no_room n)) old
  no_room_lem e h = let w = index_no_room old slots (ok c) c refl (omega arith) in record { answers = rw (w, e); holds = rw w }

  module _ (room : length (encode c) ≤ length old) where
    -- 17 of the row
    pub no_slots_lem : {m : ℕ} → m ≡ length (offsets c) → slots < m → Recorded (ok c) slots old (Err (refusal no_room m)) old
    no_slots_lem e h = let w = index_no_slots old slots (ok c) c refl room (omega arith) in record { answers = rw (w, e); holds = rw w }

    pub both_fit : {n : ℕ} {new : List ℕ} → length (offsets c) ≤ slots → n ≡ length (encode c) → new ≡ over (encode c) old → Recorded (ok c) slots old (Ok n) new
    both_fit h e q = let w = index_ok old slots (ok c) c refl room h in record { answers = rw (w, e); holds = rw w q }

-- ---- what it has written

-- a command that was found is well formed
abbrev pub Sound : Res Command → Type 0
Sound found = (c : Command) → found ≡ ok c → well_formed c ≡ true

-- with as many slots as there can be places, none is missing
pub without_row : (found : Res Command) (old : List ℕ) {r : Answer} {new : List ℕ} → Sound found → Recorded found most_places old r new → Promise (fitted old (map_r encode found)) old r new
without_row found old {r} {new} sound p =
    subst (λ (x : Res (List ℕ)). Promise x old r new) (indexed_fitted old most_places found (λ c e. offsets_most c (sound c e))) p

module _ (found : Res Command) (old row : List ℕ) {r : Answer} {new : List ℕ} (q : Recorded found (length row) old r new) where
  abbrev written : Res Command
  written = indexed (length old) (length row) found

  pub row_refused : {x : Refusal} → r ≡ Err x → RowPromise written old row (Err x) new row
  row_refused {x} e =
      by_res written
      (λ c y.
      let z : Err x ≡ Ok (length (encode c)) = sym e ∙ q.answers ∙ rw y in
      let w : ◌≡◌ {A = ℕ} 0 1 = cc in absurd (omega arith))
      (λ m o y.
      let z : Err x ≡ Err (refusal m o) = sym e ∙ q.answers ∙ rw y in
      let new_is : new ≡ old = q.holds ∙ rw y in
      record { answers = rw y z; holds = rw y new_is; fills = rw y })

  -- a command with room and slots, and its record written
  record Is (n : ℕ) : Type 0 where
    c : Command
    is : written ≡ ok c
    found_is : found ≡ ok c
    size : n ≡ length (encode c)
    bytes : new ≡ over (encode c) old
    slots : length (offsets c) ≤ length row

  module _ {n : ℕ} (e : r ≡ Ok n) where
    is_done : Is n
    is_done =
        by_res written
        (λ c y.
        let z : Ok n ≡ Ok (length (encode c)) = sym e ∙ q.answers ∙ rw y in
        let w : n ≡ length (encode c) = cc in
        let new_is : new ≡ over (encode c) old = q.holds ∙ rw y in
        index_is old (length row) found c y (λ a room many. record { c = c; is = y; found_is = a; size = w; bytes = new_is; slots = many }))
        (λ m o y.
        let z : Ok n ≡ Err (refusal m o) = sym e ∙ q.answers ∙ rw y in
        let w : ◌≡◌ {A = ℕ} 0 1 = cc in absurd (omega arith))

    pub row_cut : n ≤ length new
    row_cut = let w : Is n = is_done in omega (arith, w.size, ap length w.bytes, length-append (encode w.c) (drop (length (encode w.c)) old))

    record_cut : take n new ≡ encode is_done.c
    record_cut = let w : Is n = is_done in ap (take n) w.bytes ∙ take_at (encode w.c) (drop (length (encode w.c)) old) n (sym w.size)

    module _ (sound : Sound found) where
      record_there : record_of (take n new) ≡ ok is_done.c
      record_there = record_at (take n new) is_done.c (sound is_done.c is_done.found_is) (sym record_cut)

      pub row_fits : Indexable (take n new) (length row)
      row_fits = record { tree = is_done.c; is = record_there; room = is_done.slots }

      pub row_done : {filled : List ℕ} → Fills (take n new) row filled → RowPromise written old row (Ok n) new filled
      row_done f =
          let w : Is n = is_done in
          record { answers = rw w.is (ap Ok w.size); holds = rw w.is w.bytes; fills = rw w.is (f w.c record_there) }
