-- The judge's answer to a record that it finds good, for who goes on with it: the row holds where the values stand in the bytes behind the head.
use mathlib.Core.Path.{◌≡◌, sym, subst}
use mathlib.Core.List.{List, ◌∷◌}
use Prim.Native.Nat.{ℕ, ◌+◌, ◌*◌, ◌≤◌, ◌<◌}
use native.Mathlib.Omega.{arith}
use lib.ListN.{length, get_or, take, drop, replicate}
use lib.Seq.{length-take-le}
use Rattle.laws.specs.Lists.{next}
use Rattle.laws.specs.Over.{part}
use Rattle.rules.specs.Refusals.{ok}
use Rattle.rules.specs.Records.{head_size}
use Rattle.rules.specs.WellFormed.{record_of, body_of}
use Rattle.rules.proofs.EncodeDecode.{record_room, record_part}
use Rattle.judge.specs.Judged.{per_place, row_length, IsGood, Judges, Told}
use Rattle.judge.specs.declared.Judged.{Judged}
use Rattle.std.proofs.Common.{Option, Some}

-- ---- the row: three numbers for each place

-- those that stand at j
pub three_front : (row : List ℕ) (j : ℕ) → j + 3 ≤ length row → drop j row ≡ get_or row j 0 ∷ get_or row (j + 1) 0 ∷ get_or row (j + 2) 0 ∷ drop (j + 3) row
three_front row j h =
    let two : j + 1 + 1 ≡ j + 2 = omega arith in
    let three : j + 2 + 1 ≡ j + 3 = omega arith in
    rw (next row j (omega arith), next row (j + 1) (omega arith), two, next row (j + 2) (omega arith), three)

-- ---- the answer

module _ (rec row : List ℕ) {r : Option Judged} {x : Judged} (e : r ≡ Some x) (j : Judges (record_of rec) (replicate row_length 0) row r) where
  -- what it says
  pub judged : IsGood (record_of rec) (replicate row_length 0) row x.places x.total
  judged = subst (Judges (record_of rec) (replicate row_length 0) row) e j

  -- all places' numbers stand in the row
  pub judged_row : per_place * x.places ≤ length row
  judged_row = omega (arith, judged)

  pub judged_count : per_place * x.places < 18446744073709551616
  judged_count = omega (arith, judged)

  pub judged_cut : per_place * x.places ≡ length (take (per_place * x.places) row)
  judged_cut = sym (length-take-le (per_place * x.places) row judged_row)

  -- what stands behind the head
  pub head_room : head_size ≤ length rec
  head_room = record_room rec judged.tree judged.is

  abbrev body : List ℕ
  body = part rec head_size

  pub body_judged : body_of body ≡ ok judged.tree
  body_judged = record_part rec judged.tree judged.is

  -- and the numbers are what it has
  pub judged_told : Told body (take (per_place * x.places) row)
  judged_told = record { tree = judged.tree; is = body_judged; told = judged.told (omega arith) }
