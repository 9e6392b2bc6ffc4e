-- The answers of the list: 18 where the judge finds no command, and else what is written of the bytes behind the head.
use mathlib.Core.Path.{◌≡◌, sym, ap, ◌∙◌, subst}
use mathlib.Core.List.{List, ◌++◌}
use Prim.Native.Nat.{ℕ, ◌*◌, ◌≤◌}
use native.Mathlib.Omega.{arith}
use Rattle.std.proofs.Common.{Option, Some, None, Err}
use lib.ListN.{length, take, drop, replicate, length-append}
use lib.Seq.{take-append-le, length-take-le}
use Rattle.laws.specs.Over.{part}
use Rattle.rules.specs.Refusals.{ok, bad, not_well_formed}
use Rattle.rules.specs.Answers.{Answer, fitted, listing, Promise, Lists}
use Rattle.rules.specs.Records.{head_size}
use Rattle.rules.specs.WellFormed.{record_of}
use Rattle.rules.specs.Reasons.{refusal}
use Rattle.judge.specs.Judged.{per_place, row_length, Judges}
use Rattle.judge.specs.declared.Judged.{Judged}
use Rattle.judge.proofs.ToldLaws.{judged, judged_cut, body_judged, judged_told}
use Rattle.list.specs.Filled.{list_of, list_in, Unrolls}
use Rattle.list.proofs.ListLaws.{told_unrolls}

pub list_bad : (rec row old : List ℕ) {r : Option Judged} → r ≡ None → Judges (record_of rec) (replicate row_length 0) row r → Lists rec old (Err (refusal not_well_formed 0)) old
unfolding listing
list_bad rec row old e j =
    let h : record_of rec ≡ bad not_well_formed 0 = subst (Judges (record_of rec) (replicate row_length 0) row) e j in
    record { answers = rw h; holds = rw h }

module _ (rec row : List ℕ) {r : Option Judged} {d : Judged} (e : r ≡ Some d) (j : Judges (record_of rec) (replicate row_length 0) row r) where
  abbrev body : List ℕ
  body = part rec head_size

  pub judged_unrolls : Unrolls body (take (per_place * d.places) row)
  judged_unrolls = told_unrolls (judged_told rec row e j)

  pub list_answer : (old new : List ℕ) {a : Answer} → Promise (fitted old (ok (list_of body))) old a new → Lists rec old a new
  unfolding listing list_of
  list_answer old new {a} p =
      rw (judged rec row e j).is (subst (λ (x : List ℕ). Promise (fitted old (ok x)) old a new) (ap list_in (body_judged rec row e j)) p)

  -- m numbers left at the front of ps, which was lent and came back to the row's front
  module _ (ps : List ℕ) (l : length ps ≡ length (take (per_place * d.places) row)) {m : ℕ} (h : m ≤ length ps) where
    abbrev new_row : List ℕ
    new_row = ps ++ drop (per_place * d.places) row

    pub moves_inside : m ≤ length new_row
    moves_inside = omega (arith, length-append ps (drop (per_place * d.places) row))

    pub moves_few : m ≤ row_length
    moves_few = omega (arith, judged_cut rec row e j, (judged rec row e j).few)

    front_is : take m new_row ≡ take m ps
    front_is = take-append-le m ps (drop (per_place * d.places) row) h

    pub moves_cut : m ≡ length (take m new_row)
    moves_cut = sym (length-take-le m new_row moves_inside)

    pub moves_unroll : Unrolls body (take m ps) → Unrolls body (take m new_row)
    moves_unroll u = subst (Unrolls body) (sym front_is) u

    -- as many numbers for the standings
    pub standings_cut : m ≡ length {A = ℕ} (take m (replicate row_length 0))
    standings_cut = sym (length-take-le m (replicate row_length 0) moves_few)

    pub standings_even : length {A = ℕ} (take m (replicate row_length 0)) ≡ length (take m new_row)
    standings_even = sym standings_cut ∙ moves_cut
