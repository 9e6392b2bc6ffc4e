-- Pieces from the front: each turn of the loop over pieces reads one more.
use mathlib.Core.Path.{◌≡◌, refl, sym, ◌∙◌}
use mathlib.Core.Bool.{Bool, true, false}
use mathlib.Core.List.{List, [], ◌∷◌, ◌++◌}
use mathlib.Core.Option.{none, some}
use Prim.Native.Nat.{ℕ, ◌+◌, ◌-◌, ◌≤◌}
use native.Mathlib.Omega.{arith}
use lib.ListN.{length, drop, length-append}
use Rattle.laws.specs.Lists.{all_at}
use Rattle.rules.specs.Characters.{is_digit}
use Rattle.rules.specs.Commands.{is_index_number}
use Rattle.std.specs.Prelude.{Option as Maybe, None}
use Rattle.record_walk.specs.declared.Field.{Field}
use Rattle.record_walk.specs.Fields.{field_at}
use Rattle.record_walk.specs.Fronts.{head_tag, before, several}
use Rattle.record_walk.specs.Runs.{bytes_in}
use Rattle.record_walk.proofs.WalkLaws.{IsField, nothing_there}
use Rattle.record_walk.proofs.FrontLaws.{before_nil, going_end, going_full, going_bad, going_more}
use Rattle.judge_place.specs.Places.{may_be_piece, piece, is_tag, next_piece, pieces}
use Rattle.judge_place.specs.Judging.{PiecesAre}

-- ---- one piece

pub number_none : (w : List ℕ) → length w ≡ 0 → false ≡ is_index_number w
number_none [] h = refl
number_none (c ∷ w) h = absurd (omega arith)

pub number_some : (w : List ℕ) {d : Bool} → (length w ≡ 0 → ⊥) → d ≡ all_at is_digit w 0 → d ≡ is_index_number w
unfolding all_at
number_some [] n q = absurd (n refl)
number_some (c ∷ w) n q = q

module _ (index : Bool) {rec : List ℕ} {at t s k : ℕ} {g : Bool} (f : IsField rec at t s k) (e : g ≡ may_be_piece index (bytes_in rec s k)) where
  pub piece_yes : g ≡ true → piece index (drop at rec) ≡ some (bytes_in rec s k, drop k rec)
  unfolding piece
  piece_yes h = rw (f.is, ← e, h)

  pub piece_no : g ≡ false → piece index (drop at rec) ≡ none
  unfolding piece
  piece_no h = rw (f.is, ← e, h)

pub piece_gone : (index : Bool) (rec : List ℕ) (at : ℕ) {r : Maybe Field} → r ≡ None → r ≡ field_at rec at → piece index (drop at rec) ≡ none
unfolding piece
piece_gone index rec at e q = rw (nothing_there rec at e q)

-- ---- the loop

-- `done` was read up to `at`, at most `left` more may stand there
pub record PiecesRead (t : ℕ) (names : Bool) (most : ℕ) (rec : List ℕ) (from at left : ℕ) (index : Bool) : Type 0 where
  pub done : List (List ℕ)
  pub is : pieces t names most (drop from rec) ≡ before done (several (is_tag t) piece (next_piece names) left index (drop at rec))
  pub inside : at ≤ length rec
  pub count : left + length done ≡ most

pub pieces_none : (t : ℕ) (names : Bool) (most : ℕ) (rec : List ℕ) (from : ℕ) → from ≤ length rec → PiecesRead t names most rec from from most false
pieces_none t names most rec from h =
    record { done = []; is = before_nil (pieces t names most (drop from rec)); inside = h; count = omega arith }

module _ {t most from at left x : ℕ} {names index y : Bool} {rec : List ℕ} (v : PiecesRead t names most rec from at left index) (e : x ≡ head_tag (drop at rec)) (w : y ≡ is_tag t x) where
  pub pieces_end : y ≡ false → PiecesAre t names most rec from (most - left) at
  pieces_end h =
      record {
        ws = v.done;
        is = going_end (is_tag t) piece (next_piece names) v.done left index (drop at rec) v.is e (sym w ∙ h);
        inside = v.inside;
        count = omega (arith, v.count);
      }

  pub pieces_full : y ≡ true → left ≡ 0 → pieces t names most (drop from rec) ≡ none
  pieces_full h z = going_full (is_tag t) piece (next_piece names) v.done left index (drop at rec) v.is e (sym w ∙ h) z

  pub pieces_bad : y ≡ true → (left ≡ 0 → ⊥) → piece index (drop at rec) ≡ none → pieces t names most (drop from rec) ≡ none
  pieces_bad h z q = going_bad (is_tag t) piece (next_piece names) v.done left index (drop at rec) v.is e (sym w ∙ h) z q

  pub pieces_more : {u s k : ℕ} → y ≡ true → (left ≡ 0 → ⊥) → IsField rec at u s k → piece index (drop at rec) ≡ some (bytes_in rec s k, drop k rec)
      → PiecesRead t names most rec from k (left - 1) names
  pieces_more {u} {s} {k} h z f q =
      record {
        done = v.done ++ (bytes_in rec s k ∷ []);
        is = going_more (is_tag t) piece (next_piece names) v.done left index (drop at rec) v.is e (sym w ∙ h) (omega arith) q;
        inside = f.inside;
        count = omega (arith, v.count, length-append v.done (bytes_in rec s k ∷ []));
      }
