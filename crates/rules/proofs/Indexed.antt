-- M-108: a call that fills a row refuses what the call without one refuses, then 17 of the row; with a slot for each place it answers as that call does.
use Prim.Native.Nat.{ℕ, ◌≤◌, ◌<◌}
use mathlib.Core.Path.{◌≡◌, refl, sym, subst, ◌∙◌}
use mathlib.Core.List.{List}
use lib.Dec.{leb}
use lib.ListN.{length}
use borrow.Author.Tests.{leb-true, le-leb, lt-leb}
use Rattle.laws.specs.Cases.{by_bool}
use Rattle.rules.specs.Refusals.{Res, ok, bad, map_r, no_room}
use Rattle.rules.specs.Commands.{Command}
use Rattle.rules.specs.Records.{encode}
use Rattle.rules.specs.Indexes.{offsets}
use Rattle.rules.specs.Answers.{fitted, indexed}
use Rattle.rules.proofs.ResultLaws.{ok_inj, bad_as, ok≢bad, bind_ok, guard_ok}

module _ (old : List ℕ) (slots : ℕ) (found : Res Command) where
  -- what was refused without a row
  pub index_refused : (n p : ℕ) → found ≡ bad n p → indexed (length old) slots found ≡ bad n p
  index_refused n p h = rw h

  module _ (c : Command) (h : found ≡ ok c) where
    pub index_no_room : length old < length (encode c) → indexed (length old) slots found ≡ bad no_room (length (encode c))
    index_no_room short = rw (h, lt-leb (length (encode c)) (length old) short)

    pub index_no_slots : length (encode c) ≤ length old → slots < length (offsets c) → indexed (length old) slots found ≡ bad no_room (length (offsets c))
    index_no_slots room few = rw (h, le-leb (length (encode c)) (length old) room, lt-leb (length (offsets c)) slots few)

    pub index_ok : length (encode c) ≤ length old → length (offsets c) ≤ slots → indexed (length old) slots found ≡ ok c
    index_ok room many = rw (h, le-leb (length (encode c)) (length old) room, le-leb (length (offsets c)) slots many)

  -- what is written was found, and there is room for its record and for its offsets
  pub index_is : {C : Type 0} (c : Command) → indexed (length old) slots found ≡ ok c
      → (found ≡ ok c → length (encode c) ≤ length old → length (offsets c) ≤ slots → C) → C
  index_is c h k =
      bind_ok found _ c h
      (λ d q e.
      guard_ok (leb (length (encode d)) (length old)) no_room (length (encode d)) _ c e
      (λ room f.
      guard_ok (leb (length (offsets d)) slots) no_room (length (offsets d)) (λ _. ok d) c f
      (λ many s.
      let same : d ≡ c = ok_inj s in
      k (q ∙ s) (subst (λ x. length (encode x) ≤ length old) same (leb-true (length (encode d)) (length old) room))
      (subst (λ x. length (offsets x) ≤ slots) same (leb-true (length (offsets d)) slots many)))))

-- ---- beside the call without a row

pub indexed_fitted : (old : List ℕ) (slots : ℕ) (r : Res Command) → ((c : Command) → r ≡ ok c → length (offsets c) ≤ slots)
    → map_r encode (indexed (length old) slots r) ≡ fitted old (map_r encode r)
indexed_fitted old slots (bad n p) h = refl
indexed_fitted old slots (ok c) h =
    by_bool (leb (length (encode c)) (length old)) (λ y. rw (y, le-leb (length (offsets c)) slots (h c refl))) (λ y. rw y)

-- where a record and a row are written, the same record is written without a row
pub index_fits : (old : List ℕ) (slots : ℕ) (r : Res Command) (c : Command) → indexed (length old) slots r ≡ ok c → fitted old (map_r encode r) ≡ ok (encode c)
index_fits old slots r c h = index_is old slots r c h (λ q room many. rw (q, le-leb (length (encode c)) (length old) room))

-- and what is refused without a row is refused alike, whatever the row is
pub fit_refused : (old : List ℕ) (slots : ℕ) (r : Res Command) (n p : ℕ) → fitted old (map_r encode r) ≡ bad n p → indexed (length old) slots r ≡ bad n p
fit_refused old slots (bad m q) n p h = bad_as h
fit_refused old slots (ok c) n p h =
    by_bool (leb (length (encode c)) (length old))
    (λ y. let done : fitted old (ok (encode c)) ≡ ok (encode c) = rw y in ok≢bad (sym h ∙ done))
    (λ y. let refused : fitted old (ok (encode c)) ≡ bad no_room (length (encode c)) = rw y in rw y (bad_as (sym refused ∙ h)))
