-- The row of numbers: a place's three numbers stand behind those of the places before it, and these are where the values stand.
use mathlib.Core.Path.{◌≡◌, refl, sym, ap, ◌∙◌}
use mathlib.Core.List.{List, [], ◌∷◌, ◌++◌, append_assoc, append-nil}
use Prim.Native.Nat.{ℕ, suc, ◌+◌, ◌*◌, ◌%◌, ◌≤◌, ◌<◌}
use native.Mathlib.Omega.{arith}
use borrow.Author.Tests.{lt-ltb, le-ltb}
use lib.Dec.{ltb}
use lib.ListN.{length, take, set, length-set}
use lib.Seq.{take-suc-set}
use Rattle.laws.specs.Cases.{pick_all}
use Rattle.rules.specs.Refusals.{most_places}
use Rattle.rules.specs.Commands.{Place, Block, block, places_of}
use Rattle.rules.specs.Records.{many, place_fields, block_fields}
use Rattle.record_walk.proofs.RunLaws.{size_append}
use Rattle.record_walk.specs.Spans.{size, head_fields, arguments_of, place_spans, block_head, block_spans}
use Rattle.judge.specs.Judged.{per_place, row_length, told_at}

-- ---- the row

pub row_threes : (old row : List ℕ) → length row ≡ length old → length old % per_place ≡ 0 → length row % per_place ≡ 0
row_threes old row e h = ap (λ (x : ℕ). x % per_place) e ∙ h

module _ (row : List ℕ) (p a b c : ℕ) where
  pub told_yes : {i : ℕ} → i ≡ per_place * p → i < length row → set (set (set row i a) (i + 1) b) (i + 2) c ≡ told_at row p a b c
  told_yes {i} e h = let k : per_place * p < length row = omega arith in rw (e, lt-ltb (per_place * p) (length row) k)

  pub told_no : length row ≤ per_place * p → row ≡ told_at row p a b c
  told_no h = rw (le-ltb (per_place * p) (length row) h)

  pub told_long : length (told_at row p a b c) ≡ length row
  told_long =
      let i : ℕ = per_place * p in
      pick_all (λ (l : List ℕ). length l ≡ length row) (ltb i (length row))
      (length-set (set (set row i a) (i + 1) b) (i + 2) c ∙ length-set (set row i a) (i + 1) b ∙ length-set row i a) refl

  three : (i : ℕ) → i + 3 ≤ length row → take (suc (suc (suc i))) (set (set (set row i a) (suc i) b) (suc (suc i)) c) ≡ take i row ++ (a ∷ b ∷ c ∷ [])
  three i h =
      let one : List ℕ = set row i a in
      let two : List ℕ = set one (suc i) b in
      let n1 : length one ≡ length row = length-set row i a in
      let n2 : length two ≡ length row = length-set one (suc i) b ∙ n1 in
      let q1 : take (suc i) one ≡ take i row ++ (a ∷ []) = take-suc-set row i a (omega arith) in
      let q2 : take (suc (suc i)) two ≡ take (suc i) one ++ (b ∷ []) = take-suc-set one (suc i) b (omega arith) in
      let q3 : take (suc (suc (suc i))) (set two (suc (suc i)) c) ≡ take (suc (suc i)) two ++ (c ∷ []) = take-suc-set two (suc (suc i)) c (omega arith) in
      q3 ∙ ap (λ (l : List ℕ). l ++ (c ∷ [])) (q2 ∙ ap (λ (l : List ℕ). l ++ (b ∷ [])) q1)
      ∙ ap (λ (l : List ℕ). l ++ (c ∷ [])) (append_assoc (take i row) (a ∷ []) (b ∷ []))
      ∙ append_assoc (take i row) (a ∷ b ∷ []) (c ∷ [])

  pub told_take : p < most_places → row_length ≤ length row → take (per_place * (p + 1)) (told_at row p a b c) ≡ take (per_place * p) row ++ (a ∷ b ∷ c ∷ [])
  told_take h k =
      let i : ℕ = per_place * p in
      let room : i + 3 ≤ length row = omega arith in
      let next : per_place * (p + 1) ≡ suc (suc (suc i)) = omega arith in
      let s1 : i + 1 ≡ suc i = omega arith in
      let s2 : i + 2 ≡ suc (suc i) = omega arith in
      rw (lt-ltb i (length row) (omega arith), next, s1, s2) (three i room)

-- ---- where values stand

pub spans_more : (at : ℕ) (ps : List Place) (p : Place) {e : ℕ} → e ≡ at + size (many place_fields ps)
    → place_spans at (ps ++ (p ∷ [])) ≡ place_spans at ps ++ (arguments_of p ∷ (e + size (head_fields p)) ∷ (e + size (place_fields p)) ∷ [])
spans_more at [] p {e} h = let z : e ≡ at = omega arith in rw z
spans_more at (q ∷ ps) p {e} h =
    let n : ℕ = at + size (place_fields q) in
    let w : e ≡ n + size (many place_fields ps) = omega (arith, size_append (place_fields q) (many place_fields ps)) in
    ap (λ (l : List ℕ). arguments_of q ∷ (at + size (head_fields q)) ∷ n ∷ l) (spans_more n ps p w)

pub block_spans_more : (at : ℕ) (bs : List Block) (b : Block) {e : ℕ} → e ≡ at + size (many block_fields bs)
    → block_spans at (bs ++ (b ∷ [])) ≡ block_spans at bs ++ place_spans (e + block_head) (places_of b)
block_spans_more at [] (block k ps) {e} h = let z : e ≡ at = omega arith in rw z (append-nil (place_spans (at + block_head) ps))
block_spans_more at (block k ps ∷ bs) b {e} h =
    let n : ℕ = at + size (block_fields (block k ps)) in
    let w : e ≡ n + size (many block_fields bs) = omega (arith, size_append (block_fields (block k ps)) (many block_fields bs)) in
    ap (λ (l : List ℕ). place_spans (at + block_head) ps ++ l) (block_spans_more n bs b w)
    ∙ sym (append_assoc (place_spans (at + block_head) ps) (block_spans n bs) (place_spans (e + block_head) (places_of b)))
