-- Writing part by part: what is done stands over the buffer's start, and what is done and what is left is the whole; the next part goes behind.
use Prim.Native.Nat.{ℕ, ◌+◌, ◌-◌, ◌^◌, ◌≤◌, ◌<◌}
use mathlib.Core.Path.{◌≡◌, refl, sym, ap, ◌∙◌}
use mathlib.Core.List.{List, [], ◌∷◌, ◌++◌, append_assoc, append-nil}
use native.Mathlib.Omega.{arith}
use mir.Syntax.{w64}
use mir.Val.{Fits}
use lib.ListN.{length, length-append}
use Rattle.laws.specs.Over.{over, part, back, back_over, length_over, length_part}
use Rattle.rules.specs.Records.{field, field_bytes}
use Rattle.token_table.specs.Parts.{words_size}
use Rattle.token_table.proofs.WordLaws.{words_bytes}
use Rattle.command_fields.specs.Recorder.{word_bytes, Wrote}

pub record Writing (whole rest old : List ℕ) (k : ℕ) (o : List ℕ) : Type 0 where
  pub done : List ℕ
  pub total : whole ≡ done ++ rest
  pub is : o ≡ over done old
  pub size : length done ≡ k

pub writing_none : (whole old : List ℕ) → Writing whole whole old 0 old
writing_none whole old = record { done = []; total = refl; is = refl; size = refl }

module _ {whole old : List ℕ} {k : ℕ} {o : List ℕ} where
  -- a part was written by a writer that was lent the buffer from k on
  pub writing_more : (e rest : List ℕ) {n : ℕ} {ys : List ℕ} → Writing whole (e ++ rest) old k o → Wrote e n (part o k) ys → Writing whole rest old (k + n) (back o k ys)
  writing_more e rest w p = record {
    done = w.done ++ e;
    total = w.total ∙ sym (append_assoc w.done e rest);
    is = back_over w.done e old w.is w.size p.1;
    size = length-append w.done e ∙ omega (arith, w.size, p.0);
  }

  pub writing_all : Writing whole [] old k o → Wrote whole k old o
  writing_all w =
      let z : whole ≡ w.done = w.total ∙ append-nil w.done in
      rw z (sym w.size, w.is)

  -- what is left fits behind what is done, and the buffer keeps its length
  pub writing_room : (rest : List ℕ) → Writing whole rest old k o → length whole ≤ length old → k + length rest ≤ length old
  writing_room rest w h = omega (arith, ap length w.total, length-append w.done rest, w.size)

  pub writing_long : (rest : List ℕ) → Writing whole rest old k o → length whole ≤ length old → length o ≡ length old
  writing_long rest w h =
      ap length w.is ∙ length_over w.done old (omega (arith, writing_room rest w h, w.size))

-- ---- pieces: the words ws of all of them are left

abbrev pub Piecing : ℕ → List (List ℕ) → List (List ℕ) → List ℕ → ℕ → List ℕ → Type 0
Piecing t all ws old k o = Writing (word_bytes t all) (word_bytes t ws) old k o

module _ (t : ℕ) (all ws : List (List ℕ)) (old : List ℕ) (k : ℕ) (o : List ℕ) (v : Piecing t all ws old k o) where
  pub piecing_long : words_size all ≤ length old → length o ≡ length old
  piecing_long r = writing_long (word_bytes t ws) v (omega (arith, words_bytes t all))

  module _ (w : List ℕ) (us : List (List ℕ)) (h : ws ≡ w ∷ us) where
    here : Writing (word_bytes t all) (field_bytes (field t w) ++ word_bytes t us) old k o
    here = rw h at v

    module _ (r : words_size all ≤ length old) where
      next_room : k + (3 + length w) ≤ length o
      next_room =
          let f = field_bytes (field t w) in
          omega (arith, writing_room (f ++ word_bytes t us) here (omega (arith, words_bytes t all)), length-append f (word_bytes t us), piecing_long r)

      pub piecing_inside : k ≤ length o
      piecing_inside = omega (arith, next_room)

      pub piecing_room : 3 + length w ≤ length (part o k)
      piecing_room = omega (arith, next_room, length_part o k)

      pub piecing_sum : {n : ℕ} → n ≡ 3 + length w → length old < 2 ^ 64 → Fits w64 (k + n)
      piecing_sum e g = omega (arith, next_room, piecing_long r)

    pub piecing_more : {n : ℕ} {ys : List ℕ} → n ≡ 3 + length w → ys ≡ over (field_bytes (field t w)) (part o k) → Piecing t all us old (k + n) (back o k ys)
    piecing_more p q = writing_more (field_bytes (field t w)) (word_bytes t us) here (omega arith, q)

  pub piecing_all : ws ≡ [] → (k ≡ words_size all) × (o ≡ over (word_bytes t all) old)
  piecing_all h = let a : Wrote (word_bytes t all) k old o = writing_all (rw h at v) in (a.0 ∙ words_bytes t all, a.1)
