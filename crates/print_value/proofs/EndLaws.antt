-- The end of a range in its pieces, and what stands before an argument.
use Prim.Native.Nat.{◌+◌, ℕ}
use borrow.Author.Tests.{eq-eqb, ne_eqb}
use lib.Dec.{ltb}
use lib.ListN.{get_or}
use mathlib.Core.Bool.{Bool, false, true}
use mathlib.Core.List.{List, [], ◌++◌, ◌∷◌}
use mathlib.Core.Path.{◌≡◌, refl}
use Rattle.laws.specs.Over.{part, part_from}
use Rattle.rules.specs.Characters.{byte}
use Rattle.rules.specs.Records.{num4, range_tag}
use Rattle.print_unit.proofs.ChainLaws.{fits_first}
use Rattle.print_unit.specs.Ways.{Way, Fits}
use Rattle.print_unit.specs.Texts.{numeral_text}
use Rattle.record_walk.specs.Runs.{bytes_in}
use Rattle.print_value.specs.Begins.{begins}
use Rattle.print_value.specs.declared.Joint.TheVariants.{Start, Full, Short}
use Rattle.print_value.specs.Values.{end_at, increment_text, joint_at, range_end, short_at, through_text}

-- two characters stand there at least
pub through_first : {w : Way} {at : ℕ} {old : List ℕ} (c : Bool) → Fits w (through_text c) at old → Fits w (byte "&" ∷ byte "&" ∷ []) at old
through_first true f = fits_first (byte "&" ∷ byte "&" ∷ []) (byte "-" ∷ []) f
through_first false f = f

pub increment_is : (base l inc : ℕ) → (inc ≡ 1 → ⊥) → increment_text base l inc ≡ ((byte "+" ∷ []) ++ (byte "+" ∷ [])) ++ numeral_text base l 0 inc
unfolding increment_text
increment_is base l inc n = rw (ne_eqb inc 1 n) refl

pub increment_none : (base l inc : ℕ) → inc ≡ 1 → increment_text base l inc ≡ []
unfolding increment_text
increment_none base l inc e = rw (eq-eqb inc 1 e) refl

module _ (rec : List ℕ) (at first last base : ℕ) where
  pub end_none : (get_or rec at 0 ≡ range_tag → ⊥) → end_at rec at first last base ≡ []
  unfolding end_at
  end_none n = rw (ne_eqb (get_or rec at 0) range_tag n)

  pub end_some : get_or rec at 0 ≡ range_tag → {up inc : ℕ} → up ≡ num4 rec (at + 3) → inc ≡ num4 rec (at + 7)
      → end_at rec at first last base ≡ range_end base (get_or rec (last + 3) 0) (ltb first last) up inc
  unfolding end_at
  end_some e p q = rw (eq-eqb (get_or rec at 0) range_tag e, p, q)

-- ---- what stands before an argument

module _ (rec : List ℕ) (from at first lead until : ℕ) where
  pub joint_start : at ≡ from → Start ≡ joint_at rec from at first lead until
  unfolding joint_at
  joint_start e = rw (eq-eqb at from e)

  module _ (n : at ≡ from → ⊥) {t : Bool} (e : t ≡ short_at rec first lead until) where
    pub joint_short : t ≡ true → Short ≡ joint_at rec from at first lead until
    unfolding joint_at
    joint_short y = rw (ne_eqb at from n, ← e, y)

    pub joint_full : t ≡ false → Full ≡ joint_at rec from at first lead until
    unfolding joint_at
    joint_full y = rw (ne_eqb at from n, ← e, y)

module _ (rec : List ℕ) (first lead until : ℕ) where
  pub short_none : lead ≡ until → false ≡ short_at rec first lead until
  unfolding short_at
  short_none e = rw (eq-eqb lead until e)

  pub short_some : {t : Bool} → (lead ≡ until → ⊥) → t ≡ begins (part rec first) (bytes_in rec lead until) → t ≡ short_at rec first lead until
  unfolding short_at
  short_some n e = rw (ne_eqb lead until n, ← part_from rec first) e
