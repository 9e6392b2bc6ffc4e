-- Where a text goes: into the lent buffer from a position on, or nowhere, where it is only measured. What every writer asks and promises is said of both.
use Rattle.std.specs.Prelude.{◌≡◌, refl, List, [], ◌∷◌, ◌++◌, ℕ, suc, ◌+◌, ◌≤◌, length, set}
use Rattle.std.proofs.Common.{ap, ◌∙◌, arith}
use Rattle.std.proofs.lemmas.List.Edits.{sets}
use Rattle.std.proofs.Math.Seq.{length-sets}

pub record Way : Type 0 where
  -- up to which position a buffer takes a text
  pub room : List ℕ → ℕ
  -- what it holds once the text stands there from a position on
  pub stored : List ℕ → ℕ → List ℕ → List ℕ
  -- nothing is stored of no text, a text behind another is stored with it, and the room stays
  pub none : (old : List ℕ) (at : ℕ) → stored old at [] ≡ old
  pub both : (old : List ℕ) (at : ℕ) (s t : List ℕ) → stored (stored old at s) (at + length s) t ≡ stored old at (s ++ t)
  pub kept : (old : List ℕ) (at : ℕ) (t : List ℕ) → room (stored old at t) ≡ room old

-- the buffer has room for the text
pub record Fits (w : Way) (t : List ℕ) (at : ℕ) (old : List ℕ) : Type 0 where
  pub room : at + length t ≤ w.room old

-- what a writer of a text promises: where it ends, and what the buffer holds
pub record Puts (w : Way) (t : List ℕ) (at : ℕ) (old : List ℕ) (r : ℕ) (new : List ℕ) : Type 0 where
  pub end : r ≡ at + length t
  pub is : new ≡ w.stored old at t

-- ---- the two

pub sets_both : (old : List ℕ) (at : ℕ) (s t : List ℕ) → sets (sets old at s) (at + length s) t ≡ sets old at (s ++ t)
sets_both old at [] t = ap (λ (i : ℕ). sets old i t) (omega arith)
sets_both old at (b ∷ s) t = ap (λ (i : ℕ). sets (sets (set old at b) (suc at) s) i t) (omega arith) ∙ sets_both (set old at b) (suc at) s t

abbrev pub written : Way
written = record { room = length; stored = sets; none = λ old at. refl; both = sets_both; kept = length-sets }

-- the numbers that texts are measured with have 32 bits
abbrev pub most_length : ℕ
most_length = 4294967295

abbrev pub measured : Way
measured = record { room = λ old. most_length; stored = λ old at t. old; none = λ old at. refl; both = λ old at s t. refl; kept = λ old at t. refl }
