-- What is written of an argument behind `A:`, and what stands where the value of its record begins.
use mathlib.Core.Path.{◌≡◌, refl, sym, ap, subst, ◌∙◌}
use mathlib.Core.List.{List, [], ◌∷◌, ◌++◌}
use Prim.Native.Nat.{ℕ, ◌+◌, ◌-◌, ◌≤◌}
use native.Mathlib.Omega.{arith}
use borrow.Author.Tests.{eq-eqb, ne_eqb}
use lib.ListN.{length, get_or, drop, set, length-append}
use borrow.Rule.Slice.PartMut.{put_mid}
use Rattle.laws.specs.Over.{over, over_byte}
use Rattle.rules.specs.Characters.{byte}
use Rattle.rules.specs.Records.{single_tag}
use Rattle.console_figures.specs.Asked.{asked, value_at, argument_fields}

-- `A:` and the argument, written over the start of a buffer
begun : (w old : List ℕ) → length w + 3 ≤ length old
    → put_mid 2 (2 + length w - 2) (byte "A" ∷ byte ":" ∷ drop 2 old) w ≡ over (byte "A" ∷ byte ":" ∷ w) old
begun w [] h = absurd (omega arith)
begun w (x ∷ []) h = absurd (omega arith)
begun w (x ∷ y ∷ old) h = let k : 2 + length w - 2 ≡ length w = omega arith in rw k refl

-- behind them the `;`
whole : (w old : List ℕ) → length w + 3 ≤ length old
    → set (put_mid 2 (2 + length w - 2) (byte "A" ∷ byte ":" ∷ drop 2 old) w) (2 + length w) (byte ";") ≡ over (asked w) old
whole w old h =
    let n = 2 + length w in
    ap (λ (o : List ℕ). set o n (byte ";")) (begun w old h) ∙ over_byte (byte "A" ∷ byte ":" ∷ w) old (byte ";") n (omega arith) (omega arith)

-- what `put_asked` promises, of what it writes
abbrev Promise : List ℕ → List ℕ → List ℕ → List ℕ → Type 0
Promise old two part w =
    (2 + length w + 1 ≡ length (asked w)) × (set (put_mid 2 (2 + length w - 2) (two ++ drop 2 old) part) (2 + length w) (byte ";") ≡ over (asked w) old)

pub put_whole : (w old : List ℕ) {two part : List ℕ} → length w + 3 ≤ length old → two ≡ byte "A" ∷ byte ":" ∷ [] → part ≡ w → Promise old two part w
put_whole w old {two} {part} h f g =
    let done : Promise old (byte "A" ∷ byte ":" ∷ []) w w = (omega (arith, length-append w (byte ";" ∷ [])), whole w old h) in
    subst (λ (a : List ℕ). Promise old a part w) (sym f) (subst (λ (b : List ℕ). Promise old (byte "A" ∷ byte ":" ∷ []) b w) (sym g) done)

-- what stands where the value begins, by its tag
module _ (r : List ℕ) {t : ℕ} {w : List ℕ} (e : t ≡ get_or (drop value_at r) 0 0) where
  pub fields_single : t ≡ single_tag → w ≡ drop (value_at + 3) r → w ≡ argument_fields r
  fields_single h q = q ∙ rw (eq-eqb (get_or (drop value_at r) 0 0) single_tag (sym e ∙ h)) refl

  pub fields_other : (t ≡ single_tag → ⊥) → w ≡ drop value_at r → w ≡ argument_fields r
  fields_other h q = q ∙ rw (ne_eqb (get_or (drop value_at r) 0 0) single_tag (λ p. h (e ∙ p))) refl
