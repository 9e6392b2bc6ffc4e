-- Each turn takes one character and puts one or two, as the rules double a mark; so what is put is the rules' text.
use mathlib.Core.Path.{◌≡◌, refl, ap, sym, ◌∙◌}
use mathlib.Core.List.{List, [], ◌∷◌, ◌++◌}
use Prim.Native.Nat.{ℕ, ◌+◌, ◌<◌, ◌≤◌}
use native.Mathlib.Omega.{arith}
use borrow.Author.Tests.{eq-eqb, eqb-false, eqb-true, ne_eqb}
use lib.Dec.{eqb}
use Rattle.laws.specs.Cases.{by_bool}
use Rattle.print_unit.specs.Ways.{Way, Fits, Puts}
use Rattle.laws.specs.Lists.{next}
use Rattle.rules.specs.Characters.{byte}
use Rattle.rules.specs.Printing.{doubled, unit_text}
use Rattle.rules.specs.Units.{Base, text}
use lib.ListN.{length, get_or, drop_of_length-le, length-append}
use Rattle.print_unit.specs.Strings.{character_text, doubled_at, string_text}

pub at_end : (w : List ℕ) (i : ℕ) → length w ≤ i → doubled_at w i ≡ []
unfolding doubled_at
at_end w i h = rw (drop_of_length-le w h)

pub at_mark : (w : List ℕ) (i : ℕ) → i < length w → get_or w i 0 ≡ byte "\"" → doubled_at w i ≡ byte "\"" ∷ byte "\"" ∷ doubled_at w (i + 1)
unfolding doubled_at
at_mark w i h e = ap doubled (next w i h) ∙ rw (eq-eqb _ _ e, doubled)

pub at_plain : (w : List ℕ) (i : ℕ) → i < length w → (get_or w i 0 ≡ byte "\"" → ⊥) → doubled_at w i ≡ get_or w i 0 ∷ doubled_at w (i + 1)
unfolding doubled_at
at_plain w i h e = ap doubled (next w i h) ∙ rw (ne_eqb _ _ e, doubled)

-- what is put and what the rest will put are the whole text
pub record Doubling (w : Way) (old t : List ℕ) (at : ℕ) (out : List ℕ) (p i : ℕ) : Type 0 where
  pub rest : w.stored old at (doubled_at t 0) ≡ w.stored out p (doubled_at t i)
  pub sum : at + length (doubled_at t 0) ≡ p + length (doubled_at t i)
  pub kept : w.room out ≡ w.room old
  pub low : i ≤ length t

pub doubling_none : (w : Way) (old t : List ℕ) (at : ℕ) → Doubling w old t at old at 0
doubling_none w old t at = record { rest = refl; sum = refl; kept = refl; low = omega arith }

-- ---- one character

pub mark_text : {b : ℕ} → b ≡ byte "\"" → character_text b ≡ (b ∷ []) ++ (byte "\"" ∷ [])
unfolding character_text
mark_text {b} e = rw (e, doubled) refl

pub plain_text : {b : ℕ} → (b ≡ byte "\"" → ⊥) → character_text b ≡ b ∷ []
unfolding character_text
plain_text {b} e = rw (ne_eqb _ _ e, doubled) refl

-- there is room for it once at least
pub character_first : {w : Way} {b at : ℕ} {old : List ℕ} → Fits w (character_text b) at old → Fits w (b ∷ []) at old
character_first {b = b} f =
    by_bool (eqb b (byte "\""))
    (λ y. record { room = omega (arith, f.room, ap length (mark_text (eqb-true _ _ y))) })
    (λ y. record { room = omega (arith, f.room, ap length (plain_text (eqb-false _ _ y))) })

-- .. and those behind it
at_character : (w : List ℕ) (i : ℕ) {b : ℕ} → i < length w → b ≡ get_or w i 0 → doubled_at w i ≡ character_text b ++ doubled_at w (i + 1)
at_character w i {b} h g =
    by_bool (eqb b (byte "\""))
    (λ y. let e = eqb-true _ _ y in rw (mark_text e) (at_mark w i h (sym g ∙ e) ∙ rw e refl))
    (λ y. let n = eqb-false _ _ y in rw (plain_text n) (rw (← g) at (at_plain w i h (rw g at n))))

-- ---- the loop

module _ {w : Way} {old t : List ℕ} {at : ℕ} {out : List ℕ} {p i b : ℕ} (v : Doubling w old t at out p i) (h : i < length t) (g : b ≡ get_or t i 0) where
  pub character_fits : Fits w (doubled_at t 0) at old → Fits w (character_text b) p out
  character_fits f =
      let s : List ℕ = character_text b in
      let d : List ℕ = doubled_at t (i + 1) in
      record { room = omega (arith, f.room, v.sum, v.kept, ap length (at_character t i h g), length-append s d) }

  pub doubling_more : {q : ℕ} {mid : List ℕ} → Puts w (character_text b) p out q mid → Doubling w old t at mid q (i + 1)
  doubling_more {q} {mid} x =
      let s : List ℕ = character_text b in
      let d : List ℕ = doubled_at t (i + 1) in
      record {
        rest = v.rest ∙ ap (w.stored out p) (at_character t i h g) ∙ rw (x.is, x.end) (sym (w.both out p s d));
        sum = omega (arith, v.sum, ap length (at_character t i h g), length-append s d, x.end);
        kept = ap w.room x.is ∙ w.kept out p s ∙ v.kept;
        low = omega arith;
      }

pub doubling_end : {w : Way} {old t : List ℕ} {at : ℕ} {out : List ℕ} {p i : ℕ} → Doubling w old t at out p i → length t ≤ i → Puts w (doubled_at t 0) at old p out
doubling_end {w} {t = t} {out = out} {p = p} {i = i} v h = record { end = omega (arith, v.sum, ap length (at_end t i h)); is = sym (v.rest ∙ ap (w.stored out p) (at_end t i h) ∙ w.none out p) }

-- ---- the string

pub string_text_lem : (b : Base) (w : List ℕ) → string_text w ≡ unit_text b (text w)
unfolding string_text doubled_at
string_text_lem b w = refl
