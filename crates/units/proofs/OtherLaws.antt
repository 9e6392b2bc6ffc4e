-- What is no numeral may be a name: the one case in which the numeral's answer is not kept.
use mathlib.Core.Path.{◌≡◌, refl, sym, ap, ◌∙◌}
use mathlib.Core.List.{List}
use Prim.Native.Nat.{ℕ}
use Rattle.std.proofs.Common.{Ok, Err}
use Rattle.units.specs.declared.Word.{Word}
use Rattle.units.specs.declared.Word.TheVariants.{Numeral, Keyed, Identifier, Symbolic}
use Rattle.units.specs.declared.Fault.{Fault}
use Rattle.units.specs.declared.Fault.TheVariants.{Unreadable, TooBig}
use Rattle.units.specs.Words.{Answer, name_unit, or_name}

pub name_case : (w : List ℕ) {a r : Answer} → Err Unreadable ≡ a → r ≡ name_unit w → r ≡ or_name w a
unfolding or_name
name_case w e h = h ∙ ap (or_name w) e

fault_kept : (w : List ℕ) (f : Fault) → (f ≡ Unreadable → ⊥) → Err f ≡ or_name w (Err f)
unfolding or_name
fault_kept w Unreadable o = absurd (o refl)
fault_kept w TooBig o = refl

pub kept_fault : (w : List ℕ) {f : Fault} {a : Answer} → (f ≡ Unreadable → ⊥) → Err f ≡ a → Err f ≡ or_name w a
kept_fault w {f} o e = fault_kept w f o ∙ ap (or_name w) e

word_kept : (w : List ℕ) (u : Word) → Ok u ≡ or_name w (Ok u)
unfolding or_name
word_kept w (Numeral l f v) = refl
word_kept w (Keyed k) = refl
word_kept w Identifier = refl
word_kept w Symbolic = refl

pub kept_word : (w : List ℕ) {u : Word} {r a : Answer} → r ≡ Ok u → r ≡ a → r ≡ or_name w a
kept_word w {u} q e = q ∙ word_kept w u ∙ ap (or_name w) (sym q ∙ e)
