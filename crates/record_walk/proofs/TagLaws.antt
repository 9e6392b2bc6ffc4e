-- A tag is named by its own number and by no other, and a number that names none has no field: by walking over the two lists.
use Rattle.std.specs.Prelude.{◌≡◌, Bool, true, ◌&&◌, List, [], ◌∷◌, ℕ, zero, suc, ◌+◌, eqb, get_or, false, Option, Some, None}
use Rattle.std.proofs.Common.{refl, sym, ap, ◌∙◌, arith, true≢false}
use Rattle.std.specs.Option.{is_some}
use borrow.Author.Tests.{eqb-true}
use Rattle.laws.specs.Cases.{and_l, and_r}
use Rattle.record_walk.specs.declared.Tag.{Tag}
use Rattle.record_walk.specs.declared.Tag.TheVariants.{Code, Block, Place, Name, Single, Range, Numeral, Keyed, Identifier, Symbolic, String, Count, OrderLength}
use Rattle.record_walk.specs.Tags.{number, tags, tag_named}
use Rattle.record_walk.specs.Fields.{never, lengths, fits}

good : Option Tag → ℕ → Bool
good None k = true
good (Some t) k = eqb (number t) k

goods : List (Option Tag) → ℕ → Bool
goods [] k = true
goods (o ∷ os) k = good o k && goods os (suc k)

in_list : (os : List (Option Tag)) (k n : ℕ) {t : Tag} → goods os k ≡ true → get_or os n None ≡ Some t → number t ≡ k + n
unfolding good goods
in_list [] k n g h = absurd (true≢false (sym (ap is_some h)))
in_list (o ∷ os) k zero {t} g h =
    let e : good o k ≡ true = and_l (good o k) (goods os (suc k)) g in
    let f : eqb (number t) k ≡ true = ap (λ (x : Option Tag). good x k) (sym h) ∙ e in
    omega (arith, eqb-true (number t) k f)
in_list (o ∷ os) k (suc n) g h = omega (arith, in_list os (suc k) n (and_r (good o k) (goods os (suc k)) g) h)

-- a tag that a number names has that number
pub named : (n : ℕ) {t : Tag} → tag_named n ≡ Some t → number t ≡ n
unfolding good goods
named n h = omega (arith, in_list tags 0 n refl h)

-- and each tag is named by its number
pub names_all : (t : Tag) → tag_named (number t) ≡ Some t
names_all Code = refl
names_all Block = refl
names_all Place = refl
names_all Name = refl
names_all Single = refl
names_all Range = refl
names_all Numeral = refl
names_all Keyed = refl
names_all Identifier = refl
names_all Symbolic = refl
names_all String = refl
names_all Count = refl
names_all OrderLength = refl

-- where the one list has none, the other has no length
Paired : List (Option Tag) → List (ℕ → Bool) → Type 0
Paired os [] = Unit {0}
Paired [] (l ∷ ls) = ⊥
Paired (None ∷ os) (l ∷ ls) = (l ≡ never) × Paired os ls
Paired (Some t ∷ os) (l ∷ ls) = Paired os ls

paired : (os : List (Option Tag)) (ls : List (ℕ → Bool)) (n k : ℕ) → Paired os ls → get_or os n None ≡ None → get_or ls n never k ≡ false
unfolding Paired
paired os [] n k p h = refl
paired [] (l ∷ ls) n k p h = absurd p
paired (None ∷ os) (l ∷ ls) zero k p h = ap (λ (f : ℕ → Bool). f k) p.0
paired (Some t ∷ os) (l ∷ ls) zero k p h = absurd (true≢false (ap is_some h))
paired (None ∷ os) (l ∷ ls) (suc n) k p h = paired os ls n k p.1 h
paired (Some t ∷ os) (l ∷ ls) (suc n) k p h = paired os ls n k p h

pub unnamed : (n k : ℕ) → tag_named n ≡ None → fits n k ≡ false
unfolding fits Paired
unnamed n k h = paired tags lengths n k (refl, tt) h
