-- Where the keys of names are marked, a name whose key is not is none of them, and with a key more they are marked still: whatever the key is.
use Prim.Native.Nat.{ℕ}
use mathlib.Core.Path.{◌≡◌, refl, sym, ap, ◌∙◌}
use mathlib.Core.Bool.{Bool, true, false, false≢true}
use mathlib.Core.List.{List, [], ◌∷◌}
use Rattle.laws.specs.Cases.{by_bool, and_l, and_r}
use Rattle.laws.specs.Lists.{any}
use Rattle.rules.specs.Commands.{Name, same_name}
use Rattle.rules.proofs.Names.{name_is}
use Rattle.marks.specs.Marks.{marked, added, keys_marked}
use Rattle.marks.specs.declared.Marks.{Marks}
use Rattle.marks.proofs.MarkLaws.{added_keeps}

module _ (key : Name → ℕ) (m : Marks) where
  pub not_met : (nm : Name) (ns : List Name) → keys_marked key m ns ≡ true → marked m (key nm) ≡ false → any (same_name nm) ns ≡ false
  not_met nm [] h k = refl
  not_met nm (x ∷ ns) h k =
      let a : Bool = marked m (key x) in
      by_bool (same_name nm x)
      (λ y. absurd (false≢true (sym k ∙ ap (λ (z : Name). marked m (key z)) (name_is nm x y) ∙ and_l a (keys_marked key m ns) h)))
      (λ y. rw y (not_met nm ns (and_r a (keys_marked key m ns) h) k))

  pub still_marked : (j : ℕ) (ns : List Name) → keys_marked key m ns ≡ true → keys_marked key (added m j) ns ≡ true
  still_marked j [] h = refl
  still_marked j (x ∷ ns) h =
      let a : Bool = marked m (key x) in
      rw (added_keeps m (key x) j (and_l a (keys_marked key m ns) h)) (still_marked j ns (and_r a (keys_marked key m ns) h))
