-- M-102: in what is read no name stands twice in its block.
use Prim.Native.Nat.{ℕ}
use mathlib.Core.Path.{◌≡◌, subst}
use mathlib.Core.Bool.{true, not, false≢true}
use mathlib.Core.List.{List, [], ◌∷◌, ◌++◌, map}
use Rattle.laws.specs.Cases.{by_bool, conjuncts}
use Rattle.laws.specs.Lists.{all, any, all_member}
use Rattle.rules.specs.Commands.{Place, Block, block, command, place_name, same_name}
use Rattle.rules.specs.Reading.{read}
use Rattle.rules.specs.Refusals.{ok}
use Rattle.rules.specs.WellFormed.{wf_block, names_differ}
use Rattle.rules.proofs.CommandBack.{c_blocks}
use Rattle.rules.proofs.Names.{name_refl, block_names}
use Rattle.rules.proofs.ReadSound.{read_wf}

among : (nm : List (List ℕ)) (ys : List Place) (q : Place) (zs : List Place) → not (any (same_name nm) (map place_name (ys ++ (q ∷ zs)))) ≡ true
    → nm ≡ place_name q → ⊥
among nm [] q zs h e = false≢true (rw (subst (λ z. same_name nm z ≡ true) e (name_refl nm)) at h)
among nm (y ∷ ys) q zs h e =
    by_bool (same_name nm (place_name y))
    (λ t. absurd (false≢true (rw t at h)))
    (λ t. among nm ys q zs (rw t at h) e)

pub names_apart : (xs : List Place) (p : Place) (ys : List Place) (q : Place) (zs : List Place)
    → names_differ (map place_name (xs ++ (p ∷ (ys ++ (q ∷ zs))))) ≡ true → place_name p ≡ place_name q → ⊥
names_apart [] p ys q zs h e =
    among (place_name p) ys q zs (search conjuncts) e
names_apart (x ∷ xs) p ys q zs h e =
    names_apart xs p ys q zs (search conjuncts) e

pub names_differ_lem : (letters text : List ℕ) (code : List (List ℕ)) (before : List Block) (xs : List Place) (p : Place) (ys : List Place) (q : Place)
    (zs : List Place) (behind : List Block)
    → read letters text ≡ ok (command code (before ++ (block true (xs ++ (p ∷ (ys ++ (q ∷ zs)))) ∷ behind))) → place_name p ≡ place_name q → ⊥
names_differ_lem letters text code before xs p ys q zs behind h e =
    let ps : List Place = xs ++ (p ∷ (ys ++ (q ∷ zs))) in
    let bl : List Block = before ++ (block true ps ∷ behind) in
    let hb : all wf_block bl ≡ true = c_blocks code bl (read_wf letters text (command code bl) h) in
    names_apart xs p ys q zs (block_names true ps (all_member wf_block before (block true ps) behind hb)) e
