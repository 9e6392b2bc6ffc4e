-- Two names are equal exactly where their bytes are, since a field's bytes say where it ends; and a place's name stands between its field and its value.
use mathlib.Core.Path.{◌≡◌, refl, sym, ap, ap₂, ◌∙◌, subst}
use mathlib.Core.Bool.{true, false, false≢true}
use mathlib.Core.List.{List, [], ◌∷◌, ◌++◌, map, append_assoc}
use Prim.Native.Nat.{ℕ, ◌+◌, ◌-◌, ◌<◌}
use native.Mathlib.Omega.{arith}
use lib.ListN.{length, take, drop}
use lib.Seq.{take_at}
use Rattle.laws.specs.Cases.{by_bool, some_inj}
use Rattle.laws.specs.Lists.{eq_l, eq_l_is, eq_l_refl}
use Rattle.rules.specs.Characters.{between}
use Rattle.rules.specs.Units.{Base, letter}
use Rattle.rules.specs.Commands.{Name, Element, single, range, place, same_name}
use Rattle.rules.specs.Records.{place_tag, name_tag, Field, field, field_bytes, bytes_of, many, element_fields, place_fields}
use Rattle.rules.proofs.Names.{name_is, name_refl}
use Rattle.record_walk.specs.Fronts.{tag_of, cut}
use Rattle.rules.proofs.FieldLaws.{bytes_append}
use Rattle.record_walk.proofs.FrontLaws.{cut_field}
use Rattle.record_walk.specs.Runs.{field_size, RunsTo}
use Rattle.record_walk.proofs.RunLaws.{drop_behind, after_field, name_tags, low_tag}
use Rattle.judge_names.specs.Names.{name_bytes, IsName, NameAt}
use Rattle.judge_names.specs.declared.Spot.{Spot}

-- ---- names and their bytes

abbrev content : Field → List ℕ
content (field t w) = w

name_of : (a b : Name) → name_bytes a ≡ name_bytes b → a ≡ b
name_of [] [] h = refl
name_of [] (y ∷ ys) h = absurd (omega (arith, ap length h))
name_of (x ∷ xs) [] h = absurd (omega (arith, ap length h))
name_of (x ∷ xs) (y ∷ ys) h =
    let q : ◌≡◌ {A = Field × List ℕ} (field name_tag x, name_bytes xs) (field name_tag y, name_bytes ys) =
    some_inj (sym (cut_field name_tag x (name_bytes xs)) ∙ ap cut h ∙ cut_field name_tag y (name_bytes ys)) in
    ap₂ (λ (w : List ℕ) (l : Name). w ∷ l) (ap (λ (z : Field × List ℕ). content z.0) q) (name_of xs ys (ap (λ (z : Field × List ℕ). z.1) q))

pub bytes_same : (a b : Name) → eq_l (name_bytes a) (name_bytes b) ≡ same_name a b
bytes_same a b =
    by_bool (same_name a b)
    (λ y. subst (λ (z : Name). eq_l (name_bytes a) (name_bytes z) ≡ true) (name_is a b y) (eq_l_refl (name_bytes a)) ∙ sym y)
    (λ y.
    by_bool (eq_l (name_bytes a) (name_bytes b))
    (λ z. absurd (false≢true (sym y ∙ subst (λ (w : Name). same_name a w ≡ true) (name_of a b (eq_l_is (name_bytes a) (name_bytes b) z)) (name_refl a))))
    (λ z. z ∙ sym y))

-- ---- where a place's name is

value_behind : (v : List Element) (rest : List ℕ) → tag_of rest < name_tag → between name_tag name_tag (tag_of (bytes_of (many element_fields v) ++ rest)) ≡ false
value_behind [] rest h = low_tag name_tag name_tag (tag_of rest) h
value_behind (single l u ∷ v) rest h = refl
value_behind (range l r lo up inc ∷ v) rest h = refl

module _ (rec : List ℕ) (at : ℕ) {start end : ℕ} (q : start ≡ at + field_size (drop at rec)) (n : RunsTo name_tag name_tag rec start end) where
  abbrev spot : Spot
  spot = record { start = start; end = end }

  name_there : (b : Base) (nm : Name) (v : List Element) (rest : List ℕ) → drop at rec ≡ bytes_of (place_fields (place b nm v)) ++ rest
      → tag_of rest < name_tag → IsName rec spot nm v rest
  name_there b nm v rest e s =
      let f : List ℕ = field_bytes (field place_tag (letter b ∷ [])) in
      let ns : List ℕ = name_bytes nm in
      let vs : List ℕ = bytes_of (many element_fields v) ++ rest in
      let joined : bytes_of (map (λ w. field name_tag w) nm ++ many element_fields v) ++ rest ≡ ns ++ vs =
      ap (λ (x : List ℕ). x ++ rest) (bytes_append (map (λ w. field name_tag w) nm) (many element_fields v)) ∙ append_assoc ns (bytes_of (many element_fields v)) rest in
      let g : drop at rec ≡ f ++ (ns ++ vs) = e ∙ ap (λ (x : List ℕ). f ++ x) joined in
      let z : start ≡ at + length f = q ∙ after_field rec at (field place_tag (letter b ∷ [])) (ns ++ vs) g in
      let d : drop start rec ≡ ns ++ vs = ap (λ (m : ℕ). drop m rec) z ∙ drop_behind rec at f (ns ++ vs) g in
      let y : end ≡ start + length ns = n.is (map (λ w. field name_tag w) nm) vs d (name_tags nm) (value_behind v rest s) in
      record {
        bytes = ap (take (end - start)) d ∙ take_at ns vs (end - start) (omega arith);
        behind = ap (λ (m : ℕ). drop m rec) y ∙ drop_behind rec start ns vs d;
      }

  pub name_found : NameAt rec at spot
  name_found = record { from = q; order = n.from; whole = n.whole; is = name_there }
