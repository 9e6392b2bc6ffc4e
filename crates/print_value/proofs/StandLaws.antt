-- A field of less than 256 bytes of content ends where the low byte of its length says.
use Prim.Native.Nat.{◌+◌, ◌<◌, ◌≤◌, ℕ}
use lib.ListN.{drop, get_or, length}
use lib.Seq.{get_or-drop, take_at}
use mathlib.Core.Bool.{true}
use mathlib.Core.List.{List, ◌++◌}
use mathlib.Core.Path.{◌∙◌, ◌≡◌, ap, refl, sym}
use native.Mathlib.Nat.{add-sub_cancel_left, mod-eq_of_lt}
use native.Mathlib.Omega.{arith}
use Rattle.rules.specs.Records.{Field, field, field_bytes, numeral_tag, unit_field}
use Rattle.rules.specs.Units.{Base, Unit, identifier, keyed, letter, num, symbolic, text}
use Rattle.rules.specs.WellFormed.{wf_unit}
use Rattle.print_unit.proofs.UnitLaws.{sized_unit}
use Rattle.print_unit.specs.Units.{IsUnit}
use Rattle.record_walk.proofs.RunLaws.{drop_behind, stands_inside}
use Rattle.record_walk.specs.Fronts.{tag_of}
use Rattle.record_walk.specs.Runs.{bytes_in}

-- at `at` stands the field f, and behind it `rest`
pub record Stands (rec : List ℕ) (at : ℕ) (f : Field) (rest : List ℕ) : Type 0 where
  pub head : at + 2 < length rec
  pub next : at + (3 + get_or rec (at + 2) 0) ≡ at + length (field_bytes f)
  pub inside : at + length (field_bytes f) ≤ length rec
  pub bytes : bytes_in rec at (at + length (field_bytes f)) ≡ field_bytes f
  pub beyond : drop (at + length (field_bytes f)) rec ≡ rest

pub stands : (rec : List ℕ) (at : ℕ) (f : Field) (rest : List ℕ) → drop at rec ≡ field_bytes f ++ rest → length (field_bytes f) < 259 → at ≤ length rec
    → Stands rec at f rest
stands rec at (field t w) rest e h k =
    let p : List ℕ = field_bytes (field t w) in
    let l : at + length p ≤ length rec = stands_inside rec at p rest e k in
    let n : get_or rec (at + 2) 0 ≡ length w = sym (get_or-drop at rec 2 0) ∙ ap (λ (r : List ℕ). get_or r 2 0) e ∙ mod-eq_of_lt (omega arith) in
    record {
      head = omega arith;
      next = omega (arith, n);
      inside = l;
      bytes = rw (add-sub_cancel_left at (length p), e) (take_at p rest (length p) refl);
      beyond = drop_behind rec at p rest e;
    }

-- what a cut needs
pub head_fits : {rec : List ℕ} {at : ℕ} {f : Field} {rest : List ℕ} → Stands rec at f rest → (at + 2 < length rec) × (at + (3 + get_or rec (at + 2) 0) ≤ length rec)
head_fits s = (s.head, omega (arith, s.next, s.inside))

-- ---- a unit's field

module _ (rec : List ℕ) (at : ℕ) (b : Base) (u : Unit) (rest : List ℕ) where
  pub unit_stands_lem : drop at rec ≡ field_bytes (unit_field u) ++ rest → wf_unit b u ≡ true → at ≤ length rec → Stands rec at (unit_field u) rest
  unit_stands_lem e h k = stands rec at (unit_field u) rest e (omega (arith, (sized_unit b u h).most)) k

  pub unit_is : {base n : ℕ} → Stands rec at (unit_field u) rest → base ≡ letter b → wf_unit b u ≡ true → n ≡ at + (3 + get_or rec (at + 2) 0)
      → IsUnit (bytes_in rec at n) base b u
  unit_is s q h e = record { under = q; is = rw (e ∙ s.next) s.bytes; good = h }

pub unit_tag : (u : Unit) (rest : List ℕ) → numeral_tag ≤ tag_of (field_bytes (unit_field u) ++ rest)
unit_tag (num r f v) rest = omega arith
unit_tag (keyed w) rest = omega arith
unit_tag (identifier w) rest = omega arith
unit_tag (symbolic w) rest = omega arith
unit_tag (text w) rest = omega arith
