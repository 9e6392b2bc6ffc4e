-- Where the units of an element without fault stand, by their index: an element keeps the units that its rule is given, and these are there.
use native.Mathlib.Omega.{arith}
use Prim.Native.Nat.{ℕ, ◌+◌, ◌<◌}
use mathlib.Core.Path.{◌≡◌, refl, ◌∙◌, subst}
use mathlib.Core.Bool.{cond}
use mathlib.Core.List.{List}
use borrow.Author.Tests.{eqb-true}
use lib.Dec.{eqb}
use lib.ListN.{length}
use Rattle.laws.specs.Cases.{by_bool}
use Rattle.laws.specs.Lists.{is_nil}
use Rattle.rules.specs.Commands.{Element, leading, last_unit}
use Rattle.rules.specs.Groups.{Join, later_arg, later}
use Rattle.rules.specs.Refusals.{ok}
use Rattle.rules.specs.Tokens.{sep_code, amp_}
use Rattle.rules.specs.Units.{Unit}
use Rattle.rules.proofs.ResultLaws.{ok≢bad}
use Rattle.read_joins.specs.Joins.{kind_at, unit_at, units_from, inner_at, dashes_at}
use Rattle.read_elements.specs.Shapes.{group_at}
use Rattle.read_joins.proofs.JoinLaws.{dashes_inside, full_at, units_length}
use Rattle.read_elements.proofs.KeepLaws.{Keeps, upper_keeps}

-- the place of the last unit, and of the leading ones: behind `&-` these stand where they stood before, at f
abbrev pub last_at : List (Join Unit) → ℕ → ℕ → ℕ
last_at js k n = cond (eqb (kind_at js n) (sep_code amp_)) n (n + k)

abbrev pub front_at : List (Join Unit) → ℕ → ℕ → ℕ
front_at js f n = cond (eqb (kind_at js n) (sep_code amp_)) f n

pub record Stands (js : List (Join Unit)) (f k n : ℕ) (e : Element) : Type 0 where
  pub leads : leading e ≡ units_from js (front_at js f n) k
  pub last : last_unit e ≡ unit_at js (last_at js k n)
  pub front_inside : front_at js f n + k < length js
  pub last_inside : last_at js k n < length js

pub later_stands : (js : List (Join Unit)) (f k n : ℕ) (e : Element) → f + k < length js → n < length js → later (units_from js f k) (group_at js n) ≡ ok e
    → Stands js f k n e
later_stands js f k n e i m h =
    let d = dashes_at js (n + 1) in let l = units_from js f k in
    by_bool (eqb (kind_at js n) (sep_code amp_))
    (λ y. by_bool (is_nil l)
    (λ z. ok≢bad (rw (y, later, z) at h))
    (λ z. let s = subst (Keeps l (unit_at js n)) (rw (y, later, z) at h) (upper_keeps (inner_at js (n + 1)) l (unit_at js n)) in
    record { leads = rw y s.0; last = rw y s.1; front_inside = rw y i; last_inside = rw y m }))
    (λ y. by_bool (eqb d (length l))
    (λ z.
    let g : d ≡ k = eqb-true d (length l) z ∙ units_length k js f in
    let q = rw (y, later, full_at js n, units_length d js n, z, later_arg) at h in
    let s = subst (Keeps (units_from js n d) (unit_at js (n + d))) q (upper_keeps (inner_at js (n + d + 1)) (units_from js n d) (unit_at js (n + d))) in
    let o : n + k < length js = omega (arith, dashes_inside d js n m refl) in
    record { leads = rw (y, ← g) s.0; last = rw (y, ← g) s.1; front_inside = rw y o; last_inside = rw y o })
    (λ z. ok≢bad (rw (y, later, full_at js n, units_length d js n, z, later_arg) at h)))
