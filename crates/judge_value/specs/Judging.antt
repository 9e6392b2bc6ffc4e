-- What the judge's answers on units, elements and values say: what was read from the front of the bytes, its numbers, and where the rest begins.
use Rattle.std.specs.Prelude.{◌≡◌, List, [], ◌∷◌, ◌++◌, map, ℕ, suc, ◌+◌, ◌≤◌, ◌<◌, length, drop, Option as Maybe, Some, None}
use Rattle.std.proofs.Math.Option.{none, some}
use Rattle.rules.specs.Units.{Base, Unit}
use Rattle.rules.specs.Commands.{Element, leading, terms, sum}
use Rattle.judge_unit.specs.Units.{unit}
use Rattle.judge_value.specs.Elements.{units, element, value}
use Rattle.judge_value.specs.declared.Units.{Units}
use Rattle.judge_value.specs.declared.OneElement.{OneElement}
use Rattle.judge_value.specs.declared.Arguments.{Arguments}

-- the n units that stand at `at`, the last of them at l; the next field begins at k
pub record UnitsAre (b : Base) (rec : List ℕ) (at n l k : ℕ) : Type 0 where
  pub lead : List Unit
  pub u : Unit
  pub is : units b (drop at rec) ≡ some (lead ++ (u ∷ []), drop k rec)
  pub count : n ≡ suc (length lead)
  pub last : unit b (drop l rec) ≡ some (u, drop k rec)
  pub on : l < k
  pub inside : k ≤ length rec

abbrev pub IsUnits : Base → List ℕ → ℕ → Maybe Units → Type 0
IsUnits b rec at (Some u) = UnitsAre b rec at u.count u.last u.next
IsUnits b rec at None = units b (drop at rec) ≡ none

pub record ElementIs (b : Base) (rec : List ℕ) (at n more k : ℕ) : Type 0 where
  pub e : Element
  pub is : element b (drop at rec) ≡ some (e, drop k rec)
  pub inside : k ≤ length rec
  pub units : n ≡ suc (length (leading e))
  pub counts : terms e ≡ more + 1

abbrev pub IsElement : Base → List ℕ → ℕ → Maybe OneElement → Type 0
IsElement b rec at (Some e) = ElementIs b rec at e.units e.more e.next
IsElement b rec at None = element b (drop at rec) ≡ none

pub record ValueIs (b : Base) (rec : List ℕ) (at n k : ℕ) : Type 0 where
  pub v : List Element
  pub is : value b (drop at rec) ≡ some (v, drop k rec)
  pub inside : k ≤ length rec
  pub arguments : n ≡ sum (map terms v)
  pub few : n ≤ 4096

abbrev pub IsValue : Base → List ℕ → ℕ → Maybe Arguments → Type 0
IsValue b rec at (Some v) = ValueIs b rec at v.number v.next
IsValue b rec at None = value b (drop at rec) ≡ none
