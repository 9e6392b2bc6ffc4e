-- Units from the front: the first must stand, and each turn of the loop reads one more, while a unit's tag stands there.
use mathlib.Core.Path.{◌≡◌, refl, sym, ◌∙◌}
use mathlib.Core.Bool.{Bool, true, false}
use mathlib.Core.List.{List, [], ◌∷◌, ◌++◌}
use mathlib.Core.Option.{none, some}
use Prim.Native.Nat.{ℕ, suc, ◌+◌, ◌-◌, ◌≤◌, ◌<◌}
use native.Mathlib.Omega.{arith}
use lib.ListN.{length, drop, length-append}
use Rattle.laws.specs.Cases.{by_bool}
use Rattle.laws.specs.Lists.{is_nil}
use Rattle.rules.specs.Units.{Base, Unit}
use Rattle.rules.specs.Records.{is_unit}
use Rattle.record_walk.specs.Fronts.{head_tag, before, several}
use Rattle.record_walk.proofs.FrontLaws.{before_nil, going_end, going_full, going_bad, going_more}
use Rattle.judge_unit.specs.Units.{unit, UnitTo}
use Rattle.judge_unit.proofs.UnitBytes.{unit_tag}
use Rattle.judge_value.specs.Elements.{same_base, few_units, units}
use Rattle.judge_value.specs.Judging.{UnitsAre}

-- `n` units were read up to `at`, the last of them stands at l
pub record UnitsRead (b : Base) (rec : List ℕ) (from at n l : ℕ) : Type 0 where
  pub lead : List Unit
  pub u : Unit
  pub is : few_units b (drop from rec) ≡ before (lead ++ (u ∷ [])) (several is_unit unit same_base (4 - n) b (drop at rec))
  pub count : n ≡ suc (length lead)
  pub few : n ≤ 4
  pub last : unit b (drop l rec) ≡ some (u, drop at rec)
  pub on : l < at
  pub inside : at ≤ length rec

pub snoc_some : (l : List Unit) (u : Unit) → is_nil (l ++ (u ∷ [])) ≡ false
snoc_some [] u = refl
snoc_some (i ∷ l) u = refl

module _ {b : Base} {rec : List ℕ} {from : ℕ} where
  pub units_first : {k : ℕ} → UnitTo b rec from k → UnitsRead b rec from k 1 from
  units_first {k} v =
      record {
        lead = [];
        u = v.u;
        is = going_more is_unit unit same_base [] 4 b (drop from rec) (before_nil (few_units b (drop from rec))) refl (unit_tag b (drop from rec) v.u (drop k rec) v.is) refl v.is;
        count = refl;
        few = omega arith;
        last = v.is;
        on = v.on;
        inside = v.inside;
      }

pub units_none : (b : Base) (r : List ℕ) → unit b r ≡ none → units b r ≡ none
units_none b r e =
    by_bool (is_unit (head_tag r)) (λ y. rw (going_bad is_unit unit same_base [] 4 b r (before_nil (few_units b r)) refl y (λ z. omega arith) e))
    (λ y. rw (going_end is_unit unit same_base [] 4 b r (before_nil (few_units b r)) refl y))

module _ {b : Base} {rec : List ℕ} {from at n l t : ℕ} {y : Bool} (v : UnitsRead b rec from at n l) (e : t ≡ head_tag (drop at rec)) (q : y ≡ is_unit t) where
  abbrev done : List Unit
  done = v.lead ++ (v.u ∷ [])

  pub units_end : y ≡ false → UnitsAre b rec from n l at
  units_end h =
      record {
        lead = v.lead;
        u = v.u;
        is = rw (going_end is_unit unit same_base done (4 - n) b (drop at rec) v.is e (sym q ∙ h), snoc_some v.lead v.u);
        count = v.count;
        last = v.last;
        on = v.on;
        inside = v.inside;
      }

  pub units_full : y ≡ true → n ≡ 4 → units b (drop from rec) ≡ none
  units_full h z = rw (going_full is_unit unit same_base done (4 - n) b (drop at rec) v.is e (sym q ∙ h) (omega arith))

  pub units_bad : y ≡ true → (n ≡ 4 → ⊥) → unit b (drop at rec) ≡ none → units b (drop from rec) ≡ none
  units_bad h z g = rw (going_bad is_unit unit same_base done (4 - n) b (drop at rec) v.is e (sym q ∙ h) (λ x. z (omega (arith, v.few))) g)

  pub units_more : {k : ℕ} → y ≡ true → (n ≡ 4 → ⊥) → UnitTo b rec at k → UnitsRead b rec from k (n + 1) at
  units_more {k} h z w =
      record {
        lead = done;
        u = w.u;
        is = going_more is_unit unit same_base done (4 - n) b (drop at rec) v.is e (sym q ∙ h) (omega (arith, v.few)) w.is;
        count = omega (arith, v.count, length-append v.lead (v.u ∷ []));
        few = omega (arith, v.few);
        last = w.is;
        on = w.on;
        inside = w.inside;
      }

-- the loop goes on
pub units_less : (b : Base) (rec : List ℕ) (at k : ℕ) → UnitTo b rec at k → length rec - k < length rec - at
units_less b rec at k w = omega (arith, w.on, w.inside)
