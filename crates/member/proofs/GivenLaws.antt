-- Whether bytes are an argument's is asked unit by unit: what was read are units that could stand, and of every argument whose fields the bytes are, what is left are the other units.
use mathlib.Core.Path.{◌≡◌, refl, sym, ap, ◌∙◌, subst}
use mathlib.Core.Bool.{true, false}
use mathlib.Core.List.{List, [], ◌∷◌, ◌++◌, map, map-append, append_assoc, append-nil}
use mathlib.Core.Option.{none, some}
use Prim.Native.Nat.{ℕ, ◌+◌, ◌-◌, ◌≤◌, ◌<◌}
use native.Mathlib.Omega.{arith}
use borrow.Author.Tests.{leb-true, le-leb, lt-ltb, le-ltb}
use lib.Dec.{leb, ltb}
use lib.ListN.{length, drop, length-append, length-drop, drop_of_length-le}
use Rattle.laws.specs.Cases.{by_bool, none≢some, some_inj, and_l, and_r, conjuncts}
use Rattle.laws.specs.Lists.{all, all_append, all_front, all_last}
use Rattle.rules.specs.Refusals.{most_leading}
use Rattle.rules.specs.Units.{Base, Unit}
use Rattle.rules.specs.Records.{Field, field, unit_field, field_bytes, bytes_of}
use Rattle.rules.specs.WellFormed.{wf_unit}
use Rattle.rules.specs.Positions.{unit_bytes, could_stand, is_given}
use Rattle.rules.proofs.FieldLaws.{bytes_append}
use Rattle.rules.proofs.LocateCall.{Given, given_some, given_back}
use Rattle.record_walk.proofs.FrontLaws.{Small, small_drop}
use Rattle.judge_unit.specs.Units.{unit, UnitTo}
use Rattle.judge_unit.proofs.UnitBytes.{unit_fields, unit_is, unit_back, unit_tag}

-- ---- units one behind the other

abbrev bytes_units : List Unit → List ℕ
bytes_units us = bytes_of (map unit_field us)

-- a unit of them at the back
pub record Snoc (us : List Unit) : Type 0 where
  pub lead : List Unit
  pub last : Unit
  pub is : us ≡ lead ++ (last ∷ [])

snoc : (u : Unit) (us : List Unit) → Snoc (u ∷ us)
snoc u [] = record { lead = []; last = u; is = refl }
snoc u (v ∷ us) = let s : Snoc (v ∷ us) = snoc v us in record { lead = u ∷ s.lead; last = s.last; is = ap (λ (l : List Unit). u ∷ l) s.is }

units_more : (us : List Unit) (u : Unit) → bytes_units (us ++ (u ∷ [])) ≡ bytes_units us ++ bytes_of (unit_fields u)
units_more us u = ap bytes_of (map-append unit_field us (u ∷ [])) ∙ bytes_append (map unit_field us) (unit_fields u)

field_some : (f : Field) → 0 < length (field_bytes f)
field_some (field t w) = omega arith

-- an argument has bytes
some_bytes : (l : List Unit) (u : Unit) → unit_bytes l u ≡ [] → ⊥
some_bytes [] u h = absurd (omega (arith, ap length h, length-append (field_bytes (unit_field u)) [], field_some (unit_field u)))
some_bytes (v ∷ l) u h = absurd (omega (arith, ap length h, length-append (field_bytes (unit_field v)) (unit_bytes l u), field_some (unit_field v)))

-- the first unit is read from its field
unit_first : (b : Base) (u : Unit) (us : List Unit) → wf_unit b u ≡ true → unit b (bytes_units (u ∷ us)) ≡ some (u, bytes_units us)
unit_first b u us h = ap (λ (x : List ℕ). unit b (x ++ bytes_units us)) (sym (append-nil (field_bytes (unit_field u)))) ∙ unit_back b u (bytes_units us) h refl

-- ---- the loop

-- what is left of an argument
pub record Left (b : Base) (w : List ℕ) (at left : ℕ) : Type 0 where
  pub units : List Unit
  pub well : all (wf_unit b) units ≡ true
  pub bytes : drop at w ≡ bytes_units units
  pub few : length units ≤ left

pub record Judging (b : Base) (w : List ℕ) (at left : ℕ) : Type 0 where
  pub inside : at ≤ length w
  pub read : List Unit
  pub well : all (wf_unit b) read ≡ true
  pub bytes : w ≡ bytes_units read ++ drop at w
  pub count : length read + left ≡ 4
  pub ahead : Given b w → Left b w at left

pub judging_none : {b : Base} {w : List ℕ} → Judging b w 0 4
judging_none {b} {w} = record {
  inside = omega arith;
  read = [];
  well = refl;
  bytes = refl;
  count = refl;
  ahead = λ g. all_left g;
}
  where
    all_left : Given b w → Left b w 0 4
    all_left g =
        let l : List Unit = g.lead in
        let u : Unit = g.last in
        let h : could_stand b l u ≡ true = g.could in
        let few : leb (length l) most_leading ≡ true = search conjuncts in
        let lead : all (wf_unit b) l ≡ true = search conjuncts in
        let last : wf_unit b u ≡ true = search conjuncts in
        record {
          units = l ++ (u ∷ []);
          well = all_append (wf_unit b) l (u ∷ []) lead (rw last);
          bytes = sym g.bytes;
          few = omega (arith, leb-true (length l) 3 few, length-append l (u ∷ []));
        }

no_given : (b : Base) (w : List ℕ) → (Given b w → ⊥) → false ≡ is_given b w
no_given b w h = by_bool (is_given b w) (λ y. absurd (h (given_some b w y))) (λ y. sym y)

module _ {b : Base} {w : List ℕ} {at left : ℕ} (j : Judging b w at left) where
  -- bytes are left, and so is a unit
  module _ (lt : at < length w) where
    left_some : (g : Left b w at left) {C : Type 0} → ((u : Unit) (us : List Unit) → wf_unit b u ≡ true → all (wf_unit b) us ≡ true → drop at w ≡ bytes_units (u ∷ us) → length us < left → C) → C
    left_some g {C = C} k = go g.units g.well g.bytes g.few
      where
        go : (us : List Unit) → all (wf_unit b) us ≡ true → drop at w ≡ bytes_units us → length us ≤ left → C
        go [] h e n = absurd (omega (arith, ap length e, length-drop at w))
        go (u ∷ us) h e n = k u us (and_l (wf_unit b u) (all (wf_unit b) us) h) (and_r (wf_unit b u) (all (wf_unit b) us) h) e (omega arith)

    pub judging_full : left ≡ 0 → false ≡ is_given b w
    judging_full z = no_given b w (λ g. left_some (j.ahead g) (λ u us _ _ _ n. absurd (omega arith)))

    pub judging_bad : unit b (drop at w) ≡ none → false ≡ is_given b w
    judging_bad e = no_given b w (λ g. left_some (j.ahead g) (λ u us h _ q _. none≢some (sym e ∙ ap (unit b) q ∙ unit_first b u us h)))

    module _ {end : ℕ} (t : UnitTo b w at end) where
      pub judging_less : length w - end < length w - at
      judging_less = omega (arith, t.on, t.inside)

      one_less : Left b w at left → Left b w end (left - 1)
      one_less g =
          left_some g
          (λ u us h k q n.
          let same : (u, bytes_units us) ≡ (t.u, drop end w) = some_inj (sym (unit_first b u us h) ∙ ap (unit b) (sym q) ∙ t.is) in
          record { units = us; well = k; bytes = sym (ap (λ (x : Unit × List ℕ). x.1) same); few = omega arith })

      pub judging_more : (left ≡ 0 → ⊥) → Small w → Judging b w end (left - 1)
      judging_more z s =
          let r : List ℕ = drop at w in
          let was : (wf_unit b t.u ≡ true) × (r ≡ bytes_of (unit_fields t.u) ++ drop end w) = unit_is b r t.u (drop end w) (small_drop at w s) (unit_tag b r t.u (drop end w) t.is) t.is in
          record {
            inside = t.inside;
            read = j.read ++ (t.u ∷ []);
            well = all_append (wf_unit b) j.read (t.u ∷ []) j.well (rw was.0);
            bytes =
                j.bytes ∙ ap (λ (x : List ℕ). bytes_units j.read ++ x) was.1 ∙ sym (append_assoc (bytes_units j.read) (bytes_of (unit_fields t.u)) (drop end w))
                ∙ ap (λ (x : List ℕ). x ++ drop end w) (sym (units_more j.read t.u));
            count = omega (arith, j.count, length-append j.read (t.u ∷ []));
            ahead = λ g. one_less (j.ahead g);
          }

  -- nothing is left
  pub judging_end : length w ≤ at → ltb left 4 ≡ is_given b w
  judging_end k = go j.read j.well (j.bytes ∙ ap (λ (x : List ℕ). bytes_units j.read ++ x) (drop_of_length-le w {i = at} k) ∙ append-nil (bytes_units j.read)) j.count
    where
      go : (us : List Unit) → all (wf_unit b) us ≡ true → w ≡ bytes_units us → length us + left ≡ 4 → ltb left 4 ≡ is_given b w
      go [] h e n = le-ltb left 4 (omega arith) ∙ no_given b w (λ g. some_bytes g.lead g.last (g.bytes ∙ e))
      go (u ∷ us) h e n =
          let s : Snoc (u ∷ us) = snoc u us in
          let h' : all (wf_unit b) (s.lead ++ (s.last ∷ [])) ≡ true = subst (λ (l : List Unit). all (wf_unit b) l ≡ true) s.is h in
          let few : leb (length s.lead) most_leading ≡ true = le-leb (length s.lead) 3 (omega (arith, ap length s.is, length-append s.lead (s.last ∷ []))) in
          lt-ltb left 4 (omega arith)
          ∙ sym (given_back b w (record {
            lead = s.lead;
            last = s.last;
            could = rw (few, all_front (wf_unit b) s.lead s.last h', all_last (wf_unit b) s.lead s.last h');
            bytes = ap bytes_units (sym s.is) ∙ sym e;
          }))
