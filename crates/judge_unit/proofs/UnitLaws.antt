-- The unit at the front is the field's that the walker found, where its content may stand; a decimal numeral's field is told by its first bytes.
use mathlib.Core.Path.{◌≡◌, refl, sym, ◌∙◌, subst}
use mathlib.Core.Bool.{Bool, true, false, ◌&&◌, false≢true}
use mathlib.Core.List.{List}
use mathlib.Core.Option.{Option, none, some}
use Prim.Native.Nat.{ℕ, ◌+◌, ◌-◌, ◌≤◌}
use native.Mathlib.Omega.{arith}
use borrow.Author.Tests.{ne_eqb, eqb-true, leb-true}
use lib.Dec.{leb, eqb}
use lib.ListN.{length, get_or, drop, take-append-drop}
use native.Mathlib.Nat.{add-zero}
use Rattle.std.specs.Bool.{then_some}
use Rattle.laws.specs.Cases.{by_bool, and_l, and_r}
use Rattle.rules.specs.Refusals.{most_value}
use Rattle.rules.specs.Characters.{byte}
use Rattle.rules.specs.Units.{r_d, Base, Unit, base_at}
use Rattle.rules.specs.Records.{numeral_tag, num4, unit_of}
use Rattle.rules.specs.WellFormed.{ok_fraction}
use Rattle.digits.specs.Digits.{plain_letter}
use Rattle.std.specs.Prelude.{Option as Maybe, Some, None}
use Rattle.record_walk.specs.declared.Field.{Field}
use Rattle.record_walk.specs.declared.Tag.TheVariants.{Numeral}
use Rattle.record_walk.specs.Fields.{fits, length_at, field_at}
use Rattle.record_walk.specs.Runs.{bytes_in}
use Rattle.record_walk.proofs.FrontLaws.{Small, small_front, small_drop}
use Rattle.record_walk.proofs.RunLaws.{byte_in, long_in}
use Rattle.record_walk.proofs.WalkLaws.{IsField, finds, nothing_there, field_fits}
use Rattle.judge_unit.specs.Units.{unit, may_stand, unit_stands, numeral_stands, decimal_at, UnitTo, IsUnit}
use Rattle.judge_unit.proofs.StandLaws.{numeral_is}

-- ---- a field that was found

pub unit_gone : (b : Base) (rec : List ℕ) (at : ℕ) {r : Maybe Field} → r ≡ None → r ≡ field_at rec at → unit b (drop at rec) ≡ none
unfolding unit
unit_gone b rec at e q = rw (nothing_there rec at e q)

module _ (b : Base) {rec : List ℕ} {at t s k : ℕ} (f : IsField rec at t s k) where
  by_unit : (o : Option Unit) → unit_of t (bytes_in rec s k) ≡ o → may_stand b o ≡ true → UnitTo b rec at k
  unfolding unit
  by_unit none q h = absurd (false≢true h)
  by_unit (some u) q h = record { u = u; is = rw (f.is, q, h); on = omega (arith, f.start, f.ends); inside = f.inside }

  pub unit_found_lem : {r : Bool} → r ≡ unit_stands b t (bytes_in rec s k) → r ≡ true → UnitTo b rec at k
  unfolding unit_stands
  unit_found_lem e h = by_unit (unit_of t (bytes_in rec s k)) refl (sym e ∙ h)

  no_unit : (o : Option Unit) → unit_of t (bytes_in rec s k) ≡ o → may_stand b o ≡ false → unit b (drop at rec) ≡ none
  unfolding unit
  no_unit none q h = rw (f.is, q)
  no_unit (some u) q h = rw (f.is, q, h)

  unit_unfit : {r : Bool} → r ≡ unit_stands b t (bytes_in rec s k) → r ≡ false → unit b (drop at rec) ≡ none
  unfolding unit_stands
  unit_unfit e h = no_unit (unit_of t (bytes_in rec s k)) refl (sym e ∙ h)

  -- what the answer says, by whether the content may stand
  pub unit_told : IsUnit b rec at (then_some (unit_stands b t (bytes_in rec s k)) k)
  unit_told =
      by_bool (unit_stands b t (bytes_in rec s k))
      (λ y. rw y (unit_found_lem refl y))
      (λ y. rw y (unit_unfit refl y))

pub numeral_long : {rec : List ℕ} {at t s k : ℕ} → IsField rec at t s k → t ≡ numeral_tag → k ≡ s + 6
unfolding fits
numeral_long {rec} {at} {t} {s} {k} f e = let n : k - s ≡ 6 = eqb-true (k - s) 6 (rw e at f.fit) in omega (arith, f.ends)

-- ---- numerals

pub small_number : (w : List ℕ) (i : ℕ) → Small w → num4 w i ≤ most_value
small_number w i s = omega (arith, s i, s (1 + i), s (2 + i), s (3 + i))

small_in : (rec : List ℕ) (a e : ℕ) → Small rec → Small (bytes_in rec a e)
small_in rec a e s = small_front (bytes_in rec a e) (drop (e - a) (drop a rec)) (rw take-append-drop (small_drop a rec s))

pub numeral_there : (b : ℕ) (rec : List ℕ) (s k : ℕ) → Small rec → k ≡ s + 6 → k ≤ length rec
    → numeral_stands b (get_or rec s 0) (get_or rec (s + 1) 0) ≡ unit_stands (base_at b) numeral_tag (bytes_in rec s k)
numeral_there b rec s k sm e h =
    let w : List ℕ = bytes_in rec s k in
    let long : length w ≡ 6 = long_in rec s k h ∙ omega arith in
    rw (← byte_in rec s k 1 (omega arith), ← subst (λ (n : ℕ). get_or w 0 0 ≡ get_or rec n 0) (add-zero s) (byte_in rec s k 0 (omega arith)))
    (numeral_is b w long (small_number w 2 (small_in rec s k sm)))

-- ---- a decimal numeral

ruleset parts = (and_l, and_r, leb-true, eqb-true)

decimal_stands : (b f : ℕ) → ok_fraction r_d f ≡ true → (b ≡ byte "K" → ⊥) → numeral_stands b 68 f ≡ true
unfolding numeral_stands plain_letter
decimal_stands b f h nk = rw (ne_eqb b (byte "K") nk) h

module _ (b : ℕ) (rec : List ℕ) (at : ℕ) (sm : Small rec) (inside : at ≤ length rec) where
  pub decimal_found : {r : Bool} → r ≡ decimal_at rec at → r ≡ true → (b ≡ byte "K" → ⊥) → UnitTo (base_at b) rec at (at + 9)
  unfolding decimal_at fits
  decimal_found e h nk =
      let all : leb (at + 9) (length rec) && (eqb (num4 rec at) 117442116 && ok_fraction r_d (get_or rec (at + 4) 0)) ≡ true = sym e ∙ h in
      let room : at + 9 ≤ length rec = search parts in
      let head : num4 rec at ≡ 117442116 = search parts in
      let few : ok_fraction r_d (get_or rec (at + 4) 0) ≡ true = search parts in
      let one : 1 + at ≡ at + 1 = omega arith in
      let two : 2 + at ≡ at + 2 = omega arith in
      let three : 3 + at ≡ at + 3 = omega arith in
      let tag : get_or rec at 0 ≡ 7 = omega (arith, sm at, sm (1 + at), sm (2 + at), sm (3 + at)) in
      let high : get_or rec (1 + at) 0 ≡ 0 = omega (arith, sm at, sm (1 + at), sm (2 + at), sm (3 + at)) in
      let low : get_or rec (2 + at) 0 ≡ 6 = omega (arith, sm at, sm (1 + at), sm (2 + at), sm (3 + at)) in
      let letter : get_or rec (at + 3) 0 ≡ 68 = rw (← three) (omega (arith, sm at, sm (1 + at), sm (2 + at), sm (3 + at))) in
      let size : 6 ≡ length_at rec at = rw (← one, ← two, high, low) in
      let f : IsField rec at 7 (at + 3) (at + 3 + 6) = finds rec at (Some (record { tag = Numeral; start = at + 3; next = at + 3 + 6 })) (field_fits rec at 6 size (omega arith) (omega arith) (rw tag) refl refl refl) in
      let four : at + 3 + 1 ≡ at + 4 = omega arith in
      let nine : at + 3 + 6 ≡ at + 9 = omega arith in
      let good : numeral_stands b (get_or rec (at + 3) 0) (get_or rec (at + 3 + 1) 0) ≡ true = rw (letter, four) (decimal_stands b (get_or rec (at + 4) 0) few nk) in
      rw nine at (unit_found_lem (base_at b) f (sym good ∙ numeral_there b rec (at + 3) (at + 3 + 6) sm refl (omega arith)) refl)
