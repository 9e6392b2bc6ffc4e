-- From the last place back each place's first argument is kept: with it all choices of its value are left.
use mathlib.Core.Path.{◌≡◌, refl, sym, ap, ◌∙◌, subst}
use mathlib.Core.List.{List, [], ◌∷◌}
use Prim.Native.Nat.{ℕ, ◌+◌, ◌-◌, ◌*◌, ◌≤◌, ◌<◌}
use native.Mathlib.Nat.{le_refl}
use native.Mathlib.Omega.{arith}
use lib.ListN.{length, get_or, take, drop, length-append, length-take, drop_of_length-le}
use lib.Seq.{drop_at, drop-drop, length-take-le}
use Rattle.laws.specs.Over.{part, back as given, part_from, length_part}
use Rattle.record_walk.specs.Values.{Value}
use Rattle.list_argument.specs.Standings.{Stands}
use Rattle.list_argument.specs.declared.Standing.{Standing}
use Rattle.list.specs.Filled.{Chosen, Values, Unrolls}
use Rattle.list.specs.Odometer.{AllStand, Restarts, Begun}
use Rattle.list.proofs.RowLaws.{values_long, PlaceOf, place_of}
use Rattle.list.proofs.TurnLaws.{given_is}

-- the places from i on are begun
pub record Beginning (rec row old : List ℕ) (i : ℕ) (cur : List ℕ) : Type 0 where
  pub low : i ≤ length row
  pub turns : ℕ
  pub threes : i ≡ 3 * turns
  pub even : length row ≡ length old
  pub long : length cur ≡ length old
  pub unrolls : Unrolls rec row
  pub begun : (fs : List (List (List ℕ))) → Values rec 0 row fs → AllStand rec (drop i row) (drop i cur) (drop turns fs)

none_begun : (rec row cur : List ℕ) (fs : List (List (List ℕ))) (i n : ℕ) → length row ≤ i → length cur ≤ i → length fs ≤ n → AllStand rec (drop i row) (drop i cur) (drop n fs)
none_begun rec row cur fs i n h k m = rw (drop_of_length-le row h, drop_of_length-le cur k, drop_of_length-le fs m) tt

pub beginning_none : {rec row old : List ℕ} → Unrolls rec row → length old ≡ length row → Beginning rec row old (length row) old
beginning_none {rec} {row} {old} u e = record {
  low = le_refl (length row);
  turns = length u.choices;
  threes = values_long rec 0 row u.choices u.values;
  even = sym e;
  long = refl;
  unrolls = u;
  begun = λ fs v.
      none_begun rec row old fs (length row) (length u.choices) (omega arith) (omega (arith, e))
      (omega (arith, values_long rec 0 row fs v, values_long rec 0 row u.choices u.values));
}

module _ {rec row old cur : List ℕ} {i : ℕ} (b : Beginning rec row old i cur) where
  pub beginning_all : i ≤ 0 → Begun rec row cur
  beginning_all h = λ fs v.
      let zero_i : i ≡ 0 = omega arith in
      let zero_turns : b.turns ≡ 0 = omega (arith, b.threes) in
      let a : AllStand rec (drop i row) (drop i cur) (drop b.turns fs) = b.begun fs v in
      rw (zero_i, zero_turns) at a

  module _ (h : 0 < i) where
    abbrev j : ℕ
    j = i - 3

    abbrev place_before : (fs : List (List (List ℕ))) → Values rec 0 row fs → PlaceOf rec row fs (b.turns - 1) j
    place_before fs v =
        place_of rec row fs (b.turns - 1) j v (omega (arith, values_long rec 0 row fs v, b.low, b.threes)) (omega (arith, b.threes))

    pub beginning_value : Value rec (get_or row (i - 3 + 1) 0) (get_or row (i - 3 + 2) 0)
    beginning_value = let c = (place_before b.unrolls.choices b.unrolls.values).chosen in record { elements = c.elements; holds = c.holds }

    pub beginning_room : 3 ≤ length (part cur (i - 3))
    beginning_room = omega (arith, length_part cur (i - 3), b.low, b.threes, b.even, b.long)

    module _ {ys : List ℕ} (again : Restarts rec (get_or row (i - 3 + 1) 0) (get_or row (i - 3 + 2) 0) (part cur (i - 3)) ys) (long : length ys ≡ length (part cur (i - 3))) where
      abbrev r : Standing
      r = again.first

      behind_place : drop 3 (part cur j) ≡ drop i cur
      behind_place =
          let q : j + 3 ≡ i = omega (arith, b.threes) in
          ap (drop 3) (part_from cur j) ∙ drop-drop 3 j cur ∙ ap (λ (n : ℕ). drop n cur) q

      from_place : drop j (given cur j ys) ≡ r.start ∷ (r.end ∷ (r.term ∷ drop i cur))
      from_place =
          ap (drop j) (given_is cur j ys)
          ∙ drop_at (take j cur) ys j (length-take-le j cur (omega (arith, b.low, b.even, b.long)))
          ∙ again.row ∙ ap (λ (l : List ℕ). r.start ∷ (r.end ∷ (r.term ∷ l))) behind_place

      place_begun : (fs : List (List (List ℕ))) → Values rec 0 row fs → AllStand rec (drop j row) (drop j (given cur j ys)) (drop (b.turns - 1) fs)
      place_begun fs v =
          let p : PlaceOf rec row fs (b.turns - 1) j = place_before fs v in
          let c : Chosen rec p.at (get_or row j 0) (get_or row (j + 1) 0) (get_or row (j + 2) 0) (get_or fs (b.turns - 1) []) = p.chosen in
          let s : Stands rec (get_or row (j + 2) 0) r (get_or fs (b.turns - 1) []) =
          subst (Stands rec (get_or row (j + 2) 0) r) (sym c.is) (again.is.stands c.elements c.holds) in
          let q : j + 3 ≡ i = omega (arith, b.threes) in
          let t : b.turns - 1 + 1 ≡ b.turns = omega (arith, b.threes) in
          let a : AllStand rec (drop (j + 3) row) (drop i cur) (drop (b.turns - 1 + 1) fs) = rw (q, t) (b.begun fs v) in
          rw (p.row_is, from_place, p.choices_are) (s, a)

      pub beginning_more : Beginning rec row old (i - 3) (given cur (i - 3) ys)
      beginning_more = record {
        low = omega (arith, b.low);
        turns = b.turns - 1;
        threes = omega (arith, b.threes);
        even = b.even;
        long =
            ap length (given_is cur (i - 3) ys) ∙ length-append (take (i - 3) cur) ys
            ∙ omega (arith, b.low, b.even, b.long, length-take (i - 3) cur, length_part cur (i - 3));
        unrolls = b.unrolls;
        begun = place_begun;
      }
