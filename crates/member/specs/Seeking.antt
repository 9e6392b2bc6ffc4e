-- An argument sought among those of a value in a record, from the bytes of both: the element that names it, and in a range the term that it is.
use Rattle.std.specs.Prelude.{◌≡◌, Bool, true, ◌&&◌, List, ℕ, suc, ◌+◌, ◌-◌, ◌/◌, ◌%◌, ◌≤◌, leb, eqb, length, get_or, take, drop}
use Rattle.laws.specs.Cases.{pick}
use Rattle.laws.specs.Lists.{eq_l}
use Rattle.rules.specs.Refusals.{Res, ok, ◌>>=◌, guard, wrong_argument}
use Rattle.rules.specs.Units.{Base, letter, Unit}
use Rattle.rules.specs.Commands.{Element, Place, place_base, place_value}
use Rattle.rules.specs.Records.{num4}
use Rattle.rules.specs.WellFormed.{wf_value}
use Rattle.rules.specs.Positions.{unit_bytes, argument_of, is_given, position_of, answer_of, located}
use Rattle.rules.specs.Answers.{Answer, answered}
use Rattle.record_walk.specs.Values.{Holds, PlaceAt, end_before}
use Rattle.order_argument.specs.Terms.{is_range, range_field, upper_at, increment_at, lower_at}

-- ---- an element

-- the argument w has the units of the range x, the value of the last one apart: that is the last four bytes of both
unfoldable pub alike : List ℕ → List ℕ → Bool
alike x w = eqb (length x - range_field) (length w) && eq_l (take (length w - 4) (drop range_field x)) (take (length w - 4) w)

-- 1 and the number of increments by which a value is above the lower end; 0 where it is outside the ends, or where that is no whole number
unfoldable pub step_of : ℕ → ℕ → ℕ → ℕ → ℕ
step_of lo up inc v = pick (leb lo v && leb v up && leb 1 inc && eqb ((v - lo) % inc) 0) (suc ((v - lo) / inc)) 0

-- the same of the argument among a range's terms
unfoldable pub range_term : List ℕ → List ℕ → ℕ
range_term x w = pick (alike x w) (step_of (num4 x (lower_at x)) (num4 x upper_at) (num4 x increment_at) (num4 w (length w - 4))) 0

-- and among an element's: a single one's units stand behind its field of three bytes
unfoldable pub term_in : List ℕ → List ℕ → ℕ
term_in x w = pick (is_range x) (range_term x w) (pick (eq_l (drop 3 x) w) 1 0)

-- ---- a value

-- an argument is sought in the value that stands from `from` to `to`
pub record Sought (rec : List ℕ) (from to : ℕ) (w : List ℕ) : Type 0 where
  pub base : Base
  pub elements : List Element
  pub holds : Holds rec from to elements
  pub well : wf_value base elements ≡ true
  pub lead : List Unit
  pub last : Unit
  pub bytes : unit_bytes lead last ≡ w

-- its first position, and 1; 0 where it has none
abbrev pub IsPosition : List ℕ → ℕ → ℕ → List ℕ → ℕ → Type 0
IsPosition rec from to w r = (v : List Element) (l : List Unit) (u : Unit) → Holds rec from to v → unit_bytes l u ≡ w → r ≡ answer_of (position_of v l u)

-- ---- a place

-- a place stands next behind `at`
pub record Ahead (rec : List ℕ) (at : ℕ) : Type 0 where
  pub from : ℕ
  pub to : ℕ
  pub p : Place
  pub stands : PlaceAt rec at from to p

-- its base letter
abbrev pub IsBase : List ℕ → ℕ → ℕ → Type 0
IsBase rec at r = (from to : ℕ) (p : Place) → PlaceAt rec at from to p → r ≡ letter (place_base p)

-- of a place that is not omitted: 27, or where the argument stands
abbrev pub in_place : Place → List ℕ → Res ℕ
in_place p w = guard (is_given (place_base p) w) wrong_argument 0 >>= λ _. ok (located (place_value p) (argument_of w))

-- the place whose three numbers stand in the row at i
abbrev pub Numbered : List ℕ → List ℕ → ℕ → Place → Type 0
Numbered rec row i p = PlaceAt rec (end_before 0 row i) (get_or row (i + 1) 0) (get_or row (i + 2) 0) p

pub record InRow (rec row : List ℕ) (i : ℕ) : Type 0 where
  pub p : Place
  pub stands : Numbered rec row i p
  pub room : i + 3 ≤ length row

abbrev pub IsAnswer : List ℕ → List ℕ → ℕ → List ℕ → Answer → Type 0
IsAnswer rec row i w r = (p : Place) → Numbered rec row i p → r ≡ answered (in_place p w)
