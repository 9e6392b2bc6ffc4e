-- Units, elements and values, read from the front of a record's bytes: each field as document 01's rules read it, and the rules on each met at once.
use Rattle.std.specs.Prelude.{Bool, true, ◌&&◌, ◌||◌, not, List, ℕ, suc, ◌+◌, ◌-◌, ◌/◌, leb, eqb, length, get_or, Option as Maybe, Some, None}
use Rattle.std.proofs.Math.Option.{Option}
use Rattle.laws.specs.Lists.{is_nil}
use Rattle.laws.specs.Cases.{pick}
use Rattle.rules.specs.Refusals.{most_leading, most_elements, most_arguments}
use Rattle.rules.specs.Units.{Base, Unit, num, keyed, identifier, symbolic, text}
use Rattle.rules.specs.Commands.{Element, single, range, leading, terms}
use Rattle.rules.specs.Records.{Field, field, numeral_tag, is_unit, is_element, element_of, last_split, num4}
use Rattle.record_walk.specs.Fronts.{Read, and_then, only, made, front, several}
use Rattle.judge_unit.specs.Units.{unit}

-- ---- units

abbrev pub same_base : Base → Unit → Base
same_base b u = b

-- at most four
abbrev pub few_units : Base → List ℕ → Read (List Unit)
few_units b r = several is_unit unit same_base (suc most_leading) b r

-- "Simple argument: one unit. Compound: 2 to 4 units"
abbrev pub units : Base → List ℕ → Read (List Unit)
units b r = only (λ us. not (is_nil us)) (few_units b r)

-- ---- elements

abbrev pub element_in : Field → List Unit → Option Element
element_in (field t w) us = element_of t w (last_split us)

-- "increment at least 1, upper not below lower"
abbrev pub in_order : Element → Bool
in_order (single l u) = true
in_order (range l r lo up inc) = leb lo up && leb 1 inc

unfoldable pub element : Base → List ℕ → Read Element
element b r = only in_order (and_then (front r) (λ f r₁. and_then (units b r₁) (λ us r₂. made (element_in f us) r₂)))

-- ---- a range's terms

-- a numeral without fraction, as a range's ends are
abbrev pub whole_in : Unit → Maybe ℕ
whole_in (num r f v) = pick (eqb f 0) (Some v) None
whole_in (keyed w) = None
whole_in (identifier w) = None
whole_in (symbolic w) = None
whole_in (text w) = None

-- the same from a unit's field that stands at a position
unfoldable pub lower_at : List ℕ → ℕ → Maybe ℕ
lower_at rec l = pick (eqb (get_or rec l 0) numeral_tag) (pick (eqb (get_or rec (l + 4) 0) 0) (Some (num4 rec (l + 5))) None) None

-- the terms behind a lower end, upper end and increment standing from s on
unfoldable pub more_of : List ℕ → ℕ → ℕ → Maybe ℕ
more_of rec s lo = pick (leb lo (num4 rec s)) (pick (leb 1 (num4 rec (s + 4))) (Some ((num4 rec s - lo) / num4 rec (s + 4))) None) None

abbrev pub terms_of : List ℕ → ℕ → Maybe ℕ → Maybe ℕ
terms_of rec s (Some lo) = more_of rec s lo
terms_of rec s None = None

-- ---- a value

-- the elements before: their place's base, the number of units of each (0 if there is none), their arguments
pub record Before : Type 0 where
  pub base : Base
  pub units : ℕ
  pub arguments : ℕ

-- "All arguments of a value have the same number of units."; at most 4,096 arguments: an element of n units and m arguments behind those before
unfoldable pub joins : ℕ → ℕ → ℕ → ℕ → Bool
joins k a n m = leb (a + m) most_arguments && (eqb k 0 || eqb k n)

abbrev pub joining : Before → Element → Bool
joining s e = joins s.units s.arguments (suc (length (leading e))) (terms e)

unfoldable pub next_element : Before → List ℕ → Read Element
next_element s r = only (joining s) (element s.base r)

abbrev pub behind : Before → Element → Before
behind s e = record { base = s.base; units = suc (length (leading e)); arguments = s.arguments + terms e }

abbrev pub none_before : Base → Before
none_before b = record { base = b; units = 0; arguments = 0 }

abbrev pub value : Base → List ℕ → Read (List Element)
value b r = several is_element next_element behind most_elements (none_before b) r
