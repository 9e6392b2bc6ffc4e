-- Document 02, M-107, "Is this amplifier in it?": where an argument stands among a place's arguments, worked out directly; and, apart from it, by the written-out list.
use Rattle.std.specs.Prelude.{ℕ, suc, ◌+◌, ◌-◌, ◌/◌, ◌%◌, ◌<◌, ◌≡◌, Bool, true, false, cond, ◌&&◌, List, [], ◌∷◌, ◌++◌, map, eqb, leb, length, get_or}
use Rattle.std.proofs.Math.Option.{Option, none, some}
use Rattle.laws.specs.Lists.{all, concat, eq_l}
use Rattle.rules.specs.Refusals.{most_leading}
use Rattle.rules.specs.Units.{Radix, same_radix, Base, keys, Unit, num, keyed, identifier, symbolic, text}
use Rattle.rules.specs.Commands.{Element, single, range, leading, last_unit, terms, Place, place, Command, command, all_places}
use Rattle.rules.specs.Records.{Field, field, unit_field, bytes_of, tag, cut_fields, unit_of, Ends, ends, empty, last_split}
use Rattle.rules.specs.WellFormed.{wf_unit}
use Rattle.rules.specs.Printing.{same_unit, same_units}
use Rattle.rules.specs.Orders.{arguments}

-- ---- "a place number": "Places .. count from 0"

-- the place of that number, through all blocks; an omitted one where there is none
abbrev pub place_of : Command → ℕ → Place
place_of (command c bs) n = get_or (all_places bs) n (place keys [] [])

-- ---- "an argument as unit fields"

-- the bytes of the unit fields of an argument with leading units l and last unit u
abbrev pub unit_bytes : List Unit → Unit → List ℕ
unit_bytes l u = bytes_of (map unit_field (l ++ (u ∷ [])))

abbrev pub cons_unit : Option Unit → Option (List Unit) → Option (List Unit)
cons_unit none us = none
cons_unit (some u) none = none
cons_unit (some u) (some us) = some (u ∷ us)

-- the units of fields, if all of them are unit fields
abbrev pub field_units : List Field → Option (List Unit)
field_units [] = some []
field_units (field t w ∷ fs) = cons_unit (unit_of t w) (field_units fs)

abbrev pub unit_ends : Option (List Unit) → Ends
unit_ends none = empty
unit_ends (some us) = last_split us

abbrev pub field_ends : Option (List Field) → Ends
field_ends none = empty
field_ends (some fs) = unit_ends (field_units fs)

-- the leading units and the last one that the bytes hold
abbrev pub argument_of : List ℕ → Ends
argument_of w = field_ends (cut_fields tag w)

-- "1 to 4 .. that could stand under that place's base"
abbrev pub could_stand : Base → List Unit → Unit → Bool
could_stand b l u = leb (length l) most_leading && all (wf_unit b) l && wf_unit b u

-- and the bytes are their fields
abbrev pub are_given : Base → List ℕ → Ends → Bool
are_given b w empty = false
are_given b w (ends l u) = could_stand b l u && eq_l (unit_bytes l u) w

abbrev pub is_given : Base → List ℕ → Bool
is_given b w = are_given b w (argument_of w)

-- ---- directly

-- a position that is counted from n earlier
abbrev pub shifted : ℕ → Option ℕ → Option ℕ
shifted n none = none
shifted n (some k) = some (n + k)

-- the first of two positions that there is
abbrev pub or_later : Option ℕ → Option ℕ → Option ℕ
or_later none p = p
or_later (some k) p = some k

-- where a unit stands among a range's terms: a numeral of its base without fraction, not below lower nor above upper, and a whole number of increments above lower
abbrev pub term_of : Radix → ℕ → ℕ → ℕ → Unit → Option ℕ
term_of r lo up inc (num s f v) =
    cond (same_radix r s && eqb f 0 && leb lo v && leb v up && eqb ((v - lo) % inc) 0) (some ((v - lo) / inc)) none
term_of r lo up inc (keyed w) = none
term_of r lo up inc (identifier w) = none
term_of r lo up inc (symbolic w) = none
term_of r lo up inc (text w) = none

-- where an argument stands among an element's: "Units are equal when their fields are."
abbrev pub term_position : Element → List Unit → Unit → Option ℕ
term_position (single l' u') l u = cond (same_units l' l && same_unit u' u) (some 0) none
term_position (range l' r lo up inc) l u = cond (same_units l' l) (term_of r lo up inc u) none

-- among a value's: whole elements are passed over by their numbers of terms
abbrev pub position_of : List Element → List Unit → Unit → Option ℕ
position_of [] l u = none
position_of (e ∷ es) l u = or_later (term_position e l u) (shifted (terms e) (position_of es l u))

-- "say no (with 0) or yes with the first position": yes is 1 and the position
abbrev pub answer_of : Option ℕ → ℕ
answer_of none = 0
answer_of (some k) = suc k

abbrev pub located : List Element → Ends → ℕ
located v empty = 0
located v (ends l u) = answer_of (position_of v l u)

-- ---- by the list

-- "that place's arguments, all written out", each as a single element
abbrev pub written_out : List Element → List Element
written_out v = concat (map arguments v)

-- an argument's unit fields are those of another
abbrev pub is_argument : List Unit → Unit → Element → Bool
is_argument l u a = eq_l (unit_bytes (leading a) (last_unit a)) (unit_bytes l u)

-- the first index at which the test is passed
abbrev pub first_in : {A : Type 0} → (A → Bool) → List A → Option ℕ
first_in t [] = none
first_in t (x ∷ xs) = cond (t x) (some 0) (shifted 1 (first_in t xs))

-- the test is passed at index k, and at no index before
pub record IsFirst {A : Type 0} (t : A → Bool) (xs : List A) (k : ℕ) : Type 0 where
  pub inside : k < length xs
  pub there : (d : A) → t (get_or xs k d) ≡ true
  pub before : (j : ℕ) (d : A) → j < k → t (get_or xs j d) ≡ false

-- the test is passed at no index
abbrev pub IsNowhere : {A : Type 0} → (A → Bool) → List A → Type 0
IsNowhere {A} t xs = (j : ℕ) (d : A) → j < length xs → t (get_or xs j d) ≡ false
