-- The terms of an element, from the element's bytes: how many there are, and the bytes of each as a single element; and the argument at a position.
use Rattle.std.specs.Prelude.{◌≡◌, Bool, true, false, ◌&&◌, List, [], ◌∷◌, ◌++◌, map, ℕ, ◌+◌, ◌-◌, ◌*◌, ◌/◌, ◌≤◌, ◌<◌, leb, eqb, length, get_or, take, drop}
use Rattle.laws.specs.Cases.{pick}
use Rattle.laws.specs.Lists.{all}
use Rattle.rules.specs.Characters.{between}
use Rattle.rules.specs.Units.{Base}
use Rattle.rules.specs.Commands.{Element, terms, sum}
use Rattle.rules.specs.Records.{field, field_bytes, bytes_of, many, element_fields, num4, single_tag, range_tag, string_tag}
use Rattle.rules.specs.WellFormed.{wf_element}
use Rattle.rules.specs.Orders.{argument_at}
use Rattle.fields.specs.Units.{numeral_bytes}
use Rattle.record_walk.specs.Fronts.{tag_of}
use Rattle.record_walk.specs.Runs.{bytes_in}
use Rattle.order_argument.specs.declared.Argument.{Argument}

-- ---- where in a range's bytes its numbers stand

-- its own field: tag, length, upper end and increment
abbrev pub range_field : ℕ
range_field = 11

-- its last unit's, the lower end's: tag, length, letter, fraction digits, value
abbrev pub numeral_field : ℕ
numeral_field = 9

abbrev pub shortest_range : ℕ
shortest_range = range_field + numeral_field

abbrev pub upper_at : ℕ
upper_at = 3

abbrev pub increment_at : ℕ
increment_at = 7

-- the last four bytes
abbrev pub lower_at : List ℕ → ℕ
lower_at x = length x - 4

abbrev pub last_unit_at : List ℕ → ℕ
last_unit_at x = length x - numeral_field

-- behind the last unit's tag and length
abbrev pub letter_at : List ℕ → ℕ
letter_at x = last_unit_at x + 3

-- ---- terms

unfoldable pub is_range : List ℕ → Bool
is_range x = leb shortest_range (length x) && eqb (tag_of x) range_tag

-- the terms behind the first: upper end less lower end, by the increment
unfoldable pub more_terms : List ℕ → ℕ
more_terms x = pick (is_range x) ((num4 x upper_at - num4 x (lower_at x)) / num4 x increment_at) 0

-- "a range's n-th term, from 0, is lower + n times increment"
unfoldable pub term_value : List ℕ → ℕ → ℕ
term_value x n = num4 x (lower_at x) + n * num4 x increment_at

-- a range's term of that value as a single element: the leading units stay, and the last unit has the lower end's letter
unfoldable pub term_bytes : List ℕ → ℕ → List ℕ
term_bytes x v =
    (field_bytes (field single_tag []) ++ take (last_unit_at x - range_field) (drop range_field x)) ++ numeral_bytes (get_or x (letter_at x) 0) 0 v

-- an element as a single one: a range with a term's value, any other as it is
unfoldable pub valued_bytes : List ℕ → ℕ → List ℕ
valued_bytes x v = pick (is_range x) (term_bytes x v) x

-- its n-th argument
abbrev pub argument_bytes : List ℕ → ℕ → List ℕ
argument_bytes x n = valued_bytes x (term_value x n)

-- ---- arguments

-- the n-th argument of the value that stands at `at`
pub record IsArgument (rec : List ℕ) (at n : ℕ) (a : Argument) : Type 0 where
  pub from : at ≤ a.start
  pub order : a.start ≤ a.end
  pub inside : a.end ≤ length rec
  pub term : a.term ≤ more_terms (bytes_in rec a.start a.end)
  pub is : (b : Base) (m : ℕ) (e : Element) (es : List Element) (rest : List ℕ) → drop at rec ≡ bytes_of (many element_fields (e ∷ es)) ++ rest
      → all (wf_element b m) (e ∷ es) ≡ true → n < sum (map terms (e ∷ es)) → between single_tag string_tag (tag_of rest) ≡ false
      → argument_bytes (bytes_in rec a.start a.end) a.term ≡ bytes_of (element_fields (argument_at e es n))
