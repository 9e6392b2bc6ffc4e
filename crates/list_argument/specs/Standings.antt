-- The arguments of a value one behind the other, as they are written: where one stands in a record, which is the first, which the next.
use Rattle.std.specs.Prelude.{◌≡◌, Bool, ◌&&◌, List, [], ◌∷◌, ◌++◌, map, ℕ, suc, ◌+◌, ◌-◌, ◌≤◌, ◌<◌, leb, length}
use Rattle.laws.specs.Cases.{Always, pick}
use Rattle.laws.specs.Lists.{concat}
use Rattle.rules.specs.Units.{num}
use Rattle.rules.specs.Commands.{Element, single, range}
use Rattle.rules.specs.Records.{bytes_of, element_fields, num4}
use Rattle.rules.specs.Orders.{stepping, arguments, value_orders}
use Rattle.record_walk.specs.Values.{value_bytes, Holds}
use Rattle.order_argument.specs.Terms.{is_range, lower_at, upper_at, increment_at}
use Rattle.list_argument.specs.declared.Standing.{Standing}

-- a value reduced to one argument, in every way: its bytes
abbrev pub choices_of : List Element → List (List ℕ)
choices_of v = map value_bytes (value_orders v)

-- ---- an argument of a value, and all behind it

-- an element's arguments from a term on: "lower, lower + increment and so on, none above upper"
abbrev pub arguments_from : Element → ℕ → List Element
arguments_from (single l u) n = single l u ∷ []
arguments_from (range l r lo up inc) n = map (λ m. single l (num r 0 m)) (stepping (suc (up - n)) n up inc)

-- the bytes of each argument that is left, the one that stands there first; an omitted value has one, without bytes
abbrev pub left_of : List Element → ℕ → List (List ℕ)
left_of [] n = [] ∷ []
left_of (e ∷ es) n = map (λ a. value_bytes (a ∷ [])) (arguments_from e n ++ concat (map arguments es))

-- the term is not above the upper end
abbrev pub NotPast : Element → ℕ → Type 0
NotPast (single l u) n = Always
NotPast (range l r lo up inc) n = n ≤ up

-- where the first element of those that are left ends, and its term
abbrev pub Ends : List Element → Standing → Type 0
Ends [] s = s.end ≡ s.start
Ends (e ∷ es) s = (s.end ≡ s.start + length (bytes_of (element_fields e))) × NotPast e s.term

-- an argument of a value that ends at `to`, with the bytes of all that are left
pub record Stands (rec : List ℕ) (to : ℕ) (s : Standing) (left : List (List ℕ)) : Type 0 where
  pub elements : List Element
  pub holds : Holds rec s.start to elements
  pub ends : Ends elements s
  pub is : left ≡ left_of elements s.term

pub record Argument (rec : List ℕ) (to : ℕ) (s : Standing) : Type 0 where
  pub left : List (List ℕ)
  pub stands : Stands rec to s left

-- the first argument of what stands from `from` to `to`
pub record IsFirst (rec : List ℕ) (from to : ℕ) (r : Standing) : Type 0 where
  pub start : r.start ≡ from
  pub stands : (es : List Element) → Holds rec from to es → Stands rec to r (choices_of es)

-- the next: where there is none it stands at the value's end
pub record IsNext (rec : List ℕ) (to : ℕ) (s r : Standing) : Type 0 where
  pub more : (a x : List ℕ) (xs : List (List ℕ)) → Stands rec to s (a ∷ x ∷ xs) → Stands rec to r (x ∷ xs) × (r.start < to)
  pub last : (a : List ℕ) → Stands rec to s (a ∷ []) → to ≤ r.start

-- ---- one element

-- its first term: a range's lower end
unfoldable pub first_term : List ℕ → ℕ
first_term x = pick (is_range x) (num4 x (lower_at x)) 0

-- whether it has a term behind this one, "none above upper"
abbrev pub goes_on : List ℕ → ℕ → Bool
goes_on x t = is_range x && leb (t + num4 x increment_at) (num4 x upper_at)
