-- The orders of a record from its bytes: what stands between its values stays, and where a value stands one of its arguments is put, for every combination, the last place fastest. In all of
-- this the bytes are those behind the record's head, and the row tells for each place its number of arguments and where its value begins and ends.
use Rattle.std.specs.Prelude.{◌≡◌, Bool, false, not, List, [], ◌∷◌, ◌++◌, map, ℕ, ◌≤◌, ◌<◌, ltb, eqb, length, drop}
use Rattle.laws.specs.Cases.{pick}
use Rattle.rules.specs.Refusals.{Res, ok, bad}
use Rattle.rules.specs.Commands.{Element, Command}
use Rattle.rules.specs.Records.{head_bytes, range_tag}
use Rattle.rules.specs.WellFormed.{body_of}
use Rattle.rules.specs.Orders.{product}
use Rattle.rules.specs.Listing.{joined, list_bytes}
use Rattle.record_walk.specs.Fronts.{tag_of}
use Rattle.record_walk.specs.Runs.{bytes_in}
use Rattle.judge.specs.Blocks.{counted}
use Rattle.record_walk.specs.Values.{Holds}
use Rattle.list_argument.specs.Standings.{choices_of}

-- the list of a command that is found in bytes
abbrev pub list_in : Res Command → List ℕ
list_in (ok c) = list_bytes c
list_in (bad n p) = []

-- of the bytes behind a head
unfoldable pub list_of : List ℕ → List ℕ
list_of rec = list_in (body_of rec)

-- ---- from the bytes

-- all from `at` on, with these arguments where the values stand
abbrev pub filled : List ℕ → ℕ → List ℕ → List (List ℕ) → List ℕ
filled rec at [] as' = drop at rec
filled rec at (n ∷ []) as' = drop at rec
filled rec at (n ∷ (from ∷ [])) as' = drop at rec
filled rec at (n ∷ (from ∷ (to ∷ row))) [] = drop at rec
filled rec at (n ∷ (from ∷ (to ∷ row))) (a ∷ as') = bytes_in rec at from ++ (a ++ filled rec to row as')

-- an order's record. M-103: "each order carries 1"
abbrev pub order_of : List ℕ → List ℕ → List (List ℕ) → List ℕ
order_of rec row as' = head_bytes 1 ++ filled rec 0 row as'

-- a value of the row, which stands behind `at`: the bytes of its arguments, and how many they are
pub record Chosen (rec : List ℕ) (at n from to : ℕ) (choices : List (List ℕ)) : Type 0 where
  pub elements : List Element
  pub holds : Holds rec from to elements
  pub is : choices ≡ choices_of elements
  pub behind : at ≤ from
  pub number : length choices ≡ counted n

-- all values of the row
abbrev pub Values : List ℕ → ℕ → List ℕ → List (List (List ℕ)) → Type 0
Values rec at [] [] = at ≤ length rec
Values rec at [] (f ∷ fs) = ⊥
Values rec at (n ∷ []) fs = ⊥
Values rec at (n ∷ (from ∷ [])) fs = ⊥
Values rec at (n ∷ (from ∷ (to ∷ row))) [] = ⊥
Values rec at (n ∷ (from ∷ (to ∷ row))) (f ∷ fs) = Chosen rec at n from to f × Values rec to row fs

-- "write every order .. one behind the other": one for each combination of the values' arguments
abbrev pub listed : List ℕ → List ℕ → List (List (List ℕ)) → List ℕ
listed rec row fs = joined (map (order_of rec row) (product fs))

-- the row, with the choices of its values, gives the list of the bytes' command
pub record Unrolls (rec row : List ℕ) : Type 0 where
  pub choices : List (List (List ℕ))
  pub values : Values rec 0 row choices
  pub is : list_of rec ≡ listed rec row choices
  pub small : length (list_of rec) < 4294967296

-- a value that is the same in every order: it has no choice, and is no range, which an order writes as a single element
unfoldable pub stays_at : List ℕ → ℕ → ℕ → Bool
stays_at rec number from = pick (ltb 1 number) false (not (eqb (tag_of (drop from rec)) range_tag))
