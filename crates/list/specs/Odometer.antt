-- The odometer: for each place an argument of its value, and the combinations from these on; a turn goes to the next combination, the last place fastest.
use Rattle.std.specs.Prelude.{◌≡◌, Bool, true, false, List, [], ◌∷◌, ◌++◌, map, ℕ, get_or, drop}
use Rattle.laws.specs.Cases.{Always}
use Rattle.laws.specs.Lists.{concat}
use Rattle.rules.specs.Commands.{Element}
use Rattle.rules.specs.Orders.{product}
use Rattle.record_walk.specs.Runs.{bytes_in}
use Rattle.order_argument.specs.Terms.{valued_bytes}
use Rattle.record_walk.specs.Values.{Holds}
use Rattle.list_argument.specs.Standings.{choices_of, Stands, IsFirst}
use Rattle.list_argument.specs.declared.Standing.{Standing}
use Rattle.list.specs.Filled.{Values}

-- ---- combinations

-- of each list the first
abbrev pub heads : List (List (List ℕ)) → List (List ℕ)
heads [] = []
heads ([] ∷ ls) = [] ∷ heads ls
heads ((x ∷ xs) ∷ ls) = x ∷ heads ls

-- the combinations from some on: of each place's choices there is left what `ls` has, the one that stands there first
abbrev pub from : List (List (List ℕ)) → List (List (List ℕ)) → List (List (List ℕ))
from [] ls = [] ∷ []
from (f ∷ fs) [] = []
from (f ∷ fs) ([] ∷ ls) = []
from (f ∷ fs) ((x ∷ xs) ∷ ls) = map (λ as'. x ∷ as') (from fs ls) ++ concat (map (λ y. map (λ as'. y ∷ as') (product fs)) xs)

-- ---- the row of standings: three numbers for each place

abbrev pub standing : ℕ → ℕ → ℕ → Standing
standing s e t = record { start = s; end = e; term = t }

-- the first in such a row
abbrev pub standing_in : List ℕ → Standing
standing_in cur = standing (get_or cur 0 0) (get_or cur 1 0) (get_or cur 2 0)

-- the bytes of the arguments that stand there
abbrev pub arguments_in : List ℕ → List ℕ → List (List ℕ)
arguments_in rec [] = []
arguments_in rec (s ∷ []) = []
arguments_in rec (s ∷ (e ∷ [])) = []
arguments_in rec (s ∷ (e ∷ (t ∷ cur))) = valued_bytes (bytes_in rec s e) t ∷ arguments_in rec cur

-- an argument of each place's value, with what is left of it
abbrev pub AllStand : List ℕ → List ℕ → List ℕ → List (List (List ℕ)) → Type 0
AllStand rec [] [] [] = Always
AllStand rec [] [] (l ∷ ls) = ⊥
AllStand rec [] (s ∷ cur) ls = ⊥
AllStand rec (n ∷ []) cur ls = ⊥
AllStand rec (n ∷ (from ∷ [])) cur ls = ⊥
AllStand rec (n ∷ (from ∷ (to ∷ row))) [] ls = ⊥
AllStand rec (n ∷ (from ∷ (to ∷ row))) (s ∷ []) ls = ⊥
AllStand rec (n ∷ (from ∷ (to ∷ row))) (s ∷ (e ∷ [])) ls = ⊥
AllStand rec (n ∷ (from ∷ (to ∷ row))) (s ∷ (e ∷ (t ∷ cur))) [] = ⊥
AllStand rec (n ∷ (from ∷ (to ∷ row))) (s ∷ (e ∷ (t ∷ cur))) (l ∷ ls) = Stands rec to (standing s e t) l × AllStand rec row cur ls

-- the first place stands at its first argument; the places behind it in the row stay
pub record Restarts (rec : List ℕ) (from to : ℕ) (old new : List ℕ) : Type 0 where
  pub first : Standing
  pub is : IsFirst rec from to first
  pub row : new ≡ first.start ∷ (first.end ∷ (first.term ∷ drop 3 old))

-- each stands at its first argument
abbrev pub Begun : List ℕ → List ℕ → List ℕ → Type 0
Begun rec row cur = (fs : List (List (List ℕ))) → Values rec 0 row fs → AllStand rec row cur fs

pub record Odometer (rec row cur : List ℕ) : Type 0 where
  pub choices : List (List (List ℕ))
  pub values : Values rec 0 row choices
  pub left : List (List (List ℕ))
  pub stand : AllStand rec row cur left

-- ---- a turn

-- one place goes on, or begins again where it was at its last argument; the places behind it in the row stay
pub record Steps (rec : List ℕ) (from to : ℕ) (old : List ℕ) (r : Bool) (new : List ℕ) : Type 0 where
  pub behind : drop 3 new ≡ drop 3 old
  pub more : (a x : List ℕ) (xs : List (List ℕ)) → Stands rec to (standing_in old) (a ∷ x ∷ xs) → (r ≡ true) × Stands rec to (standing_in new) (x ∷ xs)
  pub last : (a : List ℕ) (es : List Element) → Stands rec to (standing_in old) (a ∷ []) → Holds rec from to es
      → (r ≡ false) × Stands rec to (standing_in new) (choices_of es)

-- the next combination
pub record Another (rec row : List ℕ) (fs ls : List (List (List ℕ))) (new : List ℕ) : Type 0 where
  pub left : List (List (List ℕ))
  pub stand : AllStand rec row new left
  pub is : from fs ls ≡ heads ls ∷ from fs left

-- it was the last
abbrev pub Turned : List ℕ → List ℕ → List (List (List ℕ)) → List (List (List ℕ)) → Bool → List ℕ → Type 0
Turned rec row fs ls true new = Another rec row fs ls new
Turned rec row fs ls false new = from fs ls ≡ heads ls ∷ []

abbrev pub Turns : List ℕ → List ℕ → List ℕ → Bool → List ℕ → Type 0
Turns rec row old r new = (fs ls : List (List (List ℕ))) → Values rec 0 row fs → AllStand rec row old ls → Turned rec row fs ls r new
