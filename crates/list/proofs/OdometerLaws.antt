-- The combinations from some on: the first is what stands there, and those behind it are the combinations from the next on. Where the places behind one stand at their last choices, it goes on and they
-- begin again.
use mathlib.Core.Path.{◌≡◌, refl, ap}
use mathlib.Core.List.{List, [], ◌∷◌, ◌++◌, map}
use Prim.Native.Nat.{ℕ}
use native.Mathlib.Omega.{arith}
use lib.ListN.{length}
use Rattle.laws.specs.Cases.{Always}
use Rattle.laws.specs.Lists.{concat}
use Rattle.rules.specs.Orders.{product}
use Rattle.list.specs.Odometer.{heads, from}

-- every place has a choice
abbrev pub Some : List (List (List ℕ)) → Type 0
Some [] = Always
Some ([] ∷ fs) = ⊥
Some ((x ∷ xs) ∷ fs) = Some fs

-- each place stands at its last choice
abbrev pub Last : List (List (List ℕ)) → Type 0
Last [] = Always
Last ([] ∷ ls) = ⊥
Last ((x ∷ []) ∷ ls) = Last ls
Last ((x ∷ (y ∷ ys)) ∷ ls) = ⊥

-- from the first choices on there are all combinations
pub from_all : (fs : List (List (List ℕ))) → Some fs → from fs fs ≡ product fs
from_all [] h = refl
from_all ([] ∷ fs) h = absurd h
from_all ((x ∷ xs) ∷ fs) h = ap (λ (l : List (List (List ℕ))). map (λ as'. x ∷ as') l ++ concat (map (λ y. map (λ as'. y ∷ as') (product fs)) xs)) (from_all fs h)

-- behind the last choices there is none
pub from_last : (fs ls : List (List (List ℕ))) → length fs ≡ length ls → Last ls → from fs ls ≡ heads ls ∷ []
from_last [] [] e h = refl
from_last [] (l ∷ ls) e h = absurd (omega (arith, e))
from_last (f ∷ fs) [] e h = absurd (omega (arith, e))
from_last (f ∷ fs) ([] ∷ ls) e h = absurd h
from_last (f ∷ fs) ((x ∷ []) ∷ ls) e h = rw (from_last fs ls (omega (arith, e)) h)
from_last (f ∷ fs) ((x ∷ (y ∷ ys)) ∷ ls) e h = absurd h

-- a place goes on, and those behind it begin again
pub from_next : (gs fs ks ls : List (List (List ℕ))) (f : List (List ℕ)) (x y : List ℕ) (ys : List (List ℕ)) → length gs ≡ length ks → Some ks → length fs ≡ length ls
    → Last ls → Some fs
    → from (gs ++ (f ∷ fs)) (ks ++ ((x ∷ y ∷ ys) ∷ ls)) ≡ heads (ks ++ ((x ∷ y ∷ ys) ∷ ls)) ∷ from (gs ++ (f ∷ fs)) (ks ++ ((y ∷ ys) ∷ fs))
from_next [] fs [] ls f x y ys eg sk e h s = rw (from_last fs ls e h, from_all fs s)
from_next [] fs (k ∷ ks) ls f x y ys eg sk e h s = absurd (omega (arith, eg))
from_next (g ∷ gs) fs [] ls f x y ys eg sk e h s = absurd (omega (arith, eg))
from_next (g ∷ gs) fs ([] ∷ ks) ls f x y ys eg sk e h s = absurd sk
from_next (g ∷ gs) fs ((z ∷ zs) ∷ ks) ls f x y ys eg sk e h s = rw (from_next gs fs ks ls f x y ys (omega (arith, eg)) sk e h s)

-- what stands there is the first combination
pub record First (fs ls : List (List (List ℕ))) : Type 0 where
  pub rest : List (List (List ℕ))
  pub is : from fs ls ≡ heads ls ∷ rest

pub from_first : (fs ls : List (List (List ℕ))) → length fs ≡ length ls → Some ls → First fs ls
from_first [] [] e h = record { rest = []; is = refl }
from_first [] (l ∷ ls) e h = absurd (omega (arith, e))
from_first (f ∷ fs) [] e h = absurd (omega (arith, e))
from_first (f ∷ fs) ([] ∷ ls) e h = absurd h
from_first (f ∷ fs) ((x ∷ xs) ∷ ls) e h =
    let r : First fs ls = from_first fs ls (omega (arith, e)) h in
    record { rest = map (λ as'. x ∷ as') r.rest ++ concat (map (λ y. map (λ as'. y ∷ as') (product fs)) xs); is = rw r.is }
