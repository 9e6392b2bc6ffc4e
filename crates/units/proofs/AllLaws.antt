-- What an iterator's `all` answers of a slice is the rules' `all` of its bytes.
use mathlib.Core.Path.{◌≡◌, refl, ap}
use mathlib.Core.List.{List, [], ◌∷◌}
use mathlib.Core.Bool.{Bool, ◌&&◌}
use Prim.Native.Nat.{ℕ, ◌-◌}
use native.Mathlib.Omega.{arith}
use lib.ListN.{length, take, drop, length-drop}
use lib.Seq.{take_all}
use Rattle.std.specs.List.{list_all}
use Rattle.laws.specs.Lists.{all}

pub same_all : (f : ℕ → Bool) (xs : List ℕ) → list_all f xs ≡ all f xs
same_all f [] = refl
same_all f (x ∷ xs) = ap (λ b. f x && b) (same_all f xs)

-- of a part that reaches to the end
pub same_behind : (f : ℕ → Bool) (i : ℕ) (w : List ℕ) → list_all f (take (length w - i) (drop i w)) ≡ all f (drop i w)
same_behind f i w =
    let e : take (length w - i) (drop i w) ≡ drop i w = take_all (length w - i) (drop i w) (omega (arith, length-drop i w)) in
    rw e (same_all f (drop i w))
