-- Whether bytes begin with other bytes.
use Rattle.std.specs.Prelude.{Bool, true, false, ◌&&◌, List, [], ◌∷◌, ℕ, eqb, drop}

-- the bytes xs begin with ys
abbrev pub begins : List ℕ → List ℕ → Bool
begins xs [] = true
begins [] (y ∷ ys) = false
begins (x ∷ xs) (y ∷ ys) = eqb y x && begins xs ys

-- the same of both from position i on
unfoldable pub begins_at : List ℕ → List ℕ → ℕ → Bool
begins_at xs ys i = begins (drop i xs) (drop i ys)
