-- The bases of a list of letters.
use Rattle.std.specs.Prelude.{ℕ, List, [], ◌∷◌, map, get_or}
use Rattle.rules.specs.Characters.{byte}
use Rattle.rules.specs.Units.{Base, plain, r_d, base_at}

-- "each D, H, O, B or K", in the order of their bytes
abbrev pub base_letters : List ℕ
base_letters = byte "B" ∷ byte "D" ∷ byte "H" ∷ byte "K" ∷ byte "O" ∷ []

-- the base of each letter, D for a byte that is none
abbrev pub bases_in : List ℕ → List Base
bases_in ls = map base_at ls

-- "The n-th letter is the default base of the n-th place"; "Places past the list's end have D."
abbrev pub base_in : List ℕ → ℕ → Base
base_in ls n = get_or (bases_in ls) n (plain r_d)
