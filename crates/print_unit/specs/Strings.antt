-- A string's text in the pieces that the code writes.
use Rattle.std.specs.Prelude.{ℕ, List, [], ◌∷◌, ◌++◌, drop}
use Rattle.rules.specs.Characters.{byte}
use Rattle.rules.specs.Printing.{doubled}

-- a character, a mark twice
unfoldable pub character_text : ℕ → List ℕ
character_text c = doubled (c ∷ [])

-- the content from position i on, its marks doubled
unfoldable pub doubled_at : List ℕ → ℕ → List ℕ
doubled_at w i = doubled (drop i w)

unfoldable pub string_text : List ℕ → List ℕ
string_text w = ((byte "\"" ∷ []) ++ doubled_at w 0) ++ (byte "\"" ∷ [])
