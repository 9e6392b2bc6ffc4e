-- Parts of the token table: how many tokens stand before a separator, the place that shows a missing token, and the words of a code or a name.
use Rattle.std.specs.Prelude.{ℕ, suc, ◌+◌, Bool, true, false, cond, List, [], ◌∷◌, leb, eqb, length, drop}
use Rattle.rules.specs.Commands.{Seg, split}
use Rattle.rules.specs.Tokens.{Sep}
use Rattle.token_table.specs.declared.Token.{Token as Entry}
use Rattle.token_table.specs.Table.{kind_in, place_in, content_in, tokens_in}

-- how many tokens stand before the first of the kind
unfoldable pub before : ℕ → List Entry → ℕ
before k [] = 0
before k (t ∷ ts) = let more = suc (before k ts) in cond (eqb (kind_in t) k) 0 more

-- the first token's place, or the place of the separator that ends them if there is none
abbrev pub place_or : List Entry → ℕ → ℕ
place_or [] e = e
place_or (t ∷ ts) e = place_in t

-- the parts from index i on, as the rules split them; past the table's end there are none
unfoldable pub parts_from : Sep → ℕ → List ℕ → List Entry → ℕ → List Seg
parts_from s e cs ts i = cond (leb i (length ts)) (split s e (tokens_in cs (drop i ts))) []

-- the contents of every other token, from the first (true) or the second on
unfoldable pub words_in : Bool → List ℕ → List Entry → List (List ℕ)
words_in w cs [] = []
words_in true cs (t ∷ ts) = content_in cs t ∷ words_in false cs ts
words_in false cs (t ∷ ts) = words_in true cs ts

-- the bytes of a field for each word: tag, two bytes of length, content
unfoldable pub words_size : List (List ℕ) → ℕ
words_size [] = 0
words_size (w ∷ ws) = 3 + length w + words_size ws

-- a size, or the largest that an answer holds
unfoldable pub capped : ℕ → ℕ
capped n = cond (leb n 4294967295) n 4294967295
