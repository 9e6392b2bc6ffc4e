-- Where the values of a command's places stand in its record: for each place its number of arguments (0: it is omitted), where its value begins, and where
-- it ends.
use Rattle.std.specs.Prelude.{List, [], ◌∷◌, ◌++◌, map, ℕ, ◌+◌, length}
use Rattle.rules.specs.Units.{letter}
use Rattle.rules.specs.Commands.{Place, place, Block, block, Command, command, terms, sum}
use Rattle.rules.specs.Records.{Field, field, code_tag, place_tag, name_tag, place_fields, block_fields, bytes_of}

abbrev pub size : List Field → ℕ
size fs = length (bytes_of fs)

-- what stands before a place's value: its own field and its name
abbrev pub head_fields : Place → List Field
head_fields (place b nm v) = field place_tag (letter b ∷ []) ∷ map (λ w. field name_tag w) nm

abbrev pub arguments_of : Place → ℕ
arguments_of (place b nm v) = sum (map terms v)

-- of places that stand one behind the other, the first at a position
abbrev pub place_spans : ℕ → List Place → List ℕ
place_spans at [] = []
place_spans at (p ∷ ps) = arguments_of p ∷ (at + size (head_fields p)) ∷ (at + size (place_fields p)) ∷ place_spans (at + size (place_fields p)) ps

-- a block's own field has four bytes
abbrev pub block_head : ℕ
block_head = 4

abbrev pub block_spans : ℕ → List Block → List ℕ
block_spans at [] = []
block_spans at (block k ps ∷ bs) = place_spans (at + block_head) ps ++ block_spans (at + size (block_fields (block k ps))) bs

unfoldable pub spans_of : Command → List ℕ
spans_of (command c bs) = block_spans (size (map (λ w. field code_tag w) c)) bs
