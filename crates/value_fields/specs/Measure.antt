-- The bytes of a value's fields as they are measured and written: unit by unit and element by element from its part of the token table.
use Rattle.std.specs.Prelude.{ℕ, zero, suc, ◌+◌, ◌≡◌, cond, List, [], ◌++◌, eqb, length, get_or}
use Rattle.rules.specs.Commands.{Element}
use Rattle.rules.specs.Groups.{read_value}
use Rattle.rules.specs.Records.{field, four_bytes, unit_field, field_bytes, bytes_of, element_fields, many}
use Rattle.rules.specs.Refusals.{ok}
use Rattle.rules.specs.Units.{Base, letter, text}
use Rattle.units.specs.Words.{unit_under}
use Rattle.fields.specs.Units.{unit_bytes}
use Rattle.token_table.specs.Table.{kind_in, content_in, tokens_in, word_kind}
use Rattle.read_joins.specs.declared.Shape.{Shape}
use Rattle.read_joins.specs.declared.Shape.TheVariants.{Single, Range}
use Rattle.read_joins.specs.Joins.{no_token}
use Rattle.token_table.specs.declared.Token.{Token as Entry}

-- the field of a token that is a unit, under the base of a letter
unfoldable pub field_in : ℕ → List ℕ → Entry → List ℕ
field_in l cs t =
    cond (eqb (kind_in t) word_kind) (unit_bytes (content_in cs t) (unit_under l (content_in cs t))) (field_bytes (unit_field (text (content_in cs t))))

-- the field of the n-th unit, and the fields of d units from the n-th on
unfoldable pub bytes_at : ℕ → List ℕ → List Entry → ℕ → List ℕ
bytes_at l cs ts n = field_in l cs (get_or ts (n + n) no_token)

unfoldable pub bytes_from : ℕ → List ℕ → List Entry → ℕ → ℕ → List ℕ
bytes_from l cs ts n zero = []
bytes_from l cs ts n (suc d) = bytes_from l cs ts n d ++ bytes_at l cs ts (n + d)

-- an element's own field
abbrev pub head_bytes : Shape → List ℕ
head_bytes (Single n) = field_bytes (field 5 [])
head_bytes (Range u i m n) = field_bytes (field 6 (four_bytes u ++ four_bytes i))

-- an element whose k leading units stand from f on and whose last unit is the m-th
unfoldable pub element_bytes : ℕ → List ℕ → List Entry → Shape → ℕ → ℕ → ℕ → List ℕ
element_bytes l cs ts x f k m = head_bytes x ++ bytes_from l cs ts f k ++ bytes_at l cs ts m

-- the length of the rules' fields of the value
abbrev pub ValueLen : List Entry → List ℕ → ℕ → ℕ → Type 0
ValueLen ts cs l r = (b : Base) (e : ℕ) (es : List Element) → l ≡ letter b → read_value b (tokens_in cs ts) e ≡ ok es → r ≡ length (bytes_of (many element_fields es))
