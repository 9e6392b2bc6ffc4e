-- What it is to write a value: all of the buffer, from the rules' fields.
use Rattle.std.specs.Prelude.{ℕ, ◌≤◌, ◌≡◌, List, length}
use Rattle.laws.specs.Over.{over}
use Rattle.rules.specs.Commands.{Element}
use Rattle.rules.specs.Groups.{read_value}
use Rattle.rules.specs.Records.{bytes_of, element_fields, many}
use Rattle.rules.specs.Refusals.{ok}
use Rattle.rules.specs.Units.{Base, letter}
use Rattle.token_table.specs.declared.Token.{Token as Entry}
use Rattle.token_table.specs.Table.{tokens_in}
use Rattle.read_value.specs.Passes.{Faultless}

-- the value is without fault, and its fields fit a buffer of n bytes
pub record Fits (ts : List Entry) (cs : List ℕ) (l n : ℕ) : Type 0 where
  pub value : Faultless ts cs l
  pub room : length (bytes_of (many element_fields value.es)) ≤ n

-- the rules' fields of the value, written over the start of the buffer
abbrev pub PutValue : List Entry → List ℕ → ℕ → ℕ → List ℕ → List ℕ → Type 0
PutValue ts cs l r old new =
    (b : Base) (e : ℕ) (es : List Element) → l ≡ letter b → read_value b (tokens_in cs ts) e ≡ ok es
    → (r ≡ length (bytes_of (many element_fields es))) × (new ≡ over (bytes_of (many element_fields es)) old)
