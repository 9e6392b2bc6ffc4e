-- The reader's promise in steps: the tokens of a table, the tokens of a text, and a text, into a record under the bases of a list of letters, with slots for so many places.
use Rattle.std.specs.Prelude.{ℕ, ◌≡◌, List, length}
use Rattle.rules.specs.Answers.{Answer}
use Rattle.rules.specs.Commands.{cut_at, Command}
use Rattle.rules.specs.Reading.{read_cut, read}
use Rattle.rules.specs.Refusals.{Res, ok, ◌>>=◌}
use Rattle.rules.specs.Tokens.{Token, semi, scan}
use Rattle.token_table.specs.declared.Token.{Token as Entry}
use Rattle.token_table.specs.Table.{tokens_in}
use Rattle.read_bases.specs.Bases.{bases_in}
use Rattle.index.specs.Rows.{Recorded}

-- the tokens of some text
pub record TokensOf (ts : List Entry) (cs : List ℕ) : Type 0 where
  pub text : List ℕ
  pub is : scan text ≡ ok (tokens_in cs ts)

-- the command of a text of n bytes with these tokens
abbrev pub command_of : List ℕ → ℕ → Res (List Token) → Res Command
command_of ls n r = r >>= λ ts. read_cut (bases_in ls) n (cut_at semi ts)

abbrev pub Records : List Entry → List ℕ → List ℕ → ℕ → ℕ → List ℕ → Answer → List ℕ → Type 0
Records ts cs ls n slots old r new = Recorded (command_of ls n (ok (tokens_in cs ts))) slots old r new

abbrev pub RecordsText : List ℕ → List ℕ → ℕ → List ℕ → Answer → List ℕ → Type 0
RecordsText s ls slots old r new = Recorded (command_of ls (length s) (scan s)) slots old r new

abbrev pub ReadsFor : List ℕ → List ℕ → ℕ → List ℕ → Answer → List ℕ → Type 0
ReadsFor s ls slots old r new = Recorded (read ls s) slots old r new
