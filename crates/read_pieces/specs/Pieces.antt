-- Pieces joined by `-` as the code answers them.
use Rattle.std.specs.Prelude.{ℕ, zero, suc, Bool, true, false, ◌&&◌, List, eqb}
use Rattle.rules.specs.Commands.{pieces, is_piece}
use Rattle.rules.specs.Tokens.{dash, sep_code}
use Rattle.rules.specs.Units.{is_identifier}
use Rattle.token_table.specs.declared.Token.{Token as Entry}
use Rattle.token_table.specs.Table.{kind_in, content_in, tokens_in, Verdict, verdict, word_kind}

-- an identifier, or also an index number
abbrev pub test : Bool → List ℕ → Bool
test true w = is_piece w
test false w = is_identifier w

-- a token that is a piece
unfoldable pub piece_test : Bool → List ℕ → Entry → Bool
piece_test x cs t = eqb (kind_in t) word_kind && test x (content_in cs t)

-- a `-` where so many pieces may still follow
unfoldable pub dash_test : ℕ → Entry → Bool
dash_test zero t = false
dash_test (suc n) t = eqb (kind_in t) (sep_code dash)

-- the verdict of the rule: the first piece by the first test, the others by the second
unfoldable pub pieces_at : ℕ → Bool → Bool → ℕ → Bool → List ℕ → List Entry → ℕ → Verdict
pieces_at nr x nm left want cs ts e = verdict (pieces nr (test x) (test nm) left want (tokens_in cs ts) e)
