-- The token table and the contents, read together, against a result of the rules' scan.
use Rattle.std.specs.Prelude.{ℕ, ◌≤◌, ◌≡◌, List, length, take, Result, Ok, Err}
use Rattle.rules.specs.Refusals.{Res, ok}
use Rattle.rules.specs.Tokens.{Token}
use Rattle.rules.specs.declared.Refusal.{Refusal}
use Rattle.token_table.specs.declared.Token.{Token as Entry}
use Rattle.token_table.specs.Table.{tokens_in, Within}
use Rattle.scan.specs.declared.Filled.{Filled}
use Rattle.scan.specs.Along.{RefusedBy}

-- the first n entries of the table are the tokens that x gives, and their contents stand in the first m bytes
pub record Holds (x : Res (List Token)) (toks : List Entry) (contents : List ℕ) (n m : ℕ) : Type 0 where
  pub is : x ≡ ok (tokens_in contents (take n toks))
  pub within : Within m (take n toks)
  pub table : n ≤ length toks
  pub bytes : m ≤ length contents

-- the tokens that x gives, or its refusal
abbrev pub IsFilled : Res (List Token) → List Entry → List ℕ → Result Filled Refusal → Type 0
IsFilled x toks contents (Ok f) = Holds x toks contents (Filled.tokens f) (Filled.bytes f)
IsFilled x toks contents (Err e) = RefusedBy x e
