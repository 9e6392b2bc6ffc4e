-- What the cursor answers: the token that the rules' automaton gives next, or the automaton's refusal.
use Rattle.std.specs.Prelude.{ℕ, ◌+◌, ◌<◌, ◌≤◌, ◌≡◌, List, [], ◌∷◌, length, take, Result, Ok, Err}
use Rattle.rules.specs.Refusals.{Res, ok, bad}
use Rattle.rules.specs.Tokens.{Token, at, idle, and_then}
use Rattle.token_table.specs.Table.{number as kind_number, lex_of_kind, string_kind}
use Rattle.rules.specs.declared.Reason.{Reason}
use Rattle.rules.specs.Reasons.{number as reason_number}
use Rattle.scan.specs.Along.{run_at}
use Rattle.scan.specs.declared.Cursor.{Cursor}
use Rattle.scan.specs.declared.Scanned.{Scanned}

-- what x gives is a token of kind k at place i, its content the first n bytes of out, and then what the automaton gives from e on
pub record IsToken (x : Res (List Token)) (s : List ℕ) (i : ℕ) (out : List ℕ) (k n e : ℕ) : Type 0 where
  pub reads : x ≡ and_then (ok (at i (lex_of_kind k (take n out)) ∷ [])) (run_at idle s e)
  pub few : k ≤ string_kind
  pub fits : n + i ≤ e
  pub past : i < e
  pub inside : e ≤ length s

abbrev pub IsOne : Res (List Token) → List ℕ → ℕ → List ℕ → Scanned → Type 0
IsOne x s i out t = IsToken x s i out (kind_number (Scanned.kind t)) (Scanned.len t) (Cursor.at (Scanned.next t))

abbrev pub IsScanned : Res (List Token) → List ℕ → ℕ → List ℕ → Result Scanned Reason → Type 0
IsScanned x s i out (Ok t) = IsOne x s i out t
IsScanned x s i out (Err r) = x ≡ bad (reason_number r) i

-- a token without content
abbrev pub IsSep : Res (List Token) → List ℕ → ℕ → Scanned → Type 0
IsSep x s i t = (out : List ℕ) → IsOne x s i out t
