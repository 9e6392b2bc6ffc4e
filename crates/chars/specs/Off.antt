-- The first byte that is not permitted, as the rules refuse it.
use Rattle.std.specs.Prelude.{ℕ, ◌≡◌, true, List, Option, Some, None}
use Rattle.rules.specs.Refusals.{ok, bad, not_permitted}
use Rattle.rules.specs.Tokens.{first_off}

-- 3 and its place, or no refusal
abbrev pub IsOff : List ℕ → Option ℕ → Type 0
IsOff s (Some p) = first_off 0 s ≡ bad not_permitted p
IsOff s None = first_off 0 s ≡ ok true
