-- Whether bytes begin with a head.
use Rattle.std.specs.Prelude.{◌≡◌, Bool, true, false, List, ◌++◌, ℕ, drop}
use Rattle.rules.specs.Records.{head_bytes, head_size, count_in}

-- they are a head, whose number stands there, and what is behind it; or no head and anything behind it
abbrev pub Begins : List ℕ → Bool → Type 0
Begins rec true = rec ≡ head_bytes (count_in rec) ++ drop head_size rec
Begins rec false = (n : ℕ) (b : List ℕ) → rec ≡ head_bytes n ++ b → ⊥
