-- `arg_end` meets its contract: the units joined by `-` from the first on are those behind the turn made and those left.
use Prim.Native.Nat.{ℕ, ◌+◌, ◌-◌}
use mathlib.Core.Path.{◌≡◌}
use mathlib.Core.List.{List}
use Rattle.read_joins.specs.Joins.{joins_in, dashes_at, count}
use Rattle.read_joins.proofs.arg_end.Given as goal

abbrev pub invariant-loop-k : goal.invariant-loop-k
invariant-loop-k l = (b : ℕ) (cs : List ℕ) → l.n + dashes_at (joins_in b cs l.toks) l.n ≡ l.k + dashes_at (joins_in b cs l.toks) l.k

abbrev pub decreases-loop-k : goal.decreases-loop-k
decreases-loop-k l = count l.toks - l.k
