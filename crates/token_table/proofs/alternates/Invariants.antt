-- `alternates` meets its contract: at every turn the rest of the table has the verdict of the whole.
use Rattle.token_table.proofs.AltLaws.{alternating}
use mathlib.Core.Path.{◌≡◌}
use mathlib.Core.Bool.{true}
use lib.ListN.{drop}
use Rattle.token_table.proofs.alternates.Given as goal

abbrev pub invariant-loop-t : goal.invariant-loop-t
invariant-loop-t l = alternating true l.toks l.end ≡ alternating l.unit (drop l.t-index l.toks) l.end
