-- `elements_len` meets its contract: at every turn the total is the length of the elements done.
use Rattle.read_joins.specs.Joins.{count}
use Prim.Native.Nat.{◌-◌}
use Rattle.value_fields.proofs.MeasureLaws.{Measuring}
use Rattle.value_fields.proofs.elements_len.Given as goal

abbrev pub invariant-loop-n : goal.invariant-loop-n
invariant-loop-n l = Measuring l.base l.contents l.toks l.leads l.n l.front l.total

abbrev pub decreases-loop-n : goal.decreases-loop-n
decreases-loop-n l = count l.toks - l.n
