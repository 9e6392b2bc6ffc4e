-- `put_elements` meets its contract: at every turn the elements done stand over the start of the buffer.
use Rattle.read_joins.specs.Joins.{count}
use Prim.Native.Nat.{◌-◌}
use Rattle.value_fields.proofs.WriteLaws.{Writing}
use Rattle.value_fields.proofs.put_elements.Given as goal

abbrev pub invariant-loop-n : goal.invariant-loop-n
invariant-loop-n l = Writing l.base l.contents l.toks l.initial.out l.leads l.n l.front l.k l.out

abbrev pub decreases-loop-n : goal.decreases-loop-n
decreases-loop-n l = count l.toks - l.n
