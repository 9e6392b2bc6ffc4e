-- `put_units` meets its contract: at every turn the units done stand over the start of the buffer.
use Rattle.value_fields.proofs.WriteLaws.{Putting}
use Rattle.value_fields.proofs.put_units.Given as goal

abbrev pub invariant-loop-i : goal.invariant-loop-i
invariant-loop-i l = Putting l.base l.contents l.toks l.initial.out l.n l.leads l.i l.k l.out
