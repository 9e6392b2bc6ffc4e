-- `arguments_len` meets its contract: what is counted, and the arguments of the elements that are left, are all; nothing wraps, since a value's end is told in two bytes.
use Rattle.list_argument.proofs.SumLaws.{Summing}
use Prim.Native.Nat.{◌-◌}
use Rattle.list_argument.proofs.arguments_len.Given as goal

abbrev pub invariant-loop-at : goal.invariant-loop-at
invariant-loop-at l = Summing l.rec l.from l.to l.at l.len

abbrev pub decreases-loop-at : goal.decreases-loop-at
decreases-loop-at l = l.to - l.at
