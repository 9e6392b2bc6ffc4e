-- `same_name` meets its contract: up to where the loop stands the pieces are equal.
use Prim.Native.Nat.{◌-◌}
use lib.ListN.{length}
use Rattle.read_names.proofs.NameLaws.{Alike}
use Rattle.read_names.proofs.same_name.Given as goal

abbrev pub invariant-loop-i : goal.invariant-loop-i
invariant-loop-i l = Alike l.contents l.a l.b l.i

abbrev pub decreases-loop-i : goal.decreases-loop-i
decreases-loop-i l = length l.a - l.i
