-- Four bytes are compared at once as long as there are four, the rest byte by byte.
use Prim.Native.Nat.{◌-◌, ◌≤◌}
use lib.ListN.{length}
use mathlib.Core.Path.{◌≡◌}
use Rattle.print_value.specs.Begins.{begins, begins_at}
use Rattle.print_value.proofs.starts_with.Given as goal

abbrev pub invariant-loop-i : goal.invariant-loop-i
invariant-loop-i l = (begins l.part l.lead ≡ begins_at l.part l.lead l.i) × (l.i ≤ length l.lead)

abbrev pub decreases-loop-i : goal.decreases-loop-i
decreases-loop-i l = length l.lead - l.i
