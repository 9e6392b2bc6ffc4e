-- The bytes are compared one by one, as long as they are the same.
use mathlib.Core.Path.{◌≡◌}
use Rattle.print_value.specs.Begins.{begins_at}
use Rattle.print_value.proofs.alike.Given as goal

abbrev pub invariant-loop-i : goal.invariant-loop-i
invariant-loop-i l = begins_at l.part l.lead l.initial.i ≡ begins_at l.part l.lead l.i
