-- `judge_units` meets its contract: the first unit must stand, and each turn reads one more while a unit's tag stands there.
use Prim.Native.Nat.{◌-◌}
use lib.ListN.{length}
use Rattle.rules.specs.Units.{base_at}
use Rattle.judge_value.proofs.UnitsLaws.{UnitsRead}
use Rattle.judge_value.proofs.judge_units.Given as goal

abbrev pub invariant-loop-from : goal.invariant-loop-from
invariant-loop-from l = UnitsRead (base_at l.base) l.rec l.from l.at l.count l.last

abbrev pub decreases-loop-from : goal.decreases-loop-from
decreases-loop-from l = length l.rec - l.at
