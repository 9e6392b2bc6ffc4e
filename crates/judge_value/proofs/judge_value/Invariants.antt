-- `judge_value` meets its contract: each turn reads one more element that joins those before it.
use Rattle.judge_value.proofs.ValueLaws.{ValueRead}
use Rattle.rules.specs.Units.{base_at}
use Rattle.judge_value.proofs.judge_value.Given as goal

abbrev pub invariant-loop-from : goal.invariant-loop-from
invariant-loop-from l = ValueRead (base_at l.base) l.rec l.from l.at l.left l.units l.arguments

abbrev pub decreases-loop-from : goal.decreases-loop-from
decreases-loop-from l = l.left
