-- `judge_units` meets its contract: the first unit must stand, and each turn reads one more while a unit's tag stands there.
use borrow.Author.Rules.{rules}
use Rattle.judge_value.proofs.UnitsLaws.{units_first, units_none, units_end, units_full, units_bad, units_more}
use Rattle.judge_value.proofs.judge_units.Goals as goal

pub returns-in_err-at : goal.returns-in_err-at
returns-in_err-at c = rw c.from_residual.ensures (search (rules, units_none, c.in_err-at.ensures))

pub loop-from-init : goal.loop-from-init
loop-from-init c = search (rules, units_first, c.in_ok-at.ensures)

pub returns-then-count-eq-MOST_UNITS : goal.returns-then-count-eq-MOST_UNITS
returns-then-count-eq-MOST_UNITS c = search (rules, units_full)

pub returns-in_err-at-2 : goal.returns-in_err-at-2
returns-in_err-at-2 c = rw c.from_residual-in_err-at-2.ensures (search (rules, units_bad, c.in_err-at-2.ensures))

pub loop-from-preserved : goal.loop-from-preserved
loop-from-preserved c = search (rules, units_more, c.in_ok-at-2.ensures)

pub returns : goal.returns
returns c = search (rules, units_end)
