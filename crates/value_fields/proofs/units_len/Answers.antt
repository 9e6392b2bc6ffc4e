-- `units_len` meets its contract: at every turn the total is the length of the units done.
use borrow.Author.Rules.{rules}
use Rattle.value_fields.proofs.MeasureLaws.{units_none, units_more, units_all}
use Rattle.value_fields.proofs.units_len.Goals as goal

pub loop-i-init : goal.loop-i-init
loop-i-init c = search (rules, units_none)

pub loop-i-preserved : goal.loop-i-preserved
loop-i-preserved c = search (rules, units_more)

pub returns : goal.returns
returns c = search (rules, units_all)
