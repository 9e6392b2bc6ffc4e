-- `elements_len` meets its contract: at every turn the total is the length of the elements done.
use borrow.Author.Rules.{rules}
use mathlib.Core.List.{[]}
use native.Mathlib.Omega.{arith}
use Rattle.value_fields.proofs.TurnLaws.{last_small, met_fine, met_front, met_last, met_less}
use Rattle.value_fields.proofs.MeasureLaws.{measuring_none, measuring_fits, measuring_more, measuring_end}
use Rattle.value_fields.proofs.elements_len.Goals as goal

pub overflow_sub-leads : goal.overflow_sub-leads
overflow_sub-leads c = omega (arith, c.arg_end-leads.ensures 0 [])

pub loop-n-init : goal.loop-n-init
loop-n-init c = search (rules, measuring_none)

pub unwrap-element-requires : goal.unwrap-element-requires
unwrap-element-requires c = search (rules, met_fine)

pub last_of-last-requires : goal.last_of-last-requires
last_of-last-requires c = search (rules, last_small)

pub element_len-total-requires : goal.element_len-total-requires
element_len-total-requires c = search (rules, met_front, met_last)

pub overflow_add-total : goal.overflow_add-total
overflow_add-total c = search (rules, measuring_fits)

pub loop-n-smaller : goal.loop-n-smaller
loop-n-smaller c = search (rules, met_less)

pub loop-n-preserved : goal.loop-n-preserved
loop-n-preserved c = search (rules, measuring_more)

pub returns : goal.returns
returns c = search (rules, measuring_end)
