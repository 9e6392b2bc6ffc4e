-- `put_elements` meets its contract: at every turn the elements done stand over the start of the buffer.
use borrow.Author.Rules.{rules}
use mathlib.Core.List.{[]}
use native.Mathlib.Omega.{arith}
use Rattle.value_fields.proofs.TurnLaws.{last_small, met_fine, met_front, met_last, met_less}
use Rattle.value_fields.proofs.WriteLaws.{writing_none, writing_inside, writing_room, writing_fits, writing_more, writing_end}
use Rattle.value_fields.proofs.put_elements.Goals as goal

pub overflow_sub-leads : goal.overflow_sub-leads
overflow_sub-leads c = omega (arith, c.arg_end-leads.ensures 0 [])

pub loop-n-init : goal.loop-n-init
loop-n-init c = search (rules, writing_none)

pub unwrap-x-requires : goal.unwrap-x-requires
unwrap-x-requires c = search (rules, met_fine)

pub last_of-last-requires : goal.last_of-last-requires
last_of-last-requires c = search (rules, last_small)

pub slice_bounds-put_element-count : goal.slice_bounds-put_element-count
slice_bounds-put_element-count c = search (rules, writing_inside)

pub put_element-k-requires : goal.put_element-k-requires
put_element-k-requires c = (search (rules, met_front), search (rules, met_last), search (rules, writing_room))

pub overflow_add-k : goal.overflow_add-k
overflow_add-k c = search (rules, writing_fits)

pub loop-n-smaller : goal.loop-n-smaller
loop-n-smaller c = search (rules, met_less)

pub loop-n-preserved : goal.loop-n-preserved
loop-n-preserved c = search (rules, writing_more)

pub shape_of-out : goal.shape_of-out
shape_of-out c = c.loop-n.invariant.long

pub returns : goal.returns
returns c = search (rules, writing_end)
