-- `put_element` meets its contract: the three parts are written one behind the other.
use borrow.Author.Rules.{rules}
use Rattle.value_fields.proofs.MeasureLaws.{sum_len}
use Rattle.value_fields.proofs.WriteLaws.{head_room, head_inside, units_room, front_sum, front_inside, last_room, all_sum, element_over}
use Rattle.value_fields.proofs.put_element.Goals as goal

pub put_head-p-requires : goal.put_head-p-requires
put_head-p-requires c = search (rules, head_room)

pub slice_bounds-put_units-count : goal.slice_bounds-put_units-count
slice_bounds-put_units-count c = search (rules, head_inside)

pub put_units-requires : goal.put_units-requires
put_units-requires c = search (rules, units_room)

pub overflow_add-q : goal.overflow_add-q
overflow_add-q c = search (rules, front_sum)

pub slice_bounds-put_unit-count : goal.slice_bounds-put_unit-count
slice_bounds-put_unit-count c = search (rules, front_inside)

pub put_unit-requires : goal.put_unit-requires
put_unit-requires c = search (rules, last_room)

pub overflow_add-result : goal.overflow_add-result
overflow_add-result c = search (rules, all_sum)

pub returns : goal.returns
returns c = search (rules, sum_len, element_over)
