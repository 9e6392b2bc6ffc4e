-- `put_value` meets its contract: a value of one unit is a single element's field and the unit's, written one behind the other.
use borrow.Author.Rules.{rules}
use Rattle.value_fields.proofs.WriteLaws.{one_head, one_inside, one_behind, one_sum, one_put}
use Rattle.value_fields.proofs.put_value.Goals as goal

pub put_field-p-requires : goal.put_field-p-requires
put_field-p-requires c = search (rules, one_head)

pub slice_bounds-put_unit-count : goal.slice_bounds-put_unit-count
slice_bounds-put_unit-count c = search (rules, one_inside)

pub put_unit-requires : goal.put_unit-requires
put_unit-requires c = search (rules, one_behind)

pub overflow_add-result : goal.overflow_add-result
overflow_add-result c = search (rules, one_sum)

pub returns-then-toks-eq1 : goal.returns-then-toks-eq1
returns-then-toks-eq1 c = search (rules, one_put)
