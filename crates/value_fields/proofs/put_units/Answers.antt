-- `put_units` meets its contract: at every turn the units done stand over the start of the buffer.
use borrow.Author.Rules.{rules}
use Rattle.value_fields.proofs.WriteLaws.{putting_none, putting_inside, putting_room, putting_fits, putting_more, putting_len, putting_over}
use Rattle.value_fields.proofs.put_units.Goals as goal

pub loop-i-init : goal.loop-i-init
loop-i-init c = search (rules, putting_none)

pub slice_bounds-put_unit-count : goal.slice_bounds-put_unit-count
slice_bounds-put_unit-count c = search (rules, putting_inside)

pub put_unit-k-requires : goal.put_unit-k-requires
put_unit-k-requires c = search (rules, putting_room)

pub overflow_add-k : goal.overflow_add-k
overflow_add-k c = search (rules, putting_fits)

pub loop-i-preserved : goal.loop-i-preserved
loop-i-preserved c = search (rules, putting_more)

pub shape_of-out : goal.shape_of-out
shape_of-out c = c.loop-i.invariant.long

pub returns : goal.returns
returns c = search (rules, putting_len, putting_over)
