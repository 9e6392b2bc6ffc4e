-- `put_filled` meets its contract: what is written so far and what is left of the record, filled, are the whole; a turn writes up to the next value, and the argument in its place.
use borrow.Author.Rules.{rules}
use Prim.Native.Nat.{◌+◌}
use Rattle.list.proofs.PieceLaws.{filling_none, filling_behind, filling_value, filling_order, filling_inside, both_room, copy_room}
use Rattle.list.proofs.PieceLaws.{argument_start, argument_room, filling_more, filling_long, rest_room, filling_all}
use native.Mathlib.Omega.{arith}
use Rattle.list.proofs.put_filled.Goals as goal

pub loop-i-init : goal.loop-i-init
loop-i-init c = search (rules, filling_none)

pub overflow_cast-value : goal.overflow_cast-value
overflow_cast-value c = omega (arith, c.shared_slice_known-in-loop-i-1.given (c.loop-i.i + 1))

pub slice_bounds-put_bytes-count-in-loop-i : goal.slice_bounds-put_bytes-count-in-loop-i
slice_bounds-put_bytes-count-in-loop-i c = search (rules, filling_behind)

pub slice_bounds-put_bytes-end-in-loop-i : goal.slice_bounds-put_bytes-end-in-loop-i
slice_bounds-put_bytes-end-in-loop-i c = search (rules, filling_value)

pub put_bytes-requires : goal.put_bytes-requires
put_bytes-requires c = search (rules, copy_room)

pub overflow_sub-len : goal.overflow_sub-len
overflow_sub-len c = search (rules, filling_behind)

pub overflow_add-len : goal.overflow_add-len
overflow_add-len c = omega (arith, both_room c.loop-i.invariant c.loop-i-test.true)

pub overflow_cast-start : goal.overflow_cast-start
overflow_cast-start c = omega (arith, c.shared_slice_known-in-loop-i-2-1.given c.loop-i.i)

pub overflow_cast-end : goal.overflow_cast-end
overflow_cast-end c = omega (arith, c.shared_slice_known-in-loop-i-3-1.given (c.loop-i.i + 1))

pub slice_bounds-put_valued-count : goal.slice_bounds-put_valued-count
slice_bounds-put_valued-count c = search (rules, argument_start)

pub slice_bounds-put_valued-count-in-loop-i : goal.slice_bounds-put_valued-count-in-loop-i
slice_bounds-put_valued-count-in-loop-i c = search (rules, filling_order)

pub slice_bounds-put_valued-end-in-loop-i : goal.slice_bounds-put_valued-end-in-loop-i
slice_bounds-put_valued-end-in-loop-i c = filling_inside c.loop-i.invariant c.loop-i-test.true

pub slice_bounds-put_valued-start-in-loop-i : goal.slice_bounds-put_valued-start-in-loop-i
slice_bounds-put_valued-start-in-loop-i c = search (rules, filling_order)

pub put_valued-len-requires : goal.put_valued-len-requires
put_valued-len-requires c =
    argument_room c.loop-i.invariant c.loop-i-test.true c.put_bytes.ensures

pub overflow_add-len-in-loop-i : goal.overflow_add-len-in-loop-i
overflow_add-len-in-loop-i c =
    omega (arith, both_room c.loop-i.invariant c.loop-i-test.true)

pub overflow_cast-from : goal.overflow_cast-from
overflow_cast-from c = omega (arith, c.shared_slice_known-in-loop-i-5-1.given (c.loop-i.i + 2))

pub loop-i-preserved : goal.loop-i-preserved
loop-i-preserved c = search (rules, filling_more)

pub put_bytes-requires-2 : goal.put_bytes-requires-2
put_bytes-requires-2 c = search (rules, rest_room)

pub returns : goal.returns
returns c = (search (rules, filling_long), search (rules, filling_all))
