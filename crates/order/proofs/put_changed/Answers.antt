-- `put_changed` meets its contract: the argument is written behind the bytes before it, into the part of the buffer that begins there.
use borrow.Author.Rules.{rules}
use Rattle.order.proofs.LoopLaws.{changed_long, changed_short, before_room, argument_start, argument_room, changed_over}
use native.Mathlib.Omega.{arith}
use Rattle.order.proofs.put_changed.Goals as goal

pub put_bytes-requires : goal.put_bytes-requires
put_bytes-requires c = search (rules, before_room)

pub slice_bounds-put_argument-count : goal.slice_bounds-put_argument-count
slice_bounds-put_argument-count c = search (rules, argument_start)

pub slice_bounds-put_argument-start : goal.slice_bounds-put_argument-start
slice_bounds-put_argument-start c = search (rules, argument_start)

pub put_argument-requires : goal.put_argument-requires
put_argument-requires c = search (rules, argument_room)

pub overflow_add-result : goal.overflow_add-result
overflow_add-result c =
    let a = c.args in
    omega (arith, changed_short a.rec.now a.at a.value a.argument c.requires.0 c.put_argument.ensures.0)

pub returns : goal.returns
returns c = (search (rules, changed_long), search (rules, changed_over))
