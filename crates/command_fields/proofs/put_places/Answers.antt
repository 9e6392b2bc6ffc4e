-- `put_places` meets its contract: at every turn the places written so far stand over the buffer's start, and those from here on fit behind them.
use borrow.Author.Rules.{rules}
use Rattle.token_table.proofs.FindLaws.{found_past, found_inside, found_next, found_less}
use Rattle.command_fields.proofs.BlockLaws.{placing_none, placing_next, placing_room, placing_fits, placing_sum, placing_long, placing_more, placing_all}
use Rattle.command_fields.proofs.put_places.Goals as goal

pub slice_bounds-put_place-end-in-loop-i : goal.slice_bounds-put_place-end-in-loop-i
slice_bounds-put_place-end-in-loop-i c = search (rules, found_inside)

pub loop-i-init : goal.loop-i-init
loop-i-init c = search (rules, placing_none)

pub slice_bounds-put_place-count : goal.slice_bounds-put_place-count
slice_bounds-put_place-count c = search (rules, placing_room)

pub slice_bounds-put_place-count-in-loop-i : goal.slice_bounds-put_place-count-in-loop-i
slice_bounds-put_place-count-in-loop-i c = search (rules, found_past)

pub put_place-k-requires : goal.put_place-k-requires
put_place-k-requires c = search (rules, placing_fits)

pub overflow_add-k : goal.overflow_add-k
overflow_add-k c = search (rules, placing_sum)

pub overflow_add-n : goal.overflow_add-n
overflow_add-n c = search (rules, placing_next)

pub overflow_add-i : goal.overflow_add-i
overflow_add-i c = search (rules, found_next)

pub loop-i-smaller : goal.loop-i-smaller
loop-i-smaller c = search (rules, found_less)

pub loop-i-preserved : goal.loop-i-preserved
loop-i-preserved c = search (rules, placing_more)

pub shape_of-out : goal.shape_of-out
shape_of-out c = search (rules, placing_long)

pub returns : goal.returns
returns c = search (rules, placing_all)

pub slice_bounds-put_place-start : goal.slice_bounds-put_place-start
slice_bounds-put_place-start c = search (rules, placing_room)
