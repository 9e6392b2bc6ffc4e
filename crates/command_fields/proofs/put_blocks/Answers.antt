-- `put_blocks` meets its contract: at every turn the blocks written so far stand over the buffer's start, and those from here on fit behind them.
use borrow.Author.Rules.{rules}
use Rattle.token_table.proofs.FindLaws.{found_past, found_inside, found_next, found_less}
use Rattle.command_fields.proofs.BlockLaws.{blocking_none, blocking_room, blocking_fits, blocking_sum, blocking_long, blocking_more, blocking_all}
use Rattle.command_fields.proofs.put_blocks.Goals as goal

pub slice_bounds-put_block-end-in-loop-i : goal.slice_bounds-put_block-end-in-loop-i
slice_bounds-put_block-end-in-loop-i c = search (rules, found_inside)

pub loop-i-init : goal.loop-i-init
loop-i-init c = search (rules, blocking_none)

pub slice_bounds-put_block-count : goal.slice_bounds-put_block-count
slice_bounds-put_block-count c = search (rules, blocking_room)

pub slice_bounds-put_block-count-in-loop-i : goal.slice_bounds-put_block-count-in-loop-i
slice_bounds-put_block-count-in-loop-i c = search (rules, found_past)

pub put_block-r-requires : goal.put_block-r-requires
put_block-r-requires c = search (rules, blocking_fits)

pub overflow_add-k : goal.overflow_add-k
overflow_add-k c = search (rules, blocking_sum)

pub overflow_add-i : goal.overflow_add-i
overflow_add-i c = search (rules, found_next)

pub loop-i-smaller : goal.loop-i-smaller
loop-i-smaller c = search (rules, found_less)

pub loop-i-preserved : goal.loop-i-preserved
loop-i-preserved c = search (rules, blocking_more)

pub shape_of-out : goal.shape_of-out
shape_of-out c = search (rules, blocking_long)

pub returns : goal.returns
returns c = search (rules, blocking_all)

pub slice_bounds-put_block-start : goal.slice_bounds-put_block-start
slice_bounds-put_block-start c = search (rules, blocking_room)
