-- `put_segments` meets its contract: the code is written, then the blocks behind it.
use borrow.Author.Rules.{rules}
use Rattle.token_table.proofs.FindLaws.{taken, found_inside, found_next}
use native.Mathlib.Omega.{arith}
use Rattle.command_fields.proofs.BlockLaws.{code_room, code_past, segments_blocks, segments_put}
use Rattle.command_fields.proofs.put_segments.Goals as goal

pub slice_bounds-put_pieces-end : goal.slice_bounds-put_pieces-end
slice_bounds-put_pieces-end c = search (rules, taken, found_inside)

pub put_pieces-p-requires : goal.put_pieces-p-requires
put_pieces-p-requires c = search (rules, code_room)

pub slice_bounds-put_blocks-count : goal.slice_bounds-put_blocks-count
slice_bounds-put_blocks-count c = search (rules, code_past)

pub overflow_add-k : goal.overflow_add-k
overflow_add-k c = search (rules, found_next)

pub put_blocks-requires : goal.put_blocks-requires
put_blocks-requires c = search (rules, segments_blocks)

pub returns : goal.returns
returns c = search (rules, segments_put)

pub overflow_add-result : goal.overflow_add-result
overflow_add-result c = let w = c.requires in omega (arith, (returns c w.end w.c w.is).0, w.fits)

pub slice_bounds-put_blocks-start : goal.slice_bounds-put_blocks-start
slice_bounds-put_blocks-start c = search (rules, code_past)
