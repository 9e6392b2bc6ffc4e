-- `put_block` meets its contract: the block's own field is written, then its places behind it.
use borrow.Author.Rules.{rules}
use native.Mathlib.Omega.{arith}
use Rattle.command_fields.proofs.PlaceLaws.{byte_inside}
use Rattle.command_fields.proofs.BlockLaws.{block_room, block_places, block_put}
use Rattle.command_fields.proofs.put_block.Goals as goal

pub put_byte-p-requires : goal.put_byte-p-requires
put_byte-p-requires c = search (rules, block_room)

pub slice_bounds-put_places-count : goal.slice_bounds-put_places-count
slice_bounds-put_places-count c = search (rules, byte_inside)

pub put_places-r-requires : goal.put_places-r-requires
put_places-r-requires c = search (rules, block_places)

pub returns : goal.returns
returns c = search (rules, block_put)

pub overflow_add-result : goal.overflow_add-result
overflow_add-result c = let w = c.requires in omega (arith, (returns c w.end w.b w.is).1.0, w.fits)
