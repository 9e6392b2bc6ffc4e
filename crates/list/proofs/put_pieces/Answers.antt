-- `put_pieces` meets its contract: what is written, and the pieces of the combinations that are left, are the whole list.
use borrow.Author.Rules.{rules}
use Rattle.list.proofs.UnrollLaws.{unrolling_none, unrolling_odometer, piece_room, order_small, unrolling_start, unrolling_fits, unrolling_less, unrolling_more, unrolling_all}
use Rattle.list.proofs.put_pieces.Goals as goal

pub loop-done-init : goal.loop-done-init
loop-done-init c = search (rules, unrolling_none)

pub slice_bounds-put_piece-count : goal.slice_bounds-put_piece-count
slice_bounds-put_piece-count c = search (rules, unrolling_start)

pub put_piece-done-requires : goal.put_piece-done-requires
put_piece-done-requires c = let v = c.loop-done.invariant in (unrolling_odometer v, piece_room v, order_small v)

pub overflow_add-done : goal.overflow_add-done
overflow_add-done c = search (rules, unrolling_fits)

pub turn-requires : goal.turn-requires
turn-requires c = unrolling_odometer c.loop-done.invariant

pub loop-done-smaller : goal.loop-done-smaller
loop-done-smaller c = search (rules, unrolling_less)

pub loop-done-preserved : goal.loop-done-preserved
loop-done-preserved c = search (rules, unrolling_more)

pub returns-then-not-turn : goal.returns-then-not-turn
returns-then-not-turn c = search (rules, unrolling_all)
