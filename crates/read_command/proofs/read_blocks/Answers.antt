-- `read_blocks` meets its contract: at every turn the tally so far and the blocks from here on give what the rules give for all blocks.
use Rattle.std.proofs.lemmas.Result.{err_from_is_err_and}
use borrow.Author.Rules.{rules}
use Rattle.read_command.proofs.TurnLaws.{blocks_many, blocks_more, blocks_stop, blocks_end}
use Rattle.token_table.proofs.FindLaws.{found_inside, found_next, found_less}
use native.Mathlib.Omega.{arith}
use mathlib.Core.Path.{refl}
use Rattle.read_command.proofs.read_blocks.Goals as goal

pub loop-i-init : goal.loop-i-init
loop-i-init c = (refl, omega arith)

pub returns-then-m-ge-MOST_BLOCKS : goal.returns-then-m-ge-MOST_BLOCKS
returns-then-m-ge-MOST_BLOCKS c = search (rules, blocks_many)

pub slice_bounds-block-end : goal.slice_bounds-block-end
slice_bounds-block-end c = search (rules, found_inside)

pub returns-in_err-t : goal.returns-in_err-t
returns-in_err-t c =
    let p = err_from_is_err_and c.from_residual.result c.from_residual.ensures.1 in
    rw (p.1, p.2) (search (rules, blocks_stop, c.in_err-t.ensures))

pub overflow_add-m : goal.overflow_add-m
overflow_add-m c = omega (arith, c.if-m-ge-MOST_BLOCKS.false)

pub overflow_add-i : goal.overflow_add-i
overflow_add-i c = search (rules, found_next)

pub loop-i-smaller : goal.loop-i-smaller
loop-i-smaller c = search (rules, found_less)

pub loop-i-preserved : goal.loop-i-preserved
loop-i-preserved c = (search (rules, blocks_more, c.in_ok-t.ensures), omega (arith, c.if-m-ge-MOST_BLOCKS.false))

pub returns : goal.returns
returns c = search (rules, blocks_end)
