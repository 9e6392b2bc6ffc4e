-- `judge_blocks` meets its contract: each turn reads one block more, and what stands behind the last must be the end.
use Rattle.judge.proofs.BlocksLaws.{blocks_none, block_there, blocks_last, blocks_full, blocks_bad, blocks_more}
use Rattle.judge.proofs.SpanLaws.{row_threes}
use borrow.Author.Rules.{rules}
use Rattle.judge.proofs.judge_blocks.Goals as goal

pub loop-from-init : goal.loop-from-init
loop-from-init c = search (rules, blocks_none)

pub returns-then-left-eq0 : goal.returns-then-left-eq0
returns-then-left-eq0 c = search (rules, blocks_full)

pub judge_block-requires : goal.judge_block-requires
judge_block-requires c = search (rules, block_there, row_threes)

pub returns-in_err-block : goal.returns-in_err-block
returns-in_err-block c = rw c.from_residual.ensures (search (rules, blocks_bad, c.in_err-block.ensures))

pub loop-from-preserved : goal.loop-from-preserved
loop-from-preserved c = search (rules, blocks_more)

pub returns : goal.returns
returns c = search (rules, blocks_last)
