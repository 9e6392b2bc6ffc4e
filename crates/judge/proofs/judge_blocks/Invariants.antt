-- `judge_blocks` meets its contract: each turn reads one block more, and what stands behind the last must be the end.
use Rattle.judge.proofs.BlocksLaws.{BlocksRead}
use Rattle.judge.proofs.judge_blocks.Given as goal

abbrev pub invariant-loop-from : goal.invariant-loop-from
invariant-loop-from l = BlocksRead l.rec l.from l.initial.row l.row l.at l.left l.places l.total

abbrev pub decreases-loop-from : goal.decreases-loop-from
decreases-loop-from l = l.left
