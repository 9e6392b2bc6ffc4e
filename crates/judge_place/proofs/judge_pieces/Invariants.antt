-- `judge_pieces` meets its contract: each turn reads one piece more, and the first that is none refuses all.
use Rattle.record_walk.specs.Tags.{number}
use Rattle.judge_place.proofs.PieceLaws.{PiecesRead}
use Rattle.judge_place.proofs.judge_pieces.Given as goal

abbrev pub invariant-loop-tag : goal.invariant-loop-tag
invariant-loop-tag l = PiecesRead (number l.tag) l.names l.most l.rec l.from l.at l.left l.index

abbrev pub decreases-loop-tag : goal.decreases-loop-tag
decreases-loop-tag l = l.left
