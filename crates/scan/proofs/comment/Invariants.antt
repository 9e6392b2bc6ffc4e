-- `comment` meets its contract: each turn is a step of the automaton in the comment.
use Rattle.scan.proofs.CommentLaws.{Commenting}
use Rattle.scan.proofs.comment.Given as goal

abbrev pub invariant-loop-i : goal.invariant-loop-i
invariant-loop-i l = Commenting l.text l.from l.i
