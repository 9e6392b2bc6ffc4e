-- `nth_argument` meets its contract: the argument that is found from here is the one from the start, since each turn passes over a whole element by its terms.
use Rattle.order_argument.proofs.TermLaws.{Finding}
use Rattle.order_argument.proofs.nth_argument.Given as goal

abbrev pub invariant-loop-term : goal.invariant-loop-term
invariant-loop-term l = Finding l.rec l.at l.position l.start l.term

abbrev pub decreases-loop-term : goal.decreases-loop-term
decreases-loop-term l = l.term
