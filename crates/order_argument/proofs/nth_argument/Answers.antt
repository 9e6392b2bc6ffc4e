-- `nth_argument` meets its contract: the argument that is found from here is the one from the start, since each turn passes over a whole element by its terms.
use borrow.Author.Rules.{rules}
use Rattle.order_argument.proofs.TermLaws.{finding_none, finding_here, finding_on}
use Rattle.order_argument.proofs.nth_argument.Goals as goal

pub loop-term-init : goal.loop-term-init
loop-term-init c = search (rules, finding_none)

pub returns-then-term-more : goal.returns-then-term-more
returns-then-term-more c = search (rules, finding_here)

pub loop-term-preserved : goal.loop-term-preserved
loop-term-preserved c = search (rules, finding_on)
