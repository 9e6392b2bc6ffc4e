-- `no_more` meets its contract: the separator's kind says whether the element ends.
use borrow.Author.Rules.{rules}
use Rattle.read_joins.proofs.GroupLaws.{no_more_end, no_more_bad}
use Rattle.read_joins.proofs.no_more.Goals as goal

pub returns-then-not-begins : goal.returns-then-not-begins
returns-then-not-begins c = search (rules, no_more_bad)

pub returns : goal.returns
returns c = search (rules, no_more_end)
