-- `increment` meets its contract: the separator's kind says whether an increment follows.
use borrow.Author.Rules.{rules}
use Rattle.read_elements.proofs.ElementLaws.{inc_end, inc_bad}
use Rattle.read_elements.proofs.increment.Goals as goal

pub returns-then-begins : goal.returns-then-begins
returns-then-begins c = search (rules, inc_end)

pub returns : goal.returns
returns c = inc_bad _ _ _ _ _ _ _ c.sep_kind-kind.result c.sep_kind-kind.ensures c.begins.ensures c.if-begins.false c.eq.ensures c.if-eq.false c.sep_place.ensures c.at.ensures
