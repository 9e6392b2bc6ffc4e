-- `later` meets its contract: where the last unit ends decides whether the element is refused.
use borrow.Author.Rules.{rules}
use Rattle.read_elements.proofs.ElementLaws.{last_bad, last_yes}
use Rattle.read_elements.proofs.later.Goals as goal

pub returns-in-Some : goal.returns-in-Some
returns-in-Some c = search (rules, last_yes, c.in-Some.ensures)

pub returns-in-None : goal.returns-in-None
returns-in-None c = search (rules, last_bad, c.in-None.ensures)
