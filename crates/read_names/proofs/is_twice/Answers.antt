-- `is_twice` meets its contract: a name whose key is not marked was not met.
use Rattle.read_names.proofs.NameLaws.{tell_looked, tell_new}
use borrow.Author.Rules.{rules}
use Rattle.read_names.proofs.is_twice.Goals as goal

pub returns-then-has : goal.returns-then-has
returns-then-has c = search (rules, tell_looked)

pub returns-else-has : goal.returns-else-has
returns-else-has c = search (rules, tell_new)
