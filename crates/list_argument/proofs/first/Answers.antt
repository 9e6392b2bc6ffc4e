-- `first` meets its contract: the first element's first term, or where nothing stands the place itself.
use borrow.Author.Rules.{rules}
use Rattle.record_walk.proofs.ValueLaws.{value_whole}
use Rattle.list_argument.proofs.StandingLaws.{first_some, first_none}
use Rattle.list_argument.proofs.first.Goals as goal

pub element_end-end-requires : goal.element_end-end-requires
element_end-end-requires c = search (rules, value_whole)

pub returns-then-from-to : goal.returns-then-from-to
returns-then-from-to c = search (rules, first_some)

pub returns : goal.returns
returns c = search (rules, first_none)
