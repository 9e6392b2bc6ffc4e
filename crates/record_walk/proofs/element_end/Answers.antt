-- `element_end` meets its contract: an element is its own field and the run of its units.
use borrow.Author.Rules.{rules}
use Rattle.record_walk.proofs.RunLaws.{whole_next, element_to}
use Rattle.record_walk.proofs.element_end.Goals as goal

pub run_end-requires : goal.run_end-requires
run_end-requires c = search (rules, whole_next)

pub returns : goal.returns
returns c = search (rules, element_to)
