-- `restart` meets its contract: the value's end is told in two bytes, so that where its first argument stands can be kept.
use borrow.Author.Rules.{rules}
use Rattle.list.proofs.TurnLaws.{first_start_kept, first_end_kept, restarts}
use Rattle.list.proofs.restart.Goals as goal

pub keep-requires : goal.keep-requires
keep-requires c = search (rules, first_start_kept, first_end_kept)

pub returns : goal.returns
returns c = search (rules, restarts)
