-- `keep` meets its contract: three numbers stored one behind the other.
use borrow.Author.Rules.{rules}
use Rattle.list.proofs.TurnLaws.{three_set, second_room}
use Rattle.list.proofs.keep.Goals as goal

pub bounds-at-1 : goal.bounds-at-1
bounds-at-1 c = search (rules, second_room)

pub returns : goal.returns
returns c = search (rules, three_set)
