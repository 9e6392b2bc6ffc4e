-- `begin` meets its contract: from the last place back each stands at its first argument.
use borrow.Author.Rules.{rules}
use Rattle.list.proofs.BeginLaws.{beginning_none, beginning_value, beginning_room, beginning_more, beginning_all}
use Rattle.list.proofs.begin.Goals as goal

pub loop-i-init : goal.loop-i-init
loop-i-init c = search (rules, beginning_none)

pub restart-requires : goal.restart-requires
restart-requires c = search (rules, beginning_value, beginning_room)

pub loop-i-preserved : goal.loop-i-preserved
loop-i-preserved c = search (rules, beginning_more)

pub returns : goal.returns
returns c = search (rules, beginning_all)
