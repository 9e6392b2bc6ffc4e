-- `turn` meets its contract: the places behind the one that is looked at stood at their last arguments, and stand at their first again.
use borrow.Author.Rules.{rules}
use Rattle.list.proofs.TurnLaws.{rolling_none, rolling_value, rolling_argument, rolling_room, rolling_on, rolling_back, rolling_end}
use Rattle.list.proofs.turn.Goals as goal

pub loop-i-init : goal.loop-i-init
loop-i-init c = search (rules, rolling_none)

pub step-requires : goal.step-requires
step-requires c = search (rules, rolling_value, rolling_argument, rolling_room)

pub returns-then-step : goal.returns-then-step
returns-then-step c = search (rules, rolling_on)

pub loop-i-preserved : goal.loop-i-preserved
loop-i-preserved c = search (rules, rolling_back)

pub returns : goal.returns
returns c = search (rules, rolling_end)
