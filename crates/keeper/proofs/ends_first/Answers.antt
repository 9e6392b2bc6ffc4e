-- `keeper::ends_first`: the line from the byte reached on, at the spot reached, ends the line as the whole line does.
use borrow.Author.Rules.{rules}
use Rattle.keeper.proofs.SpotLaws.{walk_start, walk_earlier, walk_more, walk_end}
use Rattle.keeper.proofs.ends_first.Goals as goal

pub loop-b-init : goal.loop-b-init
loop-b-init c = walk_start _ _

pub returns-then-ends : goal.returns-then-ends
returns-then-ends c = search (rules, walk_earlier)

pub loop-b-preserved : goal.loop-b-preserved
loop-b-preserved c = search (rules, walk_more)

pub returns : goal.returns
returns c = search (rules, walk_end)
