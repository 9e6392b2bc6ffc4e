-- `skip` meets its contract: each turn passes over a format effector.
use borrow.Author.Rules.{rules}
use Rattle.scan.proofs.SkipLaws.{skip_none, skip_more, skip_stop, skip_end}
use Rattle.scan.proofs.skip.Goals as goal

pub loop-i-init : goal.loop-i-init
loop-i-init c = search (rules, skip_none)

pub returns-then-ne : goal.returns-then-ne
returns-then-ne c = search (rules, skip_stop)

pub loop-i-preserved : goal.loop-i-preserved
loop-i-preserved c = search (rules, skip_more)

pub returns : goal.returns
returns c = search (rules, skip_end)
