-- `run_end` meets its contract: where the run ends from here, it ends from the start, since each turn passes over one field of it.
use borrow.Author.Rules.{rules}
use Rattle.record_walk.proofs.RunLaws.{running_none, running_more, running_less, running_stop, running_over}
use Rattle.record_walk.proofs.run_end.Goals as goal

pub loop-end-init : goal.loop-end-init
loop-end-init c = search (rules, running_none)

pub loop-end-smaller : goal.loop-end-smaller
loop-end-smaller c = search (rules, running_less)

pub loop-end-preserved : goal.loop-end-preserved
loop-end-preserved c = search (rules, running_more)

pub returns-else-is_between : goal.returns-else-is_between
returns-else-is_between c = search (rules, running_stop)

pub returns-after-loop-end : goal.returns-after-loop-end
returns-after-loop-end c = search (rules, running_over)
