-- `stands` meets its contract: what is told from here is told from the start, since each turn passes over one place of another name.
use borrow.Author.Rules.{rules}
use Rattle.judge_names.proofs.StandLaws.{standing_none, standing_here, standing_on, standing_less, standing_end}
use Rattle.judge_names.proofs.stands.Goals as goal

pub loop-at-init : goal.loop-at-init
loop-at-init c = search (rules, standing_none)

pub returns-then-eq : goal.returns-then-eq
returns-then-eq c = search (rules, standing_here)

pub loop-at-smaller : goal.loop-at-smaller
loop-at-smaller c = search (rules, standing_less)

pub loop-at-preserved : goal.loop-at-preserved
loop-at-preserved c = search (rules, standing_on)

pub returns : goal.returns
returns c = search (rules, standing_end)
