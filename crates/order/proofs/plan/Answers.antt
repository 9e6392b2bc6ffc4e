-- `plan` meets its contract: the judge's answer gives the command and its row, whose numbers become the positions of order k.
use borrow.Author.Rules.{rules}
use Rattle.order.proofs.AnswerLaws.{plan_bad, plan_past, told_head, told_is, plan_made}
use Rattle.order.proofs.plan.Goals as goal

pub slice_bounds-positions-count : goal.slice_bounds-positions-count
slice_bounds-positions-count c = search (rules, told_head)

pub slice_bounds-positions-start : goal.slice_bounds-positions-start
slice_bounds-positions-start c = search (rules, told_head)

pub positions-requires : goal.positions-requires
positions-requires c = search (rules, told_is)

pub returns : goal.returns
returns c = search (rules, plan_made)
