-- `order_row` meets its contract: as `order`, with the row's slots.
use borrow.Author.Rules.{rules}
use Rattle.std.proofs.lemmas.Result.{err_from_is_err_and}
use Rattle.order.proofs.AnswerLaws.{row_refused, head_inside, plan_few, plan_planned, plan_order, row_at}
use Rattle.order.proofs.order_row.Goals as goal

pub returns-in_err-told : goal.returns-in_err-told
returns-in_err-told c =
    let p = err_from_is_err_and c.from_residual.result c.from_residual.ensures.1 in
    rw (p.1, p.2) (row_refused _ _ _ c.plan.ensures c.in_err-told.was c.args.out.now c.args.offsets.now)

pub slice_bounds-put_indexed-count : goal.slice_bounds-put_indexed-count
slice_bounds-put_indexed-count c = search (rules, head_inside)

pub slice_bounds-put_indexed-start : goal.slice_bounds-put_indexed-start
slice_bounds-put_indexed-start c = search (rules, head_inside)

pub put_indexed-requires : goal.put_indexed-requires
put_indexed-requires c = search (rules, plan_planned, plan_few, plan_order)

pub returns : goal.returns
returns c = search (rules, row_at, c.in_ok-told.was)
