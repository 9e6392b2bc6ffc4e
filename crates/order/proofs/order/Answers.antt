-- `order` meets its contract: made the plan of order k, the reduced record is order k's, and an order has no more places than there can be.
use borrow.Author.Rules.{rules}
use Rattle.std.proofs.lemmas.Result.{err_from_is_err_and}
use Rattle.order.proofs.AnswerLaws.{order_refused, head_inside, order_at_lem}
use Rattle.order.proofs.order.Goals as goal

pub returns-in_err-told : goal.returns-in_err-told
returns-in_err-told c =
    let p = err_from_is_err_and c.from_residual.result c.from_residual.ensures.1 in
    rw (p.1, p.2) (order_refused _ _ _ c.plan.ensures c.in_err-told.was c.args.out.now)

pub slice_bounds-put_order-count : goal.slice_bounds-put_order-count
slice_bounds-put_order-count c = search (rules, head_inside)

pub slice_bounds-put_order-start : goal.slice_bounds-put_order-start
slice_bounds-put_order-start c = search (rules, head_inside)

pub returns : goal.returns
returns c = search (rules, order_at_lem, c.in_ok-told.was)
