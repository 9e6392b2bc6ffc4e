-- `put_indexed` meets its contract: what was written is the order's record, well formed, with a slot for each of its places, and the row is filled from it.
use borrow.Author.Rules.{rules}
use Rattle.std.proofs.lemmas.Result.{err_from_is_err_and}
use Rattle.order.proofs.AnswerLaws.{indexed_refused, indexed_fits, indexed_done}
use Rattle.order.proofs.put_indexed.Goals as goal

pub returns-in_err-bytes : goal.returns-in_err-bytes
returns-in_err-bytes c =
    let p = err_from_is_err_and c.from_residual.result c.from_residual.ensures.1 in
    let a = c.args in
    rw (p.1, p.2) (indexed_refused a.rec.now a.row.now a.offsets.now a.out.now c.put_order.ensures c.in_err-bytes.was)

pub fill-requires : goal.fill-requires
fill-requires c = search (rules, indexed_fits, c.in_ok-bytes.was)

pub returns : goal.returns
returns c = search (rules, indexed_done, c.in_ok-bytes.was)
