-- `count` meets its contract: the judge's answer is the count, or the refusal.
use Rattle.judge.proofs.HeadBytes.{counts_good, counts_bad, ok_or_refused}
use Rattle.std.proofs.lemmas.Result.{err_from_is_err_and}
use borrow.Author.Rules.{rules}
use Rattle.judge.proofs.count.Goals as goal

pub returns-in_err-judged : goal.returns-in_err-judged
returns-in_err-judged c =
    let p = err_from_is_err_and c.from_residual.result c.from_residual.ensures.1 in
    let q = ok_or_refused c.judge.result c.in_err-judged.field-0.0 c.at.result c.in_err-judged.ensures.value in
    rw (p.1, p.2, q.1, c.at.ensures) (counts_bad _ _ _ c.judge.ensures q.0)

pub returns : goal.returns
returns c = search (rules, counts_good, c.in_ok-judged.ensures)
