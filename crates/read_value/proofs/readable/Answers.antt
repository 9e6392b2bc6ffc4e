-- `readable` meets its contract: at every turn the rest of the tokens has the verdict of the whole.
use borrow.Author.Rules.{rules}
use Rattle.std.proofs.lemmas.Result.{err_from_is_err_and}
use Rattle.read_value.proofs.PassLaws.{units_more, units_stop, units_end}
use Rattle.read_value.proofs.readable.Goals as goal

pub loop-t-preserved : goal.loop-t-preserved
loop-t-preserved c = search (rules, units_more, c.in_ok-unit_verdict.ensures)

pub returns-in_err-unit_verdict : goal.returns-in_err-unit_verdict
returns-in_err-unit_verdict c =
    let p = err_from_is_err_and c.from_residual.result c.from_residual.ensures.1 in
    rw (p.1, p.2) (search (rules, units_stop, c.in_err-unit_verdict.ensures))

pub returns : goal.returns
returns c = search (rules, units_end)
