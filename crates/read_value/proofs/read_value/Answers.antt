-- `read_value` meets its contract: after a good alternation the table's joined units are the rules' units.
use Rattle.std.proofs.lemmas.Result.{err_from_is_err_and}
use Rattle.read_value.proofs.PassLaws.{some_token, read_refused, read_fine}
use Rattle.read_value.proofs.read_value.Goals as goal

pub grouped-requires : goal.grouped-requires
grouped-requires c = some_token _ _ c.in_ok-alternates.ensures

pub returns-in_err-alternates : goal.returns-in_err-alternates
returns-in_err-alternates c =
    let p = err_from_is_err_and c.from_residual.result c.from_residual.ensures.1 in
    rw (p.1, p.2) (read_refused _ _ _ _ c.in_err-alternates.ensures)

pub returns : goal.returns
returns c = read_fine _ _ _ _ c.in_ok-alternates.ensures c.grouped.ensures
