-- `grouped` meets its contract: the passes are taken in the order of the definition.
use Rattle.std.proofs.lemmas.Result.{err_from_is_err_and}
use Rattle.read_value.proofs.PassLaws.{grouped_bad, grouped_fault, grouped_many, grouped_fine}
use Rattle.read_value.proofs.grouped.Goals as goal

pub returns-in_err-readable : goal.returns-in_err-readable
returns-in_err-readable c =
    let p = err_from_is_err_and c.from_residual.result c.from_residual.ensures.1 in
    rw (p.1, p.2) (grouped_bad _ _ _ c.in_err-readable.ensures)

pub returns-in_err-value : goal.returns-in_err-value
returns-in_err-value c =
    let p = err_from_is_err_and c.from_residual-in_err-value.result c.from_residual-in_err-value.ensures.1 in
    rw (p.1, p.2) (grouped_fault _ _ _ c.in_ok-readable.ensures c.in_err-value.ensures)

pub returns-then-value-gt-MOST_ARGUMENTS : goal.returns-then-value-gt-MOST_ARGUMENTS
returns-then-value-gt-MOST_ARGUMENTS c = grouped_many _ _ _ c.in_ok-readable.ensures c.in_ok-value.ensures c.if-value-gt-MOST_ARGUMENTS.true c.place.ensures c.at.ensures

pub returns : goal.returns
returns c = grouped_fine _ _ _ c.in_ok-readable.ensures c.in_ok-value.ensures c.if-value-gt-MOST_ARGUMENTS.false
