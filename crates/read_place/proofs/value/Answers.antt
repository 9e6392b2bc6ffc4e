-- `value` meets its contract: what the value's reader answers is the rule's result, and a value that is read is without fault and can be measured.
use borrow.Author.Rules.{rules}
use Rattle.std.proofs.lemmas.Result.{err_from_is_err_and}
use Rattle.read_place.proofs.PlaceLaws.{args_fit, tokens_some, faultless, value_wrong, value_fine}
use Rattle.read_place.proofs.value.Goals as goal

pub returns-in_err-value : goal.returns-in_err-value
returns-in_err-value c =
    let p = err_from_is_err_and c.from_residual.result c.from_residual.ensures.1 in
    rw (p.1, p.2) (search (rules, value_wrong, c.in_err-value.ensures))

pub overflow_cast-result : goal.overflow_cast-result
overflow_cast-result c = search (rules, args_fit, c.in_ok-value.ensures)

pub bounds-toks-0 : goal.bounds-toks-0
bounds-toks-0 c = search (rules, tokens_some, c.in_ok-value.ensures)

pub with_value-requires : goal.with_value-requires
with_value-requires c = search (rules, faultless, c.in_ok-value.ensures)

pub returns : goal.returns
returns c = search (rules, value_fine, c.in_ok-value.ensures)
