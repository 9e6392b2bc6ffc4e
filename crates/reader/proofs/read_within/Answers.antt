-- `read_within` meets its contract: the tables hold the tokens of the text, or the scan is refused as the rules refuse it.
use borrow.Author.Rules.{rules}
use Rattle.std.proofs.lemmas.Result.{err_from_is_err_and}
use Rattle.token_table.proofs.FindLaws.{taken}
use Rattle.reader.proofs.ReadLaws.{filled_table, filled_tokens, text_refused, text_filled}
use Rattle.reader.proofs.read_within.Goals as goal

pub shared_whole_as_front-read : goal.shared_whole_as_front-read
shared_whole_as_front-read g c = search (rules, taken, filled_table, c.in_ok-filled.ensures)

pub put_record-requires : goal.put_record-requires
put_record-requires g c = search (rules, filled_tokens, c.in_ok-filled.ensures)

pub returns-in_err-filled : goal.returns-in_err-filled
returns-in_err-filled g c =
    let p = err_from_is_err_and c.from_residual.result c.from_residual.ensures.1 in
    rw (p.1, p.2) (search (rules, text_refused, c.in_err-filled.ensures))

pub returns : goal.returns
returns g c = search (rules, text_filled, c.in_ok-filled.ensures)
