-- `put_record` meets its contract: what is read says whether the rules refuse the command, how many bytes its record has, and how many places.
use borrow.Author.Rules.{rules}
use Rattle.std.proofs.lemmas.Result.{err_from_is_err_and}
use Rattle.reader.proofs.ReadLaws.{tokens_refused, tokens_short, tokens_slots, tokens_few, tokens_fit, tokens_answer, tokens_done}
use Rattle.reader.proofs.put_record.Goals as goal

pub returns-in_err-right : goal.returns-in_err-right
returns-in_err-right c =
    let p = err_from_is_err_and c.from_residual.result c.from_residual.ensures.1 in
    rw (p.1, p.2) (search (rules, tokens_refused, c.in_err-right.ensures))

pub returns-then-out-right : goal.returns-then-out-right
returns-then-out-right c = search (rules, tokens_short, c.in_ok-right.ensures)

pub overflow_cast-right-then-slots-right : goal.overflow_cast-right-then-slots-right
overflow_cast-right-then-slots-right c = search (rules, tokens_slots, c.in_ok-right.ensures)

pub returns-then-slots-right : goal.returns-then-slots-right
returns-then-slots-right c = search (rules, tokens_few, c.in_ok-right.ensures)

pub put_command-requires : goal.put_command-requires
put_command-requires c = search (rules, tokens_fit, c.in_ok-right.ensures)

pub overflow_cast-result : goal.overflow_cast-result
overflow_cast-result c = search (rules, tokens_answer, c.in_ok-right.ensures)

pub returns : goal.returns
returns c = search (rules, tokens_done, c.in_ok-right.ensures)
