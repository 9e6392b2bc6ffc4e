-- `place` meets its contract: the judge gives the command, and where the row is right the slot is where the fields of the asked place stand.
use borrow.Author.Rules.{rules}
use Rattle.std.proofs.lemmas.Result.{err_from_is_err_and}
use Rattle.judge.proofs.HeadBytes.{ok_or_refused}
use Rattle.place_part.proofs.PartLaws.{place_bad, place_record, wrong_small, place_wrong, place_past, slot_inside, place_stands, end_behind, part_small, place_done}
use Rattle.place_part.proofs.place.Goals as goal

pub returns-in_err-judged : goal.returns-in_err-judged
returns-in_err-judged c =
    let p = err_from_is_err_and c.from_residual.result c.from_residual.ensures.1 in
    let q = ok_or_refused c.judge.result c.in_err-judged.field-0.0 c.at.result c.in_err-judged.ensures.value in
    rw (p.1, p.2, q.1, c.at.ensures) (search (rules, place_bad, q.0))

pub agreeing-right-requires : goal.agreeing-right-requires
agreeing-right-requires c = search (rules, place_record, c.in_ok-judged.ensures)

pub overflow_cast-right : goal.overflow_cast-right
overflow_cast-right c = search (rules, wrong_small, c.in_ok-judged.ensures)

pub returns-then-right-judged : goal.returns-then-right-judged
returns-then-right-judged c = rw c.at-then-right-judged.ensures (search (rules, place_wrong, c.in_ok-judged.ensures))

pub returns-then-judged-number : goal.returns-then-judged-number
returns-then-judged-number c = rw c.at-then-judged-number.ensures (search (rules, place_past, c.in_ok-judged.ensures))

pub start-from-requires : goal.start-from-requires
start-from-requires c = search (rules, slot_inside, c.in_ok-judged.ensures)

pub place_end-requires : goal.place_end-requires
place_end-requires c = search (rules, place_stands, c.in_ok-judged.ensures)

pub overflow_sub-result : goal.overflow_sub-result
overflow_sub-result c = search (rules, end_behind, c.in_ok-judged.ensures)

pub overflow_cast-result : goal.overflow_cast-result
overflow_cast-result c = search (rules, part_small, c.in_ok-judged.ensures)

pub returns : goal.returns
returns c = search (rules, place_done, c.in_ok-judged.ensures)
