-- `member` meets its contract: the judge's answer gives the command and its row, and the place that is asked for is the one at its number.
use Rattle.judge.proofs.ToldLaws.{judged_row, judged_count, judged_cut, head_room}
use Rattle.member.proofs.AnswerLaws.{member_bad, member_none, member_omitted, member_room, member_row, member_answer}
use borrow.Author.Rules.{rules}
use Rattle.std.proofs.lemmas.Result.{err_from_is_err_and}
use Rattle.judge.proofs.HeadBytes.{ok_or_refused}
use Rattle.member.proofs.member.Goals as goal

pub returns-in_err-judged : goal.returns-in_err-judged
returns-in_err-judged c =
    let p = err_from_is_err_and c.from_residual.result c.from_residual.ensures.1 in
    let q = ok_or_refused c.judge.result c.in_err-judged.field-0.0 c.at.result c.in_err-judged.ensures.value in
    rw (p.1, p.2, q.1, c.at.ensures) (search (rules, member_bad, q.0))

pub returns-then-judged-place : goal.returns-then-judged-place
returns-then-judged-place c = rw c.at-then-judged-place.ensures (search (rules, member_none, c.in_ok-judged.ensures))

pub bounds-row-i : goal.bounds-row-i
bounds-row-i c = search (rules, member_room, c.in_ok-judged.ensures)

pub returns-then-row-i-eq0 : goal.returns-then-row-i-eq0
returns-then-row-i-eq0 c = search (rules, member_omitted, c.in_ok-judged.ensures)

pub overflow_mul-told : goal.overflow_mul-told
overflow_mul-told c = search (rules, judged_count, c.in_ok-judged.ensures)

pub slice_bounds-locate-count : goal.slice_bounds-locate-count
slice_bounds-locate-count c = search (rules, head_room, c.in_ok-judged.ensures)

pub slice_bounds-locate-start : goal.slice_bounds-locate-start
slice_bounds-locate-start c = search (rules, head_room, c.in_ok-judged.ensures)

pub slice_bounds-row-end : goal.slice_bounds-row-end
slice_bounds-row-end c = search (rules, judged_row, c.in_ok-judged.ensures)

pub slice_bounds-locate-end-2 : goal.slice_bounds-locate-end-2
slice_bounds-locate-end-2 c = search (rules, judged_cut, c.in_ok-judged.ensures)

pub locate-requires : goal.locate-requires
locate-requires c = search (rules, member_row, c.in_ok-judged.ensures)

pub returns : goal.returns
returns c = search (rules, member_answer, c.in_ok-judged.ensures)
