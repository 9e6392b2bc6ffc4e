-- The judge decides 18, and what stands behind the head of a record that it calls good is printed by the rule for its text.
use Rattle.std.proofs.lemmas.Result.{err_from_is_err_and}
use Rattle.judge.proofs.HeadBytes.{ok_or_refused}
use Rattle.printer.proofs.AnswerLaws.{head_room, judged_good, judged_text, judged_bad}
use borrow.Author.Rules.{rules}
use Rattle.printer.proofs.print.Goals as goal

pub returns-in_err-ok_or : goal.returns-in_err-ok_or
returns-in_err-ok_or c =
    let p = err_from_is_err_and c.from_residual.result c.from_residual.ensures.1 in
    let q = ok_or_refused c.judge.result c.in_err-ok_or.field-0.0 c.at.result c.in_err-ok_or.ensures.value in
    rw (p.1, p.2, q.1, c.at.ensures) (judged_bad _ _ _ c.judge.ensures _ q.0)

pub slice_bounds-print_known-count : goal.slice_bounds-print_known-count
slice_bounds-print_known-count c = search (rules, head_room, c.in_ok-ok_or.ensures)

pub slice_bounds-print_known-start : goal.slice_bounds-print_known-start
slice_bounds-print_known-start c = search (rules, head_room, c.in_ok-ok_or.ensures)

pub print_known-requires : goal.print_known-requires
print_known-requires c = search (rules, judged_good, c.in_ok-ok_or.ensures)

pub returns : goal.returns
returns c = search (rules, judged_text, c.in_ok-ok_or.ensures)
