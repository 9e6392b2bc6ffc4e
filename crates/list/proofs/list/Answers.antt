-- `list` meets its contract: the judge's answer gives the command and its row, and the list of what stands behind the head is the command's.
use borrow.Author.Rules.{rules}
use Rattle.std.proofs.lemmas.Result.{err_from_is_err_and}
use Rattle.judge.proofs.ToldLaws.{head_room}
use Rattle.judge.proofs.HeadBytes.{ok_or_refused}
use Rattle.list.proofs.AnswerLaws.{list_bad, judged_unrolls, list_answer, moves_unroll, standings_even}
use Rattle.list.proofs.list.Goals as goal

pub returns-in_err-judged : goal.returns-in_err-judged
returns-in_err-judged c =
    let p = err_from_is_err_and c.from_residual.result c.from_residual.ensures.1 in
    let q = ok_or_refused c.judge.result c.in_err-judged.field-0.0 c.at.result c.in_err-judged.ensures.value in
    rw (p.1, p.2, q.1, c.at.ensures) (list_bad _ _ c.args.out.now q.0 c.judge.ensures)

pub slice_bounds-body-count : goal.slice_bounds-body-count
slice_bounds-body-count c = head_room c.args.rec.now c.judge.new.row c.in_ok-judged.ensures.ok_part c.judge.ensures

pub slice_bounds-body-start : goal.slice_bounds-body-start
slice_bounds-body-start c = head_room c.args.rec.now c.judge.new.row c.in_ok-judged.ensures.ok_part c.judge.ensures

pub moving-moves-requires : goal.moving-moves-requires
moving-moves-requires c = search (rules, judged_unrolls, c.in_ok-judged.ensures.ok_part)

pub put_list-requires : goal.put_list-requires
put_list-requires c = search (rules, moves_unroll, standings_even, c.in_ok-judged.ensures.ok_part)

pub returns : goal.returns
returns c = list_answer c.args.rec.now c.judge.new.row c.in_ok-judged.ensures.ok_part c.judge.ensures c.args.out.now _ c.put_list.ensures
