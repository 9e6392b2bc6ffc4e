-- `judge_places` meets its contract: a place stands first, each turn reads one more, whose name is new, and the first that does not fit refuses all.
use borrow.Author.Rules.{rules}
use Rattle.judge.proofs.PlacesLaws.{no_place, room_left, places_end, places_full, places_bad, next_there, begin_told, end_told, places_many, places_more}
use Rattle.judge.proofs.SpanLaws.{row_threes}
use Rattle.judge.proofs.judge_places.Goals as goal

pub returns-then-head_tag : goal.returns-then-head_tag
returns-then-head_tag c = let a = c.args in no_place a.named a.rec.now a.from a.before a.orders c.head_tag.ensures c.if-head_tag.true

pub returns-then-places-eq-MOST_PLACES : goal.returns-then-places-eq-MOST_PLACES
returns-then-places-eq-MOST_PLACES c = places_full c.loop-marks.invariant c.head_tag-in-loop-marks.ensures c.loop-marks-test.true c.if-places-eq-MOST_PLACES.true

pub returns-in_err-place : goal.returns-in_err-place
returns-in_err-place c =
    rw c.from_residual.ensures
    (places_bad c.loop-marks.invariant c.head_tag-in-loop-marks.ensures c.in_err-place.ensures c.loop-marks-test.true c.if-places-eq-MOST_PLACES.false)

pub returns-in_err-total : goal.returns-in_err-total
returns-in_err-total c =
    let l = c.loop-marks.invariant in
    let e = c.head_tag-in-loop-marks.ensures in
    rw c.from_residual-in_err-total.ensures (places_many l e (next_there l e c.in_ok-place.ensures) c.loop-marks-test.true c.if-places-eq-MOST_PLACES.false c.in_err-total.ensures)

pub tell_span-requires : goal.tell_span-requires
tell_span-requires c =
    let l = c.loop-marks.invariant in
    let e = c.head_tag-in-loop-marks.ensures in
    let d = next_there l e c.in_ok-place.ensures in
    search (rules, row_threes, room_left l e, begin_told d, end_told d, d)

pub loop-marks-preserved : goal.loop-marks-preserved
loop-marks-preserved c =
    let l = c.loop-marks.invariant in
    let e = c.head_tag-in-loop-marks.ensures in
    places_more l e (next_there l e c.in_ok-place.ensures) c.loop-marks-test.true c.if-places-eq-MOST_PLACES.false c.in_ok-total.ensures c.with_if-marks.ensures c.tell_span.ensures

pub returns : goal.returns
returns c = places_end c.loop-marks.invariant c.head_tag-in-loop-marks.ensures c.loop-marks-test.false c.head_tag.ensures c.if-head_tag.false
