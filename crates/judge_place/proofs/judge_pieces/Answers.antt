-- `judge_pieces` meets its contract: each turn reads one piece more, and the first that is none refuses all.
use Rattle.judge_place.proofs.PieceLaws.{piece_yes, piece_no, piece_gone, pieces_end, pieces_full, pieces_bad, pieces_more}
use Rattle.record_walk.proofs.WalkLaws.{field_there}
use Rattle.judge_place.proofs.judge_pieces.Goals as goal

pub returns-then-left-eq0 : goal.returns-then-left-eq0
returns-then-left-eq0 c = pieces_full c.loop-tag.invariant c.head_tag.ensures c.is_tag.ensures c.loop-tag-test.true c.if-left-eq0.true

pub returns-in_err-field : goal.returns-in_err-field
returns-in_err-field c =
    let l = c.loop-tag in
    rw c.from_residual.ensures
    (pieces_bad l.invariant c.head_tag.ensures c.is_tag.ensures c.loop-tag-test.true c.if-left-eq0.false (piece_gone l.index c.args.rec.now l.at c.in_err-field.was c.field_at.ensures))

pub slice_bounds-is_piece-count : goal.slice_bounds-is_piece-count
slice_bounds-is_piece-count c = (field_there c.args.rec.now c.loop-tag.at c.in_ok-field.was c.field_at.ensures).ends

pub slice_bounds-is_piece-start : goal.slice_bounds-is_piece-start
slice_bounds-is_piece-start c = (field_there c.args.rec.now c.loop-tag.at c.in_ok-field.was c.field_at.ensures).ends

pub slice_bounds-is_piece-end : goal.slice_bounds-is_piece-end
slice_bounds-is_piece-end c = (field_there c.args.rec.now c.loop-tag.at c.in_ok-field.was c.field_at.ensures).inside

pub loop-tag-preserved : goal.loop-tag-preserved
loop-tag-preserved c =
    let l = c.loop-tag in
    let f = field_there c.args.rec.now l.at c.in_ok-field.was c.field_at.ensures in
    pieces_more l.invariant c.head_tag.ensures c.is_tag.ensures c.loop-tag-test.true c.if-left-eq0.false f (piece_yes l.index f c.is_piece.ensures c.if-not-is_piece.false)

pub returns-then-not-is_piece : goal.returns-then-not-is_piece
returns-then-not-is_piece c =
    let l = c.loop-tag in
    let f = field_there c.args.rec.now l.at c.in_ok-field.was c.field_at.ensures in
    pieces_bad l.invariant c.head_tag.ensures c.is_tag.ensures c.loop-tag-test.true c.if-left-eq0.false (piece_no l.index f c.is_piece.ensures c.if-not-is_piece.true)

pub returns : goal.returns
returns c = pieces_end c.loop-tag.invariant c.head_tag.ensures c.is_tag.ensures c.loop-tag-test.false
