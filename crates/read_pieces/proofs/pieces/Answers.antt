-- `pieces` meets its contract: at every turn the rest of the tokens has the verdict of the whole.
use Rattle.read_pieces.proofs.PieceLaws.{piece_more, piece_stop, dash_more, dash_left, dash_stop, pieces_short, pieces_fine}
use borrow.Author.Rules.{rules}
use Rattle.read_pieces.proofs.pieces.Goals as goal
use Rattle.read_pieces.proofs.pieces.Goals.{then-want+else-not-is_piece, else-want+else-not-is_dash}

pub returns-then-not-is_piece : goal.returns-then-not-is_piece
returns-then-not-is_piece c = search (rules, piece_stop)

pub returns-then-not-is_dash : goal.returns-then-not-is_dash
returns-then-not-is_dash c = search (rules, dash_stop)

pub overflow_sub-left : goal.overflow_sub-left
overflow_sub-left c = search (rules, dash_left)

pub loop-t-preserved : goal.loop-t-preserved
loop-t-preserved c =
    elim c.if-want.branch [ then-want+else-not-is_piece w ↦ search (rules, piece_more) | else-want+else-not-is_dash w ↦ search (rules, dash_more) ]

pub returns-then-want-2 : goal.returns-then-want-2
returns-then-want-2 c = search (rules, pieces_short)

pub returns : goal.returns
returns c = search (rules, pieces_fine)
