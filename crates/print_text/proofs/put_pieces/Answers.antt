-- At every turn the pieces done stand in the buffer, the others stand in the record.
use Rattle.print_text.proofs.PieceLaws.{dash_fits, piece_fits, pieces_put, putting_more, putting_none}
use Rattle.print_text.proofs.put_pieces.Goals as goal

pub loop-tag-init : goal.loop-tag-init
loop-tag-init g c = putting_none c.requires

pub put_bytes-behind-requires : goal.put_bytes-behind-requires
put_bytes-behind-requires g c = piece_fits c.loop-tag.invariant c.behind-next.ensures c.requires

pub returns-then-tag_at-tag : goal.returns-then-tag_at-tag
returns-then-tag_at-tag g c = pieces_put c.loop-tag.invariant c.behind-next.ensures c.put_bytes-behind.ensures c.tag_at.ensures c.if-tag_at-tag.true

pub put_u8-end-requires : goal.put_u8-end-requires
put_u8-end-requires g c = dash_fits c.loop-tag.invariant c.behind-next.ensures c.put_bytes-behind.ensures c.tag_at.ensures c.if-tag_at-tag.false c.requires

pub loop-tag-preserved : goal.loop-tag-preserved
loop-tag-preserved g c = putting_more c.loop-tag.invariant c.behind-next.ensures c.put_bytes-behind.ensures c.tag_at.ensures c.if-tag_at-tag.false c.requires c.put_u8-end.ensures
