-- A name is told by its tag, and `=` is put behind it.
use Rattle.print_text.proofs.ContentLaws.{equals_fits, name_put, no_name, pieces_fit}
use Rattle.print_text.proofs.put_name.Goals as goal

pub returns-then-tag_at : goal.returns-then-tag_at
returns-then-tag_at g c = no_name c.tag_at.ensures c.if-tag_at.true c.args.out.now

pub put_pieces-name-requires : goal.put_pieces-name-requires
put_pieces-name-requires g c = pieces_fit c.tag_at.ensures c.if-tag_at.false c.requires

pub put_u8-end-requires : goal.put_u8-end-requires
put_u8-end-requires g c = equals_fits c.tag_at.ensures c.if-tag_at.false c.put_pieces-name.ensures c.requires

pub returns : goal.returns
returns g c = name_put c.tag_at.ensures c.if-tag_at.false c.put_pieces-name.ensures c.put_u8-end.ensures
