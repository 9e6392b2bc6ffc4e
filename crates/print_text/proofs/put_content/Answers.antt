-- An omitted place has no value; any other value is put by its own call.
use native.Mathlib.Omega.{arith}
use Rattle.print_text.proofs.ContentLaws.{no_value, value_fits, value_put}
use Rattle.print_text.proofs.put_content.Goals as goal

pub returns-then-tag_at : goal.returns-then-tag_at
returns-then-tag_at g c = no_value c.tag_at.ensures c.if-tag_at.true c.args.out.now

pub put_value-requires : goal.put_value-requires
put_value-requires g c = value_fits c.tag_at.ensures (omega arith) c.requires

pub returns : goal.returns
returns g c = value_put c.tag_at.ensures (omega arith) c.put_value.ensures
