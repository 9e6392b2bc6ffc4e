-- Prefix and content are put one behind the other.
use native.Mathlib.Omega.{arith}
use Rattle.print_unit.proofs.TextLaws.{keyed_first, keyed_next, keyed_put}
use Rattle.print_unit.proofs.put_keyed_text.Goals as goal

pub put_prefix-p-requires : goal.put_prefix-p-requires
put_prefix-p-requires g c = let a = c.args in keyed_first a.base a.content.now (omega arith) c.requires

pub put_bytes-requires : goal.put_bytes-requires
put_bytes-requires g c = let a = c.args in keyed_next a.base a.content.now (omega arith) c.put_prefix-p.ensures c.requires

pub returns : goal.returns
returns g c = let a = c.args in keyed_put a.base a.content.now (omega arith) c.put_prefix-p.ensures c.put_bytes.ensures
