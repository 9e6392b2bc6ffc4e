-- At every turn the elements done stand in the buffer, the others stand in the record.
use native.Mathlib.Omega.{arith}
use Rattle.print_value.proofs.ValueLaws.{here_fits, here_laid, laying_more, laying_start, value_put}
use Rattle.print_value.proofs.put_value.Goals as goal

pub loop-laid-init : goal.loop-laid-init
loop-laid-init g c = let a = c.args in laying_start g.S.Sink.way a.rec.now a.from a.base a.at a.out.now

pub put_element-laid-requires : goal.put_element-laid-requires
put_element-laid-requires g c = here_fits c.loop-laid.invariant c.requires

pub returns-then-tag_at : goal.returns-then-tag_at
returns-then-tag_at g c = value_put c.loop-laid.invariant c.put_element-laid.ensures c.tag_at.ensures c.if-tag_at.true

pub loop-laid-smaller : goal.loop-laid-smaller
loop-laid-smaller g c = omega (arith, here_laid c.loop-laid.invariant c.requires c.put_element-laid.ensures)

pub loop-laid-preserved : goal.loop-laid-preserved
loop-laid-preserved g c = laying_more c.loop-laid.invariant c.put_element-laid.ensures c.tag_at.ensures (omega arith)
