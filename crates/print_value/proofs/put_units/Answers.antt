-- At every turn the units done stand in the buffer, the others stand in the record.
use borrow.Author.Rules.{rules}
use native.Mathlib.Omega.{arith}
use Rattle.print_value.proofs.UnitsLaws.{first_cut, first_fits, putting_more, putting_start, turn, turn_fits, units_put}
use Rattle.print_value.proofs.put_units.Goals as goal

pub behind-next-requires : goal.behind-next-requires
behind-next-requires g c = search (rules, first_cut)

pub slice_bounds-put_unit-end : goal.slice_bounds-put_unit-end
slice_bounds-put_unit-end g c = omega (arith, c.behind-next.ensures, first_cut c.requires)

pub put_unit-end-requires : goal.put_unit-end-requires
put_unit-end-requires g c = first_fits c.requires c.behind-next.ensures

pub loop-last-init : goal.loop-last-init
loop-last-init g c = let a = c.args in putting_start g.S.Sink.way a.rec.now a.from a.base c.put_unit-end.result c.put_unit-end.new.out c.behind-next.ensures

-- the unit that stands next

pub behind-next-requires-in-loop-last : goal.behind-next-requires-in-loop-last
behind-next-requires-in-loop-last g c =
    (turn c.requires c.behind-next.ensures c.put_unit-end.ensures c.loop-last.invariant c.tag_at.ensures c.loop-last-test.true).cut

pub slice_bounds-put_dashed-end : goal.slice_bounds-put_dashed-end
slice_bounds-put_dashed-end g c =
    omega (arith, c.behind-next-in-loop-last.ensures, (turn c.requires c.behind-next.ensures c.put_unit-end.ensures c.loop-last.invariant c.tag_at.ensures c.loop-last-test.true).cut)

pub put_dashed-end-requires : goal.put_dashed-end-requires
put_dashed-end-requires g c =
    turn_fits (turn c.requires c.behind-next.ensures c.put_unit-end.ensures c.loop-last.invariant c.tag_at.ensures c.loop-last-test.true) c.behind-next-in-loop-last.ensures

pub loop-last-smaller : goal.loop-last-smaller
loop-last-smaller g c =
    omega (arith, c.behind-next-in-loop-last.ensures, (turn c.requires c.behind-next.ensures c.put_unit-end.ensures c.loop-last.invariant c.tag_at.ensures c.loop-last-test.true).cut)

pub loop-last-preserved : goal.loop-last-preserved
loop-last-preserved g c = putting_more c.loop-last.invariant c.tag_at.ensures c.loop-last-test.true c.behind-next-in-loop-last.ensures c.put_dashed-end.ensures

pub returns : goal.returns
returns g c = units_put c.loop-last.invariant c.tag_at.ensures (omega arith) c.behind-next.ensures c.put_unit-end.ensures
