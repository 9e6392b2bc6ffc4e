-- What stands before, the printed units and the end of a range are put one behind the other.
use native.Mathlib.Omega.{arith}
use Rattle.print_value.proofs.ElementLaws.{own_inside}
use Rattle.print_value.proofs.TailLaws.{argument_fits, element_put, end_fits, joint_asks}
use Rattle.print_value.proofs.put_element.Goals as goal

pub bounds-rec-own : goal.bounds-rec-own
bounds-rec-own g c = own_inside c.requires.has

pub overflow_add-first : goal.overflow_add-first
overflow_add-first g c = omega (arith, joint_asks c.requires c.head_len.ensures)

pub joint_before-joint-requires : goal.joint_before-joint-requires
joint_before-joint-requires g c = joint_asks c.requires c.head_len.ensures

pub printed_from-start-requires : goal.printed_from-start-requires
printed_from-start-requires g c = let w = joint_asks c.requires c.head_len.ensures in (w.1, omega (arith, w))

pub put_argument-units-requires : goal.put_argument-units-requires
put_argument-units-requires g c = argument_fits c.requires c.head_len.ensures c.joint_before-joint.ensures c.printed_from-start.ensures

pub put_end-end-requires : goal.put_end-end-requires
put_end-end-requires g c = end_fits c.requires c.head_len.ensures c.joint_before-joint.ensures c.printed_from-start.ensures c.put_argument-units.ensures

pub returns : goal.returns
returns g c =
    let a = c.args in
    element_put a.rec.now a.from a.base a.laid a.out.now c.head_len.ensures c.joint_before-joint.ensures c.printed_from-start.ensures c.put_argument-units.ensures c.put_end-end.ensures
