-- What stands before the argument and its units are put one behind the other.
use Rattle.print_unit.proofs.ChainLaws.{both_put, fits_first, fits_next}
use Rattle.print_value.specs.Joints.{joint_text}
use Rattle.print_value.specs.Values.{units_text}
use Rattle.print_value.proofs.put_argument.Goals as goal

pub put_joint-units-requires : goal.put_joint-units-requires
put_joint-units-requires g c = let f = c.requires in fits_first (joint_text c.args.joint) (units_text f.b f.i f.l) f.fits

pub put_units-requires : goal.put_units-requires
put_units-requires g c =
    let f = c.requires in record { b = f.b; i = f.i; l = f.l; rest = f.rest; has = f.has; fits = fits_next (joint_text c.args.joint) (units_text f.b f.i f.l) f.fits c.put_joint-units.ensures }

pub returns : goal.returns
returns g c = λ b i l rest h. let p = c.put_units.ensures b i l rest h in (p.0, both_put (joint_text c.args.joint) (units_text b i l) c.put_joint-units.ensures p.1)
