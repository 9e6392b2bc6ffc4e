-- The `-` and the unit are put one behind the other.
use Rattle.print_value.proofs.UnitsLaws.{dash_fits, dashed_put, unit_fits}
use Rattle.print_value.proofs.put_dashed.Goals as goal

pub put_u8-unit-requires : goal.put_u8-unit-requires
put_u8-unit-requires g c = dash_fits c.requires

pub put_unit-requires : goal.put_unit-requires
put_unit-requires g c = unit_fits c.put_u8-unit.ensures c.requires

pub returns : goal.returns
returns g c = dashed_put c.put_u8-unit.ensures c.put_unit.ensures
