-- The characters of the short form are put one behind the other.
use mathlib.Core.List.{[], ◌∷◌}
use Rattle.rules.specs.Characters.{byte}
use Rattle.print_unit.proofs.ChainLaws.{both_put, fits_first, fits_next, nothing_put}
use Rattle.print_value.proofs.put_joint.Goals as goal

pub returns-in-Start : goal.returns-in-Start
returns-in-Start g c = rw c.in-Start.is (nothing_put g.S.Sink.way c.args.out.now c.args.at)

pub put_u8-dash-requires : goal.put_u8-dash-requires
put_u8-dash-requires g c = fits_first (byte "&" ∷ []) (byte "-" ∷ []) (rw c.in-Short.is at c.requires)

pub put_u8-requires-in-Short : goal.put_u8-requires-in-Short
put_u8-requires-in-Short g c = fits_next (byte "&" ∷ []) (byte "-" ∷ []) (rw c.in-Short.is at c.requires) c.put_u8-dash.ensures

pub returns-in-Short : goal.returns-in-Short
returns-in-Short g c = rw c.in-Short.is (both_put (byte "&" ∷ []) (byte "-" ∷ []) c.put_u8-dash.ensures c.put_u8-in-Short.ensures)
