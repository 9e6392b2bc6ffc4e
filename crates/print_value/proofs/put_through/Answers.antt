-- Two characters, and a third one behind a compound argument, are the text.
use mathlib.Core.List.{[], ◌∷◌}
use Rattle.rules.specs.Characters.{byte}
use Rattle.print_unit.proofs.ChainLaws.{both_put, fits_first, fits_next}
use Rattle.print_value.proofs.EndLaws.{through_first}
use Rattle.print_value.proofs.put_through.Goals as goal

pub put_u8-second-requires : goal.put_u8-second-requires
put_u8-second-requires g c = fits_first (byte "&" ∷ []) (byte "&" ∷ []) (through_first c.args.compound c.requires)

pub put_u8-end-requires : goal.put_u8-end-requires
put_u8-end-requires g c = fits_next (byte "&" ∷ []) (byte "&" ∷ []) (through_first c.args.compound c.requires) c.put_u8-second.ensures

pub put_u8-requires : goal.put_u8-requires
put_u8-requires g c =
    fits_next (byte "&" ∷ byte "&" ∷ []) (byte "-" ∷ []) (rw c.if-compound.true at c.requires) (both_put (byte "&" ∷ []) (byte "&" ∷ []) c.put_u8-second.ensures c.put_u8-end.ensures)

pub returns-then-compound : goal.returns-then-compound
returns-then-compound g c =
    rw c.if-compound.true (both_put (byte "&" ∷ byte "&" ∷ []) (byte "-" ∷ []) (both_put (byte "&" ∷ []) (byte "&" ∷ []) c.put_u8-second.ensures c.put_u8-end.ensures) c.put_u8.ensures)

pub returns : goal.returns
returns g c = rw c.if-compound.false (both_put (byte "&" ∷ []) (byte "&" ∷ []) c.put_u8-second.ensures c.put_u8-end.ensures)
