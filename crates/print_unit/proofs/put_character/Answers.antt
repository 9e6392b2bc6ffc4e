-- A mark is put twice, any other character once.
use mathlib.Core.List.{[], ◌∷◌}
use Rattle.rules.specs.Characters.{byte}
use Rattle.print_unit.proofs.ChainLaws.{both_put, fits_next}
use Rattle.print_unit.proofs.StringLaws.{mark_text, plain_text, character_first}
use Rattle.print_unit.proofs.put_character.Goals as goal

pub put_u8-end-requires : goal.put_u8-end-requires
put_u8-end-requires g c = character_first c.requires

pub put_u8-requires : goal.put_u8-requires
put_u8-requires g c = let a = c.args in fits_next (a.b ∷ []) (byte "\"" ∷ []) (rw (mark_text c.if-b-eq-MARK.true) at c.requires) c.put_u8-end.ensures

pub returns-then-b-eq-MARK : goal.returns-then-b-eq-MARK
returns-then-b-eq-MARK g c =
    let a = c.args in rw (mark_text c.if-b-eq-MARK.true) (both_put (a.b ∷ []) (byte "\"" ∷ []) c.put_u8-end.ensures c.put_u8.ensures)

pub returns : goal.returns
returns g c = rw (plain_text c.if-b-eq-MARK.false) c.put_u8-end.ensures
