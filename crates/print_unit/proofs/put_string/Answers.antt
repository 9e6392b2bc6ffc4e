-- Mark, doubled content and mark are put one behind the other.
use mathlib.Core.List.{[], ◌∷◌}
use Rattle.rules.specs.Characters.{byte}
use Rattle.print_unit.proofs.ChainLaws.{three_first, three_put, three_second, three_third}
use Rattle.print_unit.specs.Strings.{doubled_at, string_text}
use Rattle.print_unit.proofs.put_string.Goals as goal

pub put_u8-inside-requires : goal.put_u8-inside-requires
unfolding string_text
put_u8-inside-requires g c = three_first (byte "\"" ∷ []) (doubled_at c.args.content.now 0) (byte "\"" ∷ []) c.requires

pub put_doubled-end-requires : goal.put_doubled-end-requires
unfolding string_text
put_doubled-end-requires g c = three_second (byte "\"" ∷ []) (doubled_at c.args.content.now 0) (byte "\"" ∷ []) c.requires c.put_u8-inside.ensures

pub put_u8-requires : goal.put_u8-requires
unfolding string_text
put_u8-requires g c = three_third (byte "\"" ∷ []) (doubled_at c.args.content.now 0) (byte "\"" ∷ []) c.requires c.put_u8-inside.ensures c.put_doubled-end.ensures

pub returns : goal.returns
unfolding string_text
returns g c = three_put (byte "\"" ∷ []) (doubled_at c.args.content.now 0) (byte "\"" ∷ []) c.requires c.put_u8-inside.ensures c.put_doubled-end.ensures c.put_u8.ensures
