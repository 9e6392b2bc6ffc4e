-- The second character decides, as in the definition.
use Rattle.units.proofs.WordLaws.{long}
use Rattle.units.proofs.any_unit.Goals as goal

pub prefix_unit-requires : goal.prefix_unit-requires
prefix_unit-requires c = long c.args.word.now (rw (← c.is_prefixed.ensures) c.if-is_prefixed.true)
