-- What stands before a content, the upper end and the increment are written one behind the other.
use mathlib.Core.List.{◌∷◌, ◌++◌}
use mathlib.Core.Path.{refl}
use Rattle.laws.specs.Over.{back_over}
use Rattle.rules.specs.Records.{four_bytes}
use Rattle.fields.specs.Units.{two_bytes}
use Rattle.value_fields.proofs.put_range.Goals as goal

pub returns : goal.returns
returns c =
    let a = c.args in
    let upper = back_over (6 ∷ two_bytes 8) (four_bytes a.upper) a.out.now c.put_header.ensures refl c.put_number.ensures in
    back_over ((6 ∷ two_bytes 8) ++ four_bytes a.upper) (four_bytes a.inc) a.out.now upper refl c.put_number-2.ensures
