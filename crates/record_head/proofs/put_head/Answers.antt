-- The number is written behind the tag and its length.
use mathlib.Core.Path.{refl}
use mathlib.Core.List.{[], ◌∷◌}
use Rattle.laws.specs.Over.{back_over}
use Rattle.rules.specs.Records.{count_tag, four_bytes}
use Rattle.record_head.proofs.put_head.Goals as goal

pub returns : goal.returns
returns c =
    let a = c.args in
    back_over (count_tag ∷ 0 ∷ 4 ∷ []) (four_bytes a.orders) a.out.now c.put_header.ensures refl c.put_number.ensures
