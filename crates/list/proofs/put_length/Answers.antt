-- `put_length` meets its contract: the number is written behind the tag and its length.
use mathlib.Core.Path.{refl}
use mathlib.Core.List.{[], ◌∷◌}
use Rattle.laws.specs.Over.{back_over}
use Rattle.rules.specs.Records.{four_bytes}
use Rattle.rules.specs.Listing.{length_tag}
use Rattle.list.proofs.put_length.Goals as goal

pub returns : goal.returns
returns c =
    let a = c.args in
    back_over (length_tag ∷ 0 ∷ 4 ∷ []) (four_bytes a.n) a.out.now c.put_header.ensures refl c.put_number.ensures
