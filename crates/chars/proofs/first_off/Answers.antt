-- `first_off` meets its contract: `position` finds the first byte that is not permitted, as the rule does.
use Rattle.std.proofs.Common.{rules, tests, not}
use Rattle.std.proofs.lemmas.Iterator.{YieldsList-from_slice}
use Rattle.std.proofs.lemmas.Iterator.Search.{position_from_yields_List}
use Rattle.rules.specs.Characters.{is_permitted}
use Rattle.chars.proofs.ClassLaws.{told_off}
use Rattle.chars.proofs.OffLaws.{off_is}
use Rattle.chars.proofs.first_off.Goals as goal

pub returns : goal.returns
returns c =
    let p = position_from_yields_List (λ b. not (is_permitted b)) _ _ c.position.result c.position.ensures.ran (YieldsList-from_slice _ c.iter.ensures.rest) (λ x b q k. search (rules, tests, told_off)) in
    off_is c.args.text.now c.position.result p
