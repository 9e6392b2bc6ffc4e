-- `with_value` meets its contract: sizes that are capped one by one are capped as a sum.
use borrow.Author.Rules.{rules}
use Rattle.read_place.proofs.PlaceLaws.{sized}
use Rattle.read_place.proofs.with_value.Goals as goal

pub returns : goal.returns
returns c = search (rules, sized)
