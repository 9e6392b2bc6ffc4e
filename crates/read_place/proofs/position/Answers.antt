-- `position` meets its contract: a place without tokens is omitted, any other is its value.
use borrow.Author.Rules.{rules}
use Rattle.read_place.proofs.PlaceLaws.{position_none, position_some}
use Rattle.read_place.proofs.position.Goals as goal

pub returns-then-is_empty : goal.returns-then-is_empty
returns-then-is_empty c = search (rules, position_none)

pub returns : goal.returns
returns c = search (rules, position_some)
