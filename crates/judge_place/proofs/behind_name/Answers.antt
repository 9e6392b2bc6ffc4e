-- `behind_name` meets its contract: in a named block the name is the run of pieces that stands there, in another there is none.
use Rattle.judge_place.proofs.PlaceLaws.{name_as, name_none}
use borrow.Author.Rules.{rules}
use Rattle.judge_place.proofs.behind_name.Goals as goal

pub returns-then-named : goal.returns-then-named
returns-then-named c = search (rules, name_as)

pub returns : goal.returns
returns c = search (rules, name_none)
