-- `times` meets its contract: an omitted place counts one.
use borrow.Author.Rules.{rules}
use Rattle.judge.proofs.PlacesLaws.{times_are}
use Rattle.judge.proofs.times.Goals as goal

pub returns : goal.returns
returns c = search (rules, times_are)
