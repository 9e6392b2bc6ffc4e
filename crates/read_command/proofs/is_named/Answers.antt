-- `is_named` meets its contract: a `=` stands in the first place exactly if the rules cut there.
use borrow.Author.Rules.{rules}
use Rattle.token_table.proofs.FindLaws.{found_inside, taken}
use Rattle.read_command.proofs.TurnLaws.{kind_is}
use Rattle.read_command.proofs.is_named.Goals as goal

pub slice_bounds-find-end : goal.slice_bounds-find-end
slice_bounds-find-end c = search (rules, taken, found_inside)

pub returns : goal.returns
returns c = search (rules, kind_is)
