-- `is_index_number` meets its contract: no digits are no number, and of others all are asked for.
use borrow.Author.Rules.{rules}
use Rattle.judge_place.proofs.PieceLaws.{number_some}
use Rattle.judge_place.proofs.is_index_number.Goals as goal

pub returns-then-word-ne0 : goal.returns-then-word-ne0
returns-then-word-ne0 c = search (rules, number_some)
