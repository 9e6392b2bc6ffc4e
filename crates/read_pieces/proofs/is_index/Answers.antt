-- `is_index` meets its contract: a word without characters is no index number.
use Rattle.read_pieces.proofs.PieceLaws.{index_some}
use borrow.Author.Rules.{rules}
use Rattle.read_pieces.proofs.is_index.Goals as goal

pub returns-then-not-is_empty : goal.returns-then-not-is_empty
returns-then-not-is_empty c = search (rules, index_some)
