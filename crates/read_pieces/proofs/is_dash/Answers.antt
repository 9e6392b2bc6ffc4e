-- `is_dash` meets its contract: its tests are those of the definition.
use Rattle.read_pieces.proofs.PieceLaws.{dash_none, dash_some}
use borrow.Author.Rules.{rules}
use Rattle.read_pieces.proofs.is_dash.Goals as goal

pub returns-then-left-gt0 : goal.returns-then-left-gt0
returns-then-left-gt0 c = search (rules, dash_some)

pub returns-else-left-gt0 : goal.returns-else-left-gt0
returns-else-left-gt0 c = search (rules, dash_none)
