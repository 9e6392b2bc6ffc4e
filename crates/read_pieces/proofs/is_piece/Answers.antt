-- `is_piece` meets its contract: its tests are those of the definition.
use Rattle.read_pieces.proofs.PieceLaws.{piece_word, piece_other}
use borrow.Author.Rules.{rules}
use Rattle.read_pieces.proofs.is_piece.Goals as goal

pub returns-then-eq : goal.returns-then-eq
returns-then-eq c = search (rules, piece_word)

pub returns-else-eq : goal.returns-else-eq
returns-else-eq c = search (rules, piece_other)
