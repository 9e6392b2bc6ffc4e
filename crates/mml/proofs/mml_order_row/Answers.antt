-- The promise of order_row, packed.
use borrow.Author.Rules.{rules}
use Rattle.mml.proofs.PackLaws.{packs_ordering_row}
use Rattle.mml.proofs.mml_order_row.Goals as goal

pub returns : goal.returns
returns c = search (rules, packs_ordering_row)
