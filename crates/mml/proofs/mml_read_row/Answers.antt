-- The promise of read_row, packed.
use borrow.Author.Rules.{rules}
use Rattle.mml.proofs.PackLaws.{packs_reading_row}
use Rattle.mml.proofs.mml_read_row.Goals as goal

pub returns : goal.returns
returns c = search (rules, packs_reading_row)
