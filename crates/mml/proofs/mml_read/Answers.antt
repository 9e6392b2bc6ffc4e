-- The call's promise, packed.
use borrow.Author.Rules.{rules}
use Rattle.mml.proofs.PackLaws.{packs_reading}
use Rattle.mml.proofs.mml_read.Goals as goal

pub returns : goal.returns
returns c = search (rules, packs_reading)
