-- The promise of place, packed.
use borrow.Author.Rules.{rules}
use Rattle.mml.proofs.PackLaws.{packs_placing}
use Rattle.mml.proofs.mml_place.Goals as goal

pub returns : goal.returns
returns c = search (rules, packs_placing)
