-- The count's promise, packed.
use borrow.Author.Rules.{rules}
use Rattle.mml.proofs.PackLaws.{packs_counting}
use Rattle.mml.proofs.mml_count.Goals as goal

pub returns : goal.returns
returns c = search (rules, packs_counting)
