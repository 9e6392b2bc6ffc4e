-- What `number_key` hands back is the answer, and the keeper that is stored.
use borrow.Author.Rules.{rules}
use Rattle.mml.proofs.PackLaws.{packs_key}
use Rattle.mml.proofs.mml_key.Goals as goal

pub returns : goal.returns
returns c = search (rules, packs_key)
