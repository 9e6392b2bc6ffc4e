-- The promise of member, packed.
use borrow.Author.Rules.{rules}
use Rattle.mml.proofs.PackLaws.{packs_locating}
use Rattle.mml.proofs.mml_member.Goals as goal

pub returns : goal.returns
returns c = search (rules, packs_locating)
