-- The call's promise, packed.
use borrow.Author.Rules.{rules}
use Rattle.mml.proofs.PackLaws.{packs_ordering}
use Rattle.mml.proofs.mml_order.Goals as goal

pub returns : goal.returns
returns c = search (rules, packs_ordering)
