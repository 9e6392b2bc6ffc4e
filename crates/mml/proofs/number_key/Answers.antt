-- `mml::number_key` packs the answer of `keeper::key` and hands on its keeper.
use borrow.Author.Rules.{rules}
use Rattle.mml.proofs.PackLaws.{packs_pressed}
use Rattle.mml.proofs.number_key.Goals as goal

pub returns : goal.returns
returns c = search (rules, packs_pressed)
