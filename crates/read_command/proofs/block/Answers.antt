-- `block` meets its contract: it is the rule's block, with the kind of its first place.
use borrow.Author.Rules.{rules}
use Rattle.read_command.proofs.TurnLaws.{block_is}
use Rattle.read_command.proofs.block.Goals as goal

pub returns : goal.returns
returns c = search (rules, block_is)
