-- `read` meets its contract: no command that is read has more places than there can be.
use borrow.Author.Rules.{rules}
use Rattle.reader.proofs.ReadLaws.{read_plain}
use Rattle.reader.proofs.read.Goals as goal

pub returns : goal.returns
returns c = search (rules, read_plain)
