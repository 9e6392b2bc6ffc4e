-- The header and the capitals are written one behind the other; there are as many capitals as characters.
use borrow.Author.Rules.{rules}
use lib.ListN.{length-map}
use Rattle.fields.proofs.CopyLaws.{content_behind}
use Rattle.fields.proofs.put_keyed.Goals as goal

pub returns : goal.returns
returns c = search (rules, content_behind, length-map)
