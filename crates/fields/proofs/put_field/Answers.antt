-- The header and the content are written one behind the other.
use borrow.Author.Rules.{rules}
use Rattle.fields.proofs.CopyLaws.{content_behind}
use Rattle.fields.proofs.put_field.Goals as goal

pub returns : goal.returns
returns c = search (rules, content_behind)
