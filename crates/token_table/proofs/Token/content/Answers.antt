-- `content` meets its contract: start and end are kept inside the contents, in this order, and what they cut out is the content.
use borrow.Author.Rules.{rules}
use native.Mathlib.Omega.{arith}
use Rattle.token_table.proofs.ContentLaws.{cut_is, cut_small}
use Rattle.token_table.proofs.Token.content.Goals as goal

pub returns-clause-value : goal.returns-clause-value
returns-clause-value c = search (rules, cut_is)

pub returns-clause-small : goal.returns-clause-small
returns-clause-small c = cut_small c.args.contents.now c.args.self c.start.ensures c.end.ensures (omega arith)
