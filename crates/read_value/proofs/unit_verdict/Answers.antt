-- `unit_verdict` meets its contract: the content is the token's, and only a word can be wrong.
use borrow.Author.Rules.{rules}
use Rattle.read_value.proofs.PassLaws.{word_fine, word_bad, word_none}
use Rattle.read_value.proofs.unit_verdict.Goals as goal

pub returns-in-Ok : goal.returns-in-Ok
returns-in-Ok c = search (rules, word_fine, c.in-Ok.ensures)

pub returns-in-Err : goal.returns-in-Err
returns-in-Err c = search (rules, word_bad, c.in-Err.ensures)

pub returns-in_default : goal.returns-in_default
returns-in_default c = search (rules, word_none)
