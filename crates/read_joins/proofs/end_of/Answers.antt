-- `end_of` meets its contract: a unit that is no word is no end.
use borrow.Author.Rules.{rules}
use Rattle.read_joins.proofs.EndLaws.{end_at_word, end_at_other, end_at_past}
use Rattle.read_joins.proofs.end_of.Goals as goal

pub returns-then-count-n : goal.returns-then-count-n
returns-then-count-n c = search (rules, end_at_past)

pub returns-in-Word : goal.returns-in-Word
returns-in-Word c = search (rules, end_at_word)

pub returns-in_default : goal.returns-in_default
returns-in_default c = search (rules, end_at_other)
