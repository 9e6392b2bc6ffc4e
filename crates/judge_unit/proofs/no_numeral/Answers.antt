-- The answer is Unreadable exactly where the rules have no numeral.
use borrow.Author.Rules.{rules}
use Rattle.judge_unit.proofs.StandLaws.{unread_yes, unread_big, unread_word}
use Rattle.judge_unit.proofs.no_numeral.Goals as goal

pub returns-in-Err-Unreadable : goal.returns-in-Err-Unreadable
returns-in-Err-Unreadable c = search (rules, unread_yes)

pub returns-in_default : goal.returns-in_default
returns-in_default c = search (rules, unread_big)

pub returns-in_default-2 : goal.returns-in_default-2
returns-in_default-2 c = search (rules, unread_word)
