-- Unreadable is the name's case, and every other answer is kept.
use borrow.Author.Rules.{rules}
use Rattle.units.proofs.OtherLaws.{name_case, kept_fault, kept_word}
use Rattle.units.proofs.bare_unit.Goals as goal

pub returns-in-Err-Unreadable : goal.returns-in-Err-Unreadable
returns-in-Err-Unreadable c = name_case c.args.word.now (rw c.in-Err-Unreadable.field-0-is at c.in-Err-Unreadable.ensures) c.name_unit.ensures

pub returns-in_default : goal.returns-in_default
returns-in_default c = search (rules, kept_fault)

pub returns-in_default-2 : goal.returns-in_default-2
returns-in_default-2 c = search (rules, kept_word)
