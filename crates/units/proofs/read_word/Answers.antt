-- Digits to the end are the numeral under D by `decimal_all`; all else is read by the rules in turn.
use borrow.Author.Rules.{rules}
use Rattle.units.proofs.DecimalLaws.{decimal_all}
use Rattle.units.proofs.read_word.Goals as goal

pub returns-then-not-is_empty : goal.returns-then-not-is_empty
returns-then-not-is_empty c = search (rules, decimal_all)
