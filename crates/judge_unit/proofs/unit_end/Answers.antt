-- `unit_end` meets its contract: under K any unit is asked for, under another base a decimal numeral stands as its first bytes say.
use borrow.Author.Rules.{rules}
use Rattle.judge_unit.proofs.UnitLaws.{decimal_found}
use Rattle.judge_unit.proofs.unit_end.Goals as goal

pub returns-then-is_decimal : goal.returns-then-is_decimal
returns-then-is_decimal c = search (rules, decimal_found)
