-- `value_len` meets its contract: a value of one unit is a single element's field and the unit's.
use borrow.Author.Rules.{rules}
use Rattle.value_fields.proofs.MeasureLaws.{one_len}
use Rattle.value_fields.proofs.value_len.Goals as goal

pub returns-then-toks-eq1 : goal.returns-then-toks-eq1
returns-then-toks-eq1 c = search (rules, one_len)
