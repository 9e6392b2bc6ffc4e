-- `element_len` meets its contract: the three lengths are those of the three parts, and few.
use borrow.Author.Rules.{rules}
use Rattle.value_fields.proofs.MeasureLaws.{sum_len}
use Rattle.value_fields.proofs.element_len.Goals as goal

pub returns : goal.returns
returns c = search (rules, sum_len)
