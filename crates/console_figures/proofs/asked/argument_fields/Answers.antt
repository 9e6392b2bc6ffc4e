-- `console_figures::asked::argument_fields` meets its contract, by the tag that stands where the value begins.
-- Assumes nothing.
use borrow.Author.Rules.{rules}
use Rattle.console_figures.proofs.AskedLaws.{fields_single, fields_other}
use Rattle.console_figures.proofs.asked.argument_fields.Goals as goal

pub returns-then-tag_at : goal.returns-then-tag_at
returns-then-tag_at c = search (rules, fields_single)

pub returns : goal.returns
returns c = search (rules, fields_other)
