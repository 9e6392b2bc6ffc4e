-- Where there are leading units, their bytes are compared; where there are none, there is no short form.
use borrow.Author.Rules.{rules}
use Rattle.print_value.proofs.EndLaws.{short_none, short_some}
use Rattle.print_value.proofs.short_form.Goals as goal

pub returns-then-lead-until : goal.returns-then-lead-until
returns-then-lead-until c = search (rules, short_some)

pub returns-else-lead-until : goal.returns-else-lead-until
returns-else-lead-until c = search (rules, short_none)
