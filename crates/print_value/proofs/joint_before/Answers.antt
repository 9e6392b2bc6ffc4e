-- The first element has nothing before it, and the short form a `-` more.
use borrow.Author.Rules.{rules}
use Rattle.print_value.proofs.EndLaws.{joint_full, joint_short, joint_start}
use Rattle.print_value.proofs.joint_before.Goals as goal

pub returns-then-at-from : goal.returns-then-at-from
returns-then-at-from c = search (rules, joint_start)

pub returns-then-short_form : goal.returns-then-short_form
returns-then-short_form c = search (rules, joint_short)

pub returns-else-short_form : goal.returns-else-short_form
returns-else-short_form c = search (rules, joint_full)
