-- The bytes are compared one by one, as long as they are the same.
use borrow.Author.Rules.{rules}
use Rattle.print_value.proofs.BeginLaws.{alike_end, alike_more, alike_stop}
use Rattle.print_value.proofs.alike.Goals as goal

pub returns-then-part-i : goal.returns-then-part-i
returns-then-part-i c = search (rules, alike_stop)

pub loop-i-preserved : goal.loop-i-preserved
loop-i-preserved c = search (rules, alike_more)

pub returns : goal.returns
returns c = search (rules, alike_end)
