-- `same_name` meets its contract: up to where the loop stands the pieces are equal.
use borrow.Author.Rules.{rules}
use Rattle.read_names.proofs.NameLaws.{alike_more, alike_stop, alike_end, alike_longer}
use Rattle.read_names.proofs.same_name.Goals as goal

pub returns-then-b-i : goal.returns-then-b-i
returns-then-b-i c = search (rules, alike_longer)

pub loop-i-preserved : goal.loop-i-preserved
loop-i-preserved c = search (rules, alike_more)

pub returns-then-not-same_piece : goal.returns-then-not-same_piece
returns-then-not-same_piece c = search (rules, alike_stop)

pub returns : goal.returns
returns c = search (rules, alike_end)
