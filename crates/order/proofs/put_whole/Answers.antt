-- `put_whole` meets its contract: what is reduced is written behind the head.
use borrow.Author.Rules.{rules}
use Rattle.order.proofs.LoopLaws.{whole_long, whole_over}
use Rattle.order.proofs.put_whole.Goals as goal

pub returns : goal.returns
returns c = search (rules, whole_long, whole_over)
