-- `put_order` meets its contract: what is filled is written behind the head.
use borrow.Author.Rules.{rules}
use Rattle.list.proofs.PieceLaws.{order_over}
use Rattle.list.proofs.put_order.Goals as goal

pub returns : goal.returns
returns c = search (rules, order_over)
