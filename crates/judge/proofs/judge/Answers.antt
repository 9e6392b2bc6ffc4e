-- `judge` meets its contract: by the head, by what stands behind it, and by the head's number against the product.
use borrow.Author.Rules.{rules}
use Rattle.judge.proofs.HeadBytes.{no_head, head_room, body_bad, head_told}
use Rattle.judge.proofs.judge.Goals as goal

pub slice_bounds-judge_body-count : goal.slice_bounds-judge_body-count
slice_bounds-judge_body-count c = search (rules, head_room)

pub orders-requires : goal.orders-requires
orders-requires c = search (rules, head_room)

pub returns-in_err-judged : goal.returns-in_err-judged
returns-in_err-judged c = rw c.from_residual.ensures (search (rules, body_bad, c.in_err-judged.was))

pub returns-then-begins : goal.returns-then-begins
returns-then-begins c = search (rules, head_told, c.in_ok-judged.was)

pub returns : goal.returns
returns c = search (rules, no_head)
