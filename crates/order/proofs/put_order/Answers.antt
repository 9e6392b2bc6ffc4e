-- `put_order` meets its contract: an order is not longer than its record, so it is measured only where the buffer is shorter than that; on both ways it fits where it is written.
use borrow.Author.Rules.{rules}
use native.Mathlib.Omega.{arith}
use Prim.Native.Nat.{◌≤◌}
use lib.ListN.{length}
use Rattle.order.specs.Reduced.{order_bytes}
use Rattle.order.specs.Plans.{positions_in}
use Rattle.order.proofs.AnswerLaws.{put_short, put_few, put_done}
use Rattle.order.proofs.LoopLaws.{planned_length, planned_fits, planned_small}
use Rattle.order.proofs.put_order.Goals as goal
use Rattle.order.proofs.put_order.Goals.{then-out-rec+else-out-need, else-out-rec}

pub overflow_add-rec : goal.overflow_add-rec
overflow_add-rec c = search (rules, planned_length)

pub overflow_cast-need : goal.overflow_cast-need
overflow_cast-need c = search (rules, planned_small)

pub returns-then-out-need : goal.returns-then-out-need
returns-then-out-need c = search (rules, put_short)

pub returns-then-slots-places : goal.returns-then-slots-places
returns-then-slots-places c = search (rules, put_few, (let fits : length (order_bytes c.args.rec.now (positions_in c.args.row.now)) ≤ length c.args.out.now = elim c.if-out-rec.branch [ then-out-rec+else-out-need w ↦ omega (arith, w.order_len-need.ensures, w.if-out-need.false) | else-out-rec w ↦ planned_fits c.requires.0 c.args.out.now w.if-out-rec.false ] in fits))

pub put_whole-requires : goal.put_whole-requires
put_whole-requires c = search (rules, (let fits : length (order_bytes c.args.rec.now (positions_in c.args.row.now)) ≤ length c.args.out.now = elim c.if-out-rec.branch [ then-out-rec+else-out-need w ↦ omega (arith, w.order_len-need.ensures, w.if-out-need.false) | else-out-rec w ↦ planned_fits c.requires.0 c.args.out.now w.if-out-rec.false ] in fits))

pub overflow_cast-result : goal.overflow_cast-result
overflow_cast-result c = search (rules, planned_small)

pub returns : goal.returns
returns c = search (rules, put_done, (let fits : length (order_bytes c.args.rec.now (positions_in c.args.row.now)) ≤ length c.args.out.now = elim c.if-out-rec.branch [ then-out-rec+else-out-need w ↦ omega (arith, w.order_len-need.ensures, w.if-out-need.false) | else-out-rec w ↦ planned_fits c.requires.0 c.args.out.now w.if-out-rec.false ] in fits))
