-- `moving` meets its contract: a place that is left out changes no order, and the three numbers of any other move to the front.
use borrow.Author.Rules.{rules}
use native.Mathlib.Omega.{arith}
use lib.ListN.{length-set}
use Rattle.list.proofs.MovingLaws.{moving_none, moving_past, moving_kept, moving_all}
use Rattle.list.proofs.moving.Goals as goal

pub loop-i-init : goal.loop-i-init
loop-i-init c = search (rules, moving_none)

pub loop-i-preserved-then-stays : goal.loop-i-preserved-then-stays
loop-i-preserved-then-stays c = search (rules, moving_past)

pub bounds-row-i-else-stays-2 : goal.bounds-row-i-else-stays-2
bounds-row-i-else-stays-2 c = simp length-set (omega arith)

pub bounds-row-n-else-stays : goal.bounds-row-n-else-stays
bounds-row-n-else-stays c = simp length-set (omega arith)

pub bounds-row-i-else-stays-3 : goal.bounds-row-i-else-stays-3
bounds-row-i-else-stays-3 c = simp length-set (omega arith)

pub bounds-row-n-else-stays-2 : goal.bounds-row-n-else-stays-2
bounds-row-n-else-stays-2 c = simp length-set (omega arith)

pub loop-i-preserved : goal.loop-i-preserved
loop-i-preserved c = search (rules, moving_kept)

pub returns : goal.returns
returns c = search (rules, moving_all)
