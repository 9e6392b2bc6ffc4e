-- `agreeing` meets its contract: what is right behind the slots that are right is right from the start, and the first slot that is not ends the count.
use borrow.Author.Rules.{rules}
use Rattle.index.proofs.RowLaws.{comparing_none, comparing_place, comparing_off, comparing_other, comparing_all, walk_less}
use Rattle.index.proofs.agreeing.Goals as goal
use Rattle.index.proofs.agreeing.Goals.{then-rec-at+else-not-is_right, else-rec-at}

pub loop-at-init : goal.loop-at-init
loop-at-init c = search (rules, comparing_none)

pub returns-then-not-is_right : goal.returns-then-not-is_right
returns-then-not-is_right c = search (rules, comparing_off c.loop-at.invariant)

pub loop-at-smaller : goal.loop-at-smaller
loop-at-smaller c = search (rules, walk_less)

pub loop-at-preserved : goal.loop-at-preserved
loop-at-preserved c =
    elim c.if-rec-at.branch [ then-rec-at+else-not-is_right w ↦ search (rules, comparing_place c.loop-at.invariant, w) | else-rec-at w ↦ search (rules, comparing_other, w) ]

pub returns : goal.returns
returns c = search (rules, comparing_all)
