-- `fill` meets its contract: each field that begins a place is a slot more, and at the record's end all offsets are written.
use borrow.Author.Rules.{rules}
use Rattle.index.proofs.RowLaws.{filling_none, filling_room, filling_place, filling_other, filling_all, walk_less}
use Rattle.index.proofs.fill.Goals as goal
use Rattle.index.proofs.fill.Goals.{then-rec-start, else-rec-start}

pub loop-start-init : goal.loop-start-init
loop-start-init c = search (rules, filling_none)

pub bounds-row-i : goal.bounds-row-i
bounds-row-i c = search (rules, filling_room)

pub loop-start-smaller : goal.loop-start-smaller
loop-start-smaller c = search (rules, walk_less)

pub loop-start-preserved : goal.loop-start-preserved
loop-start-preserved c = elim c.if-rec-start.branch [ then-rec-start w ↦ search (rules, filling_place, w) | else-rec-start w ↦ search (rules, filling_other, w) ]

pub returns : goal.returns
returns c = search (rules, filling_all)
