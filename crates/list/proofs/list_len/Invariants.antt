-- `list_len` meets its contract: from the last place back, the combinations and the bytes of their arguments; no sum is more than the list has bytes.
use Rattle.list.proofs.SizeLaws.{Sizing}
use Rattle.list.proofs.list_len.Given as goal

abbrev pub invariant-loop-i : goal.invariant-loop-i
invariant-loop-i l = Sizing l.rec l.row l.i l.kept l.orders l.len

abbrev pub decreases-loop-i : goal.decreases-loop-i
decreases-loop-i l = l.i
