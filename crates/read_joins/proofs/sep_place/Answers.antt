-- `sep_place` meets its contract: its tests are those of the definition.
use borrow.Author.Rules.{rules}
use Rattle.read_joins.proofs.GroupLaws.{place_inside, place_first, place_past}
use Rattle.read_joins.proofs.sep_place.Goals as goal
use Rattle.read_joins.proofs.sep_place.Goals.{else-n-gt0-via-then-n-gt0+else-n-count, else-n-gt0-via-else-n-gt0}

pub returns-then-n-count : goal.returns-then-n-count
returns-then-n-count c = search (rules, place_inside)

pub returns-else-n-gt0 : goal.returns-else-n-gt0
returns-else-n-gt0 c =
    elim c.else-n-gt0.branch [
      | else-n-gt0-via-then-n-gt0+else-n-count w ↦ place_past _ _ w.count.ensures w.if-n-count.false
      | else-n-gt0-via-else-n-gt0 w ↦ place_first _ _ w.if-n-gt0.false
    ]
