-- `sep_kind` meets its contract: its tests are those of the definition.
use borrow.Author.Rules.{rules}
use Rattle.read_joins.proofs.GroupLaws.{kind_inside, kind_first, kind_past}
use Rattle.read_joins.proofs.sep_kind.Goals as goal
use Rattle.read_joins.proofs.sep_kind.Goals.{else-n-gt0-via-then-n-gt0+else-n-count, else-n-gt0-via-else-n-gt0}

pub returns-then-n-count : goal.returns-then-n-count
returns-then-n-count c = search (rules, kind_inside)

pub returns-else-n-gt0 : goal.returns-else-n-gt0
returns-else-n-gt0 c =
    elim c.else-n-gt0.branch [
      | else-n-gt0-via-then-n-gt0+else-n-count w ↦ kind_past _ _ w.count.ensures w.if-n-count.false
      | else-n-gt0-via-else-n-gt0 w ↦ kind_first _ _ w.if-n-gt0.false
    ]
