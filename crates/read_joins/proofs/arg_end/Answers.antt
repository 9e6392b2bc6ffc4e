-- `arg_end` meets its contract: the units joined by `-` from the first on are those behind the turn made and those left.
use mathlib.Core.Path.{refl}
use Rattle.read_joins.proofs.GroupLaws.{dashes_more, dashes_end, dash_fits, dash_less}
use borrow.Author.Rules.{rules}
use Rattle.read_joins.proofs.arg_end.Goals as goal

pub loop-k-init : goal.loop-k-init
loop-k-init c = λ b cs. refl

pub overflow_add-k : goal.overflow_add-k
overflow_add-k c = search (rules, dash_fits)

pub loop-k-smaller : goal.loop-k-smaller
loop-k-smaller c = search (rules, dash_less)

pub loop-k-preserved : goal.loop-k-preserved
loop-k-preserved c = search (rules, dashes_more)

pub returns : goal.returns
returns c = dashes_end _ _ _ c.sep_kind.result c.loop-k.invariant c.sep_kind.ensures c.eq.ensures c.loop-k-test.false
