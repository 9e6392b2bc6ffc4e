-- `last_end` meets its contract: its tests are those of the definition, and an argument in full ends at the first separator that is no `-`.
use borrow.Author.Rules.{rules}
use native.Mathlib.Omega.{arith}
use mathlib.Core.List.{[]}
use Rattle.read_elements.proofs.ElementLaws.{end_none, end_short, end_full, end_other}
use Rattle.read_elements.proofs.last_end.Goals as goal

pub returns-then-leads-eq0 : goal.returns-then-leads-eq0
returns-then-leads-eq0 c = search (rules, end_none)

pub returns-else-leads-eq0 : goal.returns-else-leads-eq0
returns-else-leads-eq0 c = search (rules, end_short)

pub overflow_sub-k : goal.overflow_sub-k
overflow_sub-k c = omega (arith, c.arg_end-k.ensures 0 [])

pub overflow_sub-k-2 : goal.overflow_sub-k-2
overflow_sub-k-2 c = omega (arith, c.arg_end-k.ensures 0 [])

pub returns-then-k-n : goal.returns-then-k-n
returns-then-k-n c = end_full _ _ _ c.sep_kind.result c.sep_kind.ensures c.eq.ensures c.if-eq.false c.arg_end-k.ensures c.if-k-n.true

pub returns-else-k-n : goal.returns-else-k-n
returns-else-k-n c = end_other _ _ _ c.sep_kind.result c.sep_kind.ensures c.eq.ensures c.if-eq.false c.arg_end-k.ensures c.if-k-n.false
