-- `ordered` meets its contract: its test is the rule's.
use borrow.Author.Rules.{rules}
use native.Mathlib.Omega.{arith}
use mathlib.Core.Path.{refl}
use Rattle.read_joins.proofs.GroupLaws.{inner_room}
use Rattle.read_elements.proofs.ElementLaws.{ord_yes, ord_bad}
use Rattle.read_elements.proofs.ordered.Goals as goal

pub returns-then-ends : goal.returns-then-ends
returns-then-ends c = search (rules, ord_yes)

pub returns : goal.returns
returns c = search (rules, ord_bad)

pub overflow_add-at : goal.overflow_add-at
overflow_add-at c = let a = c.args in omega (arith, (inner_room a.toks.now a.at refl refl c.requires).1)
