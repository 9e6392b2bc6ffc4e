-- `ranged` meets its contract: both ends together decide as the rule's ends do.
use borrow.Author.Rules.{rules}
use native.Mathlib.Omega.{arith}
use mathlib.Core.Path.{refl}
use Rattle.read_joins.proofs.GroupLaws.{inner_room}
use Rattle.read_elements.proofs.ElementLaws.{ran_both, ran_apart}
use Rattle.read_elements.proofs.ranged.Goals as goal

pub returns-in-Some : goal.returns-in-Some
returns-in-Some c = search (rules, ran_both, c.in-Some.ensures)

pub returns-in-None : goal.returns-in-None
returns-in-None c = search (rules, ran_apart)

pub overflow_sub-n : goal.overflow_sub-n
overflow_sub-n c = let a = c.args in omega (arith, (inner_room a.toks.now a.n refl refl c.requires).0)
