-- `stepped` meets its contract: an increment is a numeral of the base that is not 0.
use borrow.Author.Rules.{rules}
use native.Mathlib.Omega.{arith}
use mathlib.Core.Path.{refl, sym}
use mathlib.Core.Bool.{false}
use Rattle.read_joins.proofs.GroupLaws.{inner_room}
use Rattle.read_joins.proofs.EndLaws.{step_least}
use Rattle.read_elements.proofs.ElementLaws.{stepped_bad, stepped_more}
use Rattle.read_elements.proofs.stepped.Goals as goal

pub no_more-requires : goal.no_more-requires
no_more-requires c = (c.requires.0, step_least c.args.ends.size c.end_of-step.result _ (sym c.in-Some.ensures))

pub returns-in-Some : goal.returns-in-Some
returns-in-Some c = search (rules, stepped_more, c.in-Some.ensures)

pub returns-in-None : goal.returns-in-None
returns-in-None c = search (rules, stepped_bad)

pub overflow_add-at : goal.overflow_add-at
overflow_add-at c = let a = c.args in omega (arith, (inner_room a.toks.now a.at {k = 4} {f = false} (sym c.requires.1) refl refl).1)
