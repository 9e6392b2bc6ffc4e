-- `elements` meets its contract: a value of one unit is one element of one argument.
use Rattle.read_elements.proofs.WalkLaws.{one_answer}
use borrow.Author.Rules.{rules}
use Rattle.read_elements.proofs.elements.Goals as goal

pub returns-then-toks-eq1 : goal.returns-then-toks-eq1
returns-then-toks-eq1 c = search (rules, one_answer)
