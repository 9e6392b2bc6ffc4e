-- A text whose bound fits is written at once; every other way is the measured one.
use borrow.Author.Rules.{rules}
use Rattle.printer.proofs.AnswerLaws.{answer_done}
use Rattle.printer.proofs.print_known.Goals as goal

pub returns-then-most-out : goal.returns-then-most-out
returns-then-most-out c = search (rules, answer_done)
