-- Both refusals are known before a byte is written, and what is written has been measured.
use borrow.Author.Rules.{rules}
use native.Mathlib.Omega.{arith}
use Rattle.print_text.specs.Texts.{text_of}
use Rattle.printer.proofs.AnswerLaws.{answer_long, answer_measured, answer_room}
use Rattle.printer.proofs.print_measured.Goals as goal

pub returns-then-needed-gt-MOST_TEXT : goal.returns-then-needed-gt-MOST_TEXT
returns-then-needed-gt-MOST_TEXT c = let a = c.args in rw c.at.ensures (answer_long (text_of a.rec.now) a.out.now c.text_len-needed.ensures (omega arith))

pub returns-then-out-needed : goal.returns-then-out-needed
returns-then-out-needed c = let a = c.args in rw c.at-then-out-needed.ensures (answer_room (text_of a.rec.now) a.out.now c.text_len-needed.ensures (omega arith) (omega arith))

pub returns : goal.returns
returns c = search (rules, answer_measured)
