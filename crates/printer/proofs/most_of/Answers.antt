-- A short record's text has seven bytes for each of its bytes at most, and any other's has its bound.
use borrow.Author.Rules.{rules}
use Rattle.printer.proofs.AnswerLaws.{short_text, text_within}
use Rattle.printer.proofs.most_of.Goals as goal

pub returns-then-rec-gt-SHORT : goal.returns-then-rec-gt-SHORT
returns-then-rec-gt-SHORT c = search (rules, text_within)

pub returns : goal.returns
returns c = search (rules, short_text)
