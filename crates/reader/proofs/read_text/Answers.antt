-- `read_text` meets its contract: a text that is too long is refused as the rules refuse it, and any other has tables of its length.
use borrow.Author.Rules.{rules}
use Rattle.reader.proofs.ReadLaws.{text_long}
use Rattle.reader.proofs.read_text.Goals as goal

pub returns-then-text-gt-MOST_TEXT : goal.returns-then-text-gt-MOST_TEXT
returns-then-text-gt-MOST_TEXT c = search (rules, text_long)
