-- `read_for` meets its contract: the rules read the letters of the bases first, and then the text.
use borrow.Author.Rules.{rules}
use Rattle.std.proofs.lemmas.Result.{err_from_is_err_and}
use Rattle.reader.proofs.ReadLaws.{read_refused, read_text}
use Rattle.reader.proofs.read_for.Goals as goal

pub returns-in_err-letters : goal.returns-in_err-letters
returns-in_err-letters c =
    let p = err_from_is_err_and c.from_residual.result c.from_residual.ensures.1 in
    rw (p.1, p.2) (search (rules, read_refused, c.in_err-letters.ensures))

pub returns : goal.returns
returns c = search (rules, read_text, c.in_ok-letters.ensures)
