-- `cap` meets its contract: what fits is the size itself, and what does not is more than the largest.
use borrow.Author.Rules.{rules}
use Rattle.token_table.specs.Parts.{capped}
use Rattle.token_table.proofs.cap.Goals as goal

pub returns : goal.returns
unfolding capped
returns c = search rules
