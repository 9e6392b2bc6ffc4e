-- `alternates` meets its contract: at every turn the rest of the table has the verdict of the whole.
use borrow.Author.Rules.{rules}
use Rattle.token_table.proofs.AltLaws.{alt_more, alt_stop, alt_short, alt_fine}
use Rattle.token_table.proofs.alternates.Goals as goal

pub loop-t-preserved : goal.loop-t-preserved
loop-t-preserved c = search (rules, alt_more)

pub returns-then-not-fits : goal.returns-then-not-fits
returns-then-not-fits c = search (rules, alt_stop)

pub returns-then-unit : goal.returns-then-unit
returns-then-unit c = search (rules, alt_short)

pub returns : goal.returns
returns c = search (rules, alt_fine)
