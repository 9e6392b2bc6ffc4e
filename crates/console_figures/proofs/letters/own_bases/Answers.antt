-- `console_figures::letters::own_bases` meets its contract: the letters that are stored and those of the fields from here on are all of them.
-- Assumes nothing.
use borrow.Author.Rules.{rules}
use Rattle.console_figures.proofs.LettersLaws.{found_none, found_end, found_more}
use Rattle.console_figures.proofs.letters.own_bases.Goals as goal

pub loop-at-init : goal.loop-at-init
loop-at-init c = search (rules, found_none)

pub loop-at-preserved : goal.loop-at-preserved
loop-at-preserved c = search (rules, found_more)

pub returns : goal.returns
returns c = found_end c.loop-at.invariant c.loop-at-test.false
