-- `console_figures::letters::keep_base` meets its contract, by the three ways that it can end.
-- Assumes nothing.
use Rattle.console_figures.proofs.LettersLaws.{keeps_other, keeps_full, keeps_one}
use Rattle.console_figures.proofs.letters.keep_base.Goals as goal

pub returns-then-rec-at : goal.returns-then-rec-at
returns-then-rec-at c = keeps_other c.args.bases.now c.args.rec.now c.args.at c.args.n c.if-rec-at.true

pub returns-then-bases-n : goal.returns-then-bases-n
returns-then-bases-n c = keeps_full c.args.bases.now c.args.rec.now c.args.at c.args.n c.if-bases-n.true

pub returns : goal.returns
returns c = keeps_one c.args.bases.now c.args.rec.now c.args.at c.args.n c.byte.ensures c.if-rec-at.false c.if-bases-n.false
