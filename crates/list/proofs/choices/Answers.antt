-- `choices` meets its contract: a place without arguments counts one.
use Rattle.judge.specs.Blocks.{counted}
use borrow.Author.Tests.{eq-eqb, ne_eqb}
use Rattle.list.proofs.choices.Goals as goal

pub returns-then-number-eq0 : goal.returns-then-number-eq0
unfolding counted
returns-then-number-eq0 c = rw (eq-eqb _ _ c.if-number-eq0.true)

pub returns : goal.returns
unfolding counted
returns c = rw (ne_eqb _ _ c.if-number-eq0.false)
