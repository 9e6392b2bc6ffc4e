-- Each of the two comparisons decides its half of the test.
use borrow.Author.Tests.{eq-eqb, ne_eqb}
use Rattle.print_bound.proofs.is_plain.Goals as goal

pub returns-then-base-letter : goal.returns-then-base-letter
returns-then-base-letter c = rw (eq-eqb _ _ c.if-base-letter.true)

pub returns-else-base-letter : goal.returns-else-base-letter
returns-else-base-letter c = rw (ne_eqb _ _ c.if-base-letter.false)
