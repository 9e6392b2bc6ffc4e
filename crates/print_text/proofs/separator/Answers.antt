-- A block begins with `:`.
use borrow.Author.Tests.{eq-eqb, ne_eqb}
use Rattle.print_text.specs.Places.{separator_at}
use Rattle.print_text.proofs.separator.Goals as goal

pub returns-then-tag : goal.returns-then-tag
unfolding separator_at
returns-then-tag c = rw (eq-eqb _ _ c.if-tag.true)

pub returns : goal.returns
unfolding separator_at
returns c = rw (ne_eqb _ _ c.if-tag.false)
