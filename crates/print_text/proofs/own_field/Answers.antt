-- A block's field has four bytes.
use borrow.Author.Tests.{eq-eqb, ne_eqb}
use Rattle.print_text.specs.Places.{own_field}
use Rattle.print_text.proofs.own_field.Goals as goal

pub returns-then-tag : goal.returns-then-tag
unfolding own_field
returns-then-tag c = rw (eq-eqb _ _ c.if-tag.true)

pub returns : goal.returns
unfolding own_field
returns c = rw (ne_eqb _ _ c.if-tag.false)
