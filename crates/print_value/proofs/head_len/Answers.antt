-- The tag tells the size: a range's field has eleven bytes, a single element's three.
use borrow.Author.Tests.{eq-eqb, ne_eqb}
use Rattle.print_value.specs.Values.{head_length}
use Rattle.print_value.proofs.head_len.Goals as goal

pub returns-then-tag : goal.returns-then-tag
unfolding head_length
returns-then-tag c = rw (eq-eqb _ _ c.if-tag.true)

pub returns : goal.returns
unfolding head_length
returns c = rw (ne_eqb _ _ c.if-tag.false)
