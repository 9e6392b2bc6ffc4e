-- The tag decides which of the three bounds it is, and the field there has the length that its tag says.
use borrow.Author.Rules.{rules}
use native.Mathlib.Omega.{arith}
use Rattle.print_bound.proofs.BoundLaws.{content_few, end_few, head_room, other_range, other_string, other_word, range_room}
use Rattle.print_bound.proofs.other_bound.Goals as goal

pub bounds-rec-at : goal.bounds-rec-at
bounds-rec-at c = omega (arith, head_room c.requires)

pub number_at-requires : goal.number_at-requires
number_at-requires c = omega (arith, range_room c.requires c.if-tag.true)

pub number_at-requires-then-tag : goal.number_at-requires-then-tag
number_at-requires-then-tag c = omega (arith, range_room c.requires c.if-tag.true)

pub overflow_add-result : goal.overflow_add-result
overflow_add-result c = omega (arith, end_few c.number_at.result, end_few c.number_at-then-tag.result)

pub overflow_add-result-then-tag-2 : goal.overflow_add-result-then-tag-2
overflow_add-result-then-tag-2 c = omega (arith, content_few c.requires)

pub returns-then-tag : goal.returns-then-tag
returns-then-tag c = search (rules, other_range)

pub returns-then-tag-2 : goal.returns-then-tag-2
returns-then-tag-2 c = search (rules, other_string)

pub returns : goal.returns
returns c = search (rules, other_word)
