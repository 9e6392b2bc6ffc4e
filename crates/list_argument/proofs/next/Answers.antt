-- `next` meets its contract: the range's next term where it goes on, and else the first argument behind the element.
use borrow.Author.Rules.{rules}
use Rattle.list_argument.proofs.StandingLaws.{stands_order, stands_inside, stands_within, goes_long, next_fits, next_term, behind_value, next_element_lem}
use native.Mathlib.Omega.{arith}
use Rattle.list_argument.proofs.next.Goals as goal

pub slice_bounds-element-count : goal.slice_bounds-element-count
slice_bounds-element-count c = omega (arith, stands_order c.requires.stands)

pub slice_bounds-element-end : goal.slice_bounds-element-end
slice_bounds-element-end c = omega (arith, stands_inside c.requires.stands, stands_within c.requires.stands)

pub number_at-requires : goal.number_at-requires
number_at-requires c = search (rules, goes_long)

pub overflow_add-result : goal.overflow_add-result
overflow_add-result c = search (rules, next_fits)

pub returns-then-goes_on : goal.returns-then-goes_on
returns-then-goes_on c = search (rules, next_term)

pub first-requires : goal.first-requires
first-requires c = search (rules, behind_value)

pub returns : goal.returns
returns c = search (rules, next_element_lem)
