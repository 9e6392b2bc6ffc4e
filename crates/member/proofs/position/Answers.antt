-- `position` meets its contract: what was passed over, and the position among the elements that are left, are the position among all; no value has more than 4,096 arguments, so nothing wraps.
use Rattle.member.proofs.SeekLaws.{seeking_none, seeking_whole, seeking_part, seeking_long, seeking_found, seeking_most, seeking_fits, seeking_less, seeking_on, seeking_end}
use Rattle.record_walk.proofs.FrontLaws.{Small}
use Prim.Native.Nat.{◌+◌, ◌≤◌}
use native.Mathlib.Omega.{arith}
use borrow.Author.Rules.{rules}
use Rattle.member.proofs.position.Goals as goal

pub loop-at-init : goal.loop-at-init
loop-at-init c = search (rules, seeking_none)

pub element_end-end-requires : goal.element_end-end-requires
element_end-end-requires c = search (rules, seeking_whole)

pub slice_bounds-element-count : goal.slice_bounds-element-count
slice_bounds-element-count c = search (rules, seeking_part)

pub slice_bounds-element-start : goal.slice_bounds-element-start
slice_bounds-element-start c = search (rules, seeking_part)

pub slice_bounds-element-end : goal.slice_bounds-element-end
slice_bounds-element-end c = search (rules, seeking_part)

pub term-term-requires : goal.term-term-requires
term-term-requires c = search (rules, seeking_long)

-- every byte of the argument is below 256

pub overflow_add-result : goal.overflow_add-result
overflow_add-result c = omega (arith, (let most_is : c.loop-at.passed + c.term-term.result ≤ 4096 = search (rules, seeking_most, (let small : Small c.args.argument.now = λ i. omega (arith, c.type_inv.argument i) in small)) in most_is))

pub overflow_cast-result : goal.overflow_cast-result
overflow_cast-result c = omega (arith, (let most_is : c.loop-at.passed + c.term-term.result ≤ 4096 = search (rules, seeking_most, (let small : Small c.args.argument.now = λ i. omega (arith, c.type_inv.argument i) in small)) in most_is))

pub returns-then-term-gt0 : goal.returns-then-term-gt0
returns-then-term-gt0 c = search (rules, seeking_found, (let small : Small c.args.argument.now = λ i. omega (arith, c.type_inv.argument i) in small))

pub overflow_add-passed-in-loop-at : goal.overflow_add-passed-in-loop-at
overflow_add-passed-in-loop-at c = omega (arith, (let fits_is : c.loop-at.passed + (c.more_terms.result + 1) ≤ 4096 = search (rules, seeking_fits, (let small : Small c.args.argument.now = λ i. omega (arith, c.type_inv.argument i) in small)) in fits_is))

pub loop-at-smaller : goal.loop-at-smaller
loop-at-smaller c = search (rules, seeking_less)

pub loop-at-preserved : goal.loop-at-preserved
loop-at-preserved c = search (rules, seeking_on, (let small : Small c.args.argument.now = λ i. omega (arith, c.type_inv.argument i) in small))

pub returns : goal.returns
returns c = search (rules, seeking_end)
