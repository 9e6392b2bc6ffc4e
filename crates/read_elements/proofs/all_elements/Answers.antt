-- `all_elements` meets its contract: at every turn the elements counted and the rules' elements from there on are the whole.
use borrow.Author.Rules.{rules}
use Rattle.std.proofs.lemmas.Result.{err_from_is_err_and}
use Rattle.read_elements.proofs.WalkLaws.{walking_none, walking_long, walking_many, walking_bad, walking_more, walking_less, walking_end}
use mathlib.Core.List.{[]}
use native.Mathlib.Omega.{arith}
use Rattle.read_elements.proofs.all_elements.Goals as goal

pub overflow_sub-leads : goal.overflow_sub-leads
overflow_sub-leads c = omega (arith, c.arg_end-leads.ensures 0 [])

pub returns-then-leads-gt-MOST_LEADING : goal.returns-then-leads-gt-MOST_LEADING
returns-then-leads-gt-MOST_LEADING c = search (rules, walking_long)

pub loop-n-init : goal.loop-n-init
loop-n-init c = search (rules, walking_none)

pub returns-then-count-ge-MOST_ELEMENTS : goal.returns-then-count-ge-MOST_ELEMENTS
returns-then-count-ge-MOST_ELEMENTS c = search (rules, walking_many)

pub loop-n-smaller : goal.loop-n-smaller
loop-n-smaller c = walking_less _ _ _ c.loop-n.invariant c.count.ensures c.loop-n-test.true c.in_ok-element.ensures c.next-n.ensures

pub loop-n-preserved : goal.loop-n-preserved
loop-n-preserved c = walking_more _ _ _ c.loop-n.invariant c.count.ensures c.loop-n-test.true c.in_ok-element.ensures (omega arith) c.next-n.ensures c.more.ensures (omega arith)

pub returns-in_err-element : goal.returns-in_err-element
returns-in_err-element c =
    let p = err_from_is_err_and c.from_residual.result c.from_residual.ensures.1 in
    rw (p.1, p.2) (walking_bad _ _ _ c.loop-n.invariant c.count.ensures c.loop-n-test.true c.in_err-element.ensures (omega arith))

pub returns : goal.returns
returns c = search (rules, walking_end)
