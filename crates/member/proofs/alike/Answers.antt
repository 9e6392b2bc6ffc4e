-- `alike` meets its contract: lengths come before bytes.
use Rattle.member.proofs.TermLaws.{alike_longer, alike_is}
use Rattle.order_argument.proofs.TermLaws.{range_long}
use borrow.Author.Rules.{rules}
use Prim.Native.Nat.{◌≤◌}
use native.Mathlib.Omega.{arith}
use mathlib.Core.Path.{sym}
use lib.ListN.{length}
use lib.Seq.{length-take-le}
use Rattle.member.proofs.alike.Goals as goal

-- a range has its own field and its last unit's

pub overflow_sub-range : goal.overflow_sub-range
overflow_sub-range c = omega (arith, (let long_is : 20 ≤ length c.args.range.now = range_long c.args.range.now c.requires in long_is))

pub returns-then-range-argument : goal.returns-then-range-argument
returns-then-range-argument c = search (rules, alike_longer)

pub overflow_sub-end : goal.overflow_sub-end
overflow_sub-end c = omega (arith, (let long_is : 20 ≤ length c.args.range.now = range_long c.args.range.now c.requires in long_is))

pub overflow_sub-same : goal.overflow_sub-same
overflow_sub-same c = omega (arith, (let long_is : 20 ≤ length c.args.range.now = range_long c.args.range.now c.requires in long_is))

pub slice_bounds-eq-count : goal.slice_bounds-eq-count
slice_bounds-eq-count c = omega (arith, (let long_is : 20 ≤ length c.args.range.now = range_long c.args.range.now c.requires in long_is))

pub slice_bounds-eq-start : goal.slice_bounds-eq-start
slice_bounds-eq-start c = omega (arith, (let long_is : 20 ≤ length c.args.range.now = range_long c.args.range.now c.requires in long_is))

pub slice_bounds-eq-end-2 : goal.slice_bounds-eq-end-2
slice_bounds-eq-end-2 c = sym (length-take-le _ _ (omega arith))

pub returns : goal.returns
returns c = search (rules, alike_is)
