-- `range_term` meets its contract: ends and increment stand where a range has them, and the value in the argument's last four bytes.
use Rattle.member.proofs.TermLaws.{alike_long, term_unlike, term_alike}
use Rattle.order_argument.proofs.TermLaws.{range_long}
use borrow.Author.Rules.{rules}
use Prim.Native.Nat.{◌≤◌}
use native.Mathlib.Omega.{arith}
use lib.ListN.{length}
use Rattle.member.proofs.range_term.Goals as goal

-- a range has its own field and its last unit's

pub overflow_sub-range : goal.overflow_sub-range
overflow_sub-range c = omega (arith, (let long_is : 20 ≤ length c.args.range.now = range_long c.args.range.now c.requires in long_is))

pub number_at-lower-requires : goal.number_at-lower-requires
number_at-lower-requires c = omega (arith, (let long_is : 20 ≤ length c.args.range.now = range_long c.args.range.now c.requires in long_is))

pub number_at-upper-requires : goal.number_at-upper-requires
number_at-upper-requires c = omega (arith, (let long_is : 20 ≤ length c.args.range.now = range_long c.args.range.now c.requires in long_is))

pub number_at-increment-requires : goal.number_at-increment-requires
number_at-increment-requires c = omega (arith, (let long_is : 20 ≤ length c.args.range.now = range_long c.args.range.now c.requires in long_is))

-- what is like a range has a numeral's field at least

pub overflow_sub-argument : goal.overflow_sub-argument
overflow_sub-argument c = omega (arith, (let near_is : 9 ≤ length c.args.argument.now = search (rules, alike_long) in near_is))

pub number_at-value-requires : goal.number_at-value-requires
number_at-value-requires c = omega (arith, (let near_is : 9 ≤ length c.args.argument.now = search (rules, alike_long) in near_is))

pub returns-then-alike : goal.returns-then-alike
returns-then-alike c = search (rules, term_alike)

pub returns : goal.returns
returns c = search (rules, term_unlike)
