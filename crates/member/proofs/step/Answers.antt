-- `step` meets its contract: each test that fails leaves no step.
use Rattle.member.proofs.TermLaws.{step_few, step_is}
use Prim.Native.Nat.{◌-◌, ◌/◌, ◌<◌}
use native.Mathlib.Omega.{arith}
use borrow.Author.Rules.{rules}
use Rattle.member.proofs.step.Goals as goal

-- no more steps than the value, which has four bytes

pub overflow_cast-result : goal.overflow_cast-result
overflow_cast-result c = omega (arith, (let few_is : (c.args.value - c.args.lower) / c.args.increment < 4294967296 = omega (arith, step_few c.args.lower c.args.upper c.args.increment c.args.value, c.ranges.value) in few_is))

pub overflow_add-result : goal.overflow_add-result
overflow_add-result c = omega (arith, (let few_is : (c.args.value - c.args.lower) / c.args.increment < 4294967296 = omega (arith, step_few c.args.lower c.args.upper c.args.increment c.args.value, c.ranges.value) in few_is))

pub returns : goal.returns
returns c = search (rules, step_is)
