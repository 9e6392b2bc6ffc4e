-- `end_before` meets its contract: the last of the three numbers before is where that place ends.
use Rattle.member.proofs.AnswerLaws.{end_behind}
use borrow.Author.Rules.{rules}
use Prim.Native.Nat.{◌-◌}
use native.Mathlib.Omega.{arith}
use Rattle.member.proofs.end_before.Goals as goal

pub overflow_cast-result : goal.overflow_cast-result
overflow_cast-result c = omega (arith, c.shared_slice_known-1.given (c.args.i - 1))

pub returns : goal.returns
returns c = search (rules, end_behind)
