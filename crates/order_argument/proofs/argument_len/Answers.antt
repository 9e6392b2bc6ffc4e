-- `argument_len` meets its contract: a range's term is 8 bytes shorter than the range, and any other element stays as it is.
use borrow.Author.Rules.{rules}
use Rattle.order_argument.proofs.TermLaws.{tested_long, valued_long, valued_whole}
use mathlib.Core.Path.{sym, ap}
use Prim.Native.Nat.{◌≤◌}
use lib.ListN.{length}
use native.Mathlib.Omega.{arith}
use Rattle.order_argument.proofs.argument_len.Goals as goal

pub overflow_sub-result : goal.overflow_sub-result
overflow_sub-result c =
    let long : 20 ≤ length c.args.element.now = search (rules, tested_long) in
    omega arith

pub returns-then-is_range : goal.returns-then-is_range
returns-then-is_range c = λ v. search (rules, valued_long)

pub returns-else-is_range : goal.returns-else-is_range
returns-else-is_range c = λ v. ap length (sym (valued_whole c.args.element.now v c.is_range.ensures c.if-is_range.false))
