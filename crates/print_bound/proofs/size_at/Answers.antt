-- The length's high byte is 0, since the content has less than 256 bytes.
use Prim.Native.Nat.{◌+◌}
use Rattle.print_bound.proofs.BoundLaws.{head_room, size_is}
use native.Mathlib.Omega.{arith}
use borrow.Author.Rules.{rules}
use Rattle.print_bound.proofs.size_at.Goals as goal

pub bounds-rec-at : goal.bounds-rec-at
bounds-rec-at c = omega (arith, head_room c.requires)

pub overflow_cast-result : goal.overflow_cast-result
overflow_cast-result c = omega (arith, c.shared_slice_known-1.given (c.args.at + 2))

pub overflow_add-result-2 : goal.overflow_add-result-2
overflow_add-result-2 c = omega (arith, c.shared_slice_known-1.given (c.args.at + 2))

pub returns : goal.returns
returns c = search (rules, size_is)
