-- `after` meets its contract: the length stands behind the tag, and since the record is whole the field ends inside.
use borrow.Author.Rules.{rules}
use Rattle.record_walk.proofs.RunLaws.{after_none, after_some, header_inside, whole_after}
use Prim.Native.Nat.{◌+◌, ◌≤◌}
use lib.ListN.{length}
use native.Mathlib.Omega.{arith}
use Rattle.record_walk.proofs.after.Goals as goal

pub bounds-rec-at : goal.bounds-rec-at
bounds-rec-at c = let inside : c.args.at + 3 ≤ length c.args.rec.now = search (rules, header_inside) in omega arith

pub bounds-rec-at-then-at-rec : goal.bounds-rec-at-then-at-rec
bounds-rec-at-then-at-rec c = let inside : c.args.at + 3 ≤ length c.args.rec.now = search (rules, header_inside) in omega arith

pub overflow_add-result : goal.overflow_add-result
overflow_add-result c =
    let a = c.args in
    omega (arith, after_some a.rec.now a.at c.field_end.ensures c.if-at-rec.true, (whole_after c.requires).inside)

pub returns-then-at-rec : goal.returns-then-at-rec
returns-then-at-rec c = search (rules, after_some)

pub returns-else-at-rec : goal.returns-else-at-rec
returns-else-at-rec c = search (rules, after_none)
