-- `tell_span` meets its contract: a row whose length is a multiple of three has room for three numbers where it has room for one.
use Rattle.judge.proofs.SpanLaws.{told_yes, told_no}
use lib.ListN.{length-set}
use native.Mathlib.Omega.{arith}
use mathlib.Core.Path.{refl}
use borrow.Author.Rules.{rules}
use Rattle.judge.proofs.tell_span.Goals as goal

pub bounds-row-i-then-i-row : goal.bounds-row-i-then-i-row
bounds-row-i-then-i-row c = simp length-set (omega (arith, c.requires.0))

pub bounds-row-i-then-i-row-2 : goal.bounds-row-i-then-i-row-2
bounds-row-i-then-i-row-2 c = simp length-set (omega (arith, c.requires.0))

pub returns-then-i-row : goal.returns-then-i-row
returns-then-i-row c = let a = c.args in told_yes a.row.now a.place a.number a.value a.next refl c.if-i-row.true

pub returns-else-i-row : goal.returns-else-i-row
returns-else-i-row c = search (rules, told_no)
