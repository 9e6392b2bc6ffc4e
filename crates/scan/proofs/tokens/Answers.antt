-- `tokens` meets its contract: its tests are those of the rule `scan`, in the same order.
use native.Mathlib.Omega.{arith}
use borrow.Author.Rules.{rules}
use Rattle.scan.proofs.RunLaws.{refuses}
use Rattle.scan.proofs.WholeLaws.{whole_long, whole_place, whole_off, whole_fill}
use Rattle.scan.proofs.tokens.Goals as goal

pub returns-then-text-gt-MOST_TEXT : goal.returns-then-text-gt-MOST_TEXT
returns-then-text-gt-MOST_TEXT c = search (rules, refuses, whole_long)

pub overflow_cast-place : goal.overflow_cast-place
overflow_cast-place c = omega (arith, whole_place c.args.text.now (omega arith) c.first_off.ensures c.in-Some.place c.in-Some.is)

pub returns-in-Some : goal.returns-in-Some
returns-in-Some c = search (rules, refuses, whole_off)

pub returns : goal.returns
returns c = search (rules, whole_fill)
