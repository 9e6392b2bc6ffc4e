-- `step` meets its contract: the next argument stands before the value's end where there is one, and else the first is kept.
use borrow.Author.Rules.{rules}
use Rattle.list.proofs.TurnLaws.{next_start_kept, next_end_kept, steps_on, steps_again}
use native.Mathlib.Omega.{arith}
use Rattle.list.proofs.step.Goals as goal

pub overflow_cast-standing-2 : goal.overflow_cast-standing-2
overflow_cast-standing-2 c = omega (arith, c.slice_known-3-1.given 1)

pub keep-requires : goal.keep-requires
keep-requires c = search (rules, next_start_kept, next_end_kept)

pub returns-then-after-to : goal.returns-then-after-to
returns-then-after-to c = search (rules, steps_on)

pub returns : goal.returns
returns c = search (rules, steps_again)
