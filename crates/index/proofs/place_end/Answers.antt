-- `place_end` meets its contract: behind a place's own field stand its name and its value, and nothing more of their tags.
use borrow.Author.Rules.{rules}
use native.Mathlib.Omega.{arith}
use Rattle.index.proofs.RowLaws.{stands_whole, stands_fits, ends_at}
use Rattle.index.proofs.place_end.Goals as goal

pub overflow_add-at : goal.overflow_add-at
overflow_add-at c = omega (arith, stands_fits c.requires)

pub run_end-requires : goal.run_end-requires
run_end-requires c = search (rules, stands_whole)

pub returns : goal.returns
returns c = search (rules, ends_at)
