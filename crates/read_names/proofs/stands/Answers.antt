-- `stands` meets its contract: up to where the loop stands no place has the name.
use native.Mathlib.Nat.{le_of_lt}
use borrow.Author.Rules.{rules}
use Rattle.token_table.proofs.FindLaws.{found_inside, found_next}
use Rattle.read_names.proofs.NameLaws.{walk_start, walk_found, walk_more, walk_end}
use Rattle.read_names.proofs.stands.Goals as goal

pub loop-i-init : goal.loop-i-init
loop-i-init c = search (rules, walk_start)

pub slice_bounds-same_name-end : goal.slice_bounds-same_name-end
slice_bounds-same_name-end c = search (rules, found_inside, le_of_lt)

pub returns-then-same_name : goal.returns-then-same_name
returns-then-same_name c = search (rules, walk_found)

pub overflow_add-i : goal.overflow_add-i
overflow_add-i c = search (rules, found_next, le_of_lt)

pub loop-i-preserved : goal.loop-i-preserved
loop-i-preserved c = search (rules, walk_more)

pub returns : goal.returns
returns c = search (rules, walk_end)
