-- `read_places` meets its contract: up to where the loop stands the places are in the tally, and their names are known.
use Rattle.token_table.proofs.FindLaws.{found_inside, found_next, found_less, taken}
use Rattle.read_command.proofs.TurnLaws.{places_start, place_few, places_more, places_stop, places_end}
use Rattle.std.proofs.lemmas.Result.{err_from_is_err_and}
use borrow.Author.Rules.{rules}
use Rattle.read_command.proofs.read_places.Goals as goal

pub loop-i-init : goal.loop-i-init
loop-i-init c = search (rules, places_start)

pub slice_bounds-place-end : goal.slice_bounds-place-end
slice_bounds-place-end c = search (rules, taken)

pub slice_bounds-place-end-in-loop-i : goal.slice_bounds-place-end-in-loop-i
slice_bounds-place-end-in-loop-i c = search (rules, found_inside)

pub returns-in_err-place : goal.returns-in_err-place
returns-in_err-place c =
    let p = err_from_is_err_and c.from_residual.result c.from_residual.ensures.1 in
    rw (p.1, p.2) (search (rules, places_stop, c.in_err-place.ensures))

pub with_place-t-requires : goal.with_place-t-requires
with_place-t-requires c = search (rules, place_few, c.in_ok-place.ensures)

pub overflow_add-i : goal.overflow_add-i
overflow_add-i c = search (rules, found_next)

pub loop-i-smaller : goal.loop-i-smaller
loop-i-smaller c = search (rules, found_less)

pub loop-i-preserved : goal.loop-i-preserved
loop-i-preserved c = search (rules, places_more, c.in_ok-place.ensures)

pub returns : goal.returns
returns c = search (rules, places_end)
