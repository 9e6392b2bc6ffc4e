-- `part` meets its contract: the answer's length from the slot on is that place's fields, and lies in the record.
use borrow.Author.Rules.{rules}
use native.Mathlib.Omega.{arith}
use Rattle.place_part.proofs.PartLaws.{handed_slot, handed_small, handed_inside, hands_part, hands_none}
use Rattle.place_part.proofs.part.Goals as goal

pub returns-in_default : goal.returns-in_default
returns-in_default c = hands_none _ _ _ c.place.ensures c.in_default.is (search rules) (search rules) (omega arith)

pub start-from-requires : goal.start-from-requires
start-from-requires c = search (rules, handed_slot)

pub overflow_add-to : goal.overflow_add-to
overflow_add-to c = search (rules, handed_small)

pub slice_bounds-result-count-2 : goal.slice_bounds-result-count-2
slice_bounds-result-count-2 c = search (rules, handed_inside)

pub slice_bounds-result-start-2 : goal.slice_bounds-result-start-2
slice_bounds-result-start-2 c = search (rules, handed_inside)

pub slice_bounds-result-end-2 : goal.slice_bounds-result-end-2
slice_bounds-result-end-2 c = search (rules, handed_inside)

pub returns : goal.returns
returns c =
    hands_part _ _ _ c.place.ensures c.in-Ok.is c.start-from.ensures (search rules) (search rules) (omega arith)
