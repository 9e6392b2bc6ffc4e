-- `judge_place` meets its contract: its field's letter is a base, and its name and value stand behind the field.
use Rattle.judge_place.proofs.PlaceLaws.{place_inside, place_gone, letter_inside, behind_inside, place_no, place_as}
use borrow.Author.Rules.{rules}
use Rattle.judge_place.proofs.judge_place.Goals as goal

pub field_at-requires : goal.field_at-requires
field_at-requires c = search (rules, place_inside)

pub returns-in_err-field : goal.returns-in_err-field
returns-in_err-field c = rw c.from_residual.ensures (search (rules, place_gone, c.in_err-field.was))

pub bounds-rec-field : goal.bounds-rec-field
bounds-rec-field c = search (rules, letter_inside, c.in_ok-field.was)

pub judge_parts-requires : goal.judge_parts-requires
judge_parts-requires c = search (rules, behind_inside, c.in_ok-field.was)

pub returns-then-is_base : goal.returns-then-is_base
returns-then-is_base c = search (rules, place_as, c.in_ok-field.was)

pub returns : goal.returns
returns c = search (rules, place_no, c.in_ok-field.was)
