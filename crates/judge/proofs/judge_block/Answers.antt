-- `judge_block` meets its contract: its field's letter is a kind, and its places stand behind the field.
use Rattle.judge.proofs.BlocksLaws.{block_inside, block_gone, kind_inside, behind_inside, block_no, block_as}
use borrow.Author.Rules.{rules}
use Rattle.judge.proofs.judge_block.Goals as goal

pub field_at-requires : goal.field_at-requires
field_at-requires c = search (rules, block_inside)

pub returns-in_err-field : goal.returns-in_err-field
returns-in_err-field c = rw c.from_residual.ensures (search (rules, block_gone, c.in_err-field.was))

pub bounds-rec-field : goal.bounds-rec-field
bounds-rec-field c = search (rules, kind_inside, c.in_ok-field.was)

pub judge_places-requires : goal.judge_places-requires
judge_places-requires c = search (rules, behind_inside, c.in_ok-field.was)

pub returns-then-is_kind : goal.returns-then-is_kind
returns-then-is_kind c = search (rules, block_as, c.in_ok-field.was)

pub returns : goal.returns
returns c = search (rules, block_no, c.in_ok-field.was)
