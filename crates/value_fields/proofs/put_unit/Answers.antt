-- `put_unit` meets its contract: a token's content is the unit's.
use borrow.Author.Rules.{rules}
use Rattle.value_fields.proofs.BytesLaws.{skipped, word_len, word_room, word_over, string_len, string_room, string_over}
use Rattle.value_fields.proofs.put_unit.Goals as goal

pub put_unit-requires : goal.put_unit-requires
put_unit-requires c = search (rules, skipped, word_room)

pub returns-in-Word : goal.returns-in-Word
returns-in-Word c = search (rules, word_len, word_over)

pub put_field-requires : goal.put_field-requires
put_field-requires c = search (rules, string_room)

pub returns-in_default : goal.returns-in_default
returns-in_default c = search (rules, string_len, string_over)
