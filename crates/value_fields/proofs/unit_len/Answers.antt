-- `unit_len` meets its contract: a token's content is the unit's.
use borrow.Author.Rules.{rules}
use Rattle.value_fields.proofs.BytesLaws.{skipped, word_len, word_bound, string_len}
use Rattle.value_fields.proofs.unit_len.Goals as goal

pub unit_len-requires : goal.unit_len-requires
unit_len-requires c = search (rules, skipped)

pub returns-in-Word : goal.returns-in-Word
returns-in-Word c = search (rules, word_len, word_bound)

pub returns-in_default : goal.returns-in_default
returns-in_default c = search (rules, string_len)
