-- The writer of each kind leaves the field of that kind.
use borrow.Author.Rules.{rules}
use Rattle.fields.proofs.UnitLaws.{numeral_len, numeral_room, numeral_over, keyed_inside, keyed_len, keyed_room, keyed_over, identifier_size, symbolic_size, whole_len, whole_room, identifier_over, symbolic_over}
use Rattle.fields.specs.Units.{unit_bytes}
use Rattle.fields.proofs.put_unit.Goals as goal

pub put_numeral-requires : goal.put_numeral-requires
put_numeral-requires c = search (rules, numeral_room)

pub slice_bounds-put_keyed-count : goal.slice_bounds-put_keyed-count
slice_bounds-put_keyed-count c = search (rules, keyed_inside)

pub put_keyed-requires : goal.put_keyed-requires
put_keyed-requires c = search (rules, keyed_room)

pub put_field-requires : goal.put_field-requires
put_field-requires c = search (rules, whole_room, identifier_size)

pub put_field-requires-in-Symbolic : goal.put_field-requires-in-Symbolic
put_field-requires-in-Symbolic c = search (rules, whole_room, symbolic_size)

pub returns-in-Numeral : goal.returns-in-Numeral
returns-in-Numeral c = search (rules, numeral_len, numeral_over)

pub returns-in-Keyed : goal.returns-in-Keyed
returns-in-Keyed c = search (rules, keyed_len, keyed_over)

pub returns-in-Identifier : goal.returns-in-Identifier
returns-in-Identifier c = search (rules, whole_len, identifier_size, identifier_over)

pub returns-in-Symbolic : goal.returns-in-Symbolic
returns-in-Symbolic c = search (rules, whole_len, symbolic_size, symbolic_over)

pub returns-in_default : goal.returns-in_default
unfolding unit_bytes
returns-in_default c = search rules
