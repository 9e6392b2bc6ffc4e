-- `put_place` meets its contract: the place's own field is written, then its name and value, its value, or nothing.
use borrow.Author.Rules.{rules}
use native.Mathlib.Omega.{arith}
use Rattle.command_fields.proofs.PlaceLaws.{byte_inside, place_room, named_fits, named_put, position_fits, position_put, omitted_put}
use Rattle.command_fields.proofs.put_place.Goals as goal

pub put_byte-p-requires : goal.put_byte-p-requires
put_byte-p-requires c = search (rules, place_room)

pub slice_bounds-put_name-count : goal.slice_bounds-put_name-count
slice_bounds-put_name-count c = search (rules, byte_inside)

pub put_name-requires : goal.put_name-requires
put_name-requires c = search (rules, named_fits)

pub returns-then-named : goal.returns-then-named
returns-then-named c = search (rules, named_put)

pub slice_bounds-put_value-count : goal.slice_bounds-put_value-count
slice_bounds-put_value-count c = search (rules, byte_inside)

pub put_value-requires : goal.put_value-requires
put_value-requires c = search (rules, position_fits)

pub returns-then-toks-gt0 : goal.returns-then-toks-gt0
returns-then-toks-gt0 c = search (rules, position_put)

pub returns : goal.returns
returns c = search (rules, omitted_put)

pub overflow_add-result : goal.overflow_add-result
overflow_add-result c = let w = c.requires in omega (arith, (returns-then-named c w.names w.end w.x w.is).0, w.fits)

pub overflow_add-result-then-toks-gt0 : goal.overflow_add-result-then-toks-gt0
overflow_add-result-then-toks-gt0 c = let w = c.requires in omega (arith, (returns-then-toks-gt0 c w.names w.end w.x w.is).0, w.fits)
