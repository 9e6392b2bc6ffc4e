-- `put_name` meets its contract: the pieces before the `=` are written, then the value behind them.
use borrow.Author.Rules.{rules}
use native.Mathlib.Nat.{le_of_lt}
use Rattle.token_table.proofs.FindLaws.{taken}
use native.Mathlib.Omega.{arith}
use Rattle.command_fields.proofs.PlaceLaws.{name_past, name_inside, name_behind, name_next, name_scaled, name_room, name_value, name_put}
use Rattle.command_fields.proofs.put_name.Goals as goal

pub slice_bounds-put_pieces-end : goal.slice_bounds-put_pieces-end
slice_bounds-put_pieces-end c = search (rules, taken, le_of_lt, name_inside)

pub put_pieces-p-requires : goal.put_pieces-p-requires
put_pieces-p-requires c = search (rules, name_room)

pub slice_bounds-put_value-count : goal.slice_bounds-put_value-count
slice_bounds-put_value-count c = search (rules, name_past)

pub overflow_add-k : goal.overflow_add-k
overflow_add-k c = search (rules, name_next)

pub offset_bounds-toks-k : goal.offset_bounds-toks-k
offset_bounds-toks-k c = search (rules, name_scaled)

pub slice_bounds-put_value-count-2 : goal.slice_bounds-put_value-count-2
slice_bounds-put_value-count-2 c = search (rules, name_behind)

pub put_value-requires : goal.put_value-requires
put_value-requires c = search (rules, name_value)

pub returns : goal.returns
returns c = search (rules, name_put)

pub overflow_add-result : goal.overflow_add-result
overflow_add-result c = let w = c.requires in omega (arith, (returns c w.base w.names w.end w.x w.own w.is).0, w.fits)

pub slice_bounds-put_value-start : goal.slice_bounds-put_value-start
slice_bounds-put_value-start c = search (rules, name_past)

pub slice_bounds-put_value-start-2 : goal.slice_bounds-put_value-start-2
slice_bounds-put_value-start-2 c = search (rules, name_behind)
