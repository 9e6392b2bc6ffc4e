-- `put_command` meets its contract: the head is written, then the rule's command behind it, which is the tokens before the `;`; of a command that is read that is the last token.
use borrow.Author.Rules.{rules}
use native.Mathlib.Omega.{arith}
use Rattle.token_table.proofs.FindLaws.{taken}
use Rattle.command_fields.proofs.BlockLaws.{command_some, command_inside, command_segments, command_put}
use Rattle.command_fields.proofs.put_command.Goals as goal

pub overflow_sub-end : goal.overflow_sub-end
overflow_sub-end c = search (rules, command_some)

pub slice_bounds-put_segments-end-2 : goal.slice_bounds-put_segments-end-2
slice_bounds-put_segments-end-2 c = search (rules, taken, command_inside)

pub put_segments-requires : goal.put_segments-requires
put_segments-requires c = search (rules, command_segments)

pub returns : goal.returns
returns c = search (rules, command_put)

pub overflow_add-result : goal.overflow_add-result
overflow_add-result c = let w = c.requires in omega (arith, (returns c w.end w.c w.is).0, w.fits)
