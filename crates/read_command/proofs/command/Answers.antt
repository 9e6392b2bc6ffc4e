-- `command` meets its contract: the first `;` is where the rules cut, and nothing may stand behind it.
use borrow.Author.Rules.{rules}
use Rattle.read_command.proofs.CommandLaws.{command_open, command_more, command_whole}
use native.Mathlib.Nat.{le_of_lt}
use Rattle.token_table.proofs.FindLaws.{taken}
use Rattle.read_command.proofs.command.Goals as goal

pub returns-then-toks-k : goal.returns-then-toks-k
returns-then-toks-k c = search (rules, command_open)

pub returns-then-k-toks : goal.returns-then-k-toks
returns-then-k-toks c = search (rules, command_more)

pub slice_bounds-segments-end : goal.slice_bounds-segments-end
slice_bounds-segments-end c = search (rules, taken, le_of_lt)

pub returns : goal.returns
returns c = search (rules, command_whole)
