-- `segments` meets its contract: the tokens up to the first `:` are the code, those behind it the blocks.
use borrow.Author.Rules.{rules}
use Rattle.std.proofs.lemmas.Result.{err_from_is_err_and}
use Rattle.token_table.proofs.FindLaws.{found_inside, found_next, taken}
use Rattle.read_command.proofs.CommandLaws.{segments_wrong, segments_stop, segments_fine}
use Rattle.read_command.proofs.segments.Goals as goal

pub slice_bounds-code-end : goal.slice_bounds-code-end
slice_bounds-code-end c = search (rules, taken, found_inside)

pub overflow_add-k : goal.overflow_add-k
overflow_add-k c = search (rules, found_next)

pub returns-in_err-pieces : goal.returns-in_err-pieces
returns-in_err-pieces c =
    let p = err_from_is_err_and c.from_residual.result c.from_residual.ensures.1 in
    rw (p.1, p.2) (search (rules, segments_wrong, c.in_err-pieces.ensures))

pub returns-in_err-read_blocks : goal.returns-in_err-read_blocks
returns-in_err-read_blocks c =
    let p = err_from_is_err_and c.from_residual-in_err-read_blocks.result c.from_residual-in_err-read_blocks.ensures.1 in
    rw (p.1, p.2) (search (rules, segments_stop, c.in_ok-pieces.ensures, c.in_err-read_blocks.ensures))

pub returns : goal.returns
returns c = search (rules, segments_fine, c.in_ok-pieces.ensures, c.in_ok-read_blocks.ensures)
