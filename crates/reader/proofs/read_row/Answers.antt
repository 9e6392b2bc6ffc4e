-- `read_row` meets its contract: what was read is the record of a well-formed command with a slot for each of its places, and the row is filled from it.
use borrow.Author.Rules.{rules}
use Rattle.std.proofs.lemmas.Result.{err_from_is_err_and}
use Rattle.reader.proofs.ReadLaws.{row_refused, row_cut, row_fits, row_done}
use Rattle.reader.proofs.read_row.Goals as goal

pub slice_bounds-fill-end : goal.slice_bounds-fill-end
slice_bounds-fill-end c = search (rules, row_cut, c.in_ok-bytes.ensures)

pub slice_bounds-fill-end-2 : goal.slice_bounds-fill-end-2
slice_bounds-fill-end-2 c = search (rules, row_cut, c.in_ok-bytes.ensures)

pub fill-requires : goal.fill-requires
fill-requires c = search (rules, row_fits, c.in_ok-bytes.ensures)

pub returns-in_err-bytes : goal.returns-in_err-bytes
returns-in_err-bytes c =
    let p = err_from_is_err_and c.from_residual.result c.from_residual.ensures.1 in
    rw (p.1, p.2) (search (rules, row_refused, c.in_err-bytes.ensures))

pub returns : goal.returns
returns c = search (rules, row_done, c.in_ok-bytes.ensures)
