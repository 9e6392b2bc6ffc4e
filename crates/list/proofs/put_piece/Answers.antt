-- `put_piece` meets its contract: the length is written before the order that stands behind it.
use borrow.Author.Rules.{rules}
use Prim.Native.Nat.{◌≤◌}
use lib.ListN.{length}
use Rattle.rules.specs.Listing.{length_size}
use Rattle.list.proofs.PieceLaws.{piece_over}
use Rattle.list.proofs.put_piece.Goals as goal

pub returns : goal.returns
returns c =
    let a = c.args in
    let h : length_size ≤ length a.out.now = search rules in
    let e = c.put_order-len.ensures in
    (search rules, piece_over a.rec.now a.row.now a.at.now a.out.now h e.0 e.1 c.put_length.ensures)
