-- `named_place` meets its contract: the name is what stands before the `=`, and the value what stands behind it.
use borrow.Author.Rules.{rules}
use Rattle.std.proofs.lemmas.Result.{err_from_is_err_and}
use Rattle.read_place.proofs.PlaceLaws.{named_wrong, named_twice, named_fine}
use Rattle.read_place.proofs.named_place.Goals as goal

pub returns-in_err-pieces : goal.returns-in_err-pieces
returns-in_err-pieces c ns w =
    let p = err_from_is_err_and c.from_residual.result c.from_residual.ensures.1 in
    rw (p.1, p.2) (search (rules, named_wrong, c.in_err-pieces.ensures))

pub returns-then-is_twice : goal.returns-then-is_twice
returns-then-is_twice c ns w = search (rules, named_twice, c.in_ok-pieces.ensures)

pub returns : goal.returns
returns c ns w = search (rules, named_fine, c.in_ok-pieces.ensures)
