-- Whole digits, full stop and fraction digits are put one behind the other.
use mathlib.Core.List.{[], ◌∷◌}
use native.Mathlib.Omega.{arith}
use Rattle.rules.specs.Characters.{byte}
use Rattle.digits.specs.Digits.{fixed, whole}
use Rattle.print_unit.proofs.ChainLaws.{three_first, three_put, three_second, three_third}
use Rattle.print_unit.proofs.TextLaws.{part_is}
use Rattle.print_unit.proofs.put_part.Goals as goal

pub put_whole-stop-requires : goal.put_whole-stop-requires
put_whole-stop-requires g c =
    let a = c.args in let e = part_is a.k a.base a.n c.before_stop.ensures in
    (omega arith, omega arith, three_first (whole a.base c.before_stop.result) (byte "." ∷ []) (fixed a.k a.base a.n) (rw e at c.requires.3))

pub put_u8-behind-requires : goal.put_u8-behind-requires
put_u8-behind-requires g c =
    let a = c.args in let e = part_is a.k a.base a.n c.before_stop.ensures in
    three_second (whole a.base c.before_stop.result) (byte "." ∷ []) (fixed a.k a.base a.n) (rw e at c.requires.3) c.put_whole-stop.ensures

pub put_digits-requires : goal.put_digits-requires
put_digits-requires g c =
    let a = c.args in let e = part_is a.k a.base a.n c.before_stop.ensures in
    let left = three_third (whole a.base c.before_stop.result) (byte "." ∷ []) (fixed a.k a.base a.n) (rw e at c.requires.3) c.put_whole-stop.ensures c.put_u8-behind.ensures in
    (omega arith, omega arith, record { room = omega (arith, left.room, c.put_u8-behind.ensures.end) })

pub returns : goal.returns
returns g c =
    let a = c.args in let e = part_is a.k a.base a.n c.before_stop.ensures in
    let put = three_put (whole a.base c.before_stop.result) (byte "." ∷ []) (fixed a.k a.base a.n) (rw e at c.requires.3) c.put_whole-stop.ensures c.put_u8-behind.ensures c.put_digits.ensures in
    rw e (record { end = omega (arith, put.end); is = put.is })
