-- `++` and the increment are put one behind the other; nothing is put for 1.
use mathlib.Core.List.{[], ◌∷◌}
use Rattle.rules.specs.Characters.{byte}
use Rattle.print_unit.proofs.ChainLaws.{nothing_put, three_first, three_put, three_second, three_third}
use Rattle.print_unit.specs.Texts.{numeral_text}
use Rattle.print_value.proofs.EndLaws.{increment_is, increment_none}
use Rattle.print_value.proofs.put_increment.Goals as goal

pub returns-then-increment-eq1 : goal.returns-then-increment-eq1
returns-then-increment-eq1 g c = let a = c.args in rw (increment_none a.base a.letter a.increment c.if-increment-eq1.true) (nothing_put g.S.Sink.way a.out.now a.at)

pub put_u8-second-requires : goal.put_u8-second-requires
put_u8-second-requires g c =
    let a = c.args in
    three_first (byte "+" ∷ []) (byte "+" ∷ []) (numeral_text a.base a.letter 0 a.increment) (rw (increment_is a.base a.letter a.increment c.if-increment-eq1.false) at c.requires)

pub put_u8-number-requires : goal.put_u8-number-requires
put_u8-number-requires g c =
    let a = c.args in
    three_second (byte "+" ∷ []) (byte "+" ∷ []) (numeral_text a.base a.letter 0 a.increment) (rw (increment_is a.base a.letter a.increment c.if-increment-eq1.false) at c.requires)
    c.put_u8-second.ensures

pub put_whole_text-requires : goal.put_whole_text-requires
put_whole_text-requires g c =
    let a = c.args in
    three_third (byte "+" ∷ []) (byte "+" ∷ []) (numeral_text a.base a.letter 0 a.increment) (rw (increment_is a.base a.letter a.increment c.if-increment-eq1.false) at c.requires)
    c.put_u8-second.ensures c.put_u8-number.ensures

pub returns : goal.returns
returns g c =
    let a = c.args in let e = increment_is a.base a.letter a.increment c.if-increment-eq1.false in
    rw e (three_put (byte "+" ∷ []) (byte "+" ∷ []) (numeral_text a.base a.letter 0 a.increment) (rw e at c.requires) c.put_u8-second.ensures c.put_u8-number.ensures c.put_whole_text.ensures)
