-- The tag tells a numeral from a word, as in the text of the bytes; the field of a numeral has its size.
use native.Mathlib.Omega.{arith}
use Rattle.print_unit.proofs.UnitLaws.{as_numeral, as_word}
use Rattle.print_unit.proofs.put_any.Goals as goal

pub bounds-part-3 : goal.bounds-part-3
bounds-part-3 g c = omega (arith, c.requires.0.numeral c.if-part.true)

pub bounds-part-4 : goal.bounds-part-4
bounds-part-4 g c = omega (arith, c.requires.0.numeral c.if-part.true)

pub number_at-requires : goal.number_at-requires
number_at-requires g c = omega (arith, c.requires.0.numeral c.if-part.true)

pub put_numeral_text-requires : goal.put_numeral_text-requires
put_numeral_text-requires g c =
    let a = c.args in
    (c.requires.0.few c.if-part.true, rw (as_numeral a.base a.part.now c.if-part.true c.number_at.ensures) at c.requires.1)

pub returns-then-part : goal.returns-then-part
returns-then-part g c =
    let a = c.args in rw (as_numeral a.base a.part.now c.if-part.true c.number_at.ensures) c.put_numeral_text.ensures

pub put_word-requires : goal.put_word-requires
put_word-requires g c = let a = c.args in rw (as_word a.base a.part.now c.if-part.false) at c.requires.1

pub returns : goal.returns
returns g c = let a = c.args in rw (as_word a.base a.part.now c.if-part.false) c.put_word.ensures
