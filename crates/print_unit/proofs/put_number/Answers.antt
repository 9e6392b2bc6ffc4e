-- Without fraction digits the text is the digits of the whole number, else the three pieces.
use native.Mathlib.Omega.{arith}
use Rattle.print_unit.proofs.TextLaws.{is_part, is_whole, size_from, size_to}
use Rattle.print_unit.proofs.put_number.Goals as goal

pub put_whole-requires : goal.put_whole-requires
put_whole-requires g c =
    let a = c.args in let q = c.size-base.ensures in
    (size_from a.letter a.fraction a.value q, size_to a.letter a.fraction a.value q, rw (is_whole a.letter a.fraction a.value q c.if-fraction-eq0.true) at c.requires.1)

pub returns-then-fraction-eq0 : goal.returns-then-fraction-eq0
returns-then-fraction-eq0 g c = let a = c.args in rw (is_whole a.letter a.fraction a.value c.size-base.ensures c.if-fraction-eq0.true) c.put_whole.ensures

pub put_part-requires : goal.put_part-requires
put_part-requires g c =
    let a = c.args in let q = c.size-base.ensures in
    (size_from a.letter a.fraction a.value q, size_to a.letter a.fraction a.value q, omega arith, rw (is_part a.letter a.fraction a.value q c.if-fraction-eq0.false) at c.requires.1)

pub returns : goal.returns
returns g c = let a = c.args in rw (is_part a.letter a.fraction a.value c.size-base.ensures c.if-fraction-eq0.false) c.put_part.ensures
