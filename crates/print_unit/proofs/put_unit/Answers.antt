-- What is no decimal digit under D is left to the writer of any unit; a digit is its own character.
use borrow.Author.Rules.{rules}
use mathlib.Core.Path.{refl}
use native.Mathlib.Omega.{arith}
use Rattle.print_unit.proofs.UnitLaws.{any_fits, digit_put, digit_room, put_is, sized_is}
use Rattle.print_unit.proofs.put_unit.Goals as goal

pub put_any-requires : goal.put_any-requires
put_any-requires g c = any_fits refl c.requires

pub returns-then-base-ne68 : goal.returns-then-base-ne68
returns-then-base-ne68 g c = put_is refl c.args.part.now c.put_any.ensures

pub bounds-part-0 : goal.bounds-part-0
bounds-part-0 g c = omega (arith, (sized_is c.requires.has).least)

pub number_at-requires : goal.number_at-requires
number_at-requires g c = omega (arith, (sized_is c.requires.has).numeral c.if-part.true)

pub number_at-value-requires : goal.number_at-value-requires
number_at-value-requires g c = omega (arith, (sized_is c.requires.has).numeral c.if-part.true)

-- the text is the digit, and there is room for it

pub put_u8-requires : goal.put_u8-requires
put_u8-requires g c =
    digit_room (λ i. omega (arith, c.type_inv.part i)) c.if-base-ne68.false c.if-part.true c.number_at.ensures c.if-number_at-eq-SMALL_DECIMAL.true
    c.number_at-value.ensures c.if-value-lt-TEN.true c.requires

pub returns-then-value-lt-TEN : goal.returns-then-value-lt-TEN
returns-then-value-lt-TEN g c =
    digit_put (λ i. omega (arith, c.type_inv.part i)) c.if-base-ne68.false c.if-part.true c.number_at.ensures c.if-number_at-eq-SMALL_DECIMAL.true
    c.number_at-value.ensures c.if-value-lt-TEN.true c.put_u8.ensures

pub put_any-requires-2 : goal.put_any-requires-2
put_any-requires-2 g c = any_fits c.if-base-ne68.false c.requires

pub returns : goal.returns
returns g c = search (rules, put_is)
