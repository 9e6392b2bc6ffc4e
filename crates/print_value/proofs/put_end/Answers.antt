-- Upper end and increment stand in the range's field, the base in its lower end.
use native.Mathlib.Omega.{arith}
use Rattle.print_unit.proofs.ChainLaws.{nothing_put}
use Rattle.print_value.proofs.EndLaws.{end_none, end_some}
use Rattle.print_value.proofs.put_end.Goals as goal

pub returns-then-rec-own : goal.returns-then-rec-own
returns-then-rec-own g c =
    let a = c.args in rw (end_none a.rec.now a.own a.first a.last a.base c.if-rec-own.true) (nothing_put g.S.Sink.way a.out.now a.at)

-- a range's field and its lower end stand there

pub overflow_add-last : goal.overflow_add-last
overflow_add-last g c = omega (arith, c.requires.0.head c.if-rec-own.false, c.requires.0.lower c.if-rec-own.false)

pub bounds-rec-last : goal.bounds-rec-last
bounds-rec-last g c = omega (arith, c.requires.0.head c.if-rec-own.false, c.requires.0.lower c.if-rec-own.false)

pub number_at-requires : goal.number_at-requires
number_at-requires g c = omega (arith, c.requires.0.head c.if-rec-own.false, c.requires.0.lower c.if-rec-own.false)

pub number_at-requires-2 : goal.number_at-requires-2
number_at-requires-2 g c = omega (arith, c.requires.0.head c.if-rec-own.false, c.requires.0.lower c.if-rec-own.false)

-- what is to be put

pub put_range_end-requires : goal.put_range_end-requires
put_range_end-requires g c =
    let a = c.args in rw (end_some a.rec.now a.own a.first a.last a.base c.if-rec-own.false c.number_at.ensures c.number_at-2.ensures) at c.requires.1

pub returns : goal.returns
returns g c =
    let a = c.args in rw (end_some a.rec.now a.own a.first a.last a.base c.if-rec-own.false c.number_at.ensures c.number_at-2.ensures) c.put_range_end.ensures
