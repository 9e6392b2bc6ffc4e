-- What is put and what the rest will put are the whole text.
use Rattle.print_unit.proofs.StringLaws.{Doubling}
use Rattle.print_unit.proofs.put_doubled.Given as goal

abbrev pub invariant-loop-b : goal.invariant-loop-b
invariant-loop-b g l = Doubling g.S.Sink.way l.initial.out l.content l.initial.at l.out l.at l.b-index
