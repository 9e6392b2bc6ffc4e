-- Separator, upper end and increment are put one behind the other.
use Rattle.print_unit.proofs.ChainLaws.{three_first, three_put, three_second, three_third}
use Rattle.print_unit.specs.Texts.{numeral_text}
use Rattle.print_value.specs.Values.{increment_text, range_end, through_text}
use Rattle.print_value.proofs.put_range_end.Goals as goal

pub put_through-p-requires : goal.put_through-p-requires
unfolding range_end
put_through-p-requires g c =
    let a = c.args in three_first (through_text a.compound) (numeral_text a.base a.letter 0 a.upper) (increment_text a.base a.letter a.increment) c.requires

pub put_whole_text-q-requires : goal.put_whole_text-q-requires
unfolding range_end
put_whole_text-q-requires g c =
    let a = c.args in three_second (through_text a.compound) (numeral_text a.base a.letter 0 a.upper) (increment_text a.base a.letter a.increment) c.requires c.put_through-p.ensures

pub put_increment-requires : goal.put_increment-requires
unfolding range_end
put_increment-requires g c =
    let a = c.args in
    three_third (through_text a.compound) (numeral_text a.base a.letter 0 a.upper) (increment_text a.base a.letter a.increment) c.requires c.put_through-p.ensures c.put_whole_text-q.ensures

pub returns : goal.returns
unfolding range_end
returns g c =
    let a = c.args in
    three_put (through_text a.compound) (numeral_text a.base a.letter 0 a.upper) (increment_text a.base a.letter a.increment) c.requires c.put_through-p.ensures c.put_whole_text-q.ensures
    c.put_increment.ensures
