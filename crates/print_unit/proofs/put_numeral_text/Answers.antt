-- Prefix and number are put one behind the other.
use Rattle.print_unit.proofs.ChainLaws.{both_put, fits_first, fits_next}
use Rattle.print_unit.specs.Texts.{number_text, numeral_text, prefix_of}
use Rattle.print_unit.proofs.put_numeral_text.Goals as goal

pub put_prefix-p-requires : goal.put_prefix-p-requires
unfolding numeral_text
put_prefix-p-requires g c = let a = c.args in fits_first (prefix_of a.base a.letter) (number_text a.letter a.fraction a.value) c.requires.1

pub put_number-requires : goal.put_number-requires
unfolding numeral_text
put_number-requires g c =
    let a = c.args in (c.requires.0, fits_next (prefix_of a.base a.letter) (number_text a.letter a.fraction a.value) c.requires.1 c.put_prefix-p.ensures)

pub returns : goal.returns
unfolding numeral_text
returns g c = let a = c.args in both_put (prefix_of a.base a.letter) (number_text a.letter a.fraction a.value) c.put_prefix-p.ensures c.put_number.ensures
