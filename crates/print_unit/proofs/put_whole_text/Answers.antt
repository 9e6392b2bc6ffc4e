-- Prefix and digits are put one behind the other.
use Rattle.digits.specs.Digits.{whole}
use Rattle.print_unit.proofs.ChainLaws.{both_put, fits_first, fits_next}
use Rattle.print_unit.proofs.TextLaws.{size_from, size_to, whole_text_is}
use Rattle.print_unit.specs.Texts.{prefix_of}
use Rattle.print_unit.proofs.put_whole_text.Goals as goal

pub put_prefix-start-requires : goal.put_prefix-start-requires
put_prefix-start-requires g c =
    let a = c.args in let q = c.size-size.ensures in
    fits_first (prefix_of a.base a.letter) (whole c.size-size.result a.value) (rw (whole_text_is a.base a.letter a.value q) at c.requires)

pub put_whole-requires : goal.put_whole-requires
put_whole-requires g c =
    let a = c.args in let q = c.size-size.ensures in (
      size_from a.letter 0 a.value q,
      size_to a.letter 0 a.value q,
      fits_next (prefix_of a.base a.letter) (whole c.size-size.result a.value) (rw (whole_text_is a.base a.letter a.value q) at c.requires) c.put_prefix-start.ensures,
    )

pub returns : goal.returns
returns g c =
    let a = c.args in rw (whole_text_is a.base a.letter a.value c.size-size.ensures) (both_put (prefix_of a.base a.letter) (whole c.size-size.result a.value) c.put_prefix-start.ensures c.put_whole.ensures)
