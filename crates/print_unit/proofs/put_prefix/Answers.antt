-- The prefix is the letter and the mark; with no prefix nothing is put.
use borrow.Author.Tests.{eq-eqb, ne_eqb}
use mathlib.Core.List.{[], ◌∷◌}
use Rattle.rules.specs.Characters.{byte}
use Rattle.print_unit.proofs.ChainLaws.{both_put, fits_first, fits_next, nothing_put}
use Rattle.print_unit.specs.Texts.{prefix_of}
use Rattle.print_unit.proofs.put_prefix.Goals as goal

pub returns-then-base-letter : goal.returns-then-base-letter
unfolding prefix_of
returns-then-base-letter g c = let a = c.args in rw (eq-eqb _ _ c.if-base-letter.true) (nothing_put g.S.Sink.way a.out.now a.at)

pub put_u8-mark-requires : goal.put_u8-mark-requires
unfolding prefix_of
put_u8-mark-requires g c = let a = c.args in fits_first (a.letter ∷ []) (byte "'" ∷ []) (rw (ne_eqb _ _ c.if-base-letter.false) at c.requires)

pub put_u8-requires : goal.put_u8-requires
unfolding prefix_of
put_u8-requires g c =
    let a = c.args in fits_next (a.letter ∷ []) (byte "'" ∷ []) (rw (ne_eqb _ _ c.if-base-letter.false) at c.requires) c.put_u8-mark.ensures

pub returns : goal.returns
unfolding prefix_of
returns g c = let a = c.args in rw (ne_eqb _ _ c.if-base-letter.false) (both_put (a.letter ∷ []) (byte "'" ∷ []) c.put_u8-mark.ensures c.put_u8.ensures)
