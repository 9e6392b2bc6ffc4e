-- The tag tells the kind of word, and each kind has its writer.
use borrow.Author.Tests.{eq-eqb, ne_eqb}
use Rattle.print_unit.specs.Units.{word_text}
use Rattle.print_unit.proofs.put_word.Goals as goal

pub put_string-requires : goal.put_string-requires
unfolding word_text
put_string-requires g c = rw (eq-eqb _ _ c.if-tag.true) at c.requires

pub returns-then-tag : goal.returns-then-tag
unfolding word_text
returns-then-tag g c = rw (eq-eqb _ _ c.if-tag.true) c.put_string.ensures

pub put_keyed_text-requires : goal.put_keyed_text-requires
unfolding word_text
put_keyed_text-requires g c = rw (ne_eqb _ _ c.if-tag.false, eq-eqb _ _ c.if-tag-2.true) at c.requires

pub returns-then-tag-2 : goal.returns-then-tag-2
unfolding word_text
returns-then-tag-2 g c = rw (ne_eqb _ _ c.if-tag.false, eq-eqb _ _ c.if-tag-2.true) c.put_keyed_text.ensures

pub put_bytes-requires : goal.put_bytes-requires
unfolding word_text
put_bytes-requires g c = rw (ne_eqb _ _ c.if-tag.false, ne_eqb _ _ c.if-tag-2.false) at c.requires

pub returns : goal.returns
unfolding word_text
returns g c = rw (ne_eqb _ _ c.if-tag.false, ne_eqb _ _ c.if-tag-2.false) c.put_bytes.ensures
