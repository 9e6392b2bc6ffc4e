-- What is stored from the start on is the text over the buffer.
use native.Mathlib.Omega.{arith}
use Rattle.print_text.proofs.CommandLaws.{text_written}
use Rattle.print_text.specs.Texts.{text_of}
use Rattle.print_text.proofs.put_text.Goals as goal

pub put_all-requires : goal.put_all-requires
put_all-requires c = (c.requires.0, record { room = omega (arith, c.requires.1) })

pub returns : goal.returns
returns c = let a = c.args in text_written (text_of a.rec.now) a.out.now c.requires.1 c.put_all.ensures
