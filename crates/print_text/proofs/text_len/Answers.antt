-- A text's length has 32 bits.
use native.Mathlib.Omega.{arith}
use Rattle.print_text.proofs.CommandLaws.{text_measured}
use Rattle.print_text.proofs.text_len.Goals as goal

pub put_all-requires : goal.put_all-requires
put_all-requires c = (c.requires, text_measured c.args.rec.now _ c.requires)

pub returns : goal.returns
returns c = omega (arith, c.put_all.ensures.end)
