-- `put_term` meets its contract: three writers, each lent the buffer from where the one before ended.
use borrow.Author.Rules.{rules}
use Rattle.order_argument.proofs.TermLaws.{range_sizes, term_over}
use Rattle.laws.specs.Over.{length_part}
use native.Mathlib.Omega.{arith}
use lib.ListN.{length-take, length-drop}
use Rattle.order_argument.proofs.put_term.Goals as goal

pub put_bytes-requires : goal.put_bytes-requires
put_bytes-requires c =
    omega (arith, range_sizes c.args.range.now c.args.value c.requires.0, length_part c.put_field-first.new.out c.put_field-first.result)

pub put_numeral-requires : goal.put_numeral-requires
put_numeral-requires c =
    simp (length-take, length-drop) (omega (arith, (range_sizes c.args.range.now c.args.value c.requires.0).range, (range_sizes c.args.range.now c.args.value c.requires.0).term))

pub returns : goal.returns
returns c = (omega (arith, range_sizes c.args.range.now c.args.value c.requires.0), search (rules, term_over))
