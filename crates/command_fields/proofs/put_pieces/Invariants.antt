-- `put_pieces` meets its contract: at every turn the fields written so far stand over the buffer's start, and those of the words from here on fit behind them.
use mathlib.Core.Bool.{true}
use mathlib.Core.Path.{◌≡◌}
use Rattle.token_table.specs.Parts.{words_in}
use Rattle.command_fields.proofs.WritingLaws.{Piecing}
use Rattle.command_fields.proofs.put_pieces.Given as goal

abbrev pub invariant-loop-t : goal.invariant-loop-t
invariant-loop-t l = record {
  every_other : l.t-iterator.gap ≡ 1;
  so_far : Piecing l.tag (words_in true l.contents l.toks) (words_in l.t-iterator.first l.contents l.t-iterator.iter.rest.now) l.initial.out l.k l.out;
}
