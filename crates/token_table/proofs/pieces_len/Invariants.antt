-- `pieces_len` meets its contract: the size so far and the words from here on are the whole, capped, and a size that is capped at each turn is capped at the end.
use Rattle.token_table.specs.Parts.{capped, words_size, words_in}
use mathlib.Core.Bool.{true}
use mathlib.Core.Path.{◌≡◌}
use Prim.Native.Nat.{◌+◌, ◌≤◌}
use Rattle.token_table.proofs.pieces_len.Given as goal

abbrev pub invariant-loop-t : goal.invariant-loop-t
invariant-loop-t l = record {
  every_other : l.t-iterator.gap ≡ 1;
  so_far : capped (words_size (words_in true l.contents l.toks)) ≡ capped (l.size + words_size (words_in l.t-iterator.first l.contents l.t-iterator.iter.rest.now));
  held : l.size ≤ 4294967295;
}
