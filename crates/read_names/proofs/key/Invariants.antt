-- `key` meets its contract: the pieces so far are in the key.
use mathlib.Core.Path.{◌≡◌}
use mathlib.Core.Bool.{true}
use Rattle.token_table.specs.Parts.{words_in}
use Rattle.read_names.specs.Names.{name_key}
use Rattle.read_names.proofs.key.Given as goal

abbrev pub invariant-loop-t : goal.invariant-loop-t
invariant-loop-t l = record {
  every_other : l.t-iterator.gap ≡ 1;
  so_far : name_key 0 (words_in true l.contents l.name) ≡ name_key l.key (words_in l.t-iterator.first l.contents l.t-iterator.iter.rest.now);
}
