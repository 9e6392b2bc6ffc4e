-- `readable` meets its contract: at every turn the rest of the tokens has the verdict of the whole.
use mathlib.Core.Path.{◌≡◌}
use lib.ListN.{drop}
use Rattle.read_value.specs.Passes.{units_verdict}
use Rattle.read_value.proofs.readable.Given as goal

abbrev pub invariant-loop-t : goal.invariant-loop-t
invariant-loop-t l = units_verdict l.base l.contents l.toks ≡ units_verdict l.base l.contents (drop l.t-index l.toks)
