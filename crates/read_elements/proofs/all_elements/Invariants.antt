-- `all_elements` meets its contract: at every turn the elements counted and the rules' elements from there on are the whole.
use Rattle.read_elements.proofs.WalkLaws.{Walking}
use Rattle.read_joins.specs.Joins.{joins_in, count}
use Prim.Native.Nat.{◌-◌}
use Rattle.read_elements.proofs.all_elements.Given as goal

abbrev pub invariant-loop-n : goal.invariant-loop-n
invariant-loop-n l = Walking (joins_in l.base l.contents l.toks) l.leads l.n l.count l.args

abbrev pub decreases-loop-n : goal.decreases-loop-n
decreases-loop-n l = count l.toks - l.n
