-- `stands` meets its contract: what is told from here is told from the start, since each turn passes over one place of another name.
use Rattle.judge_names.proofs.StandLaws.{Standing}
use lib.ListN.{length}
use Prim.Native.Nat.{◌-◌}
use Rattle.judge_names.proofs.stands.Given as goal

abbrev pub invariant-loop-at : goal.invariant-loop-at
invariant-loop-at l = Standing l.places l.name l.at

abbrev pub decreases-loop-at : goal.decreases-loop-at
decreases-loop-at l = length l.places - l.at
