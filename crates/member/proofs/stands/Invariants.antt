-- `stands` meets its contract: each turn reads one unit, at most four, and nothing is left at the end.
use Prim.Native.Nat.{◌-◌}
use lib.ListN.{length}
use Rattle.rules.specs.Units.{base_at}
use Rattle.member.proofs.GivenLaws.{Judging}
use Rattle.member.proofs.stands.Given as goal

abbrev pub invariant-loop-at : goal.invariant-loop-at
invariant-loop-at l = Judging (base_at l.base) l.argument l.at l.left

abbrev pub decreases-loop-at : goal.decreases-loop-at
decreases-loop-at l = length l.argument - l.at
