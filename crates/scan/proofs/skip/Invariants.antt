-- `skip` meets its contract: each turn passes over a format effector.
use Rattle.scan.proofs.SkipLaws.{Skipping}
use Rattle.scan.proofs.skip.Given as goal

abbrev pub invariant-loop-i : goal.invariant-loop-i
invariant-loop-i l = Skipping l.text l.from l.i
