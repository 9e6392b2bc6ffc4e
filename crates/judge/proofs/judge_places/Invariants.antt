-- `judge_places` meets its contract: a place stands first, each turn reads one more, whose name is new, and the first that does not fit refuses all.
use Prim.Native.Nat.{◌-◌}
use Rattle.judge.proofs.PlacesLaws.{PlacesRead}
use Rattle.judge.proofs.judge_places.Given as goal

abbrev pub invariant-loop-marks : goal.invariant-loop-marks
invariant-loop-marks l =
    PlacesRead l.named l.rec l.from l.before l.orders l.initial.row l.row l.at l.places l.total l.marks

abbrev pub decreases-loop-marks : goal.decreases-loop-marks
decreases-loop-marks l = 32 - l.places
