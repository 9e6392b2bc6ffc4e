-- `keeper::ends_first`: the line from the byte reached on, at the spot reached, ends the line as the whole line does.
use Rattle.std.proofs.Common.{◌≡◌, ◌+◌, take}
use Rattle.rules.specs.Keeping.{ready}
use Rattle.keeper.proofs.SpotLaws.{ends_at}
use Rattle.keeper.proofs.ends_first.Given as goal

abbrev pub invariant-loop-b : goal.invariant-loop-b
invariant-loop-b l = ready (take (l.last + 1) l.bytes) ≡ ends_at l.spot l.bytes l.last l.b-index
