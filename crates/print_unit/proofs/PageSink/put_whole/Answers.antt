-- What is written over the part behind `at` is stored there.
use mathlib.Core.Path.{ap}
use Prim.Native.Nat.{ℕ, ◌+◌}
use Rattle.print_unit.proofs.ChainLaws.{behind_put}
use Rattle.print_unit.proofs.PageSink.put_whole.Goals as goal

pub returns : goal.returns
returns c = behind_put c.requires.2 (ap (λ (k : ℕ). c.args.at + k) c.put_whole.ensures.0) c.put_whole.ensures.1
