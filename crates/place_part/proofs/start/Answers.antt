-- `start` meets its contract: the row has the slot, and a slot's number fits any number of the machine.
use native.Mathlib.Omega.{arith}
use Rattle.place_part.proofs.start.Goals as goal

pub overflow_cast-result-2 : goal.overflow_cast-result-2
overflow_cast-result-2 c = omega (arith, c.shared_slice_known-1.given c.args.number)
