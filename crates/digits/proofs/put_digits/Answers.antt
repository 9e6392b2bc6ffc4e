-- The digits still to come, written over the buffer as it is, give the final buffer.
use Prim.Native.Nat.{◌-◌}
use Rattle.digits.proofs.DigitLaws.{writing_more, writing_all}
use native.Mathlib.Omega.{arith}
use Rattle.digits.proofs.put_digits.Goals as goal

pub loop-i-preserved : goal.loop-i-preserved
loop-i-preserved c = rw c.digit_char.ensures (writing_more (c.loop-i.i - 1) (omega arith) c.loop-i.invariant)

pub returns : goal.returns
returns c = writing_all (omega arith) c.loop-i.invariant
