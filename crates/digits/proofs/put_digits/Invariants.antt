-- The digits still to come, written over the buffer as it is, give the final buffer.
use Rattle.digits.specs.Digits.{fixed}
use Rattle.digits.proofs.DigitLaws.{Writing}
use Rattle.digits.proofs.put_digits.Given as goal

abbrev pub invariant-loop-i : goal.invariant-loop-i
invariant-loop-i l = Writing (fixed l.k l.base l.n) l.initial.out l.base l.i l.m l.out
