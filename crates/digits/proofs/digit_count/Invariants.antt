-- The digits counted and those of the quotient that is left make all digits of n.
use Prim.Native.Nat.{◌+◌, ◌-◌}
use Rattle.rules.specs.Printing.{most_digits}
use Rattle.digits.proofs.DigitLaws.{Counting}
use Rattle.digits.proofs.digit_count.Given as goal

abbrev pub invariant-loop-m : goal.invariant-loop-m
invariant-loop-m l = Counting l.base l.n l.k l.m (most_digits + 1 - l.k)

abbrev pub decreases-loop-m : goal.decreases-loop-m
decreases-loop-m l = l.m
