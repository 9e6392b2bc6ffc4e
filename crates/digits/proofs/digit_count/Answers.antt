-- The digits counted and those of the quotient that is left make all digits of n.
use Rattle.digits.proofs.DigitLaws.{counting_none, counting_more, counting_all}
use mathlib.Core.Path.{refl}
use native.Mathlib.Omega.{arith}
use Rattle.digits.proofs.digit_count.Goals as goal

pub loop-m-init : goal.loop-m-init
loop-m-init c = let a = c.args in counting_none a.base a.n (omega arith)

pub loop-m-preserved : goal.loop-m-preserved
loop-m-preserved c = counting_more _ refl (omega arith) c.loop-m-test.true c.loop-m.invariant

pub returns : goal.returns
returns c = counting_all c.loop-m-test.false c.loop-m.invariant
