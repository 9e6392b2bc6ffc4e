-- `console_figures::numbers::hex_value`: the tests of the definition, decided in each arm.
use Prim.Native.Nat.{◌+◌, ◌-◌}
use native.Mathlib.Omega.{arith}
use borrow.Author.Tests.{le-leb, lt-leb, lt-ltb}
use Rattle.console_figures.specs.Numbers.{hex_value}
use Rattle.console_figures.proofs.numbers.hex_value.Goals as goal

pub returns-in-48-to-57 : goal.returns-in-48-to-57
unfolding hex_value
returns-in-48-to-57 c = let b = c.args.b in simp (le-leb 48 b (omega arith), le-leb b 57 (omega arith), lt-ltb (b - 48) 16 (omega arith))

pub returns-in-65-to-70 : goal.returns-in-65-to-70
unfolding hex_value
returns-in-65-to-70 c = let b = c.args.b in simp (le-leb 48 b (omega arith), lt-leb b 57 (omega arith), le-leb 65 b (omega arith), le-leb b 70 (omega arith), lt-ltb (b - 65 + 10) 16 (omega arith))

pub returns-in-97-to-102 : goal.returns-in-97-to-102
unfolding hex_value
returns-in-97-to-102 c = let b = c.args.b in simp (le-leb 48 b (omega arith), lt-leb b 57 (omega arith), le-leb 65 b (omega arith), lt-leb b 70 (omega arith), le-leb 97 b (omega arith), le-leb b 102 (omega arith), lt-ltb (b - 97 + 10) 16 (omega arith))

pub returns-in_default : goal.returns-in_default
unfolding hex_value
returns-in_default c = let b = c.args.b in simp (lt-leb 48 b (omega arith), lt-leb 65 b (omega arith), lt-leb 97 b (omega arith))

pub returns-in_default-2 : goal.returns-in_default-2
unfolding hex_value
returns-in_default-2 c = let b = c.args.b in simp (le-leb 48 b (omega arith), lt-leb b 57 (omega arith), lt-leb 65 b (omega arith), lt-leb 97 b (omega arith))

pub returns-in_default-3 : goal.returns-in_default-3
unfolding hex_value
returns-in_default-3 c = let b = c.args.b in simp (le-leb 48 b (omega arith), lt-leb b 57 (omega arith), le-leb 65 b (omega arith), lt-leb b 70 (omega arith), lt-leb 97 b (omega arith))

pub returns-in_default-4 : goal.returns-in_default-4
unfolding hex_value
returns-in_default-4 c = let b = c.args.b in simp (le-leb 48 b (omega arith), lt-leb b 57 (omega arith), le-leb 65 b (omega arith), lt-leb b 70 (omega arith), le-leb 97 b (omega arith), lt-leb b 102 (omega arith))
