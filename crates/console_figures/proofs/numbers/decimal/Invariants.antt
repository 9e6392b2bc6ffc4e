-- `console_figures::numbers::decimal`: the digits from the one reached on write, behind the value so far, the number that all write.
use mathlib.Core.Path.{◌≡◌}
use Prim.Native.Nat.{◌<◌, ◌^◌}
use Rattle.console_figures.specs.Numbers.{number_of}
use Rattle.console_figures.proofs.NumbersLaws.{number_at}
use Rattle.console_figures.proofs.numbers.decimal.Given as goal

abbrev pub invariant-loop-b : goal.invariant-loop-b
invariant-loop-b l = (number_of l.text ≡ number_at l.text l.b-index l.value) × (l.value < 2 ^ 64)
