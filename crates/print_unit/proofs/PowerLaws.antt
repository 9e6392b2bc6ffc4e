-- The powers that fractions need have 64 bits: 16 to the 9th is the largest.
use Prim.Native.Nat.{ℕ, ◌^◌, ◌≤◌}
use native.Mathlib.Nat.{le_trans, pow-le-pow_left, pow-le-pow_right}
use native.Mathlib.Omega.{arith}
use Rattle.rules.specs.Refusals.{most_fraction}

pub pow_fits : (b k : ℕ) → b ≤ 16 → k ≤ most_fraction → b ^ k ≤ 16 ^ most_fraction
pow_fits b k h l = le_trans (pow-le-pow_left h k) (pow-le-pow_right {n = 16} (omega arith) l)
