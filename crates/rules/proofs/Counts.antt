-- Every element names a term, so every value counts at least one argument.
use Prim.Native.Nat.{◌<◌}
use mathlib.Core.List.{List, [], ◌∷◌}
use native.Mathlib.Omega.{arith}
use Rattle.rules.specs.Commands.{Element, single, range, terms, value_count}

pub terms_pos : (e : Element) → 0 < terms e
terms_pos (single l u) = omega arith
terms_pos (range l r lo up inc) = omega arith

pub count_pos : (v : List Element) → 0 < value_count v
count_pos [] = omega arith
count_pos (e ∷ es) = omega (arith, terms_pos e)
