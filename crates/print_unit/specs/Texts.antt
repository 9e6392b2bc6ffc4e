-- A numeral's text in the pieces that the code writes.
use Rattle.std.specs.Prelude.{ℕ, ◌/◌, ◌^◌, List, [], ◌∷◌, ◌++◌, eqb}
use Rattle.laws.specs.Cases.{pick}
use Rattle.rules.specs.Characters.{byte}
use Rattle.rules.specs.Units.{radix_at}
use Rattle.rules.specs.Printing.{num_text}
use Rattle.digits.specs.Digits.{whole, fixed}

-- n in base b with k digits behind the full stop
unfoldable pub part_text : ℕ → ℕ → ℕ → List ℕ
part_text k b n = (whole b (n / b ^ k) ++ (byte "." ∷ [])) ++ fixed k b n

-- the prefix that the letter l needs under the base of the letter b
unfoldable pub prefix_of : ℕ → ℕ → List ℕ
prefix_of b l = pick (eqb b l) [] (l ∷ byte "'" ∷ [])

-- a numeral of the letter l, with f fraction digits and the value v, prefix apart
unfoldable pub number_text : ℕ → ℕ → ℕ → List ℕ
number_text l f v = num_text (radix_at l) f v

unfoldable pub numeral_text : ℕ → ℕ → ℕ → ℕ → List ℕ
numeral_text b l f v = prefix_of b l ++ number_text l f v

unfoldable pub keyed_text : ℕ → List ℕ → List ℕ
keyed_text b w = prefix_of b (byte "K") ++ w
