-- Digits as the code reads and writes them: a run of digits behind a value, and the digits of a number.
use Rattle.std.specs.Prelude.{ℕ, ◌+◌, ◌*◌, Bool, ◌||◌, List, [], ◌∷◌, Option, Some, None, drop, leb, ltb, eqb}
use Rattle.laws.specs.Cases.{pick}
use Rattle.rules.specs.Refusals.{most_value}
use Rattle.rules.specs.Characters.{byte}
use Rattle.rules.specs.Units.{size, radix_at, digit_value}
use Rattle.rules.specs.Printing.{digits, digits_of, most_digits}
use Rattle.digits.specs.declared.Run.{Run}

-- ---- letters of bases

-- the letter of a base that has values
unfoldable pub plain_letter : ℕ → Bool
plain_letter l = eqb l (byte "D") || eqb l (byte "H") || eqb l (byte "O") || eqb l (byte "B")

-- how many digits the base of a letter has
abbrev pub size_at : ℕ → ℕ
size_at l = size (radix_at l)

-- ---- a run of digits of base b

-- the digit that a byte is, as a number: 99 for no digit
abbrev pub told : Option ℕ → ℕ
told (Some d) = d
told None = 99

-- one digit d more behind the value v: above the limit a value stays, since more digits make it no smaller
unfoldable pub grown : ℕ → ℕ → ℕ → ℕ
grown b v d = pick (leb v most_value) (v * b + d) v

-- the digits at the start of a text whose first character is at position i, behind digits of value v: where they end, and their value
unfoldable pub digits_from : ℕ → List ℕ → ℕ → ℕ → Run
digits_from b [] i v = record { end = i; value = v }
digits_from b (c ∷ cs) i v =
    let more = digits_from b cs (i + 1) (grown b v (digit_value c)) in
    pick (ltb (digit_value c) b) more (record { end = i; value = v })

-- the digits from position i of a word on
unfoldable pub digits_at : ℕ → List ℕ → ℕ → ℕ → Run
digits_at b w i v = digits_from b (drop i w) i v

-- ---- the digits of a number in base b

-- all, the highest first, no leading zero
unfoldable pub whole : ℕ → ℕ → List ℕ
whole b n = digits most_digits b n

-- the last k
unfoldable pub fixed : ℕ → ℕ → ℕ → List ℕ
fixed k b n = digits_of k b n
