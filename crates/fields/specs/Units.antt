-- The field of a word's unit as bytes, from the word and what it was read as.
use Rattle.std.specs.Prelude.{List, [], ◌∷◌, map, ℕ, ◌/◌, ◌%◌, ◌≤◌, length, drop, Ok, Err}
use Rattle.laws.specs.Cases.{Always}
use Rattle.rules.specs.Characters.{capital}
use Rattle.rules.specs.Units.{keyed, identifier, symbolic}
use Rattle.rules.specs.Records.{four_bytes, field, field_bytes, unit_field}
use Rattle.units.specs.declared.Word.TheVariants.{Numeral, Keyed, Identifier, Symbolic}
use Rattle.units.specs.Words.{Answer}

-- "numbers have the high byte first": a number of two bytes
abbrev pub two_bytes : ℕ → List ℕ
two_bytes n = n / 256 ∷ n % 256 ∷ []

-- tag 7: "letter, fraction digits (1 byte), value (4)"
unfoldable pub numeral_bytes : ℕ → ℕ → ℕ → List ℕ
numeral_bytes l f v = field_bytes (field 7 (l ∷ f ∷ four_bytes v))

-- a word that is no unit has no field
unfoldable pub unit_bytes : List ℕ → Answer → List ℕ
unit_bytes w (Ok (Numeral l f v)) = numeral_bytes l f v
unit_bytes w (Ok (Keyed k)) = field_bytes (unit_field (keyed (map capital (drop k w))))
unit_bytes w (Ok Identifier) = field_bytes (unit_field (identifier w))
unit_bytes w (Ok Symbolic) = field_bytes (unit_field (symbolic w))
unit_bytes w (Err e) = []

-- what a keyed numeral leaves out is there
abbrev pub Skips : List ℕ → Answer → Type 0
Skips w (Ok (Numeral l f v)) = Always
Skips w (Ok (Keyed k)) = k ≤ length w
Skips w (Ok Identifier) = Always
Skips w (Ok Symbolic) = Always
Skips w (Err e) = Always
