-- Words of the paper and at its limits, each with its answer.
use Prim.Native.String.{String}
use Rattle.std.specs.Prelude.{◌≡◌, refl, List, [], ◌∷◌, Ok, Err, map}
use Rattle.rules.specs.Characters.{byte, bytes}
use Rattle.units.specs.declared.Word.TheVariants.{Numeral, Keyed, Identifier, Symbolic}
use Rattle.units.specs.declared.Fault.TheVariants.{Unreadable, TooBig}
use Rattle.units.specs.Words.{Answer, unit_under, sized, of_numeral, name_unit, or_name, may_stand, prefix_unit}
use Rattle.digits.specs.Digits.{plain_letter}

-- the place's base, the word, the answer
pub data Row : Type 0 where
  row : String → String → Answer → Row

abbrev found : Row → Answer
unfolding unit_under
found (row b s a) = unit_under (byte b) (bytes s)

abbrev stated : Row → Answer
stated (row b s a) = a

abbrev table : List Row
table =
    row "D" "3.50" (Ok (Numeral (byte "D") 2 350))
    ∷ row "D" "007" (Ok (Numeral (byte "D") 0 7))
    ∷ row "D" "4294967295" (Ok (Numeral (byte "D") 0 4294967295))
    ∷ row "D" "4294967296" (Err TooBig)
    ∷ row "D" "0.1234567890" (Err TooBig)
    ∷ row "D" "42949672960." (Err Unreadable)
    ∷ row "D" ".5" (Err Unreadable)
    ∷ row "D" "1.2.3" (Err Unreadable)
    ∷ row "D" "CAFE" (Ok Identifier)
    ∷ row "H" "CAFE" (Ok (Numeral (byte "H") 0 51966))
    ∷ row "H" "D'19.5" (Ok (Numeral (byte "D") 1 195))
    ∷ row "H" "1.5" (Err Unreadable)
    ∷ row "O" "9" (Err Unreadable)
    ∷ row "O" "B'101" (Ok (Numeral (byte "B") 0 5))
    ∷ row "K" "D'1" (Err Unreadable)
    ∷ row "K" "K'12#" (Ok (Keyed 2))
    ∷ row "K" "*9A" (Ok (Keyed 0))
    ∷ row "K" "9Z" (Ok Symbolic)
    ∷ row "H" "cafe" (Ok (Numeral (byte "H") 0 51966))
    ∷ row "D" "cafe" (Ok Identifier)
    ∷ row "H" "cafg" (Ok Identifier)
    ∷ row "D" "h'fF" (Ok (Numeral (byte "H") 0 255))
    ∷ row "H" "d'19.5" (Ok (Numeral (byte "D") 1 195))
    ∷ row "K" "ab" (Ok (Keyed 0))
    ∷ row "D" "k'1d#*" (Ok (Keyed 2))
    ∷ row "K" "abe" (Ok Identifier)
    ∷ row "K" "h'1" (Err Unreadable)
    ∷ row "H" "fffffffff" (Err TooBig)
    ∷ row "D" "A+B" (Ok Symbolic)
    ∷ row "D" "A'B" (Err Unreadable)
    ∷ row "D" "AB'1" (Err Unreadable)
    ∷ row "D" "" (Err Unreadable)
    ∷ []

rows : map found table ≡ map stated table
unfolding unit_under prefix_unit may_stand plain_letter of_numeral sized or_name name_unit
rows = refl
