-- How many bytes a record's text has at most, field by field: a unit's field pays for the unit and for one separator before it, a range's own field for its
-- upper end and its increment with their separators, a piece's for the piece and the `-` or `=` by it, a place's for the `:` or `,` before it.
use Rattle.std.specs.Prelude.{Bool, true, ◌&&◌, ◌≡◌, List, [], ◌∷◌, ◌++◌, ℕ, ◌+◌, ◌≤◌, ltb, eqb, length, get_or, drop}
use Rattle.laws.specs.Cases.{pick}
use Rattle.rules.specs.Characters.{byte}
use Rattle.rules.specs.Refusals.{ok}
use Rattle.rules.specs.Commands.{Command}
use Rattle.rules.specs.Printing.{print}
use Rattle.rules.specs.WellFormed.{body_of}
use Rattle.rules.specs.Records.{Field, field, place_tag, single_tag, range_tag, numeral_tag, string_tag, num4, field_bytes}
use Rattle.record_walk.specs.Fields.{length_at}

-- at most n bytes has the text of the command whose record has these bytes behind its head
abbrev pub TextWithin : List ℕ → ℕ → Type 0
TextWithin rec n = (c : Command) → body_of rec ≡ ok c → length (print c) ≤ n

-- ---- numbers

-- one decimal digit and a separator
abbrev pub one_digit : ℕ
one_digit = 2

-- four of them
abbrev pub four_digits : ℕ
four_digits = 5

-- the ten of the largest value
abbrev pub ten_digits : ℕ
ten_digits = 11

-- four digits, a prefix and a separator
abbrev pub few_of_any : ℕ
few_of_any = 7

-- the thirty-two binary digits of the largest value, a prefix and a separator
abbrev pub most_of_any : ℕ
most_of_any = 35

-- four digits, a prefix and `&&-`
abbrev pub few_of_end : ℕ
few_of_end = 9

-- thirty-two digits, a prefix and `&&-`
abbrev pub most_of_end : ℕ
most_of_end = 37

-- a decimal numeral without a prefix, of more than one digit and of any
unfoldable pub longer_bound : ℕ → ℕ
longer_bound v = pick (ltb v 10000) four_digits ten_digits

unfoldable pub decimal_bound : ℕ → ℕ
decimal_bound v = pick (ltb v 10) one_digit (longer_bound v)

-- the stop and the digits behind it take two for each of these
abbrev pub stop_bound : ℕ → ℕ
stop_bound f = f + f

-- a numeral that may have a prefix, in any base: a value below 16 has four digits at most
unfoldable pub any_bound : ℕ → ℕ → ℕ
any_bound f v = pick (ltb v 16) (few_of_any + stop_bound f) most_of_any

-- whether it is a decimal numeral, and D its place's letter
abbrev pub is_plain : ℕ → ℕ → Bool
is_plain base l = eqb base l && eqb l (byte "D")

unfoldable pub number_bound : ℕ → ℕ → ℕ → ℕ → ℕ
number_bound base l f v = pick (is_plain base l) (decimal_bound v + stop_bound f) (any_bound f v)

-- an upper end or an increment
unfoldable pub end_bound : ℕ → ℕ
end_bound v = pick (ltb v 16) few_of_end most_of_end

-- ---- fields

-- a prefix or the marks of a string, and a separator: as many bytes as stand before a field's content
abbrev pub around_word : ℕ
around_word = 3

-- a field that is no numeral, no single element and no place: a string's marks may all be doubled, other words may have a prefix
abbrev pub other_bound : Field → ℕ
other_bound (field t w) =
    pick (eqb t range_tag) (end_bound (num4 w 0) + end_bound (num4 w 4)) (pick (eqb t string_tag) (around_word + length w + length w) (around_word + length w))

-- a field under the base letter of its place
abbrev pub field_bound : ℕ → Field → ℕ
field_bound base (field t w) =
    pick (eqb t numeral_tag) (number_bound base (get_or w 0 0) (get_or w 1 0) (num4 w 2))
    (pick (eqb t single_tag) 0 (pick (eqb t place_tag) 1 (other_bound (field t w))))

-- the base letter behind a field
abbrev pub base_behind : ℕ → Field → ℕ
base_behind base (field t w) = pick (eqb t place_tag) (get_or w 0 0) base

abbrev pub fields_bound : ℕ → List Field → ℕ
fields_bound base [] = 0
fields_bound base (f ∷ fs) = field_bound base f + fields_bound (base_behind base f) fs

-- ---- in a record

-- the lengths that contents of these tags have; the others are below 256, so that the length's high byte is 0
abbrev pub is_sized : Field → Bool
is_sized (field t w) =
    pick (eqb t numeral_tag) (eqb (length w) 6)
    (pick (eqb t single_tag) (eqb (length w) 0) (pick (eqb t place_tag) (eqb (length w) 1) (pick (eqb t range_tag) (eqb (length w) 8) (ltb (length w) 256))))

-- a field of such a length stands at a position
pub record Stands (rec : List ℕ) (at : ℕ) : Type 0 where
  pub t : ℕ
  pub w : List ℕ
  pub rest : List ℕ
  pub is : drop at rec ≡ field_bytes (field t w) ++ rest
  pub inside : at ≤ length rec
  pub sized : is_sized (field t w) ≡ true

-- what `other_bound` says of the field that stands there
unfoldable pub other_at : List ℕ → ℕ → ℕ
other_at rec at =
    let n = length_at rec at in
    pick (eqb (get_or rec at 0) range_tag) (end_bound (num4 rec (at + 3)) + end_bound (num4 rec (at + 7)))
    (pick (eqb (get_or rec at 0) string_tag) (around_word + n + n) (around_word + n))
