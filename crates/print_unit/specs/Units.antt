-- A unit's text from its field's bytes, and what is promised of it in the rules' words.
use Rattle.std.specs.Prelude.{◌≡◌, true, List, ℕ, ◌+◌, ◌≤◌, eqb, length, get_or, drop}
use Rattle.laws.specs.Cases.{pick}
use Rattle.rules.specs.Refusals.{most_fraction, most_string}
use Rattle.rules.specs.Units.{Base, letter, Unit}
use Rattle.rules.specs.Records.{numeral_tag, keyed_tag, string_tag, unit_field, field_bytes, num4}
use Rattle.rules.specs.WellFormed.{wf_unit}
use Rattle.rules.specs.Printing.{unit_text}
use Rattle.print_unit.specs.Ways.{Way, Fits, Puts}
use Rattle.print_unit.specs.Texts.{numeral_text, keyed_text}
use Rattle.print_unit.specs.Strings.{string_text}

-- ---- in the pieces that the code writes

-- the bytes before a field's content
abbrev pub header_size : ℕ
header_size = 3

-- the bytes of a numeral's field, and where it has its letter, its fraction digits, its value
abbrev pub numeral_size : ℕ
numeral_size = 9

abbrev pub letter_at : ℕ
letter_at = 3

abbrev pub fraction_at : ℕ
fraction_at = 4

abbrev pub value_at : ℕ
value_at = 5

-- the text of a unit that is no numeral of D, H, O, B, under the base of the letter b: its field has the tag t and the content w
unfoldable pub word_text : ℕ → ℕ → List ℕ → List ℕ
word_text b t w = pick (eqb t string_tag) (string_text w) (pick (eqb t keyed_tag) (keyed_text b w) w)

-- the text of the unit whose field has the bytes p
unfoldable pub field_text : ℕ → List ℕ → List ℕ
field_text b p = pick (eqb (get_or p 0 0) numeral_tag) (numeral_text b (get_or p letter_at 0) (get_or p fraction_at 0) (num4 p value_at)) (word_text b (get_or p 0 0) (drop header_size p))

-- what holds of the field of a well-formed unit
pub record Sized (p : List ℕ) : Type 0 where
  pub least : header_size ≤ length p
  pub most : length p ≤ header_size + most_string
  pub numeral : get_or p 0 0 ≡ numeral_tag → length p ≡ numeral_size
  pub few : get_or p 0 0 ≡ numeral_tag → get_or p fraction_at 0 ≤ most_fraction

-- ---- in the rules' words

-- the bytes p are the field of the unit u, which may stand under the base b, whose letter is `base`
pub record IsUnit (p : List ℕ) (base : ℕ) (b : Base) (u : Unit) : Type 0 where
  pub under : base ≡ letter b
  pub is : p ≡ field_bytes (unit_field u)
  pub good : wf_unit b u ≡ true

-- the bytes are a unit's field, and the buffer has room for its text from `at` on
pub record UnitFits (w : Way) (p : List ℕ) (base at : ℕ) (old : List ℕ) : Type 0 where
  pub b : Base
  pub u : Unit
  pub has : IsUnit p base b u
  pub fits : Fits w (unit_text b u) at old

abbrev pub PutUnit : Way → List ℕ → ℕ → ℕ → List ℕ → ℕ → List ℕ → Type 0
PutUnit w p base at old r new = (b : Base) (u : Unit) → IsUnit p base b u → Puts w (unit_text b u) at old r new
