-- A unit, read from the front of a record's bytes as document 01's rules read it, and the rules on it met at once.
use Rattle.std.specs.Prelude.{◌≡◌, Bool, false, ◌&&◌, List, ℕ, ◌+◌, ◌≤◌, ◌<◌, leb, eqb, length, get_or, drop, Option as Maybe, Some, None}
use Rattle.std.proofs.Math.Option.{Option, none, some}
use Rattle.laws.specs.Cases.{pick}
use Rattle.rules.specs.Characters.{byte}
use Rattle.rules.specs.Tokens.{word_chars}
use Rattle.rules.specs.Units.{r_d, Base, Unit, keyed, identifier, symbolic, text, base_at, radix_at}
use Rattle.rules.specs.Records.{Field, field, keyed_tag, identifier_tag, symbolic_tag, string_tag, num4, unit_of}
use Rattle.rules.specs.WellFormed.{wf_unit, ok_fraction}
use Rattle.digits.specs.Digits.{plain_letter}
use Rattle.record_walk.specs.Fronts.{Read, and_then, only, made, front}

-- ---- the unit at the front

abbrev pub unit_in : Field → Option Unit
unit_in (field t w) = unit_of t w

unfoldable pub unit : Base → List ℕ → Read Unit
unit b r = only (wf_unit b) (and_then (front r) (λ f r'. made (unit_in f) r'))

-- ---- what the code tests

-- characters of words from position i on, with no `++`; the flag says that a `+` stands before them
unfoldable pub ok_at : Bool → List ℕ → ℕ → Bool
ok_at p w i = word_chars p (drop i w)

abbrev pub may_stand : Base → Option Unit → Bool
may_stand b none = false
may_stand b (some u) = wf_unit b u

-- the content w may stand as the unit of the tag t
unfoldable pub unit_stands : Base → ℕ → List ℕ → Bool
unit_stands b t w = may_stand b (unit_of t w)

-- the same for the kinds that are their characters, under the base of the letter b
unfoldable pub stands_as : ℕ → ℕ → List ℕ → Bool
stands_as t b w =
    pick (eqb t keyed_tag) (wf_unit (base_at b) (keyed w))
    (pick (eqb t identifier_tag) (wf_unit (base_at b) (identifier w))
    (pick (eqb t symbolic_tag) (wf_unit (base_at b) (symbolic w)) (pick (eqb t string_tag) (wf_unit (base_at b) (text w)) false)))

-- and for a numeral of the letter l with f fraction digits
unfoldable pub numeral_stands : ℕ → ℕ → ℕ → Bool
numeral_stands b l f = pick (eqb b (byte "K")) false (pick (plain_letter l) (ok_fraction (radix_at l) f) false)

-- a numeral's tag, its length, the letter D: the first four bytes of a decimal numeral's field as a number
abbrev pub decimal_head : ℕ
decimal_head = 117442116

unfoldable pub decimal_at : List ℕ → ℕ → Bool
decimal_at rec at = leb (at + 9) (length rec) && (eqb (num4 rec at) decimal_head && ok_fraction r_d (get_or rec (at + 4) 0))

-- ---- what the answer says

-- the unit that stands at `at`, and where its field ends
pub record UnitTo (b : Base) (rec : List ℕ) (at k : ℕ) : Type 0 where
  pub u : Unit
  pub is : unit b (drop at rec) ≡ some (u, drop k rec)
  pub on : at < k
  pub inside : k ≤ length rec

abbrev pub IsUnit : Base → List ℕ → ℕ → Maybe ℕ → Type 0
IsUnit b rec at None = unit b (drop at rec) ≡ none
IsUnit b rec at (Some k) = UnitTo b rec at k
