-- The places and values that stand in a record one behind the other.
use Rattle.std.specs.Prelude.{◌≡◌, true, false, List, [], ◌∷◌, ◌++◌, ℕ, zero, suc, ◌+◌, ◌≤◌, length, get_or, drop}
use Rattle.laws.specs.Lists.{all}
use Rattle.rules.specs.Characters.{between}
use Rattle.rules.specs.Units.{Base}
use Rattle.rules.specs.Commands.{Element, Place, place_base, place_value}
use Rattle.rules.specs.Records.{Field, code_tag, block_tag, single_tag, string_tag, bytes_of, many, element_fields, place_fields}
use Rattle.rules.specs.WellFormed.{wf_element, wf_value}
use Rattle.record_walk.specs.Fronts.{tag_of}
use Rattle.record_walk.specs.Runs.{tag_in}
use Rattle.record_walk.specs.Spans.{size, head_fields, arguments_of}

-- ---- a value

abbrev pub value_bytes : List Element → List ℕ
value_bytes v = bytes_of (many element_fields v)

-- these elements stand in a record from `from` to `to`, and behind them no element or unit
pub record Holds (rec : List ℕ) (from to : ℕ) (es : List Element) : Type 0 where
  pub base : Base
  pub lead : ℕ
  pub rest : List Field
  pub stands : drop from rec ≡ value_bytes es ++ bytes_of rest
  pub ends : to ≡ from + length (value_bytes es)
  pub inside : to ≤ length rec
  pub fine : all (wf_element base lead) es ≡ true
  pub low : between single_tag string_tag (tag_of (bytes_of rest)) ≡ false

pub record Value (rec : List ℕ) (from to : ℕ) : Type 0 where
  pub elements : List Element
  pub holds : Holds rec from to elements

-- ---- places

-- from `at` to q there are code pieces and blocks' own fields alone
pub record Heads (rec : List ℕ) (at q : ℕ) : Type 0 where
  pub fs : List Field
  pub are : all (tag_in code_tag block_tag) fs ≡ true
  pub ends : q ≡ at + size fs
  pub bytes : drop at rec ≡ bytes_of fs ++ drop q rec

-- the next place behind `at`: it stands at `start`, its value from `from` to `to`, and behind that no element or unit
pub record PlaceAt (rec : List ℕ) (at from to : ℕ) (p : Place) : Type 0 where
  pub start : ℕ
  pub heads : Heads rec at start
  pub rest : List Field
  pub stands : drop start rec ≡ bytes_of (place_fields p) ++ bytes_of rest
  pub inside : start ≤ length rec
  pub begins : from ≡ start + size (head_fields p)
  pub ends : to ≡ start + size (place_fields p)
  pub well : wf_value (place_base p) (place_value p) ≡ true
  pub low : between single_tag string_tag (tag_of (bytes_of rest)) ≡ false

-- places one behind the other, and three numbers of each: its number of arguments, where its value begins and where it ends
abbrev pub PlacesAt : List ℕ → ℕ → List ℕ → List Place → Type 0
PlacesAt rec at [] [] = at ≤ length rec
PlacesAt rec at [] (p ∷ ps) = ⊥
PlacesAt rec at (n ∷ []) ps = ⊥
PlacesAt rec at (n ∷ (from ∷ [])) ps = ⊥
PlacesAt rec at (n ∷ (from ∷ (to ∷ row))) [] = ⊥
PlacesAt rec at (n ∷ (from ∷ (to ∷ row))) (p ∷ ps) = (n ≡ arguments_of p) × PlaceAt rec at from to p × PlacesAt rec to row ps

-- where the place before ends, whose numbers stand before those at i; the first place stands behind `at`
abbrev pub end_before : ℕ → List ℕ → ℕ → ℕ
end_before at row zero = at
end_before at row (suc i) = get_or row i 0
