-- Fields that stand one behind the other in a record: where one of them ends, where those of some tags end, where an element ends.
use Rattle.std.specs.Prelude.{◌≡◌, Bool, true, false, List, [], ◌∷◌, ◌++◌, ℕ, ◌+◌, ◌-◌, ◌≤◌, length, take, drop}
use Rattle.laws.specs.Lists.{all}
use Rattle.rules.specs.Characters.{between}
use Rattle.rules.specs.Commands.{Element}
use Rattle.rules.specs.Records.{Field, field, bytes_of, element_fields}
use Rattle.record_walk.specs.Fronts.{tag_of, size_of}

-- from `at` on the record is fields, none of them cut off
pub record Whole (rec : List ℕ) (at : ℕ) : Type 0 where
  pub fs : List Field
  pub is : drop at rec ≡ bytes_of fs
  pub inside : at ≤ length rec

-- the bytes from a to e
abbrev pub bytes_in : List ℕ → ℕ → ℕ → List ℕ
bytes_in rec a e = take (e - a) (drop a rec)

-- the bytes of the field at the front; none where none stands there
unfoldable pub field_size : List ℕ → ℕ
field_size [] = 0
field_size (t ∷ r) = size_of (t ∷ r)

abbrev pub tag_in : ℕ → ℕ → Field → Bool
tag_in low high (field t w) = between low high t

-- from `at` to r there are fields with tags from low to high, and no such field stands at r
pub record RunsTo (low high : ℕ) (rec : List ℕ) (at r : ℕ) : Type 0 where
  pub from : at ≤ r
  pub whole : Whole rec r
  pub is : (fs : List Field) (rest : List ℕ) → drop at rec ≡ bytes_of fs ++ rest → all (tag_in low high) fs ≡ true → between low high (tag_of rest) ≡ false
      → r ≡ at + length (bytes_of fs)

-- the element that stands at `at` ends at r
pub record ElementTo (rec : List ℕ) (at r : ℕ) : Type 0 where
  pub from : at ≤ r
  pub whole : Whole rec r
  pub is : (e : Element) (rest : List ℕ) → drop at rec ≡ bytes_of (element_fields e) ++ rest → between 7 11 (tag_of rest) ≡ false
      → r ≡ at + length (bytes_of (element_fields e))
