-- The names of places that stand one behind the other in a record: where a place's name is, whether a name is one of theirs, and marks of their keys.
use Rattle.std.specs.Prelude.{◌≡◌, Bool, true, false, List, ◌++◌, map, ℕ, ◌+◌, ◌≤◌, ◌<◌, drop, Option, Some, None}
use Rattle.laws.specs.Lists.{any}
use Rattle.rules.specs.Units.{Base}
use Rattle.rules.specs.Commands.{Name, Element, Place, place, place_name, same_name}
use Rattle.rules.specs.Records.{name_tag, field, bytes_of, many, element_fields, place_fields}
use Rattle.record_walk.specs.Fronts.{tag_of}
use Rattle.record_walk.specs.Runs.{Whole, bytes_in, field_size}
use Rattle.marks.specs.Marks.{key_of, keys_marked}
use Rattle.marks.specs.declared.Marks.{Marks}
use Rattle.judge_names.specs.declared.Spot.{Spot}

-- a name's bytes: the fields of its pieces
abbrev pub name_bytes : Name → List ℕ
name_bytes nm = bytes_of (map (λ w. field name_tag w) nm)

-- is the name one of theirs?
abbrev pub is_name_of : List Place → Name → Bool
is_name_of ps nm = any (same_name nm) (map place_name ps)

-- a place's name is from `start` to `end`, and its value stands behind
pub record IsName (rec : List ℕ) (s : Spot) (nm : Name) (v : List Element) (rest : List ℕ) : Type 0 where
  pub bytes : bytes_in rec s.start s.end ≡ name_bytes nm
  pub behind : drop s.end rec ≡ bytes_of (many element_fields v) ++ rest

-- the name of the place that stands at `at`
pub record NameAt (rec : List ℕ) (at : ℕ) (s : Spot) : Type 0 where
  pub from : s.start ≡ at + field_size (drop at rec)
  pub order : s.start ≤ s.end
  pub whole : Whole rec s.end
  pub is : (b : Base) (nm : Name) (v : List Element) (rest : List ℕ) → drop at rec ≡ bytes_of (place_fields (place b nm v)) ++ rest
      → tag_of rest < name_tag → IsName rec s nm v rest

-- r says whether the name of these bytes is that of a place that stands at `at` or behind
abbrev pub StandsIn : List ℕ → ℕ → List ℕ → Bool → Type 0
StandsIn rec at name r = (ps : List Place) (nm : Name) → drop at rec ≡ bytes_of (many place_fields ps) → name ≡ name_bytes nm → r ≡ is_name_of ps nm

-- the key of a name's bytes: from the first letter on, behind the first piece's header
abbrev pub bytes_key : List ℕ → ℕ
bytes_key name = key_of 0 (drop 3 name)

-- the key of a name, and whether the keys of all names are marked
unfoldable pub name_key : Name → ℕ
name_key nm = bytes_key (name_bytes nm)

abbrev pub all_marked : Marks → List Place → Bool
all_marked m ps = keys_marked name_key m (map place_name ps)

-- the same of places whose names are marked
abbrev pub Meets : List ℕ → List ℕ → Marks → Bool → Type 0
Meets rec name m r =
    (ps : List Place) (nm : Name) → rec ≡ bytes_of (many place_fields ps) → name ≡ name_bytes nm → all_marked m ps ≡ true → r ≡ is_name_of ps nm

-- is the name that of one of the places? If not, this is its key
abbrev pub Answers : List Place → Name → Option ℕ → Type 0
Answers ps nm (Some k) = (is_name_of ps nm ≡ false) × (k ≡ name_key nm)
Answers ps nm None = is_name_of ps nm ≡ true

abbrev pub Tells : List ℕ → List ℕ → Marks → Option ℕ → Type 0
Tells rec name m r =
    (ps : List Place) (nm : Name) → rec ≡ bytes_of (many place_fields ps) → name ≡ name_bytes nm → all_marked m ps ≡ true → Answers ps nm r
