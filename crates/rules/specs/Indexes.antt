-- Document 02, M-108, "An index of places": where in a record each place begins, and how far a row of such offsets is right.
use Rattle.std.specs.Prelude.{ℕ, suc, ◌+◌, Bool, cond, List, [], ◌∷◌, eqb, length}
use Rattle.rules.specs.Commands.{Command}
use Rattle.rules.specs.Records.{Field, field, place_tag, place_fields, field_bytes, bytes_of, fields_of, head_size}
use Rattle.rules.specs.Positions.{place_of}

-- ---- "a lent row of 32-bit offsets, one for each place"

-- a place begins with its field of tag 3
abbrev pub begins_place : Field → Bool
begins_place (field t w) = eqb t place_tag

-- where places begin among fields that stand one behind the other, the first of them at a position
abbrev pub starts_from : ℕ → List Field → List ℕ
starts_from at [] = []
starts_from at (f ∷ fs) = let more = starts_from (at + length (field_bytes f)) fs in cond (begins_place f) (at ∷ more) more

-- in a record, whose fields stand behind its head
unfoldable pub offsets : Command → List ℕ
offsets c = starts_from head_size (fields_of c)

-- ---- "that place's fields"

-- "An omitted place hands back what fields it has.": its own, of tag 3
abbrev pub place_bytes : Command → ℕ → List ℕ
place_bytes c n = bytes_of (place_fields (place_of c n))

-- ---- "where the row is shorter than the places or a slot differs"

-- how many slots, from the first on, are there and do not differ from the offsets
abbrev pub agreeing : List ℕ → List ℕ → ℕ
agreeing [] row = 0
agreeing (o ∷ os) [] = 0
agreeing (o ∷ os) (s ∷ row) = cond (eqb s o) (suc (agreeing os row)) 0
