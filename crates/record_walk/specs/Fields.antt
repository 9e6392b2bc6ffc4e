-- Document 01, "Tagged fields: one-byte tag, two-byte length, content": the field that stands at a position of a record.
use Rattle.std.specs.Prelude.{Bool, false, ◌&&◌, List, [], ◌∷◌, ℕ, ◌+◌, ◌-◌, ◌*◌, leb, ltb, eqb, length, get_or, Option, Some, None}
use Rattle.laws.specs.Cases.{pick}
use Rattle.rules.specs.Refusals.{most_word, most_string}
use Rattle.record_walk.specs.declared.Tag.{Tag}
use Rattle.record_walk.specs.declared.Field.{Field}
use Rattle.record_walk.specs.Tags.{tag_named}

abbrev pub never : ℕ → Bool
never n = false

abbrev pub word_length : ℕ → Bool
word_length n = leb 1 n && leb n most_word

abbrev pub exactly : ℕ → ℕ → Bool
exactly k n = eqb n k

abbrev pub string_length : ℕ → Bool
string_length n = leb n most_string

-- which lengths a tag's contents have, from tag 0 on; above the last none
abbrev pub lengths : List (ℕ → Bool)
lengths =
    never
    ∷ word_length ∷ exactly 1 ∷ exactly 1 ∷ word_length ∷ exactly 0 ∷ exactly 8 ∷ exactly 6 ∷ word_length ∷ word_length ∷ word_length ∷ string_length ∷ []

unfoldable pub fits : ℕ → ℕ → Bool
fits t n = get_or lengths t never n

-- the length that stands behind the tag, its high byte first
abbrev pub length_at : List ℕ → ℕ → ℕ
length_at rec at = get_or rec (at + 1) 0 * 256 + get_or rec (at + 2) 0

-- a field of that tag, if there is one, with its content from s to k
abbrev pub field_from : Option Tag → ℕ → ℕ → Option Field
field_from None s k = None
field_from (Some t) s k = Some (record { tag = t; start = s; next = k })

unfoldable pub field_at : List ℕ → ℕ → Option Field
field_at rec at =
    let n = length_at rec at in
    pick (ltb (length rec - at) 3) None
    (pick (ltb (length rec - at - 3) n) None
    (pick (fits (get_or rec at 0) n) (field_from (tag_named (get_or rec at 0)) (at + 3) (at + 3 + n)) None))
