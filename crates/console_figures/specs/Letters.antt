-- A record's own base letters, found by going from field to field.
use Rattle.std.specs.Prelude.{ℕ, zero, suc, ◌+◌, ◌-◌, ◌*◌, cond, List, [], ◌∷◌, ◌++◌, eqb, ltb, length, get_or, take}
use Rattle.rules.specs.Records.{place_tag}

-- how many bytes the field at i takes: one of the tag, two of the length, the content; past the end `get_or` gives 0
abbrev pub field_size : List ℕ → ℕ → ℕ
field_size s i = 3 + (get_or s (i + 1) 0 * 256 + get_or s (i + 2) 0)

-- the letter of the field at i, if it is a place's
abbrev pub letter_at : List ℕ → ℕ → List ℕ
letter_at s i = cond (eqb (get_or s i 0) place_tag) (get_or s (i + 3) 0 ∷ []) []

-- the same, if behind n letters there is room for one
abbrev pub kept_at : ℕ → ℕ → List ℕ → ℕ → List ℕ
kept_at room n s i = take (room - n) (letter_at s i)

-- the letters of the fields from i on, of so many fields at most
unfoldable pub letters_from : ℕ → List ℕ → ℕ → List ℕ
letters_from zero s i = []
letters_from (suc n) s i = cond (ltb i (length s)) (letter_at s i ++ letters_from n s (i + field_size s i)) []

-- the letters of all fields, which are no more than the bytes
abbrev pub letters_of : List ℕ → List ℕ
letters_of s = letters_from (length s) s 0

-- those that so many bytes have room for
abbrev pub letters_for : ℕ → List ℕ → List ℕ
letters_for room s = take room (letters_of s)
