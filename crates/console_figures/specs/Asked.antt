-- An argument that is asked for, as the only value of a command: the command's text, and what text and record hold of the argument.
use Rattle.std.specs.Prelude.{ℕ, zero, suc, ◌+◌, ◌-◌, cond, List, [], ◌∷◌, ◌++◌, eqb, length, get_or, take, drop}
use Rattle.rules.specs.Characters.{byte}
use Rattle.rules.specs.Records.{single_tag, code_tag, block_tag, place_tag, field, bytes_of, head_size}
use Rattle.std.specs.Prelude.{Option, Some, None}

-- the text: `A:`, the argument, `;`
abbrev pub asked : List ℕ → List ℕ
asked w = byte "A" ∷ byte ":" ∷ (w ++ (byte ";" ∷ []))

-- what stands in a text between two bytes and one
abbrev pub argument_text : List ℕ → List ℕ
argument_text s = take (length s - 3) (drop 2 s)

-- where the value begins in a record: behind its head, a code of one letter, a block and a place without a name
abbrev pub value_at : ℕ
value_at = head_size + length (bytes_of (field code_tag (byte "A" ∷ []) ∷ field block_tag (byte "P" ∷ []) ∷ field place_tag (byte "D" ∷ []) ∷ []))

-- what stands there, behind the field of a single element if that is the first
abbrev pub argument_fields : List ℕ → List ℕ
argument_fields r = cond (eqb (get_or (drop value_at r) 0 0) single_tag) (drop (value_at + 3) r) (drop value_at r)

-- M-107: "say no (with 0) or yes with the first position", which is the answer less one
abbrev pub member_of : ℕ → Option ℕ
member_of zero = None
member_of (suc n) = Some n
