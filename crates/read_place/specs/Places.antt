-- What a place's code answers: the rule's result, with the number of arguments and of bytes in place of the tree.
use Rattle.std.specs.Prelude.{ℕ, ◌+◌, ◌≡◌, Bool, true, false, List, Result, Ok, Err, length, get_or, take, drop}
use Rattle.laws.specs.Cases.{Always}
use Rattle.rules.specs.Commands.{Name, Element, Place, place_name, value_count, place_count, seg, Cut, cut}
use Rattle.rules.specs.Groups.{read_value}
use Rattle.rules.specs.Reading.{Placed, placed, read_named, read_place}
use Rattle.rules.specs.Records.{bytes_of, many, element_fields, place_fields}
use Rattle.rules.specs.Refusals.{Res, ok, bad}
use Rattle.rules.specs.Units.{Base, letter}
use Rattle.token_table.specs.Table.{place_in, tokens_in}
use Rattle.marks.specs.declared.Marks.{Marks}
use Rattle.token_table.specs.Parts.{capped}
use Rattle.read_names.specs.Names.{name_key, Known}
use Rattle.read_place.specs.declared.PlaceRead.{PlaceRead}
use Rattle.rules.specs.declared.Refusal.{Refusal}
use Rattle.rules.specs.Reasons.{refusal}
use Rattle.token_table.specs.declared.Token.{Token as Entry}
use Rattle.token_table.specs.declared.Kind.TheVariants.{AmpAmpDash}

-- the bytes of a value's fields
abbrev pub value_size : List Element → ℕ
value_size v = length (bytes_of (many element_fields v))

-- the bytes of a place's fields
abbrev pub place_size : Place → ℕ
place_size x = length (bytes_of (place_fields x))

-- a value read behind h bytes, its first token at p, its name's key k
abbrev pub value_read : ℕ → ℕ → ℕ → Res (List Element) → Result PlaceRead Refusal
value_read h k p (ok v) = Ok (record { args = value_count v; at = p; bytes = capped (h + value_size v); key = k })
value_read h k p (bad n q) = Err (refusal n q)

abbrev pub place_read : Res Placed → Result PlaceRead Refusal
place_read (ok (placed p x)) = Ok (record { args = place_count x; at = p; bytes = capped (place_size x); key = name_key 0 (place_name x) })
place_read (bad n q) = Err (refusal n q)

-- the bytes of a value that is read without fault, behind h bytes
abbrev pub Sized : List Entry → List ℕ → ℕ → ℕ → ℕ → Type 0
Sized ts cs l h r = (b : Base) → l ≡ letter b → (e : ℕ) (v : List Element) → read_value b (tokens_in cs ts) e ≡ ok v → r ≡ capped (h + value_size v)

-- what is read of a table past its end
abbrev pub no_token : Entry
no_token = record { kind = AmpAmpDash; place = 0; start = 0; len = 0 }

-- cut at the token of index q
abbrev pub cut_in : List ℕ → List Entry → ℕ → Cut
cut_in cs ts q = cut (tokens_in cs (take q ts)) (place_in (get_or ts q no_token)) (tokens_in cs (drop (q + 1) ts))

-- the named place whose `=` is the token of index q, behind places with tokens ts, whatever their names are
abbrev pub ReadsNamed : Base → List ℕ → List Entry → List Entry → ℕ → Marks → ℕ → Result PlaceRead Refusal → Type 0
ReadsNamed b cs ts ps q m e r = (ns : List Name) → Known cs ts m ns → r ≡ place_read (read_named b ns (cut_in cs ps q) e)

-- the names that stand in the block before a place are known, if its places are named
abbrev pub KnownIf : Bool → List ℕ → List Entry → Marks → List Name → Type 0
KnownIf true cs ts m ns = Known cs ts m ns
KnownIf false cs ts m ns = Always

-- the n-th place, in a block of that kind
abbrev pub ReadsPlace : Bool → List Base → ℕ → List ℕ → List Entry → List Entry → Marks → ℕ → Result PlaceRead Refusal → Type 0
ReadsPlace named bs n cs ts ps m e r =
    (ns : List Name) → KnownIf named cs ts m ns → r ≡ place_read (read_place named bs n ns (seg (tokens_in cs ps) e))
