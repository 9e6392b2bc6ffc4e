-- Document 01, "The record": "A record is well formed if it has this order, its units would be read as that kind under their place's base, and all
-- rules and limits here hold (text length apart)." First on the tree, then on bytes (18).
use Rattle.std.specs.Prelude.{ℕ, zero, suc, Bool, true, false, ◌&&◌, ◌||◌, not, List, [], ◌∷◌, map, leb, eqb, length}
use Rattle.std.proofs.Math.Option.{Option, none, some}
use Rattle.laws.specs.Lists.{all, any, eq_l, is_nil}
use Rattle.rules.specs.Refusals.{Res, ok, bad, ◌>>=◌, guard, not_well_formed, most_word, most_string, more_of_code, more_of_name, most_blocks, most_places, most_leading, most_elements, most_arguments, most_orders, most_value, most_fraction}
use Rattle.rules.specs.Characters.{is_permitted}
use Rattle.rules.specs.Tokens.{word_chars}
use Rattle.rules.specs.Units.{Radix, r_d, r_h, r_o, r_b, Base, plain, Unit, num, keyed, identifier, symbolic, text, is_held_key, run_of, numeral, is_identifier, is_symbolic_name, allowed}
use Rattle.rules.specs.Commands.{Element, single, range, Name, Place, place, place_name, same_name, Block, block, Command, command, leading, last_unit, all_places, mult, value_count, place_count, is_piece}
use Rattle.rules.specs.Records.{body_bytes, encode, decode_body, decode}

-- ---- units: "its units would be read as that kind under their place's base"

abbrev pub is_none : Option Unit → Bool
is_none none = true
is_none (some i) = false

abbrev pub is_decimal : Radix → Bool
is_decimal r_d = true
is_decimal r_h = false
is_decimal r_o = false
is_decimal r_b = false

-- "A decimal numeral may have one full stop"; "at most 9 fraction digits"
abbrev pub ok_fraction : Radix → ℕ → Bool
ok_fraction r zero = true
ok_fraction r (suc f) = is_decimal r && leb (suc f) most_fraction

-- rules 1 to 5 and the limits of the scan, backwards: a word of the unit's own characters is read as the unit. A symbolic name is one word, so it
-- has no `++`; a string has permitted bytes alone
abbrev pub wf_unit : Base → Unit → Bool
wf_unit b (num r f v) = allowed b (plain r) && ok_fraction r f && leb v most_value
wf_unit b (keyed w) = run_of is_held_key w && leb (length w) most_word
wf_unit b (identifier w) = is_identifier w && is_none (numeral b w) && leb (length w) most_word
wf_unit b (symbolic w) =
    is_symbolic_name w && not (is_identifier w) && is_none (numeral b w) && (leb (length w) most_word && word_chars false w)
wf_unit b (text w) = leb (length w) most_string && all is_permitted w

-- ---- values

-- "Lower, upper and increment are D, H, O or B numerals of one base without fraction; increment at least 1, upper not below lower."
abbrev pub wf_range : Base → Element → Bool
wf_range b (single l u) = true
wf_range b (range l r lo up inc) = wf_unit b (num r 0 up) && wf_unit b (num r 0 inc) && leb lo up && leb 1 inc

-- an element with n leading units
abbrev pub wf_element : Base → ℕ → Element → Bool
wf_element b n e = eqb (length (leading e)) n && all (wf_unit b) (leading e) && wf_unit b (last_unit e) && wf_range b e

-- "All arguments of a value have the same number of units."; at most 4 units, 64 elements, 4,096 arguments
abbrev pub wf_value : Base → List Element → Bool
wf_value b [] = true
wf_value b (e ∷ es) =
    leb (length (leading e)) most_leading && all (wf_element b (length (leading e))) (e ∷ es) && leb (length (e ∷ es)) most_elements
    && leb (value_count (e ∷ es)) most_arguments

-- ---- places, blocks, the command

abbrev pub short : List ℕ → Bool
short w = leb (length w) most_word

-- an identifier, then at most so many pieces that pass the test, none longer than a word may be
abbrev pub wf_pieces : (List ℕ → Bool) → ℕ → List (List ℕ) → Bool
wf_pieces g most [] = false
wf_pieces g most (w ∷ ws) = is_identifier w && all g ws && leb (length ws) most && all short (w ∷ ws)

-- a named place has a name and a value; any other has no name, and may be omitted
abbrev pub wf_place : Bool → Place → Bool
wf_place true (place b nm v) = wf_pieces is_piece more_of_name nm && not (is_nil v) && wf_value b v
wf_place false (place b nm v) = is_nil nm && wf_value b v

-- M-102: "a name that already stands in its block": no name stands among those behind it
abbrev pub names_differ : List Name → Bool
names_differ [] = true
names_differ (nm ∷ ns) = not (any (same_name nm) ns) && names_differ ns

-- "Nothing after `:` is one omitted place.": a block has a place; "all its places must agree"; M-102: "A record with such a pair is no longer
-- well formed."
abbrev pub wf_block : Block → Bool
wf_block (block k ps) = not (is_nil ps) && all (wf_place k) ps && (not k || names_differ (map place_name ps))

-- "1 to 3 identifiers"; at most 8 blocks, 32 places, 65,535 orders
abbrev pub well_formed : Command → Bool
well_formed (command c bs) =
    wf_pieces is_identifier more_of_code c && leb (length bs) most_blocks && all wf_block bs && leb (length (all_places bs)) most_places
    && leb (mult (map place_count (all_places bs))) most_orders

-- ---- on bytes: 18 "record not well formed (place 0)"

-- the command, if it is well formed and the bytes are what is written of it
abbrev pub judged : (Command → List ℕ) → List ℕ → Option Command → Res Command
judged written r none = bad not_well_formed 0
judged written r (some c) = guard (well_formed c && eq_l (written c) r) not_well_formed 0 >>= λ _. ok c

-- the command whose well-formed record the bytes are; M-103: "A record whose field isn't the product, or that lacks it, is not well formed"
unfoldable pub record_of : List ℕ → Res Command
record_of r = judged encode r (decode r)

-- the command whose well-formed record has these bytes behind its head
unfoldable pub body_of : List ℕ → Res Command
body_of b = judged body_bytes b (decode_body b)

abbrev pub is_ok : {A : Type 0} → Res A → Bool
is_ok (ok a) = true
is_ok (bad n p) = false

abbrev pub well_formed_body : List ℕ → Bool
well_formed_body b = is_ok (body_of b)
