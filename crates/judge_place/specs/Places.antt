-- Pieces and places, read from the front of a record's bytes: each field as document 01's rules read it, and the rules on each met at once.
use Rattle.std.specs.Prelude.{Bool, true, false, ◌&&◌, ◌||◌, not, List, [], ℕ, suc, eqb}
use Rattle.std.proofs.Math.Option.{Option, some}
use Rattle.laws.specs.Cases.{pick}
use Rattle.laws.specs.Lists.{is_nil}
use Rattle.rules.specs.Characters.{byte}
use Rattle.rules.specs.Refusals.{more_of_name}
use Rattle.rules.specs.Units.{Base, is_identifier}
use Rattle.rules.specs.Commands.{Name, Place, place, is_index_number}
use Rattle.rules.specs.Records.{name_tag, Field, field, one_byte}
use Rattle.record_walk.specs.Fronts.{Read, and_then, only, made, front, several}
use Rattle.judge_value.specs.Elements.{value}

-- ---- pieces: of the code, of a name

-- "an identifier, then identifiers or index numbers": where an index number may stand, and where not
unfoldable pub may_be_piece : Bool → List ℕ → Bool
may_be_piece index w = is_identifier w || (index && is_index_number w)

abbrev pub content : Field → List ℕ
content (field t w) = w

unfoldable pub piece : Bool → List ℕ → Read (List ℕ)
piece index r = only (may_be_piece index) (and_then (front r) (λ f r'. some (content f, r')))

abbrev pub is_tag : ℕ → ℕ → Bool
is_tag t x = eqb x t

-- behind the first piece of a name an index number may stand
abbrev pub next_piece : Bool → Bool → List ℕ → Bool
next_piece names index w = names

abbrev pub pieces : ℕ → Bool → ℕ → List ℕ → Read (List (List ℕ))
pieces t names most r = several (is_tag t) piece (next_piece names) most false r

-- ---- a place: its field, its name, its value

-- one of the letters D, H, O, B, K
unfoldable pub is_base : ℕ → Bool
is_base c = eqb c (byte "D") || eqb c (byte "H") || eqb c (byte "O") || eqb c (byte "B") || eqb c (byte "K")

abbrev pub base_in : Field → Option Base
base_in (field t w) = one_byte w

-- the name behind a place's field: in a block that is not named none is looked for
abbrev pub behind_name : Bool → List ℕ → Read Name
behind_name true r = pieces name_tag true (suc more_of_name) r
behind_name false r = some ([], r)

-- "all its places must agree": a named place has a name and a value; any other has no name, since none was looked for
unfoldable pub kind_agrees : Bool → ℕ → ℕ → Bool
kind_agrees named n m = pick named (pick (eqb n 0) false (not (eqb m 0))) true

abbrev pub agrees : Bool → Place → Bool
agrees true (place b nm v) = not (is_nil nm) && not (is_nil v)
agrees false (place b nm v) = is_nil nm

unfoldable pub parts : Bool → Base → List ℕ → Read Place
parts named b r = only (agrees named) (and_then (behind_name named r) (λ nm r₁. and_then (value b r₁) (λ v r₂. some (place b nm v, r₂))))

unfoldable pub one_place : Bool → List ℕ → Read Place
one_place named r = and_then (front r) (λ f r₁. and_then (made (base_in f) r₁) (λ b r₂. parts named b r₂))
