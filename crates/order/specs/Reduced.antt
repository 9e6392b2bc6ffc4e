-- What stands behind a record's head, with each value reduced to the argument at its place's position; and the positions of order k. With these positions it is
-- what stands behind the head of document 01's order k.
use Rattle.std.specs.Prelude.{cond, List, [], ◌∷◌, ◌++◌, map, ℕ, ◌/◌, ◌%◌, ◌<◌}
use Rattle.laws.specs.Cases.{Always}
use Rattle.rules.specs.Characters.{byte}
use Rattle.rules.specs.Refusals.{Res, ok, bad}
use Rattle.rules.specs.Commands.{Place, place, Block, block, Command, command, all_places, place_count}
use Rattle.rules.specs.Records.{Field, field, many, place_fields, bytes_of, head_bytes, code_tag, block_tag}
use Rattle.rules.specs.WellFormed.{body_of}
use Rattle.rules.specs.Orders.{value_at, back}

-- "a place's position is the remainder of what is left of k by that place's number of arguments, and the quotient goes on to the place before"
abbrev pub position_at : ℕ → ℕ → ℕ × ℕ
position_at n k = (k % n, k / n)

-- "From the last place back"
unfoldable pub positions_of : List ℕ → ℕ → List ℕ
positions_of ns k = (back position_at ns k).0

-- the parts of a record: fields of code and of blocks, and places with names and values
pub data Part : Type 0 where
  kept : Field → Part
  placed : Place → Part

abbrev pub part_fields : Part → List Field
part_fields (kept f) = f ∷ []
part_fields (placed p) = place_fields p

abbrev pub parts_bytes : List Part → List ℕ
parts_bytes ps = bytes_of (many part_fields ps)

abbrev pub block_parts : List Block → List Part
block_parts [] = []
block_parts (block k ps ∷ bs) = kept (field block_tag (cond k (byte "N") (byte "P") ∷ [])) ∷ (map placed ps ++ block_parts bs)

abbrev pub parts_of : Command → List Part
parts_of (command c bs) = map (λ w. kept (field code_tag w)) c ++ block_parts bs

-- a place with its value reduced to the argument at a position
abbrev pub reduced_place : Place → ℕ → Place
reduced_place (place b nm v) n = place b nm (value_at v n)

-- each place with the position that is next in the list
abbrev pub reduce : List Part → List ℕ → List Part
reduce [] ns = []
reduce (kept f ∷ ps) ns = kept f ∷ reduce ps ns
reduce (placed p ∷ ps) [] = placed p ∷ reduce ps []
reduce (placed p ∷ ps) (n ∷ ns) = placed (reduced_place p n) ∷ reduce ps ns

abbrev pub reduced_in : Res Command → List ℕ → List ℕ
reduced_in (ok c) ns = parts_bytes (reduce (parts_of c) ns)
reduced_in (bad n p) ns = []

-- of the bytes behind a head
unfoldable pub reduced : List ℕ → List ℕ → List ℕ
reduced rec ns = reduced_in (body_of rec) ns

-- an order's record. M-103: "each order carries 1"
abbrev pub order_bytes : List ℕ → List ℕ → List ℕ
order_bytes rec ns = head_bytes 1 ++ reduced rec ns

-- ---- positions that a record has

-- a position for each place, below its number of arguments
abbrev pub Below : List Place → List ℕ → Type 0
Below [] [] = Always
Below [] (n ∷ ns) = ⊥
Below (p ∷ ps) [] = ⊥
Below (p ∷ ps) (n ∷ ns) = (n < place_count p) × Below ps ns

abbrev pub places_in : Command → List Place
places_in (command c bs) = all_places bs
