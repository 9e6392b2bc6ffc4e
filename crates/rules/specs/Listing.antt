-- Document 02, M-106, "The whole list on one buffer": the orders' records one behind the other, each with its length before it; and such bytes read again.
use Rattle.std.specs.Prelude.{ℕ, zero, suc, ◌+◌, Bool, cond, ◌&&◌, List, [], ◌∷◌, ◌++◌, map, leb, length, take, drop}
use Rattle.std.proofs.Math.Option.{Option, none, some}
use Rattle.laws.specs.Lists.{concat, eq_l, is_nil}
use Rattle.rules.specs.Commands.{Command}
use Rattle.rules.specs.Records.{field, field_bytes, four_bytes, num4, encode}
use Rattle.rules.specs.Orders.{orders}

-- "a field of tag 14"
abbrev pub length_tag : ℕ
length_tag = 14

-- "a field of tag 14 whose content is that order's length in four bytes"
abbrev pub length_bytes : ℕ → List ℕ
length_bytes n = field_bytes (field length_tag (four_bytes n))

-- where in a piece its order begins
abbrev pub length_size : ℕ
length_size = length (length_bytes 0)

-- "each preceded by" it
abbrev pub piece_of : List ℕ → List ℕ
piece_of w = length_bytes (length w) ++ w

-- pieces "one behind the other"
abbrev pub joined : List (List ℕ) → List ℕ
joined ws = concat (map piece_of ws)

-- "write every order of a command": of the written-out list, which "unrolls groups plainly, place after place, without the direct rule"
abbrev pub list_bytes : Command → List ℕ
list_bytes c = joined (map encode (orders c))

-- ---- a reader of pieces, whatever they hold

-- a piece more, if what follows are pieces
abbrev pub cons_piece : List ℕ → Option (List (List ℕ)) → Option (List (List ℕ))
cons_piece w none = none
cons_piece w (some ws) = some (w ∷ ws)

-- the bytes begin with a field of tag 14 and four bytes, and as many bytes follow as these say
abbrev pub piece_first : List ℕ → Bool
piece_first bs = eq_l (take 3 bs) (length_tag ∷ 0 ∷ 4 ∷ []) && leb (length_size + num4 bs 3) (length bs)

-- the pieces that the bytes are, at most so many; none where they are no pieces
abbrev pub pieces_in : ℕ → List ℕ → Option (List (List ℕ))
pieces_in zero bs = cond (is_nil bs) (some []) none
pieces_in (suc most) bs =
    cond (is_nil bs) (some [])
    (cond (piece_first bs) (cons_piece (take (num4 bs 3) (drop length_size bs)) (pieces_in most (drop (length_size + num4 bs 3) bs))) none)

-- every piece has a byte
unfoldable pub pieces_of : List ℕ → Option (List (List ℕ))
pieces_of bs = pieces_in (length bs) bs
