-- M-106: a piece's first seven bytes say where it ends, so bytes are pieces in one way only and a reader of pieces is a left inverse of joining; and the written-out list
-- is the direct rule's, so that the pieces are as many as the count and the k-th is order k.
use Prim.Native.Nat.{ℕ, zero, suc, ◌+◌, ◌≤◌, ◌<◌}
use mathlib.Core.Path.{◌≡◌, refl, sym, ap, ◌∙◌}
use mathlib.Core.Bool.{true}
use mathlib.Core.List.{List, [], ◌∷◌, ◌++◌, map}
use mathlib.Core.Option.{some}
use native.Mathlib.Nat.{not-suc-le-zero, le_of_suc-le-suc}
use native.Mathlib.Omega.{arith}
use lib.Dec.{leb}
use lib.ListN.{length, get_or, take, drop, length-append, length-map}
use lib.Seq.{take-append_seam, drop-append_seam, drop-drop}
use borrow.Author.Tests.{le-leb, lt-leb}
use Rattle.laws.specs.Cases.{some_inj}
use Rattle.laws.specs.Lists.{get_d_map_lt}
use Rattle.rules.specs.Refusals.{ok, bad, no_room}
use Rattle.rules.specs.Commands.{Command}
use Rattle.rules.specs.Records.{num4, encode}
use Rattle.rules.specs.WellFormed.{well_formed, record_of}
use Rattle.rules.specs.Orders.{orders, order_at, count}
use Rattle.rules.specs.Listing.{length_size, piece_of, joined, list_bytes, pieces_in, pieces_of}
use Rattle.rules.specs.Answers.{listing}
use Rattle.rules.proofs.DirectIsList.{count_is, direct_is}

-- ---- joined pieces are read again

-- the four bytes before an order say its length
head_says : (w rest : List ℕ) → num4 (piece_of w ++ rest) 3 ≡ length w
head_says w rest = omega arith

-- a reader that may take as many pieces as there are takes them all
pieces_in_lem : (ws : List (List ℕ)) (most : ℕ) → length ws ≤ most → pieces_in most (joined ws) ≡ some ws
pieces_in_lem [] zero h = refl
pieces_in_lem [] (suc most) h = refl
pieces_in_lem (w ∷ ws) zero h = absurd (not-suc-le-zero h)
pieces_in_lem (w ∷ ws) (suc most) h =
    let bs : List ℕ = piece_of w ++ joined ws in
    let n : num4 bs 3 ≡ length w = head_says w (joined ws) in
    let long : leb (length_size + num4 bs 3) (length bs) ≡ true =
    le-leb (length_size + num4 bs 3) (length bs) (omega (arith, length-append w (joined ws))) in
    let body : take (num4 bs 3) (drop length_size bs) ≡ w = rw n (take-append_seam w (joined ws)) in
    let behind : drop (length_size + num4 bs 3) bs ≡ drop (num4 bs 3) (w ++ joined ws) = sym (drop-drop (num4 bs 3) length_size bs) in
    let rest : drop (length_size + num4 bs 3) bs ≡ joined ws = behind ∙ rw n (drop-append_seam w (joined ws)) in
    rw (long, body, rest, pieces_in_lem ws most (le_of_suc-le-suc h))

-- no more pieces than bytes
few : (ws : List (List ℕ)) → length ws ≤ length (joined ws)
few [] = omega arith
few (w ∷ ws) = omega (arith, length-append w (joined ws), few ws)

-- reading after joining
pub pieces_back : (ws : List (List ℕ)) → pieces_of (joined ws) ≡ some ws
unfolding pieces_of
pieces_back ws = pieces_in_lem ws (length (joined ws)) (few ws)

-- bytes are pieces in one way only
pub split_once : (ws vs : List (List ℕ)) → joined ws ≡ joined vs → ws ≡ vs
split_once ws vs h = some_inj (sym (pieces_back ws) ∙ ap pieces_of h ∙ pieces_back vs)

-- ---- the pieces are the orders

-- the reader finds the orders' records in the list
pub list_back : (c : Command) → pieces_of (list_bytes c) ≡ some (map encode (orders c))
list_back c = pieces_back (map encode (orders c))

-- "it writes as many pieces as the count"
pub piece_count : (c : Command) → well_formed c ≡ true → length (map encode (orders c)) ≡ count c
piece_count c h = length-map (orders c) encode ∙ count_is c h

-- "Its k-th piece is what order k gives, for all k"
pub piece_at : (c : Command) (k : ℕ) → well_formed c ≡ true → k < count c → get_or (map encode (orders c)) k [] ≡ encode (order_at c k)
piece_at c k h lt = get_d_map_lt encode (orders c) k c [] (rw (count_is c h) lt) ∙ ap encode (direct_is c k c h lt)

-- ---- the call: "Refusals: 18, then 17 with the bytes needed."

-- with room for all of it the list is written
pub listed : (r old : List ℕ) (c : Command) → record_of r ≡ ok c → length (list_bytes c) ≤ length old → listing r old ≡ ok (list_bytes c)
unfolding listing
listed r old c h room = rw (h, le-leb (length (list_bytes c)) (length old) room)

-- "17 with the bytes needed"
pub list_no_room : (r old : List ℕ) (c : Command) → record_of r ≡ ok c → length old < length (list_bytes c)
    → listing r old ≡ bad no_room (length (list_bytes c))
unfolding listing
list_no_room r old c h short = rw (h, lt-leb (length (list_bytes c)) (length old) short)

-- what is no record is refused as every call refuses it
pub not_listed : (r old : List ℕ) (n p : ℕ) → record_of r ≡ bad n p → listing r old ≡ bad n p
unfolding listing
not_listed r old n p h = rw h
