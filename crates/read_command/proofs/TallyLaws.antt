-- A tally holds what the rules say of the places it has counted: their number, the bytes of their fields, and the running product.
use Prim.Native.Nat.{ℕ, ◌+◌, ◌*◌}
use mathlib.Core.Path.{◌≡◌, refl, sym, ◌∙◌}
use mathlib.Core.Bool.{Bool}
use Rattle.std.proofs.Common.{Option, Some, None}
use mathlib.Core.List.{List, [], ◌∷◌, map}
use native.Mathlib.Omega.{arith}
use lib.Dec.{leb}
use lib.ListN.{length, length-append, length-map}
use Rattle.laws.specs.Cases.{by_bool}
use Rattle.rules.specs.Commands.{Place, place_count, all_places}
use Rattle.rules.specs.Reading.{Placed, placed, unplaced, PlacedBlock, placed_block, block_of, running, running_blocks}
use Rattle.rules.specs.Records.{bytes_of, many, place_fields, block_fields}
use Rattle.rules.specs.Refusals.{Res, ok, bad, ◌>>=◌, too_many_orders, most_orders}
use Rattle.token_table.specs.Parts.{capped}
use Rattle.token_table.proofs.WordLaws.{cap_cap}
use Rattle.read_place.specs.Places.{place_size}
use Rattle.read_place.proofs.PlaceLaws.{bytes_length, cap_right}
use Rattle.read_command.specs.Blocks.{product_with, over_with, counted, opened, tally_places, tally_blocks}
use Rattle.read_command.specs.declared.Tally.{Tally}

-- ---- the number of places

pub places_length : (t : Tally) (xs : List Placed) → (tally_places t xs).places ≡ t.places + length xs
places_length t [] = omega arith
places_length t (placed p x ∷ xs) = places_length (counted t (place_count x) p (capped (place_size x))) xs ∙ omega arith

pub places_blocks : (t : Tally) (bs : List PlacedBlock) → (tally_blocks t bs).places ≡ t.places + length (all_places (map block_of bs))
places_blocks t [] = omega arith
places_blocks t (placed_block k xs ∷ bs) =
    places_blocks (tally_places (opened t) xs) bs
    ∙ omega (arith, places_length (opened t) xs, length-append (map unplaced xs) (all_places (map block_of bs)), length-map xs unplaced)

-- ---- the running product

-- the product, or the first value where it passed the limit
abbrev pub orders_by : Option ℕ → ℕ → Res ℕ
orders_by (Some p) n = bad too_many_orders p
orders_by None n = ok n

abbrev pub orders_of : Tally → Res ℕ
orders_of t = orders_by t.over t.product

orders_one : (t : Tally) (p : ℕ) (x : Place) (z : ℕ) (xs : List Placed)
    → (orders_of (counted t (place_count x) p z) >>= λ m. running m xs) ≡ (orders_of t >>= λ m. running m (placed p x ∷ xs))
orders_one t p x z xs = go t.over
  where
    go : (o : Option ℕ)
        → (orders_by (over_with o (leb (t.product * place_count x) most_orders) p) (product_with o (leb (t.product * place_count x) most_orders) t.product (t.product * place_count x)) >>= λ m. running m xs)
        ≡ (orders_by o t.product >>= λ m. running m (placed p x ∷ xs))
    go (Some q) = refl
    go None = by_bool (leb (t.product * place_count x) 65535) (λ h. rw (h, running)) (λ h. rw (h, running))

started : (r : Res ℕ) → r ≡ (r >>= λ m. running m [])
started (ok m) = refl
started (bad n p) = refl

pub orders_places : (t : Tally) (xs : List Placed) → orders_of (tally_places t xs) ≡ (orders_of t >>= λ m. running m xs)
orders_places t [] = started (orders_of t)
orders_places t (placed p x ∷ xs) =
    orders_places (counted t (place_count x) p (capped (place_size x))) xs ∙ orders_one t p x (capped (place_size x)) xs

bind_bind : (r : Res ℕ) (xs : List Placed) (k : Bool) (bs : List PlacedBlock)
    → ((r >>= λ m. running m xs) >>= λ m. running_blocks m bs) ≡ (r >>= λ m. running_blocks m (placed_block k xs ∷ bs))
bind_bind (ok m) xs k bs = refl
bind_bind (bad n p) xs k bs = refl

begun_blocks : (r : Res ℕ) → r ≡ (r >>= λ m. running_blocks m [])
begun_blocks (ok m) = refl
begun_blocks (bad n p) = refl

pub orders_blocks : (t : Tally) (bs : List PlacedBlock) → orders_of (tally_blocks t bs) ≡ (orders_of t >>= λ m. running_blocks m bs)
orders_blocks t [] = begun_blocks (orders_of t)
orders_blocks t (placed_block k xs ∷ bs) =
    orders_blocks (tally_places (opened t) xs) bs ∙ rw (orders_places (opened t) xs) (bind_bind (orders_of t) xs k bs)

-- ---- the bytes

abbrev pub places_size : List Placed → ℕ
places_size xs = length (bytes_of (many place_fields (map unplaced xs)))

abbrev pub blocks_size : List PlacedBlock → ℕ
blocks_size bs = length (bytes_of (many block_fields (map block_of bs)))

pub bytes_places : (t : Tally) (xs : List Placed) → capped (tally_places t xs).bytes ≡ capped (t.bytes + places_size xs)
bytes_places t [] = let z : t.bytes + 0 ≡ t.bytes = omega arith in rw z
bytes_places t (placed p x ∷ xs) =
    let n = places_size xs in
    let q : t.bytes + capped (place_size x) + n ≡ t.bytes + n + capped (place_size x) = omega arith in
    let s : t.bytes + n + place_size x ≡ t.bytes + (place_size x + n) = omega arith in
    bytes_places (counted t (place_count x) p (capped (place_size x))) xs
    ∙ rw (cap_cap (t.bytes + capped (place_size x)) n, q, cap_right (t.bytes + n) (place_size x), s, bytes_length (place_fields x) (many place_fields (map unplaced xs)))

block_size_lem : (k : Bool) (xs : List Placed) (bs : List PlacedBlock) → blocks_size (placed_block k xs ∷ bs) ≡ 4 + (places_size xs + blocks_size bs)
block_size_lem k xs bs = rw (bytes_length (many place_fields (map unplaced xs)) (many block_fields (map block_of bs))) (omega arith)

pub bytes_blocks : (t : Tally) (bs : List PlacedBlock) → capped (tally_blocks t bs).bytes ≡ capped (t.bytes + blocks_size bs)
bytes_blocks t [] = let z : t.bytes + 0 ≡ t.bytes = omega arith in rw z
bytes_blocks t (placed_block k xs ∷ bs) =
    let u = tally_places (opened t) xs in
    let m = places_size xs in
    let n = blocks_size bs in
    let q : capped (t.bytes + 4) + m + n ≡ capped (t.bytes + 4) + (m + n) = omega arith in
    let s : t.bytes + 4 + (m + n) ≡ t.bytes + (4 + (m + n)) = omega arith in
    bytes_blocks u bs ∙ sym (cap_cap u.bytes n)
    ∙ rw (bytes_places (opened t) xs, cap_cap (capped (t.bytes + 4) + m) n, q, cap_cap (t.bytes + 4) (m + n), s, block_size_lem k xs bs)
