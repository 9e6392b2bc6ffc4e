-- The whole list has fewer than 2^32 bytes, so that four bytes say every length: an order is well formed, so a piece is no longer than the longest record and its seven
-- bytes, and there are at most 65,535.
use Prim.Native.Nat.{ℕ, suc, ◌+◌, ◌*◌, ◌≤◌, ◌<◌}
use mathlib.Core.Path.{◌≡◌}
use mathlib.Core.Bool.{true}
use mathlib.Core.List.{List, [], ◌∷◌, map}
use native.Mathlib.Nat.{suc-mul, zero-mul, mul-le-mul_right}
use native.Mathlib.Omega.{arith}
use lib.ListN.{length, get_or, length-append}
use Rattle.rules.specs.Refusals.{most_orders}
use Rattle.rules.specs.Commands.{Command}
use Rattle.rules.specs.Records.{encode}
use Rattle.rules.specs.WellFormed.{well_formed}
use Rattle.rules.specs.Orders.{orders, order_at, count}
use Rattle.rules.specs.Listing.{length_size, joined, list_bytes}
use Rattle.rules.proofs.CountIsField.{count_most}
use Rattle.rules.proofs.OrderWellFormed.{order_wf}
use Rattle.rules.proofs.PiecesAreOrders.{piece_count, piece_at}
use Rattle.rules.proofs.RecordBound.{most_record, record_size}

-- the bytes of pieces whose orders are none longer than so much
joined_size : (ws : List (List ℕ)) (most : ℕ) → ((k : ℕ) → k < length ws → length (get_or ws k []) ≤ most)
    → length (joined ws) ≤ length ws * (length_size + most)
joined_size [] most h = rw zero-mul (omega arith)
joined_size (w ∷ ws) most h =
    omega (
      arith,
      length-append w (joined ws),
      suc-mul (length ws) (length_size + most),
      h 0 (omega arith),
      joined_size ws most (λ k lt. h (suc k) (omega arith)),
    )

-- an order's record is no longer than any
piece_size : (c : Command) (k : ℕ) → well_formed c ≡ true → k < length (map encode (orders c)) → length (get_or (map encode (orders c)) k []) ≤ most_record
piece_size c k h lt =
    let below : k < count c = rw (piece_count c h) at lt in
    rw (piece_at c k h below) (record_size (order_at c k) (order_wf c k h))

-- so "that order's length in four bytes" is said exactly
pub piece_small : (c : Command) (k : ℕ) → well_formed c ≡ true → k < length (map encode (orders c)) → length (get_or (map encode (orders c)) k []) < 4294967296
piece_small c k h lt = omega (arith, piece_size c k h lt)

-- the list call's own answer fits four bytes too
pub list_size : (c : Command) → well_formed c ≡ true → length (list_bytes c) < 4294967296
list_size c h =
    let ws : List (List ℕ) = map encode (orders c) in
    let few : length ws ≤ most_orders = rw (piece_count c h) (count_most c h) in
    let most : length ws * (length_size + most_record) ≤ most_orders * (length_size + most_record) = mul-le-mul_right (length_size + most_record) few in
    omega (arith, joined_size ws most_record (λ k lt. piece_size c k h lt))
