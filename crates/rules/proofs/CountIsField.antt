-- M-103: a well-formed record begins with the number of its orders, since its bytes are its command's; so the count call answers that number, and an order,
-- whose list has one entry, carries 1. Behind another number, or behind none, the same fields are no command's record.
use Prim.Native.Nat.{ℕ, ◌≤◌}
use mathlib.Core.Path.{◌≡◌, sym, ap, ◌∙◌}
use mathlib.Core.Bool.{true, false≢true}
use mathlib.Core.List.{List, [], ◌∷◌, ◌++◌}
use native.Mathlib.Omega.{arith}
use lib.ListN.{length, get_or, drop}
use borrow.Author.Tests.{le-leb}
use Rattle.laws.specs.Cases.{some_inj}
use Rattle.rules.specs.Refusals.{ok, bad, not_well_formed, most_orders, most_value}
use Rattle.rules.specs.Commands.{Command, command}
use Rattle.rules.specs.Orders.{orders, order_at, count}
use Rattle.rules.specs.Records.{four_bytes, head_bytes, head_size, body_bytes, encode, decode_body, count_in}
use Rattle.rules.specs.WellFormed.{well_formed, record_of}
use Rattle.rules.specs.Answers.{counting}
use Rattle.rules.proofs.CommandBack.{count_all, c_count}
use Rattle.rules.proofs.DecodeEncode.{four, decode_body_lem}
use Rattle.rules.proofs.DirectIsList.{count_is}
use Rattle.rules.proofs.EncodeDecode.{IsRecord, record_is, record_refused}
use Rattle.rules.proofs.OrderWellFormed.{order_wf}
use Rattle.rules.proofs.SoleOrder.{order_sole}

-- ---- the field

pub count_most : (c : Command) → well_formed c ≡ true → count c ≤ most_orders
count_most (command c bs) h = omega (arith, count_all bs, c_count c bs h)

-- what stands in a head is the number that was written
pub head_number : (n : ℕ) (b : List ℕ) → n ≤ most_value → count_in (head_bytes n ++ b) ≡ n
head_number n b h = four n (le-leb n most_value h)

pub encoded_count : (c : Command) → well_formed c ≡ true → count_in (encode c) ≡ count c
encoded_count c h = head_number (count c) (body_bytes c) (omega (arith, count_most c h))

pub field_is : (r : List ℕ) (c : Command) → record_of r ≡ ok c → count_in r ≡ count c
field_is r c h = let is : IsRecord r c = record_is r c h in sym (ap count_in is.bytes) ∙ encoded_count c is.well

-- "its answer is then the field"
pub answers_field : (r : List ℕ) (c : Command) → record_of r ≡ ok c → counting r ≡ ok (count_in r)
unfolding counting
answers_field r c h = rw h

pub counted : (r : List ℕ) (c : Command) → record_of r ≡ ok c → counting r ≡ ok (count c)
counted r c h = answers_field r c h ∙ ap ok (field_is r c h)

pub field_length : (r : List ℕ) (c : Command) → record_of r ≡ ok c → count_in r ≡ length (orders c)
field_length r c h = field_is r c h ∙ sym (count_is c (record_is r c h).well)

-- "a record begins with tag 12, four bytes, the number of its orders"; document 01's record stands behind it
pub begins_with : (r : List ℕ) (c : Command) → record_of r ≡ ok c → r ≡ 12 ∷ 0 ∷ 4 ∷ (four_bytes (length (orders c)) ++ body_bytes c)
begins_with r c h =
    let is : IsRecord r c = record_is r c h in
    sym is.bytes ∙ ap (λ n. 12 ∷ 0 ∷ 4 ∷ (four_bytes n ++ body_bytes c)) (sym (count_is c is.well))

-- "each order carries 1"
pub order_count : (c : Command) (k : ℕ) → well_formed c ≡ true → count (order_at c k) ≡ 1
order_count c k h = sym (count_is (order_at c k) (order_wf c k h)) ∙ ap length (order_sole c k)

pub order_one : (c : Command) (k : ℕ) → well_formed c ≡ true → count_in (encode (order_at c k)) ≡ 1
order_one c k h = encoded_count (order_at c k) (order_wf c k h) ∙ order_count c k h

-- ---- another field, or none

same_body : (c d : Command) → well_formed c ≡ true → well_formed d ≡ true → body_bytes d ≡ body_bytes c → d ≡ c
same_body c d h k e = some_inj (sym (decode_body_lem d k) ∙ ap decode_body e ∙ decode_body_lem c h)

-- "A record whose field isn't the product"
pub other_number : (n : ℕ) (c : Command) → n ≤ most_value → well_formed c ≡ true → (n ≡ count c → ⊥) → record_of (head_bytes n ++ body_bytes c) ≡ bad not_well_formed 0
other_number n c small h other =
    record_refused (head_bytes n ++ body_bytes c) (λ d e.
    let is : IsRecord (head_bytes n ++ body_bytes c) d = record_is (head_bytes n ++ body_bytes c) d e in
    let same : d ≡ c = same_body c d h is.well (ap (drop head_size) is.bytes) in
    other (sym (head_number n (body_bytes c) small) ∙ field_is (head_bytes n ++ body_bytes c) d e ∙ ap count same))

-- "or that lacks it": a body begins with its code
pub without_field : (c : Command) → well_formed c ≡ true → record_of (body_bytes c) ≡ bad not_well_formed 0
without_field (command [] bs) h = absurd (false≢true h)
without_field (command (w ∷ ws) bs) h =
    let b : List ℕ = body_bytes (command (w ∷ ws) bs) in
    record_refused b (λ d e.
    let first : 12 ≡ 1 = ap (λ s. get_or s 0 0) (record_is b d e).bytes in
    absurd (omega arith))
