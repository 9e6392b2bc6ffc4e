-- Every answer's value fits 32 bits. It is at most 65,536, a place being one in a text, an index, or a number of bytes or of orders, and no record longer; but for the
-- list call, whose list is shorter than 2^32, and for 26, whose place is the number that was asked.
use Prim.Native.Nat.{ℕ, ◌≤◌, ◌<◌}
use mathlib.Core.Path.{◌≡◌, ap}
use mathlib.Core.Bool.{Bool, true, false}
use mathlib.Core.List.{List}
use native.Mathlib.Omega.{arith}
use lib.ListN.{length}
use Rattle.rules.specs.declared.Keeper.{Keeper}
use Rattle.rules.specs.Refusals.{Res, ok, bad, map_r}
use Rattle.rules.specs.Records.{encode}
use Rattle.rules.specs.WellFormed.{record_of}
use Rattle.rules.specs.Listing.{list_bytes}
use Rattle.rules.specs.Answers.{reading, printing, ordering, counting, listing, locating, reading_row, ordering_row, placing, answered, value_of}
use Rattle.rules.specs.Keeping.{ready, held, flag, settled, pressing, after_key}
use Rattle.rules.proofs.EncodeDecode.{record_is}
use Rattle.rules.proofs.FromTheList.{ReaderRefuses, PrinterRefuses, OrderRefuses, CountRefuses, ListRefuses, LocateRefuses, ReadRowRefuses, OrderRowRefuses, PlaceRefuses, KeyRefuses, Formed, Record, Text, Orders, Listed, Located, reading_comes, printing_comes, ordering_comes, counting_comes, listing_comes, locating_comes, reading_row_comes, ordering_row_comes, placing_comes, pressing_comes}
use Rattle.rules.proofs.ListBound.{list_size}
use Rattle.rules.proofs.RecordBound.{record_bound}
use Rattle.rules.proofs.RefusalPlaces.{Comes, Whatever}
use Rattle.rules.proofs.ResultLaws.{map_ok}
use Rattle.rules.proofs.RowPoints.{offsets_most}

-- a call's value, where its refusals' places and what it writes are no more
value_most : {A : Type 0} (P : ℕ → ℕ → Type 0) (Q : A → Type 0) (size : A → ℕ) (most : ℕ) (r : Res A) → Comes P Q r → ((n p : ℕ) → P n p → p ≤ most)
    → ((a : A) → Q a → size a ≤ most) → value_of (answered (map_r size r)) ≤ most
value_most P Q size most (ok a) h places writes = writes a h
value_most P Q size most (bad n p) h places writes = places n p h

reader_most : (letters text old : List ℕ) (n p : ℕ) → ReaderRefuses letters text old n p → p ≤ 65536
reader_most letters text old n p (ReaderRefuses.a_letter h k) = omega arith
reader_most letters text old n p (ReaderRefuses.too_long h) = omega arith
reader_most letters text old n p (ReaderRefuses.no_end h) = omega arith
reader_most letters text old n p (ReaderRefuses.a_byte z h k) = omega arith
reader_most letters text old n p (ReaderRefuses.no_room h k) = k

pub reading_most : (text letters old : List ℕ) → value_of (answered (map_r length (reading text letters old))) ≤ 65536
reading_most text letters old =
    value_most (ReaderRefuses letters text old) Record length 65536 (reading text letters old) (reading_comes letters text old) (reader_most letters text old) (λ w h. h)

printer_most : (old : List ℕ) (n p : ℕ) → PrinterRefuses old n p → p ≤ 65536
printer_most old n p PrinterRefuses.not_well_formed = omega arith
printer_most old n p PrinterRefuses.too_long = omega arith
printer_most old n p (PrinterRefuses.no_room h k) = omega arith

pub printing_most : (r old : List ℕ) → value_of (answered (map_r length (printing r old))) ≤ 65536
printing_most r old = value_most (PrinterRefuses old) Text length 65536 (printing r old) (printing_comes r old) (printer_most old) (λ w h. omega arith)

-- what is counted is at most 65,535
counted_most : (c : Res ℕ) (n : ℕ) → Comes CountRefuses Orders c → c ≡ ok n → n ≤ 65536
counted_most c n h e = let k : Orders n = rw e at h in omega arith

order_most : (r : List ℕ) (k : ℕ) (old : List ℕ) (n p : ℕ) → OrderRefuses r k old n p → p ≤ 65536
order_most r k old n p OrderRefuses.not_well_formed = omega arith
order_most r k old n p (OrderRefuses.no_such_order e h) = counted_most (counting r) p (counting_comes r) e
order_most r k old n p (OrderRefuses.no_room h m) = m

pub ordering_most : (r : List ℕ) (k : ℕ) (old : List ℕ) → value_of (answered (map_r length (ordering r k old))) ≤ 65536
ordering_most r k old = value_most (OrderRefuses r k old) Record length 65536 (ordering r k old) (ordering_comes r k old) (order_most r k old) (λ w h. h)

count_most : (c : Res ℕ) → Comes CountRefuses Orders c → value_of (answered c) ≤ 65536
count_most (ok n) h = omega arith
count_most (bad n p) CountRefuses.not_well_formed = omega arith

pub counting_most : (r : List ℕ) → value_of (answered (counting r)) ≤ 65536
counting_most r = count_most (counting r) (counting_comes r)

-- a record's list, written or not
list_most : (r w : List ℕ) → Listed r w → length w ≤ 4294967295
list_most r w h = map_ok list_bytes (record_of r) w h (λ c q e. omega (arith, ap length e, list_size c (record_is r c q).well))

-- the list call's places: 0, or the length of the record's list
list_place_most : (r old : List ℕ) (n p : ℕ) → ListRefuses r old n p → p ≤ 4294967295
list_place_most r old n p ListRefuses.not_well_formed = omega arith
list_place_most r old n p (ListRefuses.no_room h k) = list_most r _ h

pub listing_most : (r old : List ℕ) → value_of (answered (map_r length (listing r old))) < 4294967296
listing_most r old =
    omega (arith, value_most (ListRefuses r old) (Listed r) length 4294967295 (listing r old) (listing_comes r old) (list_place_most r old) (list_most r))

-- what is found is at most 4,096
located_few : (r : List ℕ) (n : ℕ) (w : List ℕ) (k : ℕ) (l : Res ℕ) → Comes (LocateRefuses r n w) Located l → l ≡ ok k → k ≤ 4096
located_few r n w k l h e = rw e at h

pub locating_few : (r : List ℕ) (n : ℕ) (w : List ℕ) (k : ℕ) → locating r n w ≡ ok k → k ≤ 4096
locating_few r n w k e = located_few r n w k (locating r n w) (locating_comes r n w) e

-- where an argument stands, or the asked number, or 0
locate_most : (r : List ℕ) (n : ℕ) (w : List ℕ) (l : Res ℕ) → Comes (LocateRefuses r n w) Located l → n < 4294967296 → value_of (answered l) < 4294967296
locate_most r n w (ok k) h few = omega arith
locate_most r n w (bad nr p) LocateRefuses.not_well_formed few = omega arith
locate_most r n w (bad nr p) (LocateRefuses.no_such_place e z) few = few
locate_most r n w (bad nr p) (LocateRefuses.wrong_argument e z g) few = omega arith

pub locating_most : (r : List ℕ) (n : ℕ) (w : List ℕ) → n < 4294967296 → value_of (answered (locating r n w)) < 4294967296
locating_most r n w few = locate_most r n w (locating r n w) (locating_comes r n w) few

-- the calls with a row: bytes written, or slots needed, or what the call without a row answers
read_row_place : (letters text old row : List ℕ) (n p : ℕ) → ReadRowRefuses letters text old row n p → p ≤ 65536
read_row_place letters text old row n p (ReadRowRefuses.as_reader h) = reader_most letters text old n p h
read_row_place letters text old row n p (ReadRowRefuses.no_slots h k) = omega arith

pub reading_row_most : (text letters old row : List ℕ) → value_of (answered (map_r (λ c. length (encode c)) (reading_row text letters old row))) ≤ 65536
reading_row_most text letters old row =
    value_most (ReadRowRefuses letters text old row) Formed (λ c. length (encode c)) 65536 (reading_row text letters old row) (reading_row_comes letters text old row)
    (read_row_place letters text old row) record_bound

order_row_place : (r : List ℕ) (k : ℕ) (old row : List ℕ) (n p : ℕ) → OrderRowRefuses r k old row n p → p ≤ 65536
order_row_place r k old row n p (OrderRowRefuses.as_order h) = order_most r k old n p h
order_row_place r k old row n p (OrderRowRefuses.no_slots h m) = omega arith

pub ordering_row_most : (r : List ℕ) (k : ℕ) (old row : List ℕ) → value_of (answered (map_r (λ c. length (encode c)) (ordering_row r k old row))) ≤ 65536
ordering_row_most r k old row =
    value_most (OrderRowRefuses r k old row) Formed (λ c. length (encode c)) 65536 (ordering_row r k old row) (ordering_row_comes r k old row)
    (order_row_place r k old row) record_bound

-- a place's fields are no longer than a record
place_few : (r row : List ℕ) (n : ℕ) (w : List ℕ) (l : Res (List ℕ)) → Comes (PlaceRefuses r row n) Record l → l ≡ ok w → length w ≤ 65536
place_few r row n w l h e = rw e at h

pub placing_few : (r row : List ℕ) (n : ℕ) (w : List ℕ) → placing r row n ≡ ok w → length w ≤ 65536
placing_few r row n w e = place_few r row n w (placing r row n) (placing_comes r row n) e

-- their length, or a slot, or the asked number, or 0
place_most : (r row : List ℕ) (n : ℕ) (l : Res (List ℕ)) → Comes (PlaceRefuses r row n) Record l → n < 4294967296
    → value_of (answered (map_r length l)) < 4294967296
place_most r row n (ok w) h few = omega arith
place_most r row n (bad nr p) PlaceRefuses.not_well_formed few = omega arith
place_most r row n (bad nr p) (PlaceRefuses.wrong_row {c} e h) few = omega (arith, offsets_most c (record_is r c e).well)
place_most r row n (bad nr p) (PlaceRefuses.no_such_place e h) few = few

pub placing_most : (r row : List ℕ) (n : ℕ) → n < 4294967296 → value_of (answered (map_r length (placing r row n))) < 4294967296
placing_most r row n few = place_most r row n (placing r row n) (placing_comes r row n) few

-- a key's: 0, 1 or 1,024
flag_most : (b : Bool) → flag b ≤ 65536
flag_most true = omega arith
flag_most false = omega arith

key_most : (k : Keeper) (c n p : ℕ) → KeyRefuses k c n p → p ≤ 65536
key_most k c n p (KeyRefuses.full_line h r e) = omega arith
key_most k c n p (KeyRefuses.passed_count h) = omega arith

pressed_most : (k : Keeper) (c : ℕ) (r : Res Keeper) → Comes (KeyRefuses k c) Whatever r → value_of (settled r k).answer ≤ 65536
pressed_most k c (ok n) h = flag_most (ready (held n))
pressed_most k c (bad n p) h = key_most k c n p h

pub pressing_most : (k : Keeper) (c : ℕ) → value_of (after_key k c).answer ≤ 65536
unfolding after_key
pressing_most k c = pressed_most k c (pressing k c) (pressing_comes k c)
