-- "one number from the list": what each call may refuse with, and where; the numbers are the paper's, written out, and a place lies in what its number speaks of.
use Prim.Native.Nat.{ℕ, ◌<◌, ◌≤◌}
use mathlib.Core.Path.{◌≡◌, sym, ◌∙◌}
use mathlib.Core.Bool.{true, false, ◌&&◌, not, false≢true}
use mathlib.Core.List.{List, [], ◌∷◌}
use mathlib.Core.Option.{Option, none, some}
use native.Mathlib.Omega.{arith}
use lib.Dec.{eqb, leb, ltb}
use lib.ListN.{length}
use borrow.Author.Tests.{leb-true, leb-false, ltb-true, ltb-false, not-true, not-false}
use Rattle.laws.specs.Cases.{pick_if, by_bool, and_l}
use Rattle.laws.specs.Keys.{any_of}
use Rattle.laws.specs.Lists.{eq_l, is_nil}
use Rattle.rules.specs.declared.Keeper.{Keeper}
use Rattle.rules.specs.Refusals.{Res, ok, bad, ◌>>=◌, map_r, guard, most_text}
use Rattle.rules.specs.Tokens.{Token, semi, idle, run, first_off, scan}
use Rattle.rules.specs.Units.{Base}
use Rattle.rules.specs.Commands.{Element, Command, place_base, place_value, cut_at}
use Rattle.rules.specs.Reading.{read_letters, read}
use Rattle.rules.specs.Records.{encode, decode, count_in}
use Rattle.rules.specs.WellFormed.{well_formed, judged, record_of}
use Rattle.rules.specs.Printing.{print}
use Rattle.rules.specs.Orders.{order_at, count}
use Rattle.rules.specs.Listing.{list_bytes}
use Rattle.rules.specs.Positions.{place_of, argument_of, is_given, located}
use Rattle.rules.specs.Indexes.{offsets, place_bytes, agreeing}
use Rattle.rules.specs.Answers.{fitted, reading, printing, order_of, ordering, counting, listing, locating, indexed, reading_row, ordering_row, placing}
use Rattle.rules.specs.Keeping.{ready, held, found, stored, pressing}
use Rattle.rules.proofs.CountIsField.{count_most, field_is, counted}
use Rattle.rules.proofs.EncodeDecode.{record_is}
use Rattle.rules.proofs.LocateCall.{Given, given_back, value_fine, located_most}
use Rattle.rules.proofs.OrderWellFormed.{order_wf}
use Rattle.rules.proofs.ReadSound.{read_wf}
use Rattle.rules.proofs.RecordBound.{record_bound}
use Rattle.rules.proofs.RefusalPlaces.{Comes, Whatever, comes_more, comes_as, bind_comes, map_comes, guard_comes, comes_bad, comes_self, Before, cut_in, off_comes, run_comes, cut_comes, letters_come}
use Rattle.rules.proofs.RowCalls.{place_small}
use Rattle.rules.proofs.RowPoints.{offsets_most}

-- ---- the lists

-- reader: 1 at an index of the list of letters, 32 at most; 2 at 1,024 of a longer text; of a text that is no longer, 6 at its length and the others at a byte of it; 17 at more
-- bytes than the buffer has, and no more than a record can have
pub data ReaderRefuses (letters text old : List ℕ) : ℕ → ℕ → Type 0 where
  a_letter : {p : ℕ} → p < length letters → p ≤ 32 → ReaderRefuses letters text old 1 p
  too_long : 1024 < length text → ReaderRefuses letters text old 2 1024
  no_end : length text ≤ 1024 → ReaderRefuses letters text old 6 (length text)
  a_byte : {n p : ℕ} → any_of (3 ∷ 4 ∷ 5 ∷ 7 ∷ 8 ∷ 9 ∷ 10 ∷ 11 ∷ 12 ∷ 13 ∷ 14 ∷ 15 ∷ 16 ∷ 21 ∷ []) n ≡ true → p < length text → length text ≤ 1024
      → ReaderRefuses letters text old n p
  no_room : {p : ℕ} → length old < p → p ≤ 65536 → ReaderRefuses letters text old 17 p

-- "Printer: 18 record not well formed (place 0), 2 (place 1,024), 17."
pub data PrinterRefuses (old : List ℕ) : ℕ → ℕ → Type 0 where
  not_well_formed : PrinterRefuses old 18 0
  too_long : PrinterRefuses old 2 1024
  no_room : {p : ℕ} → length old < p → p ≤ 1024 → PrinterRefuses old 17 p

-- "Order k: 18, 19 if k is not below the count (place the count), 17."
pub data OrderRefuses (r : List ℕ) (k : ℕ) (old : List ℕ) : ℕ → ℕ → Type 0 where
  not_well_formed : OrderRefuses r k old 18 0
  no_such_order : {p : ℕ} → counting r ≡ ok p → p ≤ k → OrderRefuses r k old 19 p
  no_room : {p : ℕ} → length old < p → p ≤ 65536 → OrderRefuses r k old 17 p

-- "Count: 18"
pub data CountRefuses : ℕ → ℕ → Type 0 where
  not_well_formed : CountRefuses 18 0

-- the bytes are the list of a record's orders
abbrev pub Listed : List ℕ → List ℕ → Type 0
Listed r w = map_r list_bytes (record_of r) ≡ ok w

-- M-106: "18, then 17 with the bytes needed": the length of the record's list
pub data ListRefuses (r old : List ℕ) : ℕ → ℕ → Type 0 where
  not_well_formed : ListRefuses r old 18 0
  no_room : {w : List ℕ} → Listed r w → length old < length w → ListRefuses r old 17 (length w)

-- M-107: "18; 26 no such place or an omitted one, place the asked number; 27 argument not 1 to 4 unit fields that could stand under that place's base, place 0"
pub data LocateRefuses (r : List ℕ) (n : ℕ) (w : List ℕ) : ℕ → ℕ → Type 0 where
  not_well_formed : LocateRefuses r n w 18 0
  no_such_place : {c : Command} → record_of r ≡ ok c → is_nil (place_value (place_of c n)) ≡ true → LocateRefuses r n w 26 n
  wrong_argument : {c : Command} → record_of r ≡ ok c → is_nil (place_value (place_of c n)) ≡ false → (Given (place_base (place_of c n)) w → ⊥) → LocateRefuses r n w 27 0

-- M-108: what the reader refuses, and "17 if the row is too short (place the slots needed)"; a command has at most 32 places
pub data ReadRowRefuses (letters text old row : List ℕ) : ℕ → ℕ → Type 0 where
  as_reader : {n p : ℕ} → ReaderRefuses letters text old n p → ReadRowRefuses letters text old row n p
  no_slots : {p : ℕ} → length row < p → p ≤ 32 → ReadRowRefuses letters text old row 17 p

-- the same of order k
pub data OrderRowRefuses (r : List ℕ) (k : ℕ) (old row : List ℕ) : ℕ → ℕ → Type 0 where
  as_order : {n p : ℕ} → OrderRefuses r k old n p → OrderRowRefuses r k old row n p
  no_slots : {p : ℕ} → length row < p → p ≤ 32 → OrderRowRefuses r k old row 17 p

-- M-108: "18, then 28 where the row is shorter than the places or a slot differs (place the first such slot), then 26 for no such place", its place the asked number
pub data PlaceRefuses (r row : List ℕ) (n : ℕ) : ℕ → ℕ → Type 0 where
  not_well_formed : PlaceRefuses r row n 18 0
  wrong_row : {c : Command} {p : ℕ} → record_of r ≡ ok c → p < length (offsets c) → PlaceRefuses r row n 28 p
  no_such_place : {c : Command} → record_of r ≡ ok c → length (offsets c) ≤ n → PlaceRefuses r row n 26 n

-- M-100: "20, a key to be held when 1,024 bytes of a line not ready are held, or any key to a keeper whose count passes 1,024, place 1,024"
pub data KeyRefuses (k : Keeper) (c : ℕ) : ℕ → ℕ → Type 0 where
  full_line : any_of (8 ∷ 24 ∷ []) c ≡ false → ready (held k) ≡ false → k.count ≡ 1024 → KeyRefuses k c 20 1024
  passed_count : 1024 < k.count → KeyRefuses k c 20 1024

-- ---- the reader

-- a text that is scanned has at most 1,024 bytes, and its tokens stand in it
abbrev Scanned : List ℕ → List Token → Type 0
Scanned cs ts = Before (length cs) ts × (length cs ≤ 1024)

pub scan_comes : (P : ℕ → ℕ → Type 0) (cs : List ℕ) → (1024 < length cs → P 2 1024)
    → ((n p : ℕ) → any_of (3 ∷ 4 ∷ 5 ∷ 7 ∷ 8 ∷ 9 ∷ 10 ∷ 11 ∷ 12 ∷ 13 ∷ 14 ∷ 15 ∷ 16 ∷ 21 ∷ []) n ≡ true → p < length cs → length cs ≤ 1024 → P n p)
    → Comes P (Scanned cs) (scan cs)
unfolding scan
scan_comes P cs long hit =
    by_bool (leb (length cs) 1024)
    (λ y.
    let few : length cs ≤ 1024 = leb-true (length cs) 1024 y in
    let inside : (n p : ℕ) → any_of (3 ∷ 4 ∷ 5 ∷ 7 ∷ 8 ∷ 9 ∷ 10 ∷ 11 ∷ 12 ∷ 13 ∷ 14 ∷ 15 ∷ 16 ∷ 21 ∷ []) n ≡ true → p < length cs → P n p
    = λ n p z h. hit n p z h few in
    rw (y, scan)
    (bind_comes P Whatever (Scanned cs) (first_off 0 cs) (λ b. run idle 0 cs) (off_comes P (length cs) inside cs 0 (omega arith))
    (λ b z. comes_more P (Before (length cs)) (Scanned cs) (run idle 0 cs) (run_comes P (length cs) inside cs idle 0 tt (omega arith)) (λ ts x. (x, few)))))
    (λ y. rw (y, scan) (long (omega (arith, leb-false (length cs) 1024 y))))

pub read_comes : (letters text old : List ℕ) → Comes (ReaderRefuses letters text old) Whatever (read letters text)
unfolding read
read_comes letters text old =
    bind_comes (ReaderRefuses letters text old) Whatever Whatever (read_letters 0 letters) _
    (letters_come (ReaderRefuses letters text old) (length letters) (λ p h k. a_letter h k) 0 letters (omega arith) (omega arith))
    (λ bs x.
    bind_comes (ReaderRefuses letters text old) (Scanned text) Whatever (scan text) _
    (scan_comes (ReaderRefuses letters text old) text (λ h. too_long h) (λ n p z h few. a_byte z h few))
    (λ ts y.
    cut_comes (ReaderRefuses letters text old) (length text) (λ n p z h. a_byte z h y.1) bs (length text) (cut_at semi ts) (no_end y.1)
    (cut_in (length text) semi ts y.0)))

-- 17 comes last, at the bytes needed
pub fitted_comes : (P : ℕ → ℕ → Type 0) (Q : List ℕ → Type 0) (old : List ℕ) (r : Res (List ℕ)) → Comes P Q r
    → ((w : List ℕ) → Q w → length old < length w → P 17 (length w)) → Comes P Q (fitted old r)
fitted_comes P Q old r h k =
    bind_comes P Q Q r _ h
    (λ w q.
    guard_comes P Q (leb (length w) (length old)) 17 (length w) (λ _. ok w)
    (λ y. k w q (omega (arith, leb-false (length w) (length old) y))) (λ y. q))

-- no longer than a record can be; than a text can be
abbrev pub Record : List ℕ → Type 0
Record w = length w ≤ 65536

abbrev pub Text : List ℕ → Type 0
Text w = length w ≤ 1024

pub reading_comes : (letters text old : List ℕ) → Comes (ReaderRefuses letters text old) Record (reading text letters old)
unfolding reading
reading_comes letters text old =
    fitted_comes (ReaderRefuses letters text old) Record old (map_r encode (read letters text))
    (map_comes (ReaderRefuses letters text old) (λ c. read letters text ≡ ok c) Record encode (read letters text)
    (comes_self (ReaderRefuses letters text old) Whatever (read letters text) (read_comes letters text old))
    (λ c q. record_bound c (read_wf letters text c q)))
    (λ w q h. no_room h q)

pub reader_list : (letters text old : List ℕ) (n p : ℕ) → reading text letters old ≡ bad n p → ReaderRefuses letters text old n p
reader_list letters text old n p e =
    comes_bad (ReaderRefuses letters text old) Record (reading text letters old) n p (reading_comes letters text old) e

-- ---- the others

-- a record that is judged is well formed, or refused with 18 at 0
pub record_comes : (P : ℕ → ℕ → Type 0) (r : List ℕ) → P 18 0 → Comes P (λ c. well_formed c ≡ true) (record_of r)
unfolding record_of
record_comes P r h = go (decode r)
  where
    go : (o : Option Command) → Comes P (λ c. well_formed c ≡ true) (judged encode r o)
    go none = h
    go (some c) =
        guard_comes P (λ d. well_formed d ≡ true) (well_formed c && eq_l (encode c) r) 18 0 (λ _. ok c) (λ _. h)
        (λ y. and_l (well_formed c) (eq_l (encode c) r) y)

-- what the printer has to write
abbrev to_print : List ℕ → Res (List ℕ)
to_print r = record_of r >>= λ c. guard (leb (length (print c)) most_text) 2 most_text >>= λ _. ok (print c)

pub printing_comes : (r old : List ℕ) → Comes (PrinterRefuses old) Text (printing r old)
unfolding printing
printing_comes r old =
    fitted_comes (PrinterRefuses old) Text old (to_print r)
    (bind_comes (PrinterRefuses old) (λ c. well_formed c ≡ true) Text (record_of r) (λ c. guard (leb (length (print c)) most_text) 2 most_text >>= λ _. ok (print c))
    (record_comes (PrinterRefuses old) r not_well_formed)
    (λ c x.
    guard_comes (PrinterRefuses old) Text (leb (length (print c)) 1024) 2 1024 (λ _. ok (print c)) (λ y. too_long)
    (λ y. leb-true (length (print c)) 1024 y)))
    (λ w q h. no_room h q)

pub printer_list : (r old : List ℕ) (n p : ℕ) → printing r old ≡ bad n p → PrinterRefuses old n p
printer_list r old n p e = comes_bad (PrinterRefuses old) Text (printing r old) n p (printing_comes r old) e

-- order k of what is judged is well formed, or refused: 18 at 0, 19 at the count
pub order_comes : (P : ℕ → ℕ → Type 0) (r : List ℕ) (k : ℕ) → P 18 0 → ((p : ℕ) → counting r ≡ ok p → p ≤ k → P 19 p)
    → Comes P (λ c. well_formed c ≡ true) (order_of r k)
order_comes P r k h g =
    bind_comes P (λ c. record_of r ≡ ok c) (λ c. well_formed c ≡ true) (record_of r) _
    (comes_self P (λ c. well_formed c ≡ true) (record_of r) (record_comes P r h))
    (λ c x.
    guard_comes P (λ d. well_formed d ≡ true) (ltb k (count c)) 19 (count c) (λ _. ok (order_at c k))
    (λ y. g (count c) (counted r c x) (omega (arith, ltb-false k (count c) y)))
    (λ y. order_wf c k (record_is r c x).well))

pub ordering_comes : (r : List ℕ) (k : ℕ) (old : List ℕ) → Comes (OrderRefuses r k old) Record (ordering r k old)
unfolding ordering
ordering_comes r k old =
    fitted_comes (OrderRefuses r k old) Record old (map_r encode (order_of r k))
    (map_comes (OrderRefuses r k old) (λ c. well_formed c ≡ true) Record encode (order_of r k)
    (order_comes (OrderRefuses r k old) r k not_well_formed (λ p e h. no_such_order e h)) (λ c q. record_bound c q))
    (λ w q h. no_room h q)

pub order_list : (r : List ℕ) (k : ℕ) (old : List ℕ) (n p : ℕ) → ordering r k old ≡ bad n p → OrderRefuses r k old n p
order_list r k old n p e = comes_bad (OrderRefuses r k old) Record (ordering r k old) n p (ordering_comes r k old) e

-- "if the orders pass 65,535"
abbrev pub Orders : ℕ → Type 0
Orders n = n ≤ 65535

pub counting_comes : (r : List ℕ) → Comes CountRefuses Orders (counting r)
unfolding counting
counting_comes r =
    map_comes CountRefuses (λ c. record_of r ≡ ok c) Orders (λ c. count_in r) (record_of r)
    (comes_self CountRefuses (λ c. well_formed c ≡ true) (record_of r) (record_comes CountRefuses r not_well_formed))
    (λ c x. omega (arith, field_is r c x, count_most c (record_is r c x).well))

pub count_list : (r : List ℕ) (n p : ℕ) → counting r ≡ bad n p → CountRefuses n p
count_list r n p e = comes_bad CountRefuses Orders (counting r) n p (counting_comes r) e

-- 18 of what is no record, else its list, or 17 at the list's length
pub listing_comes : (r old : List ℕ) → Comes (ListRefuses r old) (Listed r) (listing r old)
unfolding listing
listing_comes r old =
    fitted_comes (ListRefuses r old) (Listed r) old (map_r list_bytes (record_of r))
    (comes_self (ListRefuses r old) Whatever (map_r list_bytes (record_of r))
    (map_comes (ListRefuses r old) (λ c. well_formed c ≡ true) Whatever list_bytes (record_of r) (record_comes (ListRefuses r old) r not_well_formed) (λ c x. tt)))
    (λ w q h. no_room q h)

pub list_list : (r old : List ℕ) (n p : ℕ) → listing r old ≡ bad n p → ListRefuses r old n p
list_list r old n p e = comes_bad (ListRefuses r old) (Listed r) (listing r old) n p (listing_comes r old) e

-- "no (with 0)", or 1 and a position among at most 4,096 arguments
abbrev pub Located : ℕ → Type 0
Located k = k ≤ 4096

pub locating_comes : (r : List ℕ) (n : ℕ) (w : List ℕ) → Comes (LocateRefuses r n w) Located (locating r n w)
unfolding locating
locating_comes r n w =
    bind_comes (LocateRefuses r n w) (λ c. record_of r ≡ ok c) Located (record_of r) _
    (comes_self (LocateRefuses r n w) (λ c. well_formed c ≡ true) (record_of r) (record_comes (LocateRefuses r n w) r not_well_formed))
    (λ c x.
    let b : Base = place_base (place_of c n) in
    let v : List Element = place_value (place_of c n) in
    guard_comes (LocateRefuses r n w) Located (not (is_nil v)) 26 n _
    (λ y. no_such_place x (not-false (is_nil v) y))
    (λ y.
    guard_comes (LocateRefuses r n w) Located (is_given b w) 27 0 (λ _. ok (located v (argument_of w)))
    (λ z. wrong_argument x (not-true (is_nil v) y) (λ g. false≢true (sym z ∙ given_back b w g)))
    (λ z. located_most b v (argument_of w) (value_fine c n (record_is r c x).well))))

pub locate_list : (r : List ℕ) (n : ℕ) (w : List ℕ) (nr p : ℕ) → locating r n w ≡ bad nr p → LocateRefuses r n w nr p
locate_list r n w nr p e = comes_bad (LocateRefuses r n w) Located (locating r n w) nr p (locating_comes r n w) e

-- ---- the calls with a row

-- 17 of the record, then 17 of the row
indexed_comes : (P : ℕ → ℕ → Type 0) (Q : Command → Type 0) (room slots : ℕ) (r : Res Command) → Comes P Q r
    → ((c : Command) → Q c → room < length (encode c) → P 17 (length (encode c)))
    → ((c : Command) → Q c → slots < length (offsets c) → P 17 (length (offsets c))) → Comes P Q (indexed room slots r)
indexed_comes P Q room slots r h k m =
    bind_comes P Q Q r _ h
    (λ c q.
    guard_comes P Q (leb (length (encode c)) room) 17 (length (encode c)) _ (λ y. k c q (leb-false (length (encode c)) room y))
    (λ _.
    guard_comes P Q (leb (length (offsets c)) slots) 17 (length (offsets c)) (λ _. ok c) (λ y. m c q (leb-false (length (offsets c)) slots y)) (λ _. q)))

-- what is written with its row
abbrev pub Formed : Command → Type 0
Formed c = well_formed c ≡ true

pub reading_row_comes : (letters text old row : List ℕ) → Comes (ReadRowRefuses letters text old row) Formed (reading_row text letters old row)
unfolding reading_row
reading_row_comes letters text old row =
    indexed_comes (ReadRowRefuses letters text old row) Formed (length old) (length row) (read letters text)
    (comes_as (ReaderRefuses letters text old) (ReadRowRefuses letters text old row) Formed (read letters text)
    (comes_more (ReaderRefuses letters text old) (λ c. read letters text ≡ ok c) Formed (read letters text)
    (comes_self (ReaderRefuses letters text old) Whatever (read letters text) (read_comes letters text old)) (λ c q. read_wf letters text c q))
    (λ n p h. as_reader h))
    (λ c q h. as_reader (no_room h (record_bound c q))) (λ c q h. no_slots h (offsets_most c q))

pub read_row_list : (letters text old row : List ℕ) (n p : ℕ) → reading_row text letters old row ≡ bad n p → ReadRowRefuses letters text old row n p
read_row_list letters text old row n p e =
    comes_bad (ReadRowRefuses letters text old row) Formed (reading_row text letters old row) n p (reading_row_comes letters text old row) e

pub ordering_row_comes : (r : List ℕ) (k : ℕ) (old row : List ℕ) → Comes (OrderRowRefuses r k old row) Formed (ordering_row r k old row)
unfolding ordering_row
ordering_row_comes r k old row =
    indexed_comes (OrderRowRefuses r k old row) Formed (length old) (length row) (order_of r k)
    (order_comes (OrderRowRefuses r k old row) r k (as_order not_well_formed) (λ p e h. as_order (no_such_order e h)))
    (λ c q h. as_order (no_room h (record_bound c q))) (λ c q h. no_slots h (offsets_most c q))

pub order_row_list : (r : List ℕ) (k : ℕ) (old row : List ℕ) (n p : ℕ) → ordering_row r k old row ≡ bad n p → OrderRowRefuses r k old row n p
order_row_list r k old row n p e =
    comes_bad (OrderRowRefuses r k old row) Formed (ordering_row r k old row) n p (ordering_row_comes r k old row) e

pub placing_comes : (r row : List ℕ) (n : ℕ) → Comes (PlaceRefuses r row n) Record (placing r row n)
unfolding placing
placing_comes r row n =
    bind_comes (PlaceRefuses r row n) (λ c. record_of r ≡ ok c) Record (record_of r) _
    (comes_self (PlaceRefuses r row n) Formed (record_of r) (record_comes (PlaceRefuses r row n) r not_well_formed))
    (λ c x.
    let right : ℕ = agreeing (offsets c) row in
    guard_comes (PlaceRefuses r row n) Record (leb (length (offsets c)) right) 28 right _ (λ y. wrong_row x (leb-false (length (offsets c)) right y))
    (λ _.
    guard_comes (PlaceRefuses r row n) Record (ltb n (length (offsets c))) 26 n (λ _. ok (place_bytes c n)) (λ y. no_such_place x (ltb-false n (length (offsets c)) y))
    (λ y. omega (arith, place_small c n (ltb-true n (length (offsets c)) y), record_bound c (record_is r c x).well))))

pub place_list : (r row : List ℕ) (n nr p : ℕ) → placing r row n ≡ bad nr p → PlaceRefuses r row n nr p
place_list r row n nr p e = comes_bad (PlaceRefuses r row n) Record (placing r row n) nr p (placing_comes r row n) e

-- ---- a key

-- where the line goes on, no key is refused but one to be held, and that at 1,024 bytes of a line not ready
pub pressing_comes : (k : Keeper) (c : ℕ) → Comes (KeyRefuses k c) Whatever (pressing k c)
unfolding pressing
pressing_comes k c =
    guard_comes (KeyRefuses k c) Whatever (leb k.count 1024) 20 1024 _ (λ y. passed_count (omega (arith, leb-false k.count 1024 y)))
    (λ few.
    pick_if (Comes (KeyRefuses k c) Whatever) (eqb c 8) (λ _. tt)
    (λ y.
    pick_if (Comes (KeyRefuses k c) Whatever) (eqb c 24) (λ _. tt)
    (λ z.
    guard_comes (KeyRefuses k c) Whatever (ltb (found k) 1024) 20 1024 (λ _. ok (stored k (found k) c))
    (λ w. at_most (rw (y, z)) (leb-true k.count 1024 few) (omega (arith, ltb-false (found k) 1024 w))) (λ _. tt))))
  where
    at_most : any_of (8 ∷ 24 ∷ []) c ≡ false → k.count ≤ 1024 → 1024 ≤ found k → KeyRefuses k c 20 1024
    at_most h few most =
        by_bool (ready (held k))
        (λ y. let none : found k ≡ 0 = rw y in absurd (omega (arith, none)))
        (λ y. let all : found k ≡ k.count = rw y in full_line h y (omega (arith, all)))

pub key_list : (k : Keeper) (c n p : ℕ) → pressing k c ≡ bad n p → KeyRefuses k c n p
key_list k c n p e = comes_bad (KeyRefuses k c) Whatever (pressing k c) n p (pressing_comes k c) e
