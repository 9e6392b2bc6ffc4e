-- What was asked for, as types: the user's words, and below them the statement. `proofs/Proved` has a term of each, under a name in small letters.
-- First the three demands; then what is asked of a record; then the same over the calls, on bytes; then the line keeper; last the witnesses, tables from the paper for what reader, grammar and printer share.
use Rattle.std.specs.Prelude.{ℕ, suc, ◌+◌, ◌≤◌, ◌<◌, ◌≡◌, Bool, true, false, ◌&&◌, not, List, [], ◌∷◌, ◌++◌, map, eqb, length, get_or, take, drop, Ok, Err}
use Rattle.std.proofs.Math.Option.{none, some}
use Rattle.std.specs.Borrow.{Bor}
use Rattle.laws.specs.Keys.{any_of}
use Rattle.laws.specs.Lists.{all, is_nil, concat}
use Rattle.laws.specs.Over.{over}
use Rattle.rules.specs.declared.Keeper.{Keeper}
use Rattle.rules.specs.declared.Pressed.{Pressed}
use Rattle.rules.specs.Refusals.{Res, ok, bad, map_r, wrong_letter, too_long, not_permitted, unclosed, no_token, no_end, after_end, wrong_code, kind_differs, wrong_name, wrong_shape, unreadable, too_big, group_broken, too_many, too_many_orders, no_room, not_well_formed, no_such_order, no_key, name_twice, no_such_place, wrong_argument, wrong_row, most_letters, most_text, most_word, most_prefixed, most_string, more_of_code, more_of_name, most_blocks, most_places, most_leading, most_elements, most_arguments, most_orders, most_value, most_fraction}
use Rattle.rules.specs.Characters.{bytes, capital, is_letter, is_digit, is_alnum, is_effector, is_permitted, is_word_char, is_symbol_char}
use Rattle.rules.specs.Units.{r_d, r_h, r_o, r_b, letter, base_of, radix_at, base_at, Base, Unit, keyed, is_key, is_held_key}
use Rattle.rules.specs.Commands.{Element, single, Place, Block, block, Command, command, place_base, place_value, place_name, all_places, command_units, value_count}
use Rattle.rules.specs.Reading.{read, read_any}
use Rattle.rules.specs.Records.{four_bytes, many, place_fields, fields_of, bytes_of, encode, decode, count_in, bases}
use Rattle.rules.specs.WellFormed.{wf_value, well_formed, record_of}
use Rattle.rules.specs.Printing.{print}
use Rattle.rules.specs.Orders.{orders, order_at, count}
use Rattle.rules.specs.Listing.{joined, list_bytes, pieces_of}
use Rattle.rules.specs.Positions.{place_of, unit_bytes, could_stand, position_of, answer_of, written_out, is_argument, first_in, IsFirst, IsNowhere}
use Rattle.rules.specs.Indexes.{offsets}
use Rattle.rules.specs.Reasons.{number, reason_of, refusal}
use Rattle.rules.specs.Answers.{reading, printing, order_of, ordering, counting, listing, locating, reading_row, ordering_row, placing, Answer, answered, number_of, value_of, Promise, Counts, Locates, RowPromise, ReadsRow, OrdersRow, Places, HandsBack}
use Rattle.rules.specs.Keeping.{ready, press, Possible, held, pressing, after_key, line_after, line_answers, keeper_after, keeper_answers}
use Rattle.rules.proofs.Lines.{found, stated, twelve, example, example77, answer, due, limits, tally, expected}
use Rattle.rules.proofs.FromTheList.{ReaderRefuses, PrinterRefuses, OrderRefuses, CountRefuses, ListRefuses, LocateRefuses, ReadRowRefuses, OrderRowRefuses, PlaceRefuses, KeyRefuses}
use Rattle.rules.proofs.KeptLines.{last_ends, Typed}
use Rattle.rules.proofs.KeyRows.{run_found, run_stated, runs, most, full, key_found, key_stated, keys}
use Rattle.rules.proofs.RefusalRows.{cells, scanned}
use Rattle.rules.proofs.RowCalls.{SlotRight, PartFrom}
use Rattle.rules.proofs.RowPoints.{StandsAt}
use Rattle.rules.proofs.CallRows.{read_found, read_stated, reads, print_found, print_stated, prints, order_found, order_stated, orders_asked, count_found, count_stated, counts_asked, list_found, list_stated, lists_asked, member_found, member_stated, members_asked, read_row_found, read_row_stated, read_rows, order_row_found, order_row_stated, order_rows, ask_found, ask_stated, asked}
use Rattle.rules.proofs.Tables.{opens, tested, printed, classes, members, ranges, base_found, base_stated, base_rows, five, is_base, word_found, word_stated, word_rows, unit_found, unit_stated, unit_rows, units_read, units_due, sep_found, sep_stated, sep_rows, whole, whole_record}
use Rattle.grammar.specs.Grammar.{Follows}

-- ======== the lines

-- "To be proved together over the definitions are these twelve"; "The lines marked above form a single table under one theorem."
abbrev pub Twelve : Type 0
Twelve = map found twelve ≡ map stated twelve

-- "`SET-ATT:LIN=7-1&&-3,LEV=3.5;` with DD gives 77 bytes"; M-103: "Every record in document 01 grows by seven bytes."
abbrev pub Example84 : Type 0
Example84 = map_r encode (read (bytes "DD") example) ≡ ok (0x0C ∷ 0x00 ∷ 0x04 ∷ 0x00 ∷ 0x00 ∷ 0x00 ∷ 0x03 ∷ example77)

-- ======== demand 1: each call takes all inputs, and its answer is decided

-- demand 1, "one number from the list": each call refuses with a number of its own list, at a place inside what that number speaks of
abbrev pub FromTheList : Type 0
FromTheList =
    ((letters text old : List ℕ) (n p : ℕ) → reading text letters old ≡ bad n p → ReaderRefuses letters text old n p)
    × ((r old : List ℕ) (n p : ℕ) → printing r old ≡ bad n p → PrinterRefuses old n p)
    × ((r : List ℕ) (k : ℕ) (old : List ℕ) (n p : ℕ) → ordering r k old ≡ bad n p → OrderRefuses r k old n p)
    × ((r : List ℕ) (n p : ℕ) → counting r ≡ bad n p → CountRefuses n p)
    × ((r old : List ℕ) (n p : ℕ) → listing r old ≡ bad n p → ListRefuses r old n p)
    × ((r : List ℕ) (n : ℕ) (w : List ℕ) (nr p : ℕ) → locating r n w ≡ bad nr p → LocateRefuses r n w nr p)
    × ((letters text old row : List ℕ) (n p : ℕ) → reading_row text letters old row ≡ bad n p → ReadRowRefuses letters text old row n p)
    × ((r : List ℕ) (k : ℕ) (old row : List ℕ) (n p : ℕ) → ordering_row r k old row ≡ bad n p → OrderRowRefuses r k old row n p)
    × ((r row : List ℕ) (n nr p : ℕ) → placing r row n ≡ bad nr p → PlaceRefuses r row n nr p)
    × ((k : Keeper) (c n p : ℕ) → pressing k c ≡ bad n p → KeyRefuses k c n p)

-- the code tells a refusal by its reason: the number of that reason is the number that the call refuses with
abbrev pub NumbersKept : Type 0
NumbersKept =
    ((letters text old : List ℕ) (n p : ℕ) → reading text letters old ≡ bad n p → number (reason_of n) ≡ n)
    × ((r old : List ℕ) (n p : ℕ) → printing r old ≡ bad n p → number (reason_of n) ≡ n)
    × ((r : List ℕ) (k : ℕ) (old : List ℕ) (n p : ℕ) → ordering r k old ≡ bad n p → number (reason_of n) ≡ n)
    × ((r : List ℕ) (n p : ℕ) → counting r ≡ bad n p → number (reason_of n) ≡ n)
    × ((r old : List ℕ) (n p : ℕ) → listing r old ≡ bad n p → number (reason_of n) ≡ n)
    × ((r : List ℕ) (m : ℕ) (w : List ℕ) (n p : ℕ) → locating r m w ≡ bad n p → number (reason_of n) ≡ n)
    × ((letters text old row : List ℕ) (n p : ℕ) → reading_row text letters old row ≡ bad n p → number (reason_of n) ≡ n)
    × ((r : List ℕ) (k : ℕ) (old row : List ℕ) (n p : ℕ) → ordering_row r k old row ≡ bad n p → number (reason_of n) ≡ n)
    × ((r row : List ℕ) (m n p : ℕ) → placing r row m ≡ bad n p → number (reason_of n) ≡ n)
    × ((k : Keeper) (c n p : ℕ) → pressing k c ≡ bad n p → number (reason_of n) ≡ n)

-- bytes written, number of orders, position or place: every value fits the 32 bits that the answer has for it; 26 gives back the place number that was asked
abbrev pub AnswersFit : Type 0
AnswersFit =
    ((text letters old : List ℕ) → value_of (answered (map_r length (reading text letters old))) ≤ 65536)
    × ((r old : List ℕ) → value_of (answered (map_r length (printing r old))) ≤ 65536)
    × ((r : List ℕ) (k : ℕ) (old : List ℕ) → value_of (answered (map_r length (ordering r k old))) ≤ 65536)
    × ((r : List ℕ) → value_of (answered (counting r)) ≤ 65536)
    × ((r old : List ℕ) → value_of (answered (map_r length (listing r old))) < 4294967296)
    × ((r : List ℕ) (n : ℕ) (w : List ℕ) (k : ℕ) → locating r n w ≡ ok k → k ≤ 4096)
    × ((r : List ℕ) (n : ℕ) (w : List ℕ) → n < 4294967296 → value_of (answered (locating r n w)) < 4294967296)
    × ((text letters old row : List ℕ) → value_of (answered (map_r (λ c. length (encode c)) (reading_row text letters old row))) ≤ 65536)
    × ((r : List ℕ) (k : ℕ) (old row : List ℕ) → value_of (answered (map_r (λ c. length (encode c)) (ordering_row r k old row))) ≤ 65536)
    × ((r row : List ℕ) (n : ℕ) (w : List ℕ) → placing r row n ≡ ok w → length w ≤ 65536)
    × ((r row : List ℕ) (n : ℕ) → n < 4294967296 → value_of (answered (map_r length (placing r row n))) < 4294967296)
    × ((k : Keeper) (c : ℕ) → value_of (after_key k c).answer ≤ 65536)

-- "Any two results satisfying it are proved equal"
abbrev pub Decided : Type 0
Decided =
    (result : Res (List ℕ)) (old : List ℕ) (a b : Answer) (new also : List ℕ) → Promise result old a new → Promise result old b also
    → (a ≡ b) × (new ≡ also)

abbrev pub CountDecided : Type 0
CountDecided = (r : List ℕ) (a b : Answer) → Counts r a → Counts r b → a ≡ b

abbrev pub LocateDecided : Type 0
LocateDecided = (r : List ℕ) (n : ℕ) (w : List ℕ) (a b : Answer) → Locates r n w a → Locates r n w b → a ≡ b

-- M-108: the answer, every byte of the buffer and every slot of the row
abbrev pub RowDecided : Type 0
RowDecided =
    (result : Res Command) (old row : List ℕ) (a b : Answer) (new also filled likewise : List ℕ) → RowPromise result old row a new filled
    → RowPromise result old row b also likewise → (a ≡ b) × (new ≡ also) × (filled ≡ likewise)

abbrev pub PlaceDecided : Type 0
PlaceDecided = (r row : List ℕ) (n : ℕ) (a b : Answer) → Places r row n a → Places r row n b → a ≡ b

-- the bytes of the part and where it lies in memory
abbrev pub PartDecided : Type 0
PartDecided =
    (r : Bor (List ℕ)) (row : List ℕ) (n : ℕ) (a b : Bor (List ℕ)) → HandsBack r row n a → HandsBack r row n b
    → (a.now ≡ b.now) × (a.ref_ptr.0 ≡ b.ref_ptr.0) × (a.ref_ptr.1 ≡ b.ref_ptr.1)

abbrev pub KeyDecided : Type 0
KeyDecided = (k : Keeper) (c : ℕ) (a b : Pressed) → a ≡ after_key k c → b ≡ after_key k c → a ≡ b

-- ======== demand 2: commands and records

-- "A command is accepted exactly when it follows the rules, and its record is the one the rules give."
abbrev pub Exact : Type 0
Exact =
    (letters text : List ℕ) (c : Command) → (read letters text ≡ ok c → Follows letters text c) × (Follows letters text c → read letters text ≡ ok c)

-- "each line has one reading or none"
abbrev pub Unique : Type 0
Unique = (letters text : List ℕ) (c d : Command) → Follows letters text c → Follows letters text d → c ≡ d

abbrev pub Refused : Type 0
Refused = (letters text : List ℕ) (n p : ℕ) (c : Command) → read letters text ≡ bad n p → Follows letters text c → ⊥

-- what read accepts is well formed
abbrev pub ReadSound : Type 0
ReadSound = (letters text : List ℕ) (c : Command) → read letters text ≡ ok c → well_formed c ≡ true

-- M-102: "Refuse a name that already stands in its block, all pieces equal byte for byte."
abbrev pub NamesDiffer : Type 0
NamesDiffer =
    (letters text : List ℕ) (code : List (List ℕ)) (before : List Block) (xs : List Place) (p : Place) (ys : List Place) (q : Place) (zs : List Place)
    (behind : List Block) → read letters text ≡ ok (command code (before ++ (block true (xs ++ (p ∷ (ys ++ (q ∷ zs)))) ∷ behind)))
    → place_name p ≡ place_name q → ⊥

-- M-109: "records hold capitals": in what is read every keyed numeral has "0-9, `*`, `#`, A-D" and no small letter
abbrev pub Capitals : Type 0
Capitals =
    (letters text : List ℕ) (c : Command) (before : List Unit) (w : List ℕ) (behind : List Unit) → read letters text ≡ ok c
    → command_units c ≡ before ++ (keyed w ∷ behind) → all (any_of (bytes "0123456789*#ABCD")) w ≡ true

-- "all rules and limits here hold (text length apart)": a command is well formed exactly where its printed text, length apart, is read back to it
abbrev pub WellFormedIsReadable : Type 0
WellFormedIsReadable =
    (c : Command) → (well_formed c ≡ true → read_any (bases c) (print c) ≡ ok c) × (read_any (bases c) (print c) ≡ ok c → well_formed c ≡ true)

-- "The printer turns every well-formed record whose text fits 1,024 bytes into a command that reads back, with the record's own bases, to the same record."
abbrev pub RoundTrip : Type 0
RoundTrip = (c : Command) → well_formed c ≡ true → length (print c) ≤ most_text → read (bases c) (print c) ≡ ok c

-- "Its text is never longer than the command that gave the record."
abbrev pub NeverLonger : Type 0
NeverLonger = (letters text : List ℕ) (c : Command) → read letters text ≡ ok c → length (print c) ≤ length text

-- well-formed bytes and well-formed trees are the same thing
abbrev pub DecodeEncode : Type 0
DecodeEncode = (c : Command) → well_formed c ≡ true → (decode (encode c) ≡ some c) × (record_of (encode c) ≡ ok c)

abbrev pub EncodeDecode : Type 0
EncodeDecode = (r : List ℕ) (c : Command) → record_of r ≡ ok c → (encode c ≡ r) × (well_formed c ≡ true)

-- no record is longer than 65,536 bytes, whatever text gave it
abbrev pub RecordBound : Type 0
RecordBound = (r : List ℕ) (c : Command) → record_of r ≡ ok c → length r ≤ 65536

-- ======== demand 3: orders

-- "For every well-formed record and every k, the k-th order worked out directly from the record equals the k-th entry of the written-out list"
abbrev pub DirectIsList : Type 0
DirectIsList = (c : Command) (k : ℕ) (d : Command) → well_formed c ≡ true → k < count c → get_or (orders c) k d ≡ order_at c k

-- "the count is the list's length"
abbrev pub CountIsLength : Type 0
CountIsLength = (c : Command) → well_formed c ≡ true → length (orders c) ≡ count c

-- M-103: "a record begins with tag 12, four bytes, the number of its orders"; behind it stands document 01's record. "The count call .. its answer is then the field", and that is the
-- length of the list
abbrev pub CountIsField : Type 0
CountIsField =
    (r : List ℕ) (c : Command) → record_of r ≡ ok c
    → (counting r ≡ ok (count_in r)) × (count_in r ≡ length (orders c)) × (r ≡ 12 ∷ 0 ∷ 4 ∷ (four_bytes (length (orders c)) ++ bytes_of (fields_of c)))

-- M-103: "each order carries 1"
abbrev pub OrderCarriesOne : Type 0
OrderCarriesOne = (r old o : List ℕ) (k : ℕ) → ordering r k old ≡ ok o → count_in o ≡ 1

-- M-103: "A record whose field isn't the product, or that lacks it, is not well formed (18)."
abbrev pub FieldIsAsked : Type 0
FieldIsAsked =
    (c : Command) → well_formed c ≡ true
    → ((n : ℕ) → n ≤ most_value → (n ≡ count c → ⊥) → record_of (12 ∷ 0 ∷ 4 ∷ (four_bytes n ++ bytes_of (fields_of c))) ≡ bad not_well_formed 0)
    × (record_of (bytes_of (fields_of c)) ≡ bad not_well_formed 0)

-- "from there on k is refused"
abbrev pub Past : Type 0
Past = (r old : List ℕ) (c : Command) (k : ℕ) → record_of r ≡ ok c → length (orders c) ≤ k → ordering r k old ≡ bad no_such_order (length (orders c))

abbrev pub OrderWellFormed : Type 0
OrderWellFormed = (c : Command) (k : ℕ) → well_formed c ≡ true → well_formed (order_at c k) ≡ true

-- an order's text is not longer than its record's
abbrev pub OrderFits : Type 0
OrderFits = (c : Command) (k : ℕ) → well_formed c ≡ true → length (print (order_at c k)) ≤ length (print c)

-- "an order, printed and read, has itself as its sole order"
abbrev pub SoleOrder : Type 0
SoleOrder =
    (c : Command) (k : ℕ) → well_formed c ≡ true → length (print c) ≤ most_text
    → (read (bases (order_at c k)) (print (order_at c k)) ≡ ok (order_at c k)) × (orders (order_at c k) ≡ order_at c k ∷ [])

-- ---- M-106, "The whole list on one buffer"

-- "write every order of a command one behind the other, each preceded by a field of tag 14 whose content is that order's length in four bytes"; "Its k-th piece is what order k gives,
-- for all k, and it writes as many pieces as the count."
pub record Pieces (c : Command) (bytes : List ℕ) : Type 0 where
  pub pieces : List (List ℕ)
  pub are : concat (map (λ w. 14 ∷ 0 ∷ 4 ∷ (four_bytes (length w) ++ w)) pieces) ≡ bytes
  pub small : (k : ℕ) → k < length pieces → length (get_or pieces k []) < 4294967296
  pub read_again : pieces_of bytes ≡ some pieces
  pub many : length pieces ≡ count c
  pub each : (k : ℕ) → k < count c → get_or pieces k [] ≡ encode (order_at c k)

-- so of every well-formed record's list, which "unrolls groups plainly, place after place, without the direct rule"
abbrev pub PiecesAreOrders : Type 0
PiecesAreOrders = (c : Command) → well_formed c ≡ true → Pieces c (list_bytes c)

-- whatever they hold, bytes are pieces in one way only
abbrev pub PiecesSplitOnce : Type 0
PiecesSplitOnce = (ws vs : List (List ℕ)) → joined ws ≡ joined vs → ws ≡ vs

-- what the list call wrote of a record are pieces, as many as the count call answers, and the k-th is what the order call writes, wherever there is room
pub record CallPieces (r bytes : List ℕ) : Type 0 where
  pub pieces : List (List ℕ)
  pub are : joined pieces ≡ bytes
  pub read_again : pieces_of bytes ≡ some pieces
  pub many : counting r ≡ ok (length pieces)
  pub each : (k : ℕ) (room : List ℕ) → k < length pieces → length (get_or pieces k []) ≤ length room → ordering r k room ≡ ok (get_or pieces k [])

abbrev pub ListThenOrder : Type 0
ListThenOrder = (r old bytes : List ℕ) → listing r old ≡ ok bytes → CallPieces r bytes

-- "Refusals: 18, then 17 with the bytes needed.", and with room for all of them none
abbrev pub ListRefused : Type 0
ListRefused =
    (r old : List ℕ)
    → (((c : Command) → record_of r ≡ ok c → ⊥) → listing r old ≡ bad not_well_formed 0)
    × ((c : Command) → record_of r ≡ ok c → length old < length (list_bytes c) → listing r old ≡ bad no_room (length (list_bytes c)))
    × ((c : Command) → record_of r ≡ ok c → length (list_bytes c) ≤ length old → listing r old ≡ ok (list_bytes c))

-- ======== M-107: is this amplifier in it?

-- "Places .. count from 0", through all blocks: a place with n places before it has the number n, and from their number on there is none
abbrev pub PlacesFromZero : Type 0
PlacesFromZero =
    (code : List (List ℕ)) (bs : List Block)
    → ((before : List Place) (p : Place) (behind : List Place) → all_places bs ≡ before ++ (p ∷ behind) → place_of (command code bs) (length before) ≡ p)
    × ((n : ℕ) → length (all_places bs) ≤ n → place_value (place_of (command code bs) n) ≡ [])

-- "Units are equal when their fields are.": the fields' bytes are equal exactly where the arguments are
abbrev pub SameFields : Type 0
SameFields =
    (l m : List Unit) (u v : Unit)
    → (is_argument l u (single m v) ≡ true → single m v ≡ single l u) × (single m v ≡ single l u → is_argument l u (single m v) ≡ true)

-- "that could stand under that place's base": a value of this argument alone is well formed there
abbrev pub CouldStand : Type 0
CouldStand =
    (b : Base) (l : List Unit) (u : Unit)
    → (could_stand b l u ≡ true → wf_value b (single l u ∷ []) ≡ true) × (wf_value b (single l u ∷ []) ≡ true → could_stand b l u ≡ true)

-- "the first position among that place's arguments, all written out": what is worked out directly is the first index in the list
abbrev pub PositionIsFirstIndex : Type 0
PositionIsFirstIndex =
    (b : Base) (v : List Element) (l : List Unit) (u : Unit) → wf_value b v ≡ true → position_of v l u ≡ first_in (is_argument l u) (written_out v)

-- that is: k exactly where the argument's unit fields stand at index k and at none before; none exactly where they stand at no index
abbrev pub FirstPosition : Type 0
FirstPosition =
    (b : Base) (v : List Element) (l : List Unit) (u : Unit) → wf_value b v ≡ true
    → ((k : ℕ) → (position_of v l u ≡ some k → IsFirst (is_argument l u) (written_out v) k)
    × (IsFirst (is_argument l u) (written_out v) k → position_of v l u ≡ some k))
    × (position_of v l u ≡ none → IsNowhere (is_argument l u) (written_out v))
    × (IsNowhere (is_argument l u) (written_out v) → position_of v l u ≡ none)

-- a position is below the number of the place's arguments, and these are at most 4,096
abbrev pub PositionBelow : Type 0
PositionBelow =
    (b : Base) (v : List Element) (l : List Unit) (u : Unit) (k : ℕ) → wf_value b v ≡ true → position_of v l u ≡ some k
    → (k < value_count v) × (value_count v ≤ most_arguments)

-- "Given a record, a place number and an argument as unit fields, say no (with 0) or yes with the first position": the call, by the list of a place that is not omitted
abbrev pub LocateAnswers : Type 0
LocateAnswers =
    (r : List ℕ) (c : Command) (n : ℕ) (l : List Unit) (u : Unit) → record_of r ≡ ok c → is_nil (place_value (place_of c n)) ≡ false
    → could_stand (place_base (place_of c n)) l u ≡ true
    → locating r n (unit_bytes l u) ≡ ok (answer_of (first_in (is_argument l u) (written_out (place_value (place_of c n)))))

-- it answers 1 and k exactly where k is the first index of the argument in that list, and 0 exactly where the argument is at none
abbrev pub LocateFirst : Type 0
LocateFirst =
    (r : List ℕ) (c : Command) (n : ℕ) (l : List Unit) (u : Unit) → record_of r ≡ ok c → is_nil (place_value (place_of c n)) ≡ false
    → could_stand (place_base (place_of c n)) l u ≡ true
    → ((k : ℕ) → (locating r n (unit_bytes l u) ≡ ok (suc k) → IsFirst (is_argument l u) (written_out (place_value (place_of c n))) k)
    × (IsFirst (is_argument l u) (written_out (place_value (place_of c n))) k → locating r n (unit_bytes l u) ≡ ok (suc k)))
    × (locating r n (unit_bytes l u) ≡ ok 0 → IsNowhere (is_argument l u) (written_out (place_value (place_of c n))))
    × (IsNowhere (is_argument l u) (written_out (place_value (place_of c n))) → locating r n (unit_bytes l u) ≡ ok 0)

-- "Refusals in order: 18; 26 no such place or an omitted one, place the asked number; 27 argument not 1 to 4 unit fields that could stand under that place's base, place 0."
abbrev pub LocateRefused : Type 0
LocateRefused =
    (r : List ℕ) (n : ℕ) (w : List ℕ)
    → (((c : Command) → record_of r ≡ ok c → ⊥) → locating r n w ≡ bad not_well_formed 0)
    × ((c : Command) → record_of r ≡ ok c → is_nil (place_value (place_of c n)) ≡ true → locating r n w ≡ bad no_such_place n)
    × ((c : Command) → record_of r ≡ ok c → is_nil (place_value (place_of c n)) ≡ false
    → ((l : List Unit) (u : Unit) → could_stand (place_base (place_of c n)) l u ≡ true → unit_bytes l u ≡ w → ⊥) → locating r n w ≡ bad wrong_argument 0)

-- ======== M-108: an index of places

-- "a lent row of 32-bit offsets, one for each place": as many as there are places. The slot of a place's number is how many bytes of the record stand before the place: 7 of the head, the code and the
-- blocks before, 4 of the block's own field, and the places before it; and there the record has the place's fields, with a place, a block or nothing behind them
abbrev pub RowPoints : Type 0
RowPoints =
    ((code : List (List ℕ)) (bs : List Block) → length (offsets (command code bs)) ≡ length (all_places bs))
    × ((code : List (List ℕ)) (before : List Block) (k : Bool) (ps : List Place) (p : Place) (qs : List Place) (behind : List Block)
    → (get_or (offsets (command code (before ++ (block k (ps ++ (p ∷ qs)) ∷ behind)))) (length (all_places before) + length ps) 0
    ≡ 7 + length (bytes_of (fields_of (command code before))) + 4 + length (bytes_of (many place_fields ps)))
    × StandsAt p (encode (command code (before ++ (block k (ps ++ (p ∷ qs)) ∷ behind))))
    (7 + length (bytes_of (fields_of (command code before))) + 4 + length (bytes_of (many place_fields ps))))

-- a call "that, from record, row and place number, hands back that place's fields": by a row that begins with the offsets of a record, that place's fields; from the number of places on, 26
abbrev pub AskedByFilledRow : Type 0
AskedByFilledRow =
    (c : Command) (slots : List ℕ) (n : ℕ) → well_formed c ≡ true
    → (n < length (offsets c) → placing (encode c) (over (offsets c) slots) n ≡ ok (bytes_of (place_fields (place_of c n))))
    × (length (offsets c) ≤ n → placing (encode c) (over (offsets c) slots) n ≡ bad no_such_place n)

-- "Reader and order writer fill the row": by the row that they filled, each place of the record that they wrote is handed back
abbrev pub FilledRowIsAsked : Type 0
FilledRowIsAsked =
    ((text letters old row : List ℕ) (answer : Answer) (new filled : List ℕ) (c : Command) (n : ℕ) → ReadsRow text letters old row answer new filled
    → reading_row text letters old row ≡ ok c → n < length (offsets c) → placing (take (value_of answer) new) filled n ≡ ok (bytes_of (place_fields (place_of c n))))
    × ((r : List ℕ) (k : ℕ) (old row : List ℕ) (answer : Answer) (new filled : List ℕ) (c : Command) (n : ℕ) → OrdersRow r k old row answer new filled
    → ordering_row r k old row ≡ ok c → n < length (offsets c) → placing (take (value_of answer) new) filled n ≡ ok (bytes_of (place_fields (place_of c n))))

-- the row holds the offsets, and "slots beyond the places keep their numbers"; a refusal leaves buffer and row, "nothing written"
abbrev pub SlotsBeyondKept : Type 0
SlotsBeyondKept =
    (result : Res Command) (old row : List ℕ) (answer : Answer) (new filled : List ℕ) → RowPromise result old row answer new filled
    → ((c : Command) → result ≡ ok c
    → (take (length (offsets c)) filled ≡ offsets c) × (drop (length (offsets c)) filled ≡ drop (length (offsets c)) row))
    × ((n p : ℕ) → result ≡ bad n p → (new ≡ old) × (filled ≡ row))

-- any row that is let pass begins with the record's offsets, and what is handed back is that place's fields
abbrev pub PassedRowIsThatRow : Type 0
PassedRowIsThatRow =
    (r row : List ℕ) (n : ℕ) (c : Command) → record_of r ≡ ok c
    → ((w : List ℕ) → placing r row n ≡ ok w → (take (length (offsets c)) row ≡ offsets c) × (w ≡ bytes_of (place_fields (place_of c n))))
    × ((p : ℕ) → placing r row n ≡ bad no_such_place p → take (length (offsets c)) row ≡ offsets c)

-- "as part of the record itself": what is handed back are the record's bytes from the slot's offset on, inside the record, and four at least
abbrev pub PartOfTheRecord : Type 0
PartOfTheRecord = (r row : List ℕ) (n : ℕ) (w : List ℕ) → placing r row n ≡ ok w → PartFrom r (get_or row n 0) w

-- the call's answer is the length of the part, and the part lies in memory so many bytes behind the record's start as the slot says; where the call refuses, the part is empty
abbrev pub PartLies : Type 0
PartLies =
    (r : Bor (List ℕ)) (row : List ℕ) (n : ℕ) (answer : Answer) (part : Bor (List ℕ)) → Places r.now row n answer → HandsBack r row n part
    → ((w : List ℕ) → placing r.now row n ≡ ok w
    → (answer ≡ Ok (length w)) × (part.now ≡ w) × (part.ref_ptr.0 ≡ r.ref_ptr.0) × (part.ref_ptr.1 ≡ r.ref_ptr.1 + get_or row n 0))
    × ((nr p : ℕ) → placing r.now row n ≡ bad nr p → (answer ≡ Err (refusal nr p)) × (number_of answer ≡ nr) × (part.now ≡ []))

-- "when asking, 18, then 28 where the row is shorter than the places or a slot differs (place the first such slot), then 26 for no such place", and else the place's fields
abbrev pub PlaceRefused : Type 0
PlaceRefused =
    (r row : List ℕ) (n : ℕ)
    → (((c : Command) → record_of r ≡ ok c → ⊥) → placing r row n ≡ bad not_well_formed 0)
    × ((c : Command) (j : ℕ) → record_of r ≡ ok c → j < length (offsets c) → ((i : ℕ) → i < j → SlotRight (offsets c) row i) → (SlotRight (offsets c) row j → ⊥)
    → placing r row n ≡ bad wrong_row j)
    × ((c : Command) → record_of r ≡ ok c → ((i : ℕ) → i < length (offsets c) → SlotRight (offsets c) row i) → length (offsets c) ≤ n
    → placing r row n ≡ bad no_such_place n)
    × ((c : Command) → record_of r ≡ ok c → ((i : ℕ) → i < length (offsets c) → SlotRight (offsets c) row i) → n < length (offsets c)
    → placing r row n ≡ ok (bytes_of (place_fields (place_of c n))))

-- what is refused as without a row; "17 if the row is too short (place the slots needed), after the record's own 17"; and with room for both, none
abbrev pub Filling : Res Command → List ℕ → List ℕ → Res Command → Type 0
Filling found old row result =
    ((n p : ℕ) → found ≡ bad n p → result ≡ bad n p)
    × ((c : Command) → found ≡ ok c → length old < length (encode c) → result ≡ bad no_room (length (encode c)))
    × ((c : Command) → found ≡ ok c → length (encode c) ≤ length old → length row < length (offsets c) → result ≡ bad no_room (length (offsets c)))
    × ((c : Command) → found ≡ ok c → length (encode c) ≤ length old → length (offsets c) ≤ length row → result ≡ ok c)

-- "when filling"
abbrev pub RowRefused : Type 0
RowRefused =
    ((text letters old row : List ℕ) → Filling (read letters text) old row (reading_row text letters old row))
    × ((r : List ℕ) (k : ℕ) (old row : List ℕ) → Filling (order_of r k) old row (ordering_row r k old row))

-- a call with a row beside the call without one, which answers bytes: what that refuses it refuses alike; what it writes that writes; and with a slot for each place, so with 32 always, both do the same
abbrev pub Beside : Res Command → Res Command → List ℕ → Res (List ℕ) → Type 0
Beside found result row without =
    ((n p : ℕ) → without ≡ bad n p → result ≡ bad n p) × ((c : Command) → result ≡ ok c → without ≡ ok (encode c))
    × (((c : Command) → found ≡ ok c → length (offsets c) ≤ length row) → map_r encode result ≡ without)
    × (32 ≤ length row → map_r encode result ≡ without)

abbrev pub RowIsRead : Type 0
RowIsRead =
    ((text letters old row : List ℕ) → Beside (read letters text) (reading_row text letters old row) row (reading text letters old))
    × ((r : List ℕ) (k : ℕ) (old row : List ℕ) → Beside (order_of r k) (ordering_row r k old row) row (ordering r k old))

-- ======== the same of the calls, on bytes

-- some tree follows, the bytes are its record, and the buffer has room for them
pub record Accepted (letters text old r : List ℕ) : Type 0 where
  pub tree : Command
  pub follows : Follows letters text tree
  pub bytes : encode tree ≡ r
  pub room : length r ≤ length old

-- "A command is accepted exactly when it follows the rules, and its record is the one the rules give."
abbrev pub Accepts : Type 0
Accepts =
    (letters text old r : List ℕ) → (reading text letters old ≡ ok r → Accepted letters text old r) × (Accepted letters text old r → reading text letters old ≡ ok r)

-- "then 17 if the buffer is too short, its place the bytes needed"
abbrev pub ReadWithoutRoom : Type 0
ReadWithoutRoom =
    (letters text old : List ℕ) (c : Command) → Follows letters text c → length old < length (encode c) → reading text letters old ≡ bad no_room (length (encode c))

-- a command that follows the rules is refused for want of room alone
abbrev pub RefusedForRoomAlone : Type 0
RefusedForRoomAlone =
    (letters text old : List ℕ) (c : Command) (n p : ℕ) → Follows letters text c → reading text letters old ≡ bad n p → (n ≡ no_room) × (p ≡ length (encode c))

-- the record is well formed, its text is that one, "fits 1,024 bytes", and the buffer has room for it
pub record Printable (r old text : List ℕ) : Type 0 where
  pub tree : Command
  pub is : record_of r ≡ ok tree
  pub prints : print tree ≡ text
  pub few : length text ≤ most_text
  pub room : length text ≤ length old

-- "The printer turns every well-formed record whose text fits 1,024 bytes into a command": it prints exactly these
abbrev pub PrintsGivenRoom : Type 0
PrintsGivenRoom = (r old text : List ℕ) → (printing r old ≡ ok text → Printable r old text) × (Printable r old text → printing r old ≡ ok text)

abbrev pub PrintWithoutRoom : Type 0
PrintWithoutRoom =
    (r old : List ℕ) (c : Command) → record_of r ≡ ok c → length (print c) ≤ most_text → length old < length (print c)
    → printing r old ≡ bad no_room (length (print c))

-- what was printed of a record is read back to the record's bytes, with its own bases
abbrev pub PrintThenRead : Type 0
PrintThenRead =
    (r text old new : List ℕ) (c : Command) → record_of r ≡ ok c → printing r old ≡ ok text → length r ≤ length new → reading text (bases c) new ≡ ok r

-- what was read is printed, not longer than it was typed
abbrev pub ReadThenPrint : Type 0
ReadThenPrint =
    (text letters old new r : List ℕ) (c : Command) → reading text letters old ≡ ok r → record_of r ≡ ok c → length text ≤ length new
    → (printing r new ≡ ok (print c)) × (length (print c) ≤ length text)

-- the record is well formed, k is below its count, o is its order k, and the buffer has room for it
pub record Ordered (r : List ℕ) (k : ℕ) (old o : List ℕ) : Type 0 where
  pub tree : Command
  pub is : record_of r ≡ ok tree
  pub below : k < count tree
  pub bytes : encode (order_at tree k) ≡ o
  pub room : length o ≤ length old

abbrev pub OrdersGivenRoom : Type 0
OrdersGivenRoom = (r : List ℕ) (k : ℕ) (old o : List ℕ) → (ordering r k old ≡ ok o → Ordered r k old o) × (Ordered r k old o → ordering r k old ≡ ok o)

-- the count that is answered is the length of the record's list, and order k is its k-th entry
abbrev pub OrdersAreListed : Type 0
OrdersAreListed =
    (r old : List ℕ) (c d : Command) (k : ℕ) → record_of r ≡ ok c → k < length (orders c) → length (encode (get_or (orders c) k d)) ≤ length old
    → (counting r ≡ ok (length (orders c))) × (ordering r k old ≡ ok (encode (get_or (orders c) k d)))

-- the order o is printed to the text, which is read back to o with o's own bases; o counts one order, and that is o
pub record Sole (o new also : List ℕ) : Type 0 where
  pub tree : Command
  pub is : record_of o ≡ ok tree
  pub text : List ℕ
  pub printed : printing o new ≡ ok text
  pub read_back : reading text (bases tree) also ≡ ok o
  pub counted : counting o ≡ ok 1
  pub only : ordering o 0 also ≡ ok o

-- "an order, printed and read, has itself as its sole order": wherever the record itself was printed into the buffer
abbrev pub SoleOrderOnBytes : Type 0
SoleOrderOnBytes =
    (r o t old new also : List ℕ) (k : ℕ) → ordering r k old ≡ ok o → printing r new ≡ ok t → length o ≤ length also → Sole o new also

-- ======== M-100: the line keeper

-- "For every run of keys it must do what a plain list of bytes with these rules does": what is held, and the answer to each key, refusals included; from any keeper whose
-- count does not pass 1,024
abbrev pub KeeperIsList : Type 0
KeeperIsList =
    (k : Keeper) (keys : List ℕ) → Possible k
    → (held (keeper_after k keys) ≡ line_after (held k) keys) × (keeper_answers k keys ≡ line_answers (held k) keys)

-- the same from a fresh one, whatever its bytes are
abbrev pub FreshKeeper : Type 0
FreshKeeper =
    (k : Keeper) (keys : List ℕ) → length k.bytes ≡ most_text → k.count ≡ 0
    → (held (keeper_after k keys) ≡ line_after [] keys) × (keeper_answers k keys ≡ line_answers [] keys)

-- "a ready line goes to the reader unchanged": the bytes that the list holds, and these are never refused with 4, 6 or 7
abbrev pub ReadyLine : Type 0
ReadyLine =
    (letters : List ℕ) (k : Keeper) (keys : List ℕ) (n p : ℕ) → Possible k → ready (held (keeper_after k keys)) ≡ true
    → (read letters (held (keeper_after k keys)) ≡ read letters (line_after (held k) keys))
    × (read letters (held (keeper_after k keys)) ≡ bad n p → any_of (unclosed ∷ no_end ∷ after_end ∷ []) n ≡ false)

-- and back: of a text that the reader accepts some beginning, typed key by key, is held as it is and makes the line ready
abbrev pub AcceptedIsTyped : Type 0
AcceptedIsTyped = (letters text : List ℕ) (c : Command) → read letters text ≡ ok c → Typed text

-- "A `;` outside string and comment makes the line ready": of a line that keys made, the last byte alone tells
abbrev pub ReadyLast : Type 0
ReadyLast = (keys : List ℕ) → ready (line_after [] keys) ≡ last_ends (line_after [] keys)

-- ======== witnesses: characters, digits, letters

-- "The classes of bytes 0 to 127 are one constant table."; no byte from 128 on is permitted
abbrev pub ClassesOfBytes : Type 0
ClassesOfBytes = map tested classes ≡ map printed classes

-- the same as ranges: permitted, effectors, letters, digits, a word's characters, rule 3's, rule 4's, and those that "stand only in strings and comments"
abbrev pub RangesOfBytes : Type 0
RangesOfBytes =
    map members (is_permitted ∷ is_effector ∷ is_letter ∷ is_digit ∷ is_word_char ∷ is_alnum ∷ is_symbol_char ∷ (λ c. is_permitted c && not (opens c)) ∷ []) ≡ ranges

-- M-109: "small letters": each has its capital, and no other byte has another
abbrev pub CapitalLetters : Type 0
CapitalLetters =
    (map capital (bytes "abcdefghijklmnopqrstuvwxyz") ≡ bytes "ABCDEFGHIJKLMNOPQRSTUVWXYZ")
    × (members (λ c. not (eqb (capital c) c)) ≡ bytes "abcdefghijklmnopqrstuvwxyz")

-- "Hexadecimal digits are 0-9, A-F."; M-109: "may be small": each base's size, letter, digits and their values, read and written
abbrev pub DigitsOfBases : Type 0
DigitsOfBases = map base_found base_rows ≡ map base_stated base_rows

-- "Keyed digits are 0-9, `*`, `#`, A-D."; M-109: "a keyed letter may be small; records hold capitals": typed, and held
abbrev pub KeyedDigits : Type 0
KeyedDigits = (members is_key ≡ bytes "#*0123456789ABCDabcd") × (members is_held_key ≡ bytes "#*0123456789ABCD")

-- "each D, H, O, B or K"
abbrev pub BaseLetters : Type 0
BaseLetters =
    (map letter five ≡ bytes "DHOBK") × (map base_of (bytes "DHOBK") ≡ map some five) × (map base_at (bytes "DHOBK") ≡ five)
    × (map radix_at (bytes "DHOB") ≡ r_d ∷ r_h ∷ r_o ∷ r_b ∷ []) × (members (λ c. is_base (base_of c)) ≡ bytes "BDHKO")

-- rules 3 and 4, index numbers and pieces of names, on words; rules 1 to 5 under each base
abbrev pub WordsByRule : Type 0
WordsByRule = (map word_found word_rows ≡ map word_stated word_rows) × (map unit_found unit_rows ≡ map unit_stated unit_rows)

-- the units of which `Capitals` speaks are all of a command's: leading ones in full, a range's lower end, every place of every block
abbrev pub UnitsOfACommand : Type 0
UnitsOfACommand = units_read ≡ units_due

-- "Separators, longest first: `&&-`, `&&`, `&-`, `&`, `++`, `-`, `,`, `:`, `=`, `;`."
abbrev pub SeparatorTexts : Type 0
SeparatorTexts = map sep_found sep_rows ≡ map sep_stated sep_rows

-- ======== witnesses: the record

-- a command with every tag, both kinds of block and every base letter: its record, and back
abbrev pub TableOfTags : Type 0
TableOfTags =
    (map_r encode (read (bytes "DHOBK") whole) ≡ ok whole_record) × (map_r print (record_of whole_record) ≡ ok whole)
    × (map_r bases (record_of whole_record) ≡ ok (bytes "DHOBKDD"))

-- ======== witnesses: refusals and calls

-- "Refusal numbers", in the order of the paper's tables, and document 02's behind them
abbrev pub RefusalNumbers : Type 0
RefusalNumbers =
    (wrong_letter ∷ too_long ∷ not_permitted ∷ unclosed ∷ no_token ∷ no_end ∷ after_end ∷ wrong_code ∷ kind_differs ∷ wrong_name ∷ wrong_shape ∷ unreadable ∷ too_big
    ∷ group_broken ∷ too_many ∷ too_many_orders ∷ no_room ∷ not_well_formed ∷ no_such_order ∷ no_key ∷ name_twice ∷ no_such_place ∷ wrong_argument ∷ wrong_row ∷ [])
    ≡ 1 ∷ 2 ∷ 3 ∷ 4 ∷ 5 ∷ 6 ∷ 7 ∷ 8 ∷ 9 ∷ 10 ∷ 11 ∷ 12 ∷ 13 ∷ 14 ∷ 15 ∷ 16 ∷ 17 ∷ 18 ∷ 19 ∷ 20 ∷ 21 ∷ 26 ∷ 27 ∷ 28 ∷ []

-- the limits by name, and for each the last line that is read and the first that is refused
abbrev pub Limits : Type 0
Limits =
    ((most_letters ∷ most_text ∷ most_word ∷ most_prefixed ∷ most_string ∷ more_of_code ∷ more_of_name ∷ most_blocks ∷ most_places ∷ most_leading ∷ most_elements
    ∷ most_arguments ∷ most_orders ∷ most_value ∷ most_fraction ∷ [])
    ≡ 32 ∷ 1024 ∷ 32 ∷ 34 ∷ 80 ∷ 2 ∷ 3 ∷ 8 ∷ 32 ∷ 3 ∷ 64 ∷ 4096 ∷ 65535 ∷ 4294967295 ∷ 9 ∷ []) × (map tally limits ≡ map expected limits)

-- a row for each cell of the reader's tables, with its place
abbrev pub CellsOfRefusals : Type 0
CellsOfRefusals = (map answer cells ≡ map due cells) × (map tally scanned ≡ map expected scanned)

-- the calls: number and value, every byte of a lent buffer, every slot of a lent row, and the part that is handed back
abbrev pub CallRows : Type 0
CallRows =
    (map read_found reads ≡ map read_stated reads) × (map print_found prints ≡ map print_stated prints)
    × (map order_found orders_asked ≡ map order_stated orders_asked) × (map count_found counts_asked ≡ map count_stated counts_asked)
    × (map list_found lists_asked ≡ map list_stated lists_asked) × (map member_found members_asked ≡ map member_stated members_asked)
    × (map read_row_found read_rows ≡ map read_row_stated read_rows) × (map order_row_found order_rows ≡ map order_row_stated order_rows)
    × (map ask_found asked ≡ map ask_stated asked)

-- M-100: runs of keys, keys to a full line, and one key to a keeper: number, value and every byte of it
abbrev pub KeyRows : Type 0
KeyRows =
    (map run_found runs ≡ map run_stated runs) × (map (press full) (65 ∷ 59 ∷ 8 ∷ 24 ∷ []) ≡ bad no_key 1024 ∷ bad no_key 1024 ∷ ok most ∷ ok [] ∷ [])
    × (map key_found keys ≡ map key_stated keys)
