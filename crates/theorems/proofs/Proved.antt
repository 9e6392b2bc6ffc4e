-- Each demand has its proof: the theorems of `rules` and `grammar` under the demands' names.
use Prim.Native.Nat.{ℕ, ◌≤◌}
use mathlib.Core.Path.{◌≡◌, refl, sym, ap, ap₂, ◌∙◌, subst}
use mathlib.Core.Bool.{true}
use mathlib.Core.List.{List, map}
use native.Mathlib.Nat.{le_trans}
use lib.ListN.{length}
use Rattle.rules.proofs.AnswersFit.{reading_most, printing_most, ordering_most, counting_most, listing_most, locating_few, locating_most, reading_row_most, ordering_row_most, placing_few, placing_most, pressing_most}
use Rattle.rules.proofs.CallRows.{reads_are, prints_are, orders_are, counts_are, lists_are, members_are, read_rows_are, order_rows_are, asked_are}
use Rattle.rules.proofs.Capitals.{capitals}
use Rattle.rules.proofs.CountIsField.{answers_field, field_length, begins_with, other_number, without_field}
use Rattle.rules.proofs.DecodeEncode.{decode_encode}
use Rattle.rules.proofs.DirectIsList.{count_is, direct_is}
use Rattle.rules.proofs.EncodeDecode.{record_is, record_of_lem, record_refused}
use Rattle.rules.proofs.FirstPosition.{argument_is, argument_refl, is_nowhere, nowhere_is, first_is, is_first, first_position, position_below}
use Rattle.rules.proofs.FromTheList.{reader_list, printer_list, order_list, count_list, list_list, locate_list, read_row_list, order_row_list, place_list, key_list}
use Rattle.rules.proofs.Indexed.{index_refused, index_no_room, index_no_slots, index_ok, index_fits, fit_refused}
use Rattle.rules.proofs.KeeperIsList.{after_keys, answers_keys, fresh_keys}
use Rattle.rules.proofs.KeptLines.{ready_last, accepted_typed}
use Rattle.rules.proofs.KeyRows.{runs_are, full_line_lem, keys_are}
use Rattle.rules.proofs.Lines.{lines, example_is, at_limits}
use Rattle.rules.proofs.ListBound.{piece_small}
use Rattle.rules.proofs.LocateCall.{could_stand_lem, place_at, no_place_at, not_found, no_place, no_argument, found, found_first, first_found, found_nowhere, nowhere_found}
use Rattle.rules.proofs.NamesDiffer.{names_differ_lem}
use Rattle.rules.proofs.NeverLonger.{never_longer}
use Rattle.rules.proofs.OrderFits.{order_fits}
use Rattle.rules.proofs.OrderWellFormed.{order_wf}
use Rattle.rules.proofs.PiecesAreOrders.{list_back, split_once, piece_count, piece_at, listed, list_no_room, not_listed}
use Rattle.rules.proofs.ReadSound.{read_wf}
use Rattle.rules.proofs.ReadyLine.{ready_line}
use Rattle.rules.proofs.RecordBound.{record_bound}
use Rattle.rules.proofs.RefusalRows.{cells_are, scanned_are}
use Rattle.rules.proofs.RoundTrip.{read_print}
use Rattle.rules.proofs.RowCalls.{all_right, no_record, wrong_slot, past_places, handed_back, passed, passed_past, part_of_record, part_lies, no_part, asked_filled, asked_past, nothing_written, slots_kept, asked_written, read_row_well, order_row_well, read_row_most, order_row_most, read_row, order_row}
use Rattle.rules.proofs.RowPoints.{offsets_many, slot_is, place_there}
use Rattle.rules.proofs.SoleOrder.{order_sole}
use Rattle.rules.proofs.Tables.{classes_are, ranges_are, capitals_are, digits_are, keyed_are, letters_are, letters_only, words_are, units_are, units_listed, separators_are, tags_are, refusal_numbers, limits_are}
use Rattle.rules.proofs.WellFormedIsReadable.{well_formed_is_readable}
use Rattle.rules.specs.Refusals.{Res, not_well_formed}
use Rattle.rules.specs.Commands.{Command, single}
use Rattle.rules.specs.Reading.{read}
use Rattle.rules.specs.Records.{encode}
use Rattle.rules.specs.Orders.{orders, order_at}
use Rattle.rules.specs.Positions.{written_out, is_argument}
use Rattle.rules.specs.Indexes.{offsets}
use Rattle.rules.specs.Answers.{reading, order_of, ordering, indexed, reading_row, ordering_row, placing, number_of}
use Rattle.rules.specs.Keeping.{held, keeper_after}
use Rattle.grammar.proofs.Exact.{sound, complete, unique, refused}
use Rattle.rules.proofs.RefusalPlaces.{Whatever, comes_bad}
use Rattle.rules.proofs.ReasonNumbers.{Kept, reading_kept, printing_kept, ordering_kept, counting_kept, listing_kept, locating_kept, reading_row_kept, ordering_row_kept, placing_kept, pressing_kept}
use Rattle.theorems.specs.Demands.{Twelve, Example84, FromTheList, NumbersKept, AnswersFit, Decided, CountDecided, LocateDecided, RowDecided, PlaceDecided, PartDecided, KeyDecided, Exact, Unique, Refused, ReadSound, NamesDiffer, Capitals, WellFormedIsReadable, RoundTrip, NeverLonger, DecodeEncode, EncodeDecode, RecordBound, DirectIsList, CountIsLength, CountIsField, OrderCarriesOne, FieldIsAsked, Past, OrderWellFormed, OrderFits, SoleOrder, PiecesAreOrders, PiecesSplitOnce, ListThenOrder, ListRefused, PlacesFromZero, SameFields, CouldStand, PositionIsFirstIndex, FirstPosition, PositionBelow, LocateAnswers, LocateFirst, LocateRefused, RowPoints, AskedByFilledRow, FilledRowIsAsked, SlotsBeyondKept, PassedRowIsThatRow, PartOfTheRecord, PartLies, PlaceRefused, Filling, RowRefused, RowIsRead, Accepts, ReadWithoutRoom, RefusedForRoomAlone, PrintsGivenRoom, PrintWithoutRoom, PrintThenRead, ReadThenPrint, OrdersGivenRoom, OrdersAreListed, SoleOrderOnBytes, KeeperIsList, FreshKeeper, ReadyLine, AcceptedIsTyped, ReadyLast, ClassesOfBytes, RangesOfBytes, CapitalLetters, DigitsOfBases, KeyedDigits, BaseLetters, WordsByRule, UnitsOfACommand, SeparatorTexts, TableOfTags, RefusalNumbers, Limits, CellsOfRefusals, CallRows, KeyRows}
use Rattle.theorems.proofs.Calls

twelve_lines : Twelve
twelve_lines = lines

example_84 : Example84
example_84 = example_is

from_the_list : FromTheList
from_the_list = (reader_list, printer_list, order_list, count_list, list_list, locate_list, read_row_list, order_row_list, place_list, key_list)

numbers_kept : NumbersKept
numbers_kept = (
  λ letters text old n p. comes_bad Kept Whatever _ n p (reading_kept letters text old),
  λ r old n p. comes_bad Kept Whatever _ n p (printing_kept r old),
  λ r k old n p. comes_bad Kept Whatever _ n p (ordering_kept r k old),
  λ r n p. comes_bad Kept Whatever _ n p (counting_kept r),
  λ r old n p. comes_bad Kept Whatever _ n p (listing_kept r old),
  λ r m w n p. comes_bad Kept Whatever _ n p (locating_kept r m w),
  λ letters text old row n p. comes_bad Kept Whatever _ n p (reading_row_kept letters text old row),
  λ r k old row n p. comes_bad Kept Whatever _ n p (ordering_row_kept r k old row),
  λ r row m n p. comes_bad Kept Whatever _ n p (placing_kept r row m),
  λ k c n p. comes_bad Kept Whatever _ n p (pressing_kept k c),
)

answers_fit : AnswersFit
answers_fit = (reading_most, printing_most, ordering_most, counting_most, listing_most, locating_few, locating_most, reading_row_most, ordering_row_most, placing_few, placing_most, pressing_most)

decided : Decided
decided result old a b new also p q = (p.answers ∙ sym q.answers, p.holds ∙ sym q.holds)

count_decided : CountDecided
count_decided r a b p q = p ∙ sym q

locate_decided : LocateDecided
locate_decided r n w a b p q = p ∙ sym q

row_decided : RowDecided
row_decided result old row a b new also filled likewise p q = (p.answers ∙ sym q.answers, p.holds ∙ sym q.holds, p.fills ∙ sym q.fills)

place_decided : PlaceDecided
place_decided r row n a b p q = p ∙ sym q

part_decided : PartDecided
part_decided r row n a b p q = (p.holds ∙ sym q.holds, p.within ∙ sym q.within, p.lies ∙ sym q.lies)

key_decided : KeyDecided
key_decided k c a b p q = p ∙ sym q

exact : Exact
exact letters text c = (sound letters text c, complete letters text c)

unique_reading : Unique
unique_reading = unique

refused_has_none : Refused
refused_has_none = refused

read_sound : ReadSound
read_sound = read_wf

names_once : NamesDiffer
names_once = names_differ_lem

in_capitals_lem : Capitals
in_capitals_lem = capitals

readable : WellFormedIsReadable
readable = well_formed_is_readable

round_trip : RoundTrip
round_trip = read_print

longer_never : NeverLonger
longer_never = never_longer

decode_after_encode : DecodeEncode
decode_after_encode c h = (decode_encode c h, record_of_lem c h)

encode_after_decode : EncodeDecode
encode_after_decode r c h = let is = record_is r c h in (is.bytes, is.well)

record_bounded : RecordBound
record_bounded r c h =
    let is = record_is r c h in
    subst (λ x. length x ≤ 65536) is.bytes (record_bound c is.well)

direct_is_list : DirectIsList
direct_is_list = direct_is

count_is_length : CountIsLength
count_is_length = count_is

count_is_field : CountIsField
count_is_field r c h = (answers_field r c h, field_length r c h, begins_with r c h)

carries_one : OrderCarriesOne
carries_one = Calls.order_carries_one

field_is_asked : FieldIsAsked
field_is_asked c h = (λ n small other. other_number n c small h other, without_field c h)

past_the_count : Past
past_the_count = Calls.past

order_well_formed : OrderWellFormed
order_well_formed = order_wf

fits : OrderFits
fits = order_fits

sole_order : SoleOrder
sole_order c k h few =
    (read_print (order_at c k) (order_wf c k h) (le_trans (order_fits c k h) few), order_sole c k)

pieces_are_orders : PiecesAreOrders
pieces_are_orders c h =
    record {
      pieces = map encode (orders c);
      are = refl;
      small = λ k lt. piece_small c k h lt;
      read_again = list_back c;
      many = piece_count c h;
      each = λ k lt. piece_at c k h lt;
    }

pieces_split_once : PiecesSplitOnce
pieces_split_once = split_once

listed_then_ordered : ListThenOrder
listed_then_ordered = Calls.list_then_order

list_refused : ListRefused
list_refused r old =
    (λ none. not_listed r old not_well_formed 0 (record_refused r none), λ c h short. list_no_room r old c h short, λ c h room. listed r old c h room)

places_from_zero : PlacesFromZero
places_from_zero code bs = (place_at code bs, no_place_at code bs)

same_fields : SameFields
same_fields l m u v = (
  λ h. let q : (m ≡ l) × (v ≡ u) = argument_is l m u v h in ap₂ (λ a x. single a x) q.0 q.1,
  λ h. subst (λ e. is_argument l u e ≡ true) (sym h) (argument_refl l u),
)

stands_alone : CouldStand
stands_alone = could_stand_lem

position_is_first_index : PositionIsFirstIndex
position_is_first_index = first_position

first_both_ways : FirstPosition
first_both_ways b v l u h =
    let t = is_argument l u in
    let e = first_position b v l u h in (
      λ k. (λ q. is_first t (written_out v) k (sym e ∙ q), λ f. e ∙ first_is t (written_out v) k f),
      λ q. is_nowhere t (written_out v) (sym e ∙ q),
      λ f. e ∙ nowhere_is t (written_out v) f,
    )

position_is_below : PositionBelow
position_is_below = position_below

locate_answers : LocateAnswers
locate_answers r c n l u h z s = found r n c h z l u s

locate_first : LocateFirst
locate_first r c n l u h z s = (
  λ k. (found_first r n c h z l u s k, first_found r n c h z l u s k),
  found_nowhere r n c h z l u s,
  nowhere_found r n c h z l u s,
)

locate_refused : LocateRefused
locate_refused r n w = (
  λ none. not_found r n w not_well_formed 0 (record_refused r none),
  λ c h z. no_place r n c h w z,
  λ c h z none. no_argument r n c h z w (λ g. none g.lead g.last g.could g.bytes),
)

row_points : RowPoints
row_points = (offsets_many, λ code before k ps p qs behind. (slot_is code before k ps p qs behind, place_there code before k ps p qs behind))

asked_by_filled_row : AskedByFilledRow
asked_by_filled_row c slots n h = (asked_filled c h slots n, asked_past c h slots n)

filled_row_is_asked : FilledRowIsAsked
filled_row_is_asked = (
  λ text letters old row answer new filled c n p h.
      asked_written (reading_row text letters old row) old row answer new filled p c h n (read_row_well text letters old row c h),
  λ r k old row answer new filled c n p h.
      asked_written (ordering_row r k old row) old row answer new filled p c h n (order_row_well r k old row c h),
)

slots_beyond_kept : SlotsBeyondKept
slots_beyond_kept result old row answer new filled p = (slots_kept result old row answer new filled p, nothing_written result old row answer new filled p)

passed_row_is_that_row : PassedRowIsThatRow
passed_row_is_that_row r row n c h = (λ w e. passed r row n c h w e (λ rows few is. (rows, sym is)), passed_past r row n c h)

part_of_the_record : PartOfTheRecord
part_of_the_record = part_of_record

part_lies_there : PartLies
part_lies_there r row n answer part a b = (
  part_lies r row n answer part a b,
  λ nr p h.
      let q = no_part r row n answer part a b nr p h in
      (q.0, ap number_of q.0 ∙ comes_bad Kept Whatever (placing r.now row n) nr p (placing_kept r.now row n) h, q.1),
)

place_refused : PlaceRefused
place_refused r row n = (
  λ none. no_record r row n not_well_formed 0 (record_refused r none),
  λ c j h. wrong_slot r row n c h j,
  λ c h right. past_places r row n c h (all_right (offsets c) row right),
  λ c h right. handed_back r row n c h (all_right (offsets c) row right),
)

fills : (found : Res Command) (old row : List ℕ) → Filling found old row (indexed (length old) (length row) found)
fills found old row = (
  index_refused old (length row) found,
  λ c h. index_no_room old (length row) found c h,
  λ c h. index_no_slots old (length row) found c h,
  λ c h. index_ok old (length row) found c h,
)

row_refused : RowRefused
unfolding reading_row ordering_row
row_refused = (λ text letters old row. fills (read letters text) old row, λ r k old row. fills (order_of r k) old row)

row_is_read : RowIsRead
unfolding reading_row reading ordering_row ordering
row_is_read = (
  λ text letters old row. (
    fit_refused old (length row) (read letters text),
    index_fits old (length row) (read letters text),
    read_row text letters old row,
    λ h. read_row text letters old row (read_row_most text letters row h),
  ),
  λ r k old row. (
    fit_refused old (length row) (order_of r k),
    index_fits old (length row) (order_of r k),
    order_row r k old row,
    λ h. order_row r k old row (order_row_most r k row h),
  ),
)

accepted : Accepts
accepted = Calls.accepts

read_needs_room : ReadWithoutRoom
read_needs_room = Calls.read_without_room

for_room_alone : RefusedForRoomAlone
for_room_alone = Calls.refused_for_room_alone

printed_given_room : PrintsGivenRoom
printed_given_room = Calls.prints_given_room

print_needs_room : PrintWithoutRoom
print_needs_room = Calls.print_without_room

printed_then_read : PrintThenRead
printed_then_read = Calls.print_then_read

read_then_printed : ReadThenPrint
read_then_printed = Calls.read_then_print

ordered_given_room : OrdersGivenRoom
ordered_given_room = Calls.orders_given_room

orders_listed : OrdersAreListed
orders_listed = Calls.orders_are_listed

sole_on_bytes : SoleOrderOnBytes
sole_on_bytes = Calls.sole_order_on_bytes

keeper_is_list : KeeperIsList
keeper_is_list k keys h = (after_keys keys k h, answers_keys keys k h)

fresh_keeper : FreshKeeper
fresh_keeper = fresh_keys

ready_for_the_reader : ReadyLine
ready_for_the_reader letters k keys n p h r =
    (ap (read letters) (after_keys keys k h), λ e. ready_line letters (held (keeper_after k keys)) n p r e)

accepted_is_typed : AcceptedIsTyped
accepted_is_typed = accepted_typed

last_byte_tells : ReadyLast
last_byte_tells = ready_last

classes_of_bytes : ClassesOfBytes
classes_of_bytes = classes_are

ranges_of_bytes : RangesOfBytes
ranges_of_bytes = ranges_are

capital_letters : CapitalLetters
capital_letters = capitals_are

digits_of_bases : DigitsOfBases
digits_of_bases = digits_are

keyed_digits : KeyedDigits
keyed_digits = keyed_are

base_letters_lem : BaseLetters
base_letters_lem = (letters_are.0, letters_are.1, letters_are.2, letters_are.3, letters_only.0)

words_by_rule : WordsByRule
words_by_rule = (words_are, units_are)

units_of_a_command : UnitsOfACommand
units_of_a_command = units_listed

separator_texts : SeparatorTexts
separator_texts = separators_are

table_of_tags : TableOfTags
table_of_tags = tags_are

refusals_by_name : RefusalNumbers
refusals_by_name = refusal_numbers

limits : Limits
limits = (limits_are, at_limits)

cells_of_refusals : CellsOfRefusals
cells_of_refusals = (cells_are, scanned_are)

rows_of_calls : CallRows
rows_of_calls = (reads_are, prints_are, orders_are, counts_are, lists_are, members_are, read_rows_are, order_rows_are, asked_are)

rows_of_keys : KeyRows
rows_of_keys = (runs_are, full_line_lem, keys_are)
