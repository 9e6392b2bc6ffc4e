-- The row: three numbers for each place. The judge leaves in it how many arguments the place has, and where its value begins and ends behind the record's head.
-- Where the number stood, order k puts what becomes of the value. In all of this the bytes are those behind the head.
use Rattle.std.specs.Prelude.{◌≡◌, Bool, true, false, List, [], ◌∷◌, ◌++◌, map, ℕ, ◌+◌, ◌*◌, ◌/◌, ◌%◌, ◌≤◌, ◌<◌, eqb, ltb, length, take, drop, Result, Ok, Err}
use Rattle.laws.specs.Cases.{pick}
use Rattle.laws.specs.Over.{part}
use Rattle.rules.specs.declared.Refusal.{Refusal}
use Rattle.rules.specs.Reasons.{refusal}
use Rattle.rules.specs.Refusals.{Res, ok, bad, most_arguments}
use Rattle.rules.specs.Answers.{Answer, order_of, indexed, RowPromise}
use Rattle.rules.specs.Orders.{count, order_at}
use Rattle.rules.specs.Commands.{Element, single, range, Place, place, Command, place_count}
use Rattle.rules.specs.Records.{field_bytes, place_fields, range_tag, head_size, encode}
use Rattle.rules.specs.Indexes.{offsets}
use Rattle.rules.specs.WellFormed.{well_formed, record_of, body_of}
use Rattle.record_walk.specs.Fronts.{tag_of}
use Rattle.record_walk.specs.Runs.{bytes_in}
use Rattle.record_walk.specs.Spans.{size, head_fields}
use Rattle.judge.specs.Judged.{per_place, row_length}
use Rattle.index.specs.Rows.{Recorded}
use Rattle.order_argument.specs.Terms.{more_terms, argument_bytes}
use Rattle.order_argument.specs.declared.Argument.{Argument}
use Rattle.order.specs.Reduced.{positions_of, Part, kept, placed, parts_of, Below, places_in, order_bytes}

-- ---- what becomes of a value

-- the value stays as it is: no position is as high as this
abbrev pub kept_mark : ℕ
kept_mark = most_arguments

-- "each value reduced to one argument as a single element": an omitted place has none, and one single element is that already
abbrev pub is_reduced : List Element → Bool
is_reduced [] = true
is_reduced (single l u ∷ []) = true
is_reduced (range l r lo up inc ∷ []) = false
is_reduced (single l u ∷ (e ∷ es)) = false
is_reduced (range l r lo up inc ∷ (e ∷ es)) = false

-- its mark, or else the position
abbrev pub slot_of : Place → ℕ → ℕ
slot_of (place b nm v) n = pick (is_reduced v) kept_mark n

-- the row of parts that stand in a record from a position on
abbrev pub plan_of : ℕ → List Part → List ℕ → List ℕ
plan_of at [] ns = []
plan_of at (kept f ∷ ps) ns = plan_of (at + length (field_bytes f)) ps ns
plan_of at (placed p ∷ ps) [] = []
plan_of at (placed p ∷ ps) (n ∷ ns) =
    slot_of p n ∷ (at + size (head_fields p)) ∷ (at + size (place_fields p)) ∷ plan_of (at + size (place_fields p)) ps ns

-- the positions in a row; a value that stays as it is has one argument, at 0
abbrev pub position_in : ℕ → ℕ
position_in n = pick (ltb n kept_mark) n 0

unfoldable pub positions_in : List ℕ → List ℕ
positions_in [] = []
positions_in (n ∷ []) = []
positions_in (n ∷ (s ∷ [])) = []
positions_in (n ∷ (s ∷ (e ∷ row))) = position_in n ∷ positions_in row

-- the row is a plan for this record
pub record Planned (rec row : List ℕ) : Type 0 where
  pub tree : Command
  pub is : body_of rec ≡ ok tree
  pub below : Below (places_in tree) (positions_in row)
  pub plan : row ≡ plan_of 0 (parts_of tree) (positions_in row)

-- it is the plan of order k
pub record Plans (rec : List ℕ) (k : ℕ) (row : List ℕ) : Type 0 where
  pub planned : Planned rec row
  pub positions : positions_in row ≡ positions_of (map place_count (places_in planned.tree)) k

-- what is written of the order that the plan gives; the row has three numbers for each of its places
abbrev pub PutsOrder : List ℕ → List ℕ → ℕ → List ℕ → Answer → List ℕ → Type 0
PutsOrder rec row slots old r new =
    (c : Command) → order_bytes rec (positions_in row) ≡ encode c → length row ≡ per_place * length (offsets c) → Recorded (ok c) slots old r new

-- the plan gives this command's record, which is well formed
pub record IsOrder (rec row : List ℕ) : Type 0 where
  pub order : Command
  pub bytes : order_bytes rec (positions_in row) ≡ encode order
  pub three : length row ≡ per_place * length (offsets order)
  pub well : well_formed order ≡ true

-- and the offsets with it
abbrev pub PutsIndexed : List ℕ → List ℕ → List ℕ → List ℕ → Answer → List ℕ → List ℕ → Type 0
PutsIndexed rec row old slots r new filled = (o : IsOrder rec row) → RowPromise (indexed (length old) (length slots) (ok o.order)) old slots r new filled

-- the first n numbers of the row are the plan of order k
pub record PlanIs (rec : List ℕ) (k : ℕ) (row : List ℕ) (n : ℕ) : Type 0 where
  pub tree : Command
  pub is : record_of rec ≡ ok tree
  pub below : k < count tree
  pub inside : n ≤ length row
  pub few : n ≤ row_length
  pub three : n ≡ per_place * length (offsets (order_at tree k))
  pub plans : Plans (part rec head_size) k (take n row)

-- what is found is this refusal
pub record Refuses (found : Res Command) (r : Refusal) : Type 0 where
  pub number : ℕ
  pub place : ℕ
  pub is : found ≡ bad number place
  pub says : r ≡ refusal number place

abbrev pub IsPlan : List ℕ → ℕ → List ℕ → Result ℕ Refusal → Type 0
IsPlan rec k row (Ok n) = PlanIs rec k row n
IsPlan rec k row (Err r) = Refuses (order_of rec k) r

-- ---- one place

-- what is put where the number of arguments stood, of what is left of k: with one argument or none only a range is written anew
unfoldable pub slot_for : List ℕ → ℕ → ℕ → ℕ → ℕ
slot_for rec value number left = pick (ltb 1 number) (left % number) (pick (eqb (tag_of (drop value rec)) range_tag) 0 kept_mark)

-- and what goes on to the place before
unfoldable pub goes_on : ℕ → ℕ → ℕ
goes_on number left = pick (ltb 1 number) (left / number) left

-- ---- a value that is written anew

-- the argument lies in the record behind the value's start, which lies behind `at`, and its element has the term
pub record Within (rec : List ℕ) (at value : ℕ) (a : Argument) : Type 0 where
  pub behind : at ≤ value
  pub start : value ≤ a.start
  pub end : a.start ≤ a.end
  pub inside : a.end ≤ length rec
  pub term : a.term ≤ more_terms (bytes_in rec a.start a.end)

-- all from `at` up to the value as it is, then the argument
unfoldable pub changed : List ℕ → ℕ → ℕ → Argument → List ℕ
changed rec at value a = bytes_in rec at value ++ argument_bytes (bytes_in rec a.start a.end) a.term
