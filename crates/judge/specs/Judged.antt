-- What the judge's answers say: of places and blocks what was read from the front of the bytes, its numbers, and where it stands; of the whole
-- record, and of what stands behind its head, the command that is held there, or refusal 18.
use Rattle.std.specs.Prelude.{◌≡◌, Bool, true, ◌||◌, not, List, [], ◌∷◌, ◌++◌, map, ℕ, ◌+◌, ◌-◌, ◌*◌, ◌≤◌, leb, ltb, length, take, drop, set, Option, Some, None}
use Rattle.std.proofs.Math.Option.{none, some}
use Rattle.std.specs.Bool.{then_some}
use Rattle.laws.specs.Cases.{pick}
use Rattle.rules.specs.Refusals.{Res, ok, bad, not_well_formed, most_places, most_arguments, most_orders}
use Rattle.rules.specs.Commands.{Place, place_count, mult, Block, places_of, all_places, Command, command}
use Rattle.rules.specs.Records.{bytes_of, many, place_fields, block_fields}
use Rattle.rules.specs.WellFormed.{body_of}
use Rattle.rules.specs.Orders.{block_count, count}
use Rattle.marks.specs.Marks.{added_if}
use Rattle.marks.specs.declared.Marks.{Marks}
use Rattle.record_walk.specs.Runs.{bytes_in}
use Rattle.record_walk.specs.Spans.{size, head_fields, arguments_of, place_spans, block_head, block_spans, spans_of}
use Rattle.judge_names.specs.Names.{all_marked}
use Rattle.judge.specs.Blocks.{places, fresh_place, next_block, blocks}
use Rattle.judge.specs.declared.Next.{Next}
use Rattle.judge.specs.declared.Places.{Places}
use Rattle.judge.specs.declared.Judged.{Judged}

-- ---- the row of numbers

-- of each place: its number of arguments, where its value begins, where it ends
abbrev pub per_place : ℕ
per_place = 3

-- a row that has room for the numbers of all places
abbrev pub row_length : ℕ
row_length = per_place * most_places

-- the last position that can be told
abbrev pub most_told : ℕ
most_told = 65535

-- the row with three numbers at a place's, if it has room there
abbrev pub told_at : List ℕ → ℕ → ℕ → ℕ → ℕ → List ℕ
told_at row p a b c =
    let i = per_place * p in
    pick (ltb i (length row)) (set (set (set row i a) (i + 1) b) (i + 2) c) row

-- ---- the orders

-- so many, or more than there may be
abbrev pub orders_of : ℕ → Option ℕ
orders_of n = then_some (leb n most_orders) n

-- ---- one place

-- these places stand from `from` to `at`, and in a named block their names are marked
pub record Stand (named : Bool) (rec : List ℕ) (from at : ℕ) (m : Marks) (ps : List Place) : Type 0 where
  pub order : from ≤ at
  pub inside : at ≤ length rec
  pub bytes : bytes_in rec from at ≡ bytes_of (many place_fields ps)
  pub marks : not named || all_marked m ps ≡ true

-- a place that was read behind these, and stands there with them, its name's key being u: n arguments, its value from `begin` to k
pub record NextIs (named : Bool) (rec : List ℕ) (from at : ℕ) (m : Marks) (ps : List Place) (n begin k u : ℕ) : Type 0 where
  pub p : Place
  pub is : fresh_place named ps (drop at rec) ≡ some (p, drop k rec)
  pub arguments : n ≡ arguments_of p
  pub few : n ≤ most_arguments
  pub begins : begin ≡ at + size (head_fields p)
  pub ends : k ≡ at + size (place_fields p)
  pub more : Stand named rec from k (added_if named m u) (ps ++ (p ∷ []))

abbrev pub NextAs : Bool → List ℕ → ℕ → ℕ → Marks → List Place → Option Next → Type 0
NextAs named rec from at m ps (Some p) = NextIs named rec from at m ps p.place.number p.place.value p.place.next p.key
NextAs named rec from at m ps None = fresh_place named ps (drop at rec) ≡ none

abbrev pub IsNext : Bool → List ℕ → ℕ → ℕ → Marks → Option Next → Type 0
IsNext named rec from at m r = (ps : List Place) → Stand named rec from at m ps → NextAs named rec from at m ps r

-- ---- places

-- n places and o orders were before; now they are n' and o'; `old` and `new` are the row before and after
pub record PlacesAre (named : Bool) (rec : List ℕ) (at n o : ℕ) (old new : List ℕ) (n' o' k : ℕ) : Type 0 where
  pub ps : List Place
  pub is : places named (most_places - n) o (drop at rec) ≡ some (ps, drop k rec)
  pub inside : k ≤ length rec
  pub number : n' ≡ n + length ps
  pub few : n' ≤ most_places
  pub orders : o' ≡ o * mult (map place_count ps)
  pub small : o' ≤ most_orders
  pub ends : k ≡ at + size (many place_fields ps)
  pub long : length new ≡ length old
  pub told : row_length ≤ length old → take (per_place * n') new ≡ take (per_place * n) old ++ place_spans at ps

abbrev pub IsPlaces : Bool → List ℕ → ℕ → ℕ → ℕ → List ℕ → List ℕ → Option Places → Type 0
IsPlaces named rec at n o old new (Some p) = PlacesAre named rec at n o old new p.number p.orders p.next
IsPlaces named rec at n o old new None = places named (most_places - n) o (drop at rec) ≡ none

-- ---- blocks

pub record BlockIs (rec : List ℕ) (at n o : ℕ) (old new : List ℕ) (n' o' k : ℕ) : Type 0 where
  pub b : Block
  pub is : next_block (record { places = n; orders = o }) (drop at rec) ≡ some (b, drop k rec)
  pub inside : k ≤ length rec
  pub number : n' ≡ n + length (places_of b)
  pub few : n' ≤ most_places
  pub orders : o' ≡ o * block_count b
  pub small : o' ≤ most_orders
  pub ends : k ≡ at + size (block_fields b)
  pub long : length new ≡ length old
  pub told : row_length ≤ length old → take (per_place * n') new ≡ take (per_place * n) old ++ place_spans (at + block_head) (places_of b)

abbrev pub IsBlock : List ℕ → ℕ → ℕ → ℕ → List ℕ → List ℕ → Option Places → Type 0
IsBlock rec at n o old new (Some b) = BlockIs rec at n o old new b.number b.orders b.next
IsBlock rec at n o old new None = next_block (record { places = n; orders = o }) (drop at rec) ≡ none

pub record BlocksAre (rec : List ℕ) (at : ℕ) (old new : List ℕ) (n t : ℕ) : Type 0 where
  pub bs : List Block
  pub is : blocks (drop at rec) ≡ some bs
  pub places : n ≡ length (all_places bs)
  pub few : n ≤ most_places
  pub total : t ≡ mult (map block_count bs)
  pub long : length new ≡ length old
  pub told : row_length ≤ length old → take (per_place * n) new ≡ block_spans at bs

abbrev pub IsBlocks : List ℕ → ℕ → List ℕ → List ℕ → Option Judged → Type 0
IsBlocks rec at old new (Some j) = BlocksAre rec at old new j.places j.total
IsBlocks rec at old new None = blocks (drop at rec) ≡ none

-- ---- a record, or what stands behind its head

abbrev pub blocks_of : Command → List Block
blocks_of (command c bs) = bs

-- what the rules find is a command with n places and t orders; where the values of its places stand behind the head is told in a row that has room
pub record IsGood (found : Res Command) (old new : List ℕ) (n t : ℕ) : Type 0 where
  pub tree : Command
  pub is : found ≡ ok tree
  pub places : n ≡ length (all_places (blocks_of tree))
  pub few : n ≤ most_places
  pub total : t ≡ count tree
  pub long : length new ≡ length old
  pub told : row_length ≤ length old → take (per_place * n) new ≡ spans_of tree

-- "18 record not well formed (place 0)"
abbrev pub Judges : Res Command → List ℕ → List ℕ → Option Judged → Type 0
Judges found old new (Some j) = IsGood found old new j.places j.total
Judges found old new None = found ≡ bad not_well_formed 0

-- ---- the row that is left

-- of the bytes behind a head: where the values of their command stand
pub record Told (rec row : List ℕ) : Type 0 where
  pub tree : Command
  pub is : body_of rec ≡ ok tree
  pub told : row ≡ spans_of tree
