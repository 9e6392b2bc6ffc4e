-- What it is to write a part of a command: the rules read it, its fields fit the buffer, and they stand over the buffer's start afterwards. What the
-- rules read is the same whatever the place of the separator that ends the part and whatever names stand in the block before it, and is written for all of these.
use Rattle.std.specs.Prelude.{ℕ, ◌+◌, ◌≤◌, ◌≡◌, Bool, List, [], map, ◌++◌, length}
use Rattle.laws.specs.Over.{over}
use Rattle.rules.specs.Commands.{Name, Place, place, Command, seg, split, cut_at}
use Rattle.rules.specs.Orders.{count}
use Rattle.rules.specs.Reading.{Placed, unplaced, PlacedBlock, block_of, block_size, read_named, read_place, read_places, read_block, read_blocks, read_segs, read_cut}
use Rattle.rules.specs.Records.{Field, field, bytes_of, many, element_fields, place_fields, block_fields, body_bytes, encode}
use Rattle.rules.specs.Refusals.{ok}
use Rattle.rules.specs.Tokens.{comma, colon, equals, semi}
use Rattle.rules.specs.Units.{Base, letter}
use Rattle.token_table.specs.declared.Token.{Token as Entry}
use Rattle.token_table.specs.Table.{tokens_in}
use Rattle.read_bases.specs.Bases.{bases_in}
use Rattle.token_table.specs.Parts.{parts_from}

-- ---- bytes

abbrev pub word_bytes : ℕ → List (List ℕ) → List ℕ
word_bytes t ws = bytes_of (map (λ w. field t w) ws)

-- a place's fields behind its own: name pieces, elements
abbrev pub inner_fields : Place → List Field
inner_fields (place b nm v) = map (λ w. field 4 w) nm ++ many element_fields v

abbrev pub inner_bytes : Placed → List ℕ
inner_bytes x = bytes_of (inner_fields (unplaced x))

abbrev pub place_bytes : Placed → List ℕ
place_bytes x = bytes_of (place_fields (unplaced x))

abbrev pub places_bytes : List Placed → List ℕ
places_bytes xs = bytes_of (many place_fields (map unplaced xs))

abbrev pub block_bytes : PlacedBlock → List ℕ
block_bytes b = bytes_of (block_fields (block_of b))

abbrev pub blocks_bytes : List PlacedBlock → List ℕ
blocks_bytes bs = bytes_of (many block_fields (map block_of bs))

-- r bytes were written, and they are w
abbrev pub Wrote : List ℕ → ℕ → List ℕ → List ℕ → Type 0
Wrote w r old new = (r ≡ length w) × (new ≡ over w old)

-- ---- a named place's name and value, under the base of a letter

pub record NameFits (ts : List Entry) (cs : List ℕ) (l room : ℕ) : Type 0 where
  pub base : Base
  pub own : l ≡ letter base
  pub end : ℕ
  pub names : List Name
  pub x : Placed
  pub is : read_named base names (cut_at equals (tokens_in cs ts)) end ≡ ok x
  pub fits : length (inner_bytes x) ≤ room

abbrev pub PutName : List Entry → List ℕ → ℕ → ℕ → List ℕ → List ℕ → Type 0
PutName ts cs l r old new =
    (b : Base) (ns : List Name) (e : ℕ) (x : Placed) → l ≡ letter b → read_named b ns (cut_at equals (tokens_in cs ts)) e ≡ ok x → Wrote (inner_bytes x) r old new

-- ---- the n-th place

pub record PlaceFits (ts : List Entry) (cs ls : List ℕ) (k : Bool) (n room : ℕ) : Type 0 where
  pub end : ℕ
  pub names : List Name
  pub x : Placed
  pub is : read_place k (bases_in ls) n names (seg (tokens_in cs ts) end) ≡ ok x
  pub fits : length (place_bytes x) ≤ room

abbrev pub PutPlace : List Entry → List ℕ → List ℕ → Bool → ℕ → ℕ → List ℕ → List ℕ → Type 0
PutPlace ts cs ls k n r old new =
    (ns : List Name) (e : ℕ) (x : Placed) → read_place k (bases_in ls) n ns (seg (tokens_in cs ts) e) ≡ ok x → Wrote (place_bytes x) r old new

-- ---- places, and the number of the place behind them

pub record PlacesFit (ts : List Entry) (cs ls : List ℕ) (k : Bool) (n room : ℕ) : Type 0 where
  pub end : ℕ
  pub xs : List Placed
  pub is : read_places k (bases_in ls) n [] (split comma end (tokens_in cs ts)) ≡ ok xs
  pub fits : length (places_bytes xs) ≤ room

abbrev pub PutPlaces : List Entry → List ℕ → List ℕ → Bool → ℕ → ℕ → ℕ → List ℕ → List ℕ → Type 0
PutPlaces ts cs ls k n r m old new =
    (e : ℕ) (xs : List Placed) → read_places k (bases_in ls) n [] (split comma e (tokens_in cs ts)) ≡ ok xs → (m ≡ n + length xs) × Wrote (places_bytes xs) r old new

-- ---- a block, and the number of the place behind it

pub record BlockFits (ts : List Entry) (cs ls : List ℕ) (n room : ℕ) : Type 0 where
  pub end : ℕ
  pub b : PlacedBlock
  pub is : read_block (bases_in ls) n (split comma end (tokens_in cs ts)) ≡ ok b
  pub fits : length (block_bytes b) ≤ room

abbrev pub PutBlock : List Entry → List ℕ → List ℕ → ℕ → ℕ → ℕ → List ℕ → List ℕ → Type 0
PutBlock ts cs ls n r m old new =
    (e : ℕ) (b : PlacedBlock) → read_block (bases_in ls) n (split comma e (tokens_in cs ts)) ≡ ok b → (m ≡ n + block_size b) × Wrote (block_bytes b) r old new

-- ---- the blocks from index i on, the first one's `:` at q

pub record BlocksFit (ts : List Entry) (cs ls : List ℕ) (i room : ℕ) : Type 0 where
  pub end : ℕ
  pub q : ℕ
  pub bs : List PlacedBlock
  pub is : read_blocks (bases_in ls) 0 0 q (parts_from colon end cs ts i) ≡ ok bs
  pub fits : length (blocks_bytes bs) ≤ room

abbrev pub PutBlocks : List Entry → List ℕ → List ℕ → ℕ → ℕ → List ℕ → List ℕ → Type 0
PutBlocks ts cs ls i r old new =
    (e q : ℕ) (bs : List PlacedBlock) → read_blocks (bases_in ls) 0 0 q (parts_from colon e cs ts i) ≡ ok bs → Wrote (blocks_bytes bs) r old new

-- ---- the command, without its head and its `;`, and with them

pub record SegmentsFit (ts : List Entry) (cs ls : List ℕ) (room : ℕ) : Type 0 where
  pub end : ℕ
  pub c : Command
  pub is : read_segs (bases_in ls) (split colon end (tokens_in cs ts)) ≡ ok c
  pub fits : length (body_bytes c) ≤ room

abbrev pub PutSegments : List Entry → List ℕ → List ℕ → ℕ → List ℕ → List ℕ → Type 0
PutSegments ts cs ls r old new = (e : ℕ) (c : Command) → read_segs (bases_in ls) (split colon e (tokens_in cs ts)) ≡ ok c → Wrote (body_bytes c) r old new

pub record CommandFits (ts : List Entry) (cs ls : List ℕ) (orders room : ℕ) : Type 0 where
  pub end : ℕ
  pub c : Command
  pub is : read_cut (bases_in ls) end (cut_at semi (tokens_in cs ts)) ≡ ok c
  pub counted : orders ≡ count c
  pub fits : length (encode c) ≤ room

abbrev pub PutCommand : List Entry → List ℕ → List ℕ → ℕ → List ℕ → List ℕ → Type 0
PutCommand ts cs ls r old new = (n : ℕ) (c : Command) → read_cut (bases_in ls) n (cut_at semi (tokens_in cs ts)) ≡ ok c → Wrote (encode c) r old new
