-- Blocks and all that stands behind a record's head, read from the front of bytes: each field as document 01's rules read it, and the rules and limits on each met at once.
use Rattle.std.specs.Prelude.{Bool, false, ◌&&◌, ◌||◌, not, List, map, ℕ, suc, ◌+◌, ◌-◌, ◌*◌, leb, eqb, length}
use Rattle.std.proofs.Math.Option.{Option, none, some}
use Rattle.laws.specs.Cases.{pick}
use Rattle.laws.specs.Lists.{is_nil}
use Rattle.rules.specs.Characters.{byte}
use Rattle.rules.specs.Refusals.{more_of_code, most_blocks, most_places, most_orders}
use Rattle.rules.specs.Commands.{Place, place_name, place_count, Block, block, places_of, Command, command}
use Rattle.rules.specs.Records.{code_tag, block_tag, place_tag, Field, field, kind_of_byte}
use Rattle.rules.specs.WellFormed.{names_differ}
use Rattle.rules.specs.Orders.{block_count}
use Rattle.record_walk.specs.Fronts.{Read, and_then, only, made, front, several}
use Rattle.judge_place.specs.Places.{is_tag, pieces, one_place}
use Rattle.judge_names.specs.Names.{is_name_of}

-- ---- the places of a block

-- "An omitted place counts one.": the orders are multiplied by this
unfoldable pub counted : ℕ → ℕ
counted n = pick (eqb n 0) 1 n

-- the orders of the places before, times the place's arguments: at most 65,535
unfoldable pub next_place : Bool → ℕ → List ℕ → Read Place
next_place named o r = only (λ p. leb (o * place_count p) most_orders) (one_place named r)

abbrev pub with_place : ℕ → Place → ℕ
with_place o p = o * place_count p

-- at most n places
abbrev pub some_places : Bool → ℕ → ℕ → List ℕ → Read (List Place)
some_places named n o r = several (is_tag place_tag) (next_place named) with_place n o r

-- "Nothing after `:` is one omitted place.": a block has a place; M-102: no name stands twice in its block
abbrev pub may_be_block : Bool → List Place → Bool
may_be_block named ps = not (is_nil ps) && (not named || names_differ (map place_name ps))

unfoldable pub places : Bool → ℕ → ℕ → List ℕ → Read (List Place)
places named n o r = only (may_be_block named) (some_places named n o r)

-- the place that is next behind others: in a named block its name is none of theirs
unfoldable pub fresh_place : Bool → List Place → List ℕ → Read Place
fresh_place named ps r = only (λ p. not named || not (is_name_of ps (place_name p))) (one_place named r)

-- ---- a block

unfoldable pub is_kind : ℕ → Bool
is_kind c = eqb c (byte "N") || eqb c (byte "P")

abbrev pub kind_in : Field → Option Bool
kind_in (field t w) = kind_of_byte w

-- the blocks before: their places, their orders
pub record Before : Type 0 where
  pub places : ℕ
  pub orders : ℕ

unfoldable pub next_block : Before → List ℕ → Read Block
next_block s r =
    and_then (front r)
    (λ f r₁. and_then (made (kind_in f) r₁) (λ k r₂. and_then (places k (most_places - s.places) s.orders r₂) (λ ps r₃. some (block k ps, r₃))))

abbrev pub with_block : Before → Block → Before
with_block s b = record { places = s.places + length (places_of b); orders = s.orders * block_count b }

abbrev pub none_before : Before
none_before = record { places = 0; orders = 1 }

abbrev pub some_blocks : List ℕ → Read (List Block)
some_blocks r = several (is_tag block_tag) next_block with_block most_blocks none_before r

-- ---- all behind the head

-- nothing may stand behind
abbrev pub ending : {A : Type 0} → Read A → Option A
ending none = none
ending (some x) = pick (is_nil x.1) (some x.0) none

unfoldable pub blocks : List ℕ → Option (List Block)
blocks r = ending (some_blocks r)

abbrev pub with_blocks : List (List ℕ) → Option (List Block) → Option Command
with_blocks c none = none
with_blocks c (some bs) = some (command c bs)

-- a code has a piece
abbrev pub with_code : Read (List (List ℕ)) → Option Command
with_code none = none
with_code (some x) = pick (is_nil x.0) none (with_blocks x.0 (blocks x.1))

unfoldable pub body_in : List ℕ → Option Command
body_in r = with_code (pieces code_tag false (suc more_of_code) r)
