-- What the judge's answers on pieces and places say: what was read from the front of the bytes, its numbers, and where its parts begin and end.
use Rattle.std.specs.Prelude.{◌≡◌, Bool, List, map, ℕ, ◌+◌, ◌≤◌, length, drop, Option, Some, None}
use Rattle.std.proofs.Math.Option.{none, some}
use Rattle.rules.specs.Refusals.{most_arguments}
use Rattle.rules.specs.Units.{base_at}
use Rattle.rules.specs.Commands.{Name, Element, Place, place, terms, sum}
use Rattle.rules.specs.Records.{name_tag, field, many, element_fields, place_fields}
use Rattle.record_walk.specs.Spans.{size, head_fields, arguments_of}
use Rattle.judge_place.specs.Places.{pieces, behind_name, parts, one_place}
use Rattle.judge_place.specs.declared.Pieces.{Pieces}
use Rattle.judge_place.specs.declared.OnePlace.{OnePlace}

pub record PiecesAre (t : ℕ) (names : Bool) (most : ℕ) (rec : List ℕ) (at n k : ℕ) : Type 0 where
  pub ws : List (List ℕ)
  pub is : pieces t names most (drop at rec) ≡ some (ws, drop k rec)
  pub inside : k ≤ length rec
  pub count : n ≡ length ws

abbrev pub IsPieces : ℕ → Bool → ℕ → List ℕ → ℕ → Option Pieces → Type 0
IsPieces t names most rec at (Some p) = PiecesAre t names most rec at p.count p.next
IsPieces t names most rec at None = pieces t names most (drop at rec) ≡ none

-- the name of a place, if its block is named
pub record NameIs (named : Bool) (rec : List ℕ) (at n k : ℕ) : Type 0 where
  pub nm : Name
  pub is : behind_name named (drop at rec) ≡ some (nm, drop k rec)
  pub inside : k ≤ length rec
  pub count : n ≡ length nm

abbrev pub IsName : Bool → List ℕ → ℕ → Option Pieces → Type 0
IsName named rec at (Some p) = NameIs named rec at p.count p.next
IsName named rec at None = behind_name named (drop at rec) ≡ none

-- name and value of a place, from behind its field on: n arguments, the value from `begin` to k
pub record PartsAre (named : Bool) (base : ℕ) (rec : List ℕ) (at n begin k : ℕ) : Type 0 where
  pub nm : Name
  pub v : List Element
  pub is : parts named (base_at base) (drop at rec) ≡ some (place (base_at base) nm v, drop k rec)
  pub inside : k ≤ length rec
  pub arguments : n ≡ sum (map terms v)
  pub few : n ≤ most_arguments
  pub begins : begin ≡ at + size (map (λ w. field name_tag w) nm)
  pub ends : k ≡ begin + size (many element_fields v)

abbrev pub IsParts : Bool → ℕ → List ℕ → ℕ → Option OnePlace → Type 0
IsParts named base rec at (Some p) = PartsAre named base rec at p.number p.value p.next
IsParts named base rec at None = parts named (base_at base) (drop at rec) ≡ none

-- the place that stands at `at`: n arguments, its value from `begin` to k
pub record PlaceIs (named : Bool) (rec : List ℕ) (at n begin k : ℕ) : Type 0 where
  pub p : Place
  pub is : one_place named (drop at rec) ≡ some (p, drop k rec)
  pub inside : k ≤ length rec
  pub arguments : n ≡ arguments_of p
  pub few : n ≤ most_arguments
  pub begins : begin ≡ at + size (head_fields p)
  pub ends : k ≡ at + size (place_fields p)

abbrev pub IsPlace : Bool → List ℕ → ℕ → Option OnePlace → Type 0
IsPlace named rec at (Some p) = PlaceIs named rec at p.number p.value p.next
IsPlace named rec at None = one_place named (drop at rec) ≡ none
