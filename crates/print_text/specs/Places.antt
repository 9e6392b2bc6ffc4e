-- Pieces and places as they stand in a record, and what is written for them.
use Rattle.std.specs.Prelude.{◌≡◌, Bool, true, cond, List, [], ◌∷◌, ◌++◌, map, ℕ, ◌+◌, ◌≤◌, ◌<◌, eqb, length, drop}
use Rattle.std.proofs.Math.Option.{Option, none, some}
use Rattle.laws.specs.Cases.{pick}
use Rattle.laws.specs.Lists.{all}
use Rattle.rules.specs.Characters.{byte}
use Rattle.rules.specs.Tokens.{Sep, dash, comma, colon}
use Rattle.rules.specs.Units.{Base, letter}
use Rattle.rules.specs.Commands.{Element, Place}
use Rattle.rules.specs.Records.{Field, field, block_tag, name_tag, element_fields, many, place_fields, bytes_of}
use Rattle.rules.specs.WellFormed.{short, wf_value, wf_place}
use Rattle.rules.specs.Printing.{sep_text, render, joined_lex, word_lex, name_lex, value_lex, place_lex}
use Rattle.record_walk.specs.Fronts.{tag_of}
use Rattle.print_unit.specs.Ways.{Way, Fits, Puts}
use Rattle.print_value.specs.declared.Put.{Put}

-- what a writer promises: it puts a text behind `from.end` of the buffer, and the record goes on at `next`
pub record Lays (way : Way) (text : List ℕ) (from : Put) (next : ℕ) (old : List ℕ) (r : Put) (new : List ℕ) : Type 0 where
  pub put : Puts way text from.end old r.end new
  pub behind : r.next ≡ next

-- ---- pieces of a code or name

abbrev pub piece_fields : ℕ → List (List ℕ) → List Field
piece_fields t ws = map (λ w. field t w) ws

-- joined by `-`
unfoldable pub pieces_text : List ℕ → List (List ℕ) → List ℕ
pieces_text w ws = render (joined_lex dash (map word_lex (w ∷ ws)))

-- at `at` the record has the pieces w and ws in fields of the tag t, and behind them no such field
pub record IsPieces (rec : List ℕ) (at t : ℕ) (w : List ℕ) (ws : List (List ℕ)) (rest : List ℕ) : Type 0 where
  pub is : drop at rec ≡ bytes_of (piece_fields t (w ∷ ws)) ++ rest
  pub good : all short (w ∷ ws) ≡ true
  pub ends : tag_of rest ≡ t → ⊥
  pub inside : at ≤ length rec

pub record PiecesFit (way : Way) (rec : List ℕ) (from : Put) (t : ℕ) (old : List ℕ) : Type 0 where
  pub w : List ℕ
  pub ws : List (List ℕ)
  pub rest : List ℕ
  pub has : IsPieces rec from.next t w ws rest
  pub fits : Fits way (pieces_text w ws) from.end old

abbrev pub PutPieces : Way → List ℕ → Put → ℕ → List ℕ → Put → List ℕ → Type 0
PutPieces way rec from t old r new =
    (w : List ℕ) (ws : List (List ℕ)) (rest : List ℕ) → IsPieces rec from.next t w ws rest
    → Lays way (pieces_text w ws) from (from.next + length (bytes_of (piece_fields t (w ∷ ws)))) old r new

-- ---- a place's name, and its value

-- at `at` the record has a name, or none
pub record IsName (rec : List ℕ) (at : ℕ) (nm : List (List ℕ)) (rest : List ℕ) : Type 0 where
  pub is : drop at rec ≡ bytes_of (piece_fields name_tag nm) ++ rest
  pub good : all short nm ≡ true
  pub ends : tag_of rest ≡ name_tag → ⊥
  pub inside : at ≤ length rec

pub record NameFits (way : Way) (rec : List ℕ) (from : Put) (old : List ℕ) : Type 0 where
  pub nm : List (List ℕ)
  pub rest : List ℕ
  pub has : IsName rec from.next nm rest
  pub fits : Fits way (render (name_lex nm)) from.end old

abbrev pub PutName : Way → List ℕ → Put → List ℕ → Put → List ℕ → Type 0
PutName way rec from old r new =
    (nm : List (List ℕ)) (rest : List ℕ) → IsName rec from.next nm rest
    → Lays way (render (name_lex nm)) from (from.next + length (bytes_of (piece_fields name_tag nm))) old r new

-- a value, or none: an omitted place
pub record IsContent (rec : List ℕ) (at base : ℕ) (b : Base) (v : List Element) (rest : List ℕ) : Type 0 where
  pub under : base ≡ letter b
  pub is : drop at rec ≡ bytes_of (many element_fields v) ++ rest
  pub good : wf_value b v ≡ true
  pub ends : tag_of rest < name_tag
  pub inside : at ≤ length rec

pub record ContentFits (way : Way) (rec : List ℕ) (from : Put) (base : ℕ) (old : List ℕ) : Type 0 where
  pub b : Base
  pub v : List Element
  pub rest : List ℕ
  pub has : IsContent rec from.next base b v rest
  pub fits : Fits way (render (value_lex b v)) from.end old

abbrev pub PutContent : Way → List ℕ → Put → ℕ → List ℕ → Put → List ℕ → Type 0
PutContent way rec from base old r new =
    (b : Base) (v : List Element) (rest : List ℕ) → IsContent rec from.next base b v rest
    → Lays way (render (value_lex b v)) from (from.next + length (bytes_of (many element_fields v))) old r new

-- ---- a place

-- the field of the block that begins with the place, named or not, if one does
abbrev pub opening : Option Bool → List Field
opening none = []
opening (some k) = field block_tag (cond k (byte "N") (byte "P") ∷ []) ∷ []

abbrev pub opener : Option Bool → Sep
opener none = comma
opener (some k) = colon

-- the bytes of a block's or a place's own field
abbrev pub letter_size : ℕ
letter_size = 4

-- the same by the tag of the field there: where the place's own field stands, and the separator
unfoldable pub own_field : ℕ → ℕ → ℕ
own_field t at = pick (eqb t block_tag) (at + letter_size) at

unfoldable pub separator_at : ℕ → ℕ
separator_at t = pick (eqb t block_tag) (byte ":") (byte ",")

-- with the separator before it
unfoldable pub place_text : Option Bool → Place → List ℕ
place_text o p = sep_text (opener o) ++ render (place_lex p)

-- at `at` the record has the place p, of a named block or not, and behind it neither a name nor a value
pub record IsPlace (rec : List ℕ) (at : ℕ) (o : Option Bool) (named : Bool) (p : Place) (rest : List ℕ) : Type 0 where
  pub is : drop at rec ≡ bytes_of (opening o ++ place_fields p) ++ rest
  pub good : wf_place named p ≡ true
  pub ends : tag_of rest < name_tag
  pub inside : at ≤ length rec

pub record PlaceFits (way : Way) (rec : List ℕ) (from : Put) (old : List ℕ) : Type 0 where
  pub o : Option Bool
  pub named : Bool
  pub p : Place
  pub rest : List ℕ
  pub has : IsPlace rec from.next o named p rest
  pub fits : Fits way (place_text o p) from.end old

abbrev pub PutPlace : Way → List ℕ → Put → List ℕ → Put → List ℕ → Type 0
PutPlace way rec from old r new =
    (o : Option Bool) (named : Bool) (p : Place) (rest : List ℕ) → IsPlace rec from.next o named p rest
    → Lays way (place_text o p) from (from.next + length (bytes_of (opening o ++ place_fields p))) old r new
