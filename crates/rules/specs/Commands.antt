-- Document 01, "Command, block, place": the command as a tree, its numbers of arguments, and tokens cut at separators (8, 10).
use Rattle.std.specs.Prelude.{ℕ, zero, suc, ◌+◌, ◌*◌, ◌-◌, ◌/◌, Bool, true, false, cond, ◌&&◌, ◌||◌, List, [], ◌∷◌, ◌++◌, map, eqb}
use Rattle.std.proofs.Math.Option.{Option, none, some}
use Rattle.laws.specs.Lists.{eq_l, concat}
use Rattle.rules.specs.Refusals.{Res, ok, bad, map_r}
use Rattle.rules.specs.Characters.{is_digit}
use Rattle.rules.specs.Tokens.{Sep, dash, sep_code, Lex, word, str, sep, Token, pos_of, lex_of}
use Rattle.rules.specs.Units.{Radix, Base, Unit, num, run_of, is_identifier}

-- ---- the tree

-- "An element is one argument or a range.": leading units and last unit; for a range leading units, base, lower, upper, increment
pub data Element : Type 0 where
  single : List Unit → Unit → Element
  range : List Unit → Radix → ℕ → ℕ → ℕ → Element

-- its default base, the pieces of its name (none: not named), the elements of its value (none: an omitted place)
pub data Place : Type 0 where
  place : Base → List (List ℕ) → List Element → Place

-- whether it is named, its places
pub data Block : Type 0 where
  block : Bool → List Place → Block

-- "Code: 1 to 3 identifiers joined by `-`. Then each `:` starts a block": the pieces of the code, the blocks
pub data Command : Type 0 where
  command : List (List ℕ) → List Block → Command

abbrev pub leading : Element → List Unit
leading (single l u) = l
leading (range l r lo up inc) = l

-- "a range's last unit being its lower end"
abbrev pub last_unit : Element → Unit
last_unit (single l u) = u
last_unit (range l r lo up inc) = num r 0 lo

abbrev pub place_base : Place → Base
place_base (place b nm v) = b

-- the elements of its value: none where it is omitted
abbrev pub place_value : Place → List Element
place_value (place b nm v) = v

-- the pieces of a name
abbrev pub Name : Type 0
Name = List (List ℕ)

abbrev pub place_name : Place → Name
place_name (place b nm v) = nm

-- M-102: "all pieces equal byte for byte"
abbrev pub same_name : Name → Name → Bool
same_name [] [] = true
same_name [] (y ∷ ys) = false
same_name (x ∷ xs) [] = false
same_name (x ∷ xs) (y ∷ ys) = eq_l x y && same_name xs ys

abbrev pub places_of : Block → List Place
places_of (block k ps) = ps

-- "counted through all blocks, omitted places included"
abbrev pub all_places : List Block → List Place
all_places [] = []
all_places (b ∷ bs) = places_of b ++ all_places bs

-- ---- units

-- "An element is followed by its units, leading ones repeated in full": a range's last unit is its lower end
abbrev pub element_units : Element → List Unit
element_units e = leading e ++ (last_unit e ∷ [])

abbrev pub place_units : Place → List Unit
place_units (place b nm v) = concat (map element_units v)

-- the units of a command, place by place
abbrev pub command_units : Command → List Unit
command_units (command c bs) = concat (map place_units (all_places bs))

-- ---- numbers of arguments

-- an element's number of terms: lower, lower + increment and so on, none above upper
abbrev pub terms : Element → ℕ
terms (single l u) = 1
terms (range l r lo up inc) = (up - lo) / inc + 1

abbrev pub sum : List ℕ → ℕ
sum [] = 0
sum (n ∷ ns) = n + sum ns

abbrev pub mult : List ℕ → ℕ
mult [] = 1
mult (n ∷ ns) = n * mult ns

-- "An omitted place counts one."
abbrev pub value_count : List Element → ℕ
value_count [] = 1
value_count (e ∷ es) = sum (map terms (e ∷ es))

abbrev pub place_count : Place → ℕ
place_count (place b nm v) = value_count v

-- ---- tokens cut at separators

abbrev pub is_sep : Sep → Lex → Bool
is_sep s (word w) = false
is_sep s (str w) = false
is_sep s (sep t) = eqb (sep_code s) (sep_code t)

-- "\"The place\" is its first token, or the separator ending it if empty"; "a missing token is likewise shown by that separator"
abbrev pub first : List Token → ℕ → ℕ
first [] e = e
first (t ∷ ts) e = pos_of t

-- the tokens between two separators, and the place of the separator that ends them
pub data Seg : Type 0 where
  seg : List Token → ℕ → Seg

abbrev pub cons_head : Token → List Seg → List Seg
cons_head t [] = []
cons_head t (seg us e ∷ r) = seg (t ∷ us) e ∷ r

-- "each `:` starts a block"; "Places in a block are parted by `,`": cut at each such separator, what ends the last standing at e
abbrev pub split : Sep → ℕ → List Token → List Seg
split s e [] = seg [] e ∷ []
split s e (t ∷ ts) = elim (is_sep s (lex_of t)) [ true ↦ seg [] (pos_of t) ∷ split s e ts | false ↦ cons_head t (split s e ts) ]

-- cut at the first such separator: what is before, its place, what is after
pub data Cut : Type 0 where
  cut : List Token → ℕ → List Token → Cut
  uncut : Cut

abbrev pub cons_cut : Token → Cut → Cut
cons_cut t (cut a p b) = cut (t ∷ a) p b
cons_cut t uncut = uncut

abbrev pub cut_at : Sep → List Token → Cut
cut_at s [] = uncut
cut_at s (t ∷ ts) = elim (is_sep s (lex_of t)) [ true ↦ cut [] (pos_of t) ts | false ↦ cons_cut t (cut_at s ts) ]

abbrev pub is_cut : Cut → Bool
is_cut (cut a p b) = true
is_cut uncut = false

-- ---- pieces joined by `-`: the code and a name

abbrev pub piece : (List ℕ → Bool) → Lex → Option (List ℕ)
piece f (word w) = cond (f w) (some w) none
piece f (str w) = none
piece f (sep s) = none

-- refused with nr at the "first token that doesn't fit", or at e for a missing one: a piece that passes f, then at most `left` that pass g,
-- each behind a `-`; the Bool says that a piece is due
abbrev pub pieces : ℕ → (List ℕ → Bool) → (List ℕ → Bool) → ℕ → Bool → List Token → ℕ → Res (List (List ℕ))
pieces nr f g left true [] e = bad nr e
pieces nr f g left false [] e = ok []
pieces nr f g left true (t ∷ ts) e =
    elim (piece f (lex_of t)) [ none ↦ bad nr (pos_of t) | some w ↦ map_r (λ ws. w ∷ ws) (pieces nr g g left false ts e) ]
pieces nr f g zero false (t ∷ ts) e = bad nr (pos_of t)
pieces nr f g (suc left) false (t ∷ ts) e = elim (is_sep dash (lex_of t)) [ true ↦ pieces nr g g left true ts e | false ↦ bad nr (pos_of t) ]

-- "index numbers (all digits)"
abbrev pub is_index_number : List ℕ → Bool
is_index_number w = run_of is_digit w

-- "an identifier, then identifiers or index numbers"
abbrev pub is_piece : List ℕ → Bool
is_piece w = is_identifier w || is_index_number w
