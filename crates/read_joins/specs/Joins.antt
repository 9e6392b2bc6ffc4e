-- A value's joined units as they stand in its part of the token table, and what the rules make of them, by the index of a unit.
use Rattle.std.specs.Prelude.{ℕ, zero, suc, ◌+◌, ◌-◌, ◌/◌, ◌%◌, Bool, cond, ◌||◌, List, [], ◌∷◌, leb, ltb, eqb, length, get_or, drop}
use Rattle.rules.specs.Groups.{Join, join, Group, Collected, collected, collect, groups_of}
use Rattle.rules.specs.Refusals.{Res, ok, bad, unreadable}
use Rattle.rules.specs.Tokens.{Lex, word, str, sep, Sep, amp, amp_, dash, sep_code}
use Rattle.rules.specs.Units.{Unit, text}
use Rattle.units.specs.Words.{unit_under, read_as}
use Rattle.token_table.specs.declared.Kind.TheVariants.{AmpAmpDash, Amp}
use Rattle.token_table.specs.declared.Token.{Token as Entry}
use Rattle.token_table.specs.Table.{kind_in, place_in, content_in, lex_of_kind, sep_of}

-- a unit under a letter: for the letter of a base, the rules' `read_unit`
abbrev pub read_in : ℕ → ℕ → Lex → Res Unit
read_in b p (word w) = read_as p w (unit_under b w)
read_in b p (str w) = ok (text w)
read_in b p (sep s) = bad unreadable p

-- a unit as it is read; a value with one that cannot be is refused before
abbrev pub or_text : Res Unit → Unit
or_text (ok i) = i
or_text (bad n p) = text []

-- the unit of a token
unfoldable pub unit_in : ℕ → List ℕ → Entry → Unit
unit_in b cs t = or_text (read_in b 0 (lex_of_kind (kind_in t) (content_in cs t)))

-- the kind of a joining separator; a value with another one is refused before
abbrev pub join_kind : ℕ → ℕ
join_kind k = cond (leb k (sep_code dash)) k (sep_code amp)

abbrev pub join_sep : Entry → Sep
join_sep t = sep_of (join_kind (kind_in t))

-- two tokens each: a separator and the unit behind it
abbrev pub joined : ℕ → List ℕ → List Entry → List (Join Unit)
joined b cs [] = []
joined b cs (u ∷ []) = []
joined b cs (u ∷ t ∷ ts) = join (join_sep u) (place_in u) (place_in t) (unit_in b cs t) ∷ joined b cs ts

-- the first unit of a value counts as one behind an `&` at place 0
abbrev pub first_amp : Entry
first_amp = record { kind = Amp; place = 0; start = 0; len = 0 }

unfoldable pub joins_in : ℕ → List ℕ → List Entry → List (Join Unit)
joins_in b cs ts = joined b cs (first_amp ∷ ts)

-- ---- by their index; past the end stands an `&`

abbrev pub no_join : Join Unit
no_join = join amp 0 0 (text [])

abbrev pub sep_of_j : Join Unit → Sep
sep_of_j (join s q p i) = s

abbrev pub sep_place_of_j : Join Unit → ℕ
sep_place_of_j (join s q p i) = q

abbrev pub place_of_j : Join Unit → ℕ
place_of_j (join s q p i) = p

abbrev pub unit_of_j : Join Unit → Unit
unit_of_j (join s q p i) = i

-- separator, its kind, its place, and place and unit of the n-th
unfoldable pub sep_at : List (Join Unit) → ℕ → Sep
sep_at js n = sep_of_j (get_or js n no_join)

abbrev pub kind_at : List (Join Unit) → ℕ → ℕ
kind_at js n = sep_code (sep_at js n)

unfoldable pub sep_place_at : List (Join Unit) → ℕ → ℕ
sep_place_at js n = sep_place_of_j (get_or js n no_join)

unfoldable pub place_at : List (Join Unit) → ℕ → ℕ
place_at js n = place_of_j (get_or js n no_join)

unfoldable pub unit_at : List (Join Unit) → ℕ → Unit
unit_at js n = unit_of_j (get_or js n no_join)

-- the units from the n-th on, so many
abbrev pub units_from : List (Join Unit) → ℕ → ℕ → List Unit
units_from js n zero = []
units_from js n (suc d) = unit_at js n ∷ units_from js (n + 1) d

-- ---- what the rules collect from the n-th unit on

-- what still belongs to the element before
abbrev pub pre_of : Collected → List (Join Unit)
pre_of (collected pre gs) = pre

unfoldable pub inner_at : List (Join Unit) → ℕ → List (Join Unit)
inner_at js n = pre_of (collect (drop n js))

-- the elements that begin from there on
unfoldable pub groups_at : List (Join Unit) → ℕ → List Group
groups_at js n = groups_of (collect (drop n js))

-- how many units joined by `-` come first
abbrev pub dashes : List (Join Unit) → ℕ
dashes [] = 0
dashes (join s q p i ∷ js) = let more = suc (dashes js) in cond (eqb (sep_code s) (sep_code dash)) more 0

unfoldable pub dashes_at : List (Join Unit) → ℕ → ℕ
dashes_at js n = dashes (drop n js)

-- where the next element begins
unfoldable pub next_at : List (Join Unit) → ℕ → ℕ
next_at js n = n + length (inner_at js n)

-- ---- the same read from the table alone

-- what is read of a table past its end
abbrev pub no_token : Entry
no_token = record { kind = AmpAmpDash; place = 0; start = 0; len = 0 }

-- how many units a value's tokens have
abbrev pub count : List Entry → ℕ
count ts = length ts / 2 + length ts % 2

-- kind and place of the separator before the n-th unit, and the place of the n-th unit
unfoldable pub sep_kind : List Entry → ℕ → ℕ
sep_kind ts n = cond (eqb n 0) (sep_code amp) (cond (ltb n (count ts)) (join_kind (kind_in (get_or ts (n + n - 1) no_token))) (sep_code amp))

unfoldable pub sep_place : List Entry → ℕ → ℕ
sep_place ts n = cond (eqb n 0) 0 (cond (ltb n (count ts)) (place_in (get_or ts (n + n - 1) no_token)) 0)

unfoldable pub unit_place : List Entry → ℕ → ℕ
unit_place ts n = cond (ltb n (count ts)) (place_in (get_or ts (n + n) no_token)) 0

-- a separator that begins an element: `&` or `&-`
abbrev pub begins_kind : ℕ → Bool
begins_kind k = eqb k (sep_code amp) || eqb k (sep_code amp_)
