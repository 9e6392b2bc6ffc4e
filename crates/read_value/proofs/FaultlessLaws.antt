-- A value without fault: its elements are those of the table's joined units, since these are the units that the rules read, and each of these is read.
use Prim.Native.Nat.{ℕ, zero, suc, ◌+◌, ◌<◌}
use mathlib.Core.Path.{◌≡◌, ap, ◌∙◌}
use mathlib.Core.Bool.{Bool, true, false}
use mathlib.Core.List.{List, [], ◌∷◌}
use native.Mathlib.Omega.{arith}
use lib.Dec.{leb}
use lib.ListN.{length, get_or}
use Rattle.rules.proofs.ReadSteps.{value_read_lem}
use Rattle.laws.specs.Cases.{Always, by_bool}
use Rattle.rules.specs.Commands.{Element}
use Rattle.rules.specs.Groups.{Join, join, alternate, unit_after, joiner, read_units, read_value, elements, groups_of, collect}
use Rattle.rules.specs.Refusals.{ok, map_r}
use Rattle.rules.specs.Tokens.{Lex, Sep, amp}
use Rattle.rules.specs.Units.{Base, letter, Unit, read_unit}
use Rattle.rules.proofs.ResultLaws.{ok≢bad, map_ok, bind_ok}
use Rattle.token_table.specs.Table.{kind_in, place_in, content_in, lex_of_kind, sep_of, tokens_in, word_kind}
use Rattle.token_table.proofs.AltLaws.{unit_kind, joiner_yes, joiner_none, wanted}
use Rattle.read_joins.specs.Joins.{unit_in, joins_in, no_token, count}
use Rattle.token_table.specs.declared.Token.{Token as Entry}
use Rattle.read_value.proofs.PassLaws.{unit_read, joins_are, joins_all}

-- ---- each unit is read

abbrev pub UnitRead : Base → List ℕ → Entry → Type 0
UnitRead b cs t = read_unit b (place_in t) (lex_of_kind (kind_in t) (content_in cs t)) ≡ ok (unit_in (letter b) cs t)

-- every second token, from this one on or from the next one
abbrev UnitsRead : Base → List ℕ → Bool → List Entry → Type 0
UnitsRead b cs true [] = Always
UnitsRead b cs false [] = Always
UnitsRead b cs true (t ∷ ts) = UnitRead b cs t × UnitsRead b cs false ts
UnitsRead b cs false (t ∷ ts) = UnitsRead b cs true ts

units_read_lem : (b : Base) (cs : List ℕ) (ts : List Entry) (u : Bool) (s : Sep) (q e : ℕ) (js : List (Join Lex)) (is : List (Join Unit))
    → alternate (wanted u s q) (tokens_in cs ts) e ≡ ok js
    → read_units b js ≡ ok is → UnitsRead b cs u ts
units_read_lem b cs [] true s q e js is h g = tt
units_read_lem b cs [] false s q e js is h g = tt
units_read_lem b cs (t ∷ ts) true s q e js is h g =
    let k = kind_in t in let w = content_in cs t in
    by_bool (leb word_kind k)
    (λ y. map_ok (λ js. join s q (place_in t) (lex_of_kind k w) ∷ js) (alternate joiner (tokens_in cs ts) e) js (rw (unit_kind k w ∙ y, alternate) at h)
    (λ js' h' z. bind_ok (read_unit b (place_in t) (lex_of_kind k w)) (λ i. map_r (λ is. join s q (place_in t) i ∷ is) (read_units b js')) is (rw (← z) at g)
    (λ i hi hr. map_ok (λ is. join s q (place_in t) i ∷ is) (read_units b js') is hr
    (λ is' hr' z'. (hi ∙ ap ok (unit_read b cs t y i hi), units_read_lem b cs ts false s q e js' is' h' hr')))))
    (λ y. ok≢bad (rw (unit_kind k w ∙ y, alternate) at h))
units_read_lem b cs (t ∷ ts) false s q e js is h g =
    let k = kind_in t in let w = content_in cs t in
    by_bool (leb k 5)
    (λ y. units_read_lem b cs ts true (sep_of k) (place_in t) e js is (rw (joiner_yes k w y, alternate) at h) g)
    (λ y. ok≢bad (rw (joiner_none k w y, alternate) at h))

unit_at_lem : (b : Base) (cs : List ℕ) (ts : List Entry) (n : ℕ) → UnitsRead b cs true ts → n < count ts → UnitRead b cs (get_or ts (n + n) no_token)
unit_at_lem b cs [] n u h = absurd (omega arith)
unit_at_lem b cs (t ∷ ts) zero u h = u.0
unit_at_lem b cs (t ∷ []) (suc n) u h = absurd (omega arith)
unit_at_lem b cs (t ∷ s ∷ ts) (suc n) u h =
    let q : suc n + suc n ≡ suc (suc (n + n)) = omega arith in
    rw q (unit_at_lem b cs ts n u.1 (omega arith))

-- ---- the value

-- what a reader knows of a value without fault
pub record Sound (b : Base) (ts : List Entry) (cs : List ℕ) (es : List Element) : Type 0 where
  pub some : 0 < length ts
  pub groups : elements (groups_of (collect (joins_in (letter b) cs ts))) ≡ ok es
  pub units : (n : ℕ) → n < count ts → UnitRead b cs (get_or ts (n + n) no_token)

some_token : (cs : List ℕ) (ts : List Entry) (e : ℕ) (js : List (Join Lex)) → alternate (unit_after amp 0) (tokens_in cs ts) e ≡ ok js → 0 < length ts
some_token cs [] e js h = ok≢bad h
some_token cs (t ∷ ts) e js h = omega arith

pub sound : (b : Base) (ts : List Entry) (cs : List ℕ) (e : ℕ) (es : List Element) → read_value b (tokens_in cs ts) e ≡ ok es → Sound b ts cs es
sound b ts cs e es h =
    let r = value_read_lem b (tokens_in cs ts) e es h in
    let z : r.is ≡ joins_in (letter b) cs ts = joins_are b cs ts true amp 0 e r.js r.is r.turns r.units ∙ joins_all (letter b) cs ts in
    record {
      some = some_token cs ts e r.js r.turns;
      groups = rw (← z) r.grouped;
      units = λ n l. unit_at_lem b cs ts n (units_read_lem b cs ts true amp 0 e r.js r.is r.turns r.units) l;
    }
