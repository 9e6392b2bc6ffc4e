-- The bytes as they are measured and written are those of the rules' fields, since every unit of a value without fault is read; and they are few.
use Prim.Native.Nat.{ℕ, zero, suc, ◌+◌, ◌-◌, ◌/◌, ◌≤◌, ◌<◌}
use mathlib.Core.Path.{◌≡◌, refl, sym, ◌∙◌, ap, ap₂}
use mathlib.Core.Bool.{true, false≢true}
use mathlib.Core.List.{List, [], ◌∷◌, ◌++◌, map, append_assoc, append-nil}
use mathlib.Core.Option.{Option, none, some}
use native.Mathlib.Nat.{add-zero}
use native.Mathlib.Omega.{arith}
use borrow.Author.Tests.{ne_eqb}
use lib.Dec.{leb, ltb, eqb}
use lib.ListN.{length, get_or, drop}
use Rattle.laws.specs.Cases.{by_bool, pick_all, pick_if}
use Rattle.laws.specs.Over.{over}
use Rattle.rules.specs.Characters.{capital}
use Rattle.rules.specs.Commands.{Element, single, range, leading, last_unit}
use Rattle.rules.specs.Groups.{Join}
use Rattle.rules.specs.Records.{field, four_bytes, unit_field, field_bytes, bytes_of, element_fields}
use Rattle.rules.specs.Refusals.{ok}
use Rattle.rules.specs.Units.{Base, letter, base_at, Unit, num, keyed, identifier, symbolic, text, numeral, is_identifier, is_symbolic_name}
use Rattle.rules.proofs.ResultLaws.{ok_inj, ok≢bad}
use Rattle.std.proofs.Common.{Ok, Err}
use Rattle.units.specs.Words.{Answer, may_stand, sized, of_numeral, name_unit, or_name, prefix_unit, unit_under}
use Rattle.units.specs.declared.Word.TheVariants.{Numeral, Keyed, Identifier, Symbolic}
use Rattle.units.specs.declared.Fault.TheVariants.{Unreadable, TooBig}
use Rattle.token_table.specs.declared.Token.{Token as Entry}
use Rattle.token_table.specs.declared.Kind.{Kind}
use Rattle.token_table.proofs.KindLaws.{other_kind}
use Rattle.fields.specs.Units.{unit_bytes, Skips}
use Rattle.fields.proofs.UnitLaws.{unit_bytes_lem, numeral_len, keyed_size}
use Rattle.token_table.specs.Table.{number, kind_in, place_in, content_in, lex_of_kind, word_kind}
use Rattle.read_joins.specs.Joins.{unit_in, no_token, joins_in, unit_at, units_from, count}
use Rattle.read_joins.specs.Answers.{element_answer}
use Rattle.read_joins.specs.declared.Shape.{Shape}
use Rattle.read_joins.specs.declared.Shape.TheVariants.{Single, Range}
use Rattle.read_joins.proofs.JoinLaws.{unit_in_lem}
use Rattle.read_value.proofs.FaultlessLaws.{UnitRead, Sound}
use Rattle.value_fields.specs.Measure.{field_in, bytes_at, bytes_from, head_bytes, element_bytes}

-- ---- a unit

field_is : (b : Base) (cs : List ℕ) (t : Entry) → UnitRead b cs t → field_in (letter b) cs t ≡ field_bytes (unit_field (unit_in (letter b) cs t))
unfolding field_in lex_of_kind
field_is b cs t h =
    by_bool (ltb (kind_in t) 10)
    (λ y. ok≢bad (rw y at h))
    (λ y. by_bool (eqb (kind_in t) 10)
    (λ z. rw z (unit_bytes_lem b (place_in t) (content_in cs t) (unit_in (letter b) cs t) (rw (y, z) at h)))
    (λ z. rw z (ap (λ i. field_bytes (unit_field i)) (ok_inj (rw (y, z) at h)))))

-- what a keyed numeral leaves out is there, under any letter
sized_skips : (w : List ℕ) (l f v : ℕ) → Skips w (sized l f v)
unfolding sized
sized_skips w l f v = pick_all (Skips w) (leb v 4294967295) (pick_all (Skips w) (leb f 9) tt tt) tt

numeral_skips : (w : List ℕ) (l k : ℕ) (o : Option Unit) → k ≤ length w → Skips w (of_numeral l k o)
unfolding of_numeral
numeral_skips w l k none h = tt
numeral_skips w l k (some (num r f v)) h = sized_skips w l f v
numeral_skips w l k (some (keyed x)) h = h
numeral_skips w l k (some (identifier x)) h = tt
numeral_skips w l k (some (symbolic x)) h = tt
numeral_skips w l k (some (text x)) h = tt

name_skips : (w : List ℕ) (u : Answer) → Skips w u → Skips w (or_name w u)
unfolding or_name name_unit
name_skips w (Ok (Numeral l f v)) h = tt
name_skips w (Ok (Keyed k)) h = h
name_skips w (Ok Identifier) h = tt
name_skips w (Ok Symbolic) h = tt
name_skips w (Err Unreadable) h = pick_all (Skips w) (is_identifier w) tt (pick_all (Skips w) (is_symbolic_name w) tt tt)
name_skips w (Err TooBig) h = tt

-- a word with a mark behind its first character has two
marked : (w : List ℕ) → eqb (get_or w 1 0) 39 ≡ true → 2 ≤ length w
marked [] h = absurd (false≢true h)
marked (c ∷ []) h = absurd (false≢true h)
marked (c ∷ m ∷ w) h = omega arith

skips : (l : ℕ) (w : List ℕ) → Skips w (unit_under l w)
unfolding unit_under prefix_unit
skips l w =
    pick_if (Skips w) (eqb (get_or w 1 0) 39)
    (λ y. let p : ℕ = capital (get_or w 0 0) in pick_all (Skips w) (may_stand l p) (numeral_skips w p 2 (numeral (base_at p) (drop 2 w)) (marked w y)) tt)
    (λ y. name_skips w (of_numeral l 0 (numeral (base_at l) w)) (numeral_skips w l 0 (numeral (base_at l) w) (omega arith)))

pub skipped : (l : ℕ) (w : List ℕ) {u : Answer} → u ≡ unit_under l w → Skips w u
skipped l w e = rw e (skips l w)

word_small : (w : List ℕ) (u : Answer) → length w < 65536 → length (unit_bytes w u) ≤ 65538
unfolding unit_bytes
word_small w (Ok (Numeral l f v)) h = omega (arith, numeral_len w refl l f v refl)
word_small w (Ok (Keyed k)) h = omega (arith, keyed_size w refl k refl)
word_small w (Ok Identifier) h = omega arith
word_small w (Ok Symbolic) h = omega arith
word_small w (Err f) h = omega arith

pub word_bound : (w : List ℕ) (u : Answer) {r : ℕ} → r ≡ length (unit_bytes w u) → length w < 65536 → r ≤ 65538
word_bound w u e h = omega (arith, word_small w u h)

-- the ways through `unit_len` and `put_unit`: a token's content is the unit's
module _ (l : ℕ) (cs : List ℕ) (ts : List Entry) (n : ℕ) {w : List ℕ} (o : w ≡ content_in cs (get_or ts (n + n) no_token)) where
  module _ {u : Answer} (g : Entry.kind (get_or ts (n + n) no_token) ≡ Kind.Word) (v : u ≡ unit_under l w) where
    word_is : bytes_at l cs ts n ≡ unit_bytes w u
    unfolding bytes_at field_in
    word_is = let k : kind_in (get_or ts (n + n) no_token) ≡ 10 = ap number g in rw (k, v, o)

    pub word_len : {r : ℕ} → r ≡ length (unit_bytes w u) → r ≡ length (bytes_at l cs ts n)
    word_len q = rw word_is q

    pub word_room : (m : ℕ) → length (bytes_at l cs ts n) ≤ m → length (unit_bytes w u) ≤ m
    word_room m h = rw word_is at h

    pub word_over : (old : List ℕ) {new : List ℕ} → new ≡ over (unit_bytes w u) old → new ≡ over (bytes_at l cs ts n) old
    word_over old q = rw word_is q

  module _ (g : Entry.kind (get_or ts (n + n) no_token) ≡ Kind.Word → ⊥) where
    string_is : bytes_at l cs ts n ≡ field_bytes (field 11 w)
    unfolding bytes_at field_in
    string_is = rw (ne_eqb (kind_in (get_or ts (n + n) no_token)) word_kind (other_kind g), o)

    pub string_len : {r : ℕ} → r ≡ 3 + length w → r ≡ length (bytes_at l cs ts n)
    string_len q = rw string_is (omega arith)

    pub string_room : (m : ℕ) → length (bytes_at l cs ts n) ≤ m → 3 + length w ≤ m
    string_room m h = omega (arith, string_len refl)

    pub string_over : (old : List ℕ) {new : List ℕ} → new ≡ over (field_bytes (field 11 w)) old → new ≡ over (bytes_at l cs ts n) old
    string_over old q = rw string_is q

-- ---- an element

-- units, and one more behind them
bytes_snoc : (xs : List Unit) (i : Unit) → bytes_of (map unit_field (xs ++ (i ∷ []))) ≡ bytes_of (map unit_field xs) ++ field_bytes (unit_field i)
bytes_snoc [] i = append-nil (field_bytes (unit_field i))
bytes_snoc (x ∷ xs) i = rw (bytes_snoc xs i) (sym (append_assoc (field_bytes (unit_field x)) (bytes_of (map unit_field xs)) (field_bytes (unit_field i))))

units_snoc : (d : ℕ) (js : List (Join Unit)) (n : ℕ) → units_from js n (suc d) ≡ units_from js n d ++ (unit_at js (n + d) ∷ [])
units_snoc zero js n = rw (add-zero n)
units_snoc (suc d) js n =
    let q : n + suc d ≡ n + 1 + d = omega arith in
    rw q (ap (λ r. unit_at js n ∷ r) (units_snoc d js (n + 1)))

element_fields_lem : (n : ℕ) (e : Element) {x : Shape} → Ok x ≡ element_answer n (ok e)
    → bytes_of (element_fields e) ≡ head_bytes x ++ bytes_of (map unit_field (leading e)) ++ field_bytes (unit_field (last_unit e))
element_fields_lem n (single l u) {x} h = let q : x ≡ Single n = cc in rw q (ap (λ y. field_bytes (field 5 []) ++ y) (bytes_snoc l u))
element_fields_lem n (range l r lo up inc) {x} h =
    let q : x ≡ Range up inc ((up - lo) / inc) n = cc in
    rw q (ap (λ y. field_bytes (field 6 (four_bytes up ++ four_bytes inc)) ++ y) (bytes_snoc l (num r 0 lo)))

module _ (b : Base) (l : ℕ) (own : l ≡ letter b) (ts : List Entry) (cs : List ℕ) (es : List Element) (s : Sound b ts cs es) where
  unit_is : (n : ℕ) → n < count ts → bytes_at l cs ts n ≡ field_bytes (unit_field (unit_at (joins_in l cs ts) n))
  unfolding bytes_at
  unit_is n h =
      rw own (field_is b cs (get_or ts (n + n) no_token) (s.units n h) ∙ sym (ap (λ i. field_bytes (unit_field i)) (unit_in_lem (letter b) cs ts n h)))

  units_are : (d n : ℕ) → n + d ≤ count ts → bytes_from l cs ts n d ≡ bytes_of (map unit_field (units_from (joins_in l cs ts) n d))
  unfolding bytes_from
  units_are zero n h = refl
  units_are (suc d) n h =
      let js = joins_in l cs ts in
      ap₂ (λ x y. x ++ y) (units_are d n (omega arith)) (unit_is (n + d) (omega arith))
      ∙ sym (ap (λ x. bytes_of (map unit_field x)) (units_snoc d js n) ∙ bytes_snoc (units_from js n d) (unit_at js (n + d)))

  pub element_is : (x : Shape) (e : Element) (nx f k m : ℕ) → Ok x ≡ element_answer nx (ok e) → leading e ≡ units_from (joins_in l cs ts) f k
      → last_unit e ≡ unit_at (joins_in l cs ts) m → f + k ≤ count ts → m < count ts → element_bytes l cs ts x f k m ≡ bytes_of (element_fields e)
  unfolding element_bytes
  element_is x e nx f k m q hl hu h g =
      rw (units_are k f h, unit_is m g, ← hl, ← hu) (sym (element_fields_lem nx e q))
