-- A unit that was read from the front of bytes is written to the same bytes again, and a well-formed unit is read back from its field.
use mathlib.Core.Path.{◌≡◌, refl, sym, ap, ◌∙◌, subst}
use mathlib.Core.Bool.{Bool, true, false, false≢true}
use mathlib.Core.List.{List, [], ◌∷◌, ◌++◌, append-nil}
use mathlib.Core.Option.{some}
use Prim.Native.Nat.{ℕ, zero, suc, ◌+◌, ◌/◌, ◌%◌}
use native.Mathlib.Omega.{arith}
use borrow.Author.Tests.{eqb-true, le-leb}
use lib.Dec.{leb, eqb}
use lib.ListN.{length, get_or, drop, drop_of_length-le}
use lib.Seq.{drop-cons}
use Rattle.laws.specs.Cases.{by_bool, by_option, some_inj, none≢some, and_l, and_r}
use Rattle.rules.specs.Refusals.{most_word}
use Rattle.rules.specs.Units.{Base, plain, keys, letter, base_of, Unit, num, keyed, identifier, symbolic, text, is_held_key, run_of, is_identifier, is_symbolic_name}
use Rattle.rules.specs.Records.{Field, field, is_unit, unit_field, field_bytes, bytes_of, num4, num_of, unit_of}
use Rattle.rules.specs.WellFormed.{wf_unit}
use Rattle.rules.proofs.UnitBack.{base_back}
use Rattle.rules.proofs.DecodeEncode.{four, value_small}
use Rattle.rules.proofs.FieldLaws.{four_bytes_lem}
use Rattle.record_walk.specs.Fields.{fits, word_length}
use Rattle.record_walk.specs.Fronts.{and_then, only, made, head_tag, fitting, front}
use Rattle.record_walk.proofs.FrontLaws.{then_some, only_some, made_some, Small, small_behind, small_front, cut_is, front_is, front_field, front_tag}
use Rattle.judge_unit.specs.Units.{unit_in, unit}

-- ---- bytes of numbers

-- the k members from position i on
abbrev pub listed : List ℕ → ℕ → ℕ → List ℕ
listed w i zero = []
listed w i (suc k) = get_or w i 0 ∷ listed w (suc i) k

pub listed_is : (k : ℕ) (w : List ℕ) (i : ℕ) → i + k ≡ length w → drop i w ≡ listed w i k
listed_is zero w i h = drop_of_length-le w {i = i} (omega arith)
listed_is (suc k) w i h = drop-cons w i 0 (omega arith) ∙ ap (λ (l : List ℕ). get_or w i 0 ∷ l) (listed_is k w (suc i) (omega arith))

-- ---- a unit's field

pub base_letter : (c : ℕ) (b : Base) → base_of c ≡ some b → letter b ≡ c
base_letter c b h =
    by_bool (eqb c 68) (λ y. rw (← some_inj (rw y at h)) (sym (eqb-true c 68 y)))
    (λ y1. by_bool (eqb c 72) (λ y. rw (← some_inj (rw (y1, y) at h)) (sym (eqb-true c 72 y)))
    (λ y2. by_bool (eqb c 79) (λ y. rw (← some_inj (rw (y1, y2, y) at h)) (sym (eqb-true c 79 y)))
    (λ y3. by_bool (eqb c 66) (λ y. rw (← some_inj (rw (y1, y2, y3, y) at h)) (sym (eqb-true c 66 y)))
    (λ y4. by_bool (eqb c 75) (λ y. rw (← some_inj (rw (y1, y2, y3, y4, y) at h)) (sym (eqb-true c 75 y))) (λ y. none≢some (rw (y1, y2, y3, y4, y) at h))))))

numeral_field_lem : (w : List ℕ) (u : Unit) → Small w → length w ≡ 6 → num_of (base_of (get_or w 0 0)) (get_or w 1 0) (num4 w 2) ≡ some u → unit_field u ≡ field 7 w
numeral_field_lem w u s h e = by_option (base_of (get_or w 0 0)) (λ q. none≢some (rw q at e)) (λ b q. go b q (rw q at e))
  where
    go : (b : Base) → base_of (get_or w 0 0) ≡ some b → num_of (some b) (get_or w 1 0) (num4 w 2) ≡ some u → unit_field u ≡ field 7 w
    go keys q g = none≢some g
    go (plain r) q g =
        rw (← some_inj g, base_letter (get_or w 0 0) (plain r) q, four_bytes_lem (get_or w 2 0) (get_or w 3 0) (get_or w 4 0) (get_or w 5 0) (s 3) (s 4) (s 5))
        (ap (λ (l : List ℕ). field 7 l) (sym (listed_is 6 w 0 (sym h))))

unit_field_lem : (t : ℕ) (w : List ℕ) (u : Unit) → Small w → unit_of t w ≡ some u → unit_field u ≡ field t w
unit_field_lem t w u s e =
    by_bool (eqb t 7)
    (λ y. by_bool (eqb (length w) 6)
    (λ z. rw (eqb-true t 7 y) (numeral_field_lem w u s (eqb-true (length w) 6 z) (rw (y, z) at e)))
    (λ z. none≢some (rw (y, z) at e)))
    (λ y1. by_bool (eqb t 8) (λ y. rw (← some_inj (rw (y1, y) at e), eqb-true t 8 y))
    (λ y2. by_bool (eqb t 9) (λ y. rw (← some_inj (rw (y1, y2, y) at e), eqb-true t 9 y))
    (λ y3. by_bool (eqb t 10) (λ y. rw (← some_inj (rw (y1, y2, y3, y) at e), eqb-true t 10 y))
    (λ y4. by_bool (eqb t 11) (λ y. rw (← some_inj (rw (y1, y2, y3, y4, y) at e), eqb-true t 11 y)) (λ y. none≢some (rw (y1, y2, y3, y4, y) at e))))))

field_unit_lem : (b : Base) (u : Unit) → wf_unit b u ≡ true → unit_in (unit_field u) ≡ some u
field_unit_lem b (num r f v) h = rw (base_back (plain r), four v (value_small b r f v h))
field_unit_lem b (keyed w) h = refl
field_unit_lem b (identifier w) h = refl
field_unit_lem b (symbolic w) h = refl
field_unit_lem b (text w) h = refl

-- ---- one unit

abbrev pub unit_fields : Unit → List Field
unit_fields u = unit_field u ∷ []

-- a unit that was read is its field's
unit_some : {C : Type 0} (b : Base) (r : List ℕ) (u : Unit) (r' : List ℕ) → unit b r ≡ some (u, r')
    → ((t : ℕ) (w r₁ : List ℕ) → front r ≡ some (field t w, r₁) → wf_unit b u ≡ true → unit_of t w ≡ some u → r₁ ≡ r' → C) → C
unfolding unit
unit_some {C} b r u r' e k =
    only_some (wf_unit b) (and_then (front r) (λ f r₁. made (unit_in f) r₁)) u r' e
    (λ h g. then_some (front r) (λ f r₁. made (unit_in f) r₁) (u, r') g (λ f r₁ c m. go h f r₁ c m))
  where
    go : wf_unit b u ≡ true → (f : Field) (r₁ : List ℕ) → front r ≡ some (f, r₁) → made (unit_in f) r₁ ≡ some (u, r') → C
    go h (field t w) r₁ c m = made_some (unit_of t w) r₁ u r' m (λ o q. k t w r₁ c h o q)

pub unit_is : (b : Base) (r : List ℕ) (u : Unit) (r' : List ℕ) → Small r → is_unit (head_tag r) ≡ true → unit b r ≡ some (u, r') → (wf_unit b u ≡ true) × (r ≡ bytes_of (unit_fields u) ++ r')
unit_is b r u r' s _ e =
    unit_some b r u r' e
    (λ t w r₁ c h o q. front_is r t w r₁ c
    (λ _ c'.
    let k : r ≡ field_bytes (field t w) ++ r₁ = cut_is r (field t w) r₁ s c' in
    let sw : Small w = small_front w r₁ (small_behind (t ∷ length w / 256 ∷ length w % 256 ∷ []) (w ++ r₁) (subst Small k s)) in
    (h, k ∙ rw (unit_field_lem t w u sw o, append-nil w, q))))

-- a well-formed unit's field is as long as its tag allows
some_word_lem : (f : List ℕ → Bool) → f [] ≡ false → (w : List ℕ) → f w ≡ true → leb (length w) most_word ≡ true → word_length (length w) ≡ true
some_word_lem f n [] k h = absurd (false≢true (sym n ∙ k))
some_word_lem f n (c ∷ cs) k h = rw (le-leb 1 (length (c ∷ cs)) (omega arith)) h

ruleset parts = (and_l, and_r)

unit_fits : (b : Base) (u : Unit) → wf_unit b u ≡ true → fitting (unit_field u) ≡ true
unfolding fits
unit_fits b (num r f v) h = refl
unit_fits b (keyed w) h = some_word_lem (run_of is_held_key) refl w (search parts) (search parts)
unit_fits b (identifier w) h = some_word_lem is_identifier refl w (search parts) (search parts)
unit_fits b (symbolic w) h = some_word_lem is_symbolic_name refl w (search parts) (search parts)
unit_fits b (text w) h = search parts

pub unit_back : (b : Base) (u : Unit) (rest : List ℕ) → wf_unit b u ≡ true → true ≡ true → unit b (bytes_of (unit_fields u) ++ rest) ≡ some (u, rest)
unfolding unit
unit_back b u rest h _ = rw append-nil (go (unit_field u) (field_unit_lem b u h) (unit_fits b u h))
  where
    go : (f : Field) → unit_in f ≡ some u → fitting f ≡ true → only (wf_unit b) (and_then (front (field_bytes f ++ rest)) (λ g r₁. made (unit_in g) r₁)) ≡ some (u, rest)
    go (field t w) q k = rw (front_field t w rest k, q, h)

pub unit_opens : (u : Unit) (rest : List ℕ) → is_unit (head_tag (bytes_of (unit_fields u) ++ rest)) ≡ true
unit_opens (num r f v) rest = refl
unit_opens (keyed w) rest = refl
unit_opens (identifier w) rest = refl
unit_opens (symbolic w) rest = refl
unit_opens (text w) rest = refl

-- ---- where a unit was read, a unit's tag stands

has_tag : (t : ℕ) (w : List ℕ) (u : Unit) → unit_of t w ≡ some u → is_unit t ≡ true
has_tag t w u e =
    by_bool (eqb t 7) (λ y. rw (eqb-true t 7 y))
    (λ y1. by_bool (eqb t 8) (λ y. rw (eqb-true t 8 y))
    (λ y2. by_bool (eqb t 9) (λ y. rw (eqb-true t 9 y))
    (λ y3. by_bool (eqb t 10) (λ y. rw (eqb-true t 10 y))
    (λ y4. by_bool (eqb t 11) (λ y. rw (eqb-true t 11 y)) (λ y. none≢some (rw (y1, y2, y3, y4, y) at e))))))

pub unit_tag : (b : Base) (r : List ℕ) (u : Unit) (r' : List ℕ) → unit b r ≡ some (u, r') → is_unit (head_tag r) ≡ true
unit_tag b r u r' e = unit_some b r u r' e (λ t w r₁ c _ o _. subst (λ (n : ℕ). is_unit n ≡ true) (front_tag r t w r₁ c) (has_tag t w u o))
