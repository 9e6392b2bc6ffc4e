-- A place from the front: its base is its field's letter, its name and its value stand behind, and what was read of them says where each begins and ends.
use mathlib.Core.Path.{◌≡◌, refl, sym, ap, ◌∙◌, subst}
use mathlib.Core.Bool.{Bool, true, false, ◌&&◌, not, false≢true}
use mathlib.Core.List.{List, [], ◌∷◌, ◌++◌, map}
use mathlib.Core.Option.{none, some}
use Prim.Native.Nat.{ℕ, suc, ◌+◌, ◌-◌, ◌≤◌, ◌<◌}
use native.Mathlib.Omega.{arith}
use borrow.Author.Tests.{eqb-true, ne_eqb}
use lib.Dec.{eqb}
use lib.ListN.{length, get_or, drop, length-append, length-drop}
use Rattle.laws.specs.Cases.{pick, by_bool, some_inj}
use Rattle.laws.specs.Lists.{is_nil}
use Rattle.rules.specs.Characters.{byte}
use Rattle.rules.specs.Units.{Base, base_of, base_at}
use Rattle.rules.specs.Commands.{Name, Element, place, terms, sum}
use Rattle.rules.specs.Records.{place_tag, name_tag, field, bytes_of, many, element_fields, one_byte}
use Rattle.rules.proofs.Counts.{terms_pos}
use Rattle.std.specs.Prelude.{Option as Maybe, Some, None}
use Rattle.std.specs.Bool.{then_some}
use Rattle.record_walk.specs.Tags.{number}
use Rattle.record_walk.specs.declared.Field.{Field}
use Rattle.record_walk.specs.Fields.{fits, field_at}
use Rattle.record_walk.specs.Fronts.{head_tag}
use Rattle.record_walk.specs.Runs.{bytes_in}
use Rattle.record_walk.specs.Spans.{size}
use Rattle.record_walk.proofs.FrontLaws.{Small, small_drop}
use Rattle.record_walk.proofs.RunLaws.{size_append}
use Rattle.record_walk.proofs.WalkLaws.{Lettered, lettered, nothing_there, tag_inside}
use Rattle.judge_value.specs.Judging.{ValueIs, IsValue}
use Rattle.judge_value.proofs.ValueBytes.{value_is}
use Rattle.judge_place.specs.Places.{is_base, behind_name, kind_agrees, agrees, parts, one_place}
use Rattle.judge_place.specs.Judging.{PiecesAre, IsPieces, NameIs, IsName, PartsAre, IsParts, PlaceIs, IsPlace}
use Rattle.judge_place.specs.declared.Pieces.{Pieces}
use Rattle.judge_place.specs.declared.OnePlace.{OnePlace}
use Rattle.judge_place.proofs.PlaceBytes.{behind_is}

-- ---- numbers of pieces and arguments

none_nil : {A : Type 0} (xs : List A) → eqb (length xs) 0 ≡ is_nil xs
none_nil [] = refl
none_nil (x ∷ xs) = ne_eqb (suc (length xs)) 0 (omega arith)

sum_nil : (v : List Element) → eqb (sum (map terms v)) 0 ≡ is_nil v
sum_nil [] = refl
sum_nil (e ∷ es) = ne_eqb (sum (map terms (e ∷ es))) 0 (λ h. omega (arith, terms_pos e))

agree_is : (named : Bool) (b : Base) (r : List ℕ) (nm : Name) (r' : List ℕ) (v : List Element) → behind_name named r ≡ some (nm, r')
    → kind_agrees named (length nm) (sum (map terms v)) ≡ agrees named (place b nm v)
unfolding kind_agrees
agree_is true b r nm r' v q = rw (none_nil nm, sum_nil v) (go (is_nil nm))
  where
    go : (t : Bool) → pick t false (not (is_nil v)) ≡ not t && not (is_nil v)
    go true = refl
    go false = refl
agree_is false b r nm r' v q = ap (λ (x : Name × List ℕ). is_nil x.0) (some_inj q)

-- a name has bytes where it has pieces
no_bytes : (nm : Name) → eqb (size (map (λ w. field name_tag w) nm)) 0 ≡ eqb (length nm) 0
no_bytes [] = refl
no_bytes (w ∷ ws) =
    let some : (size (map (λ w. field name_tag w) (w ∷ ws)) ≡ 0) → ⊥ = λ e. omega (arith, e) in
    ne_eqb (size (map (λ w. field name_tag w) (w ∷ ws))) 0 some ∙ sym (ne_eqb (suc (length ws)) 0 (omega arith))

-- ---- name and value

-- where what was read stands, the rest begins behind it
ends_at : (rec : List ℕ) (at k : ℕ) (e : List ℕ) → drop at rec ≡ e ++ drop k rec → at ≤ length rec → k ≤ length rec → k ≡ at + length e
ends_at rec at k e h i j = omega (arith, ap length h, length-append e (drop k rec), length-drop at rec, length-drop k rec)

module _ (named : Bool) (rec : List ℕ) (at : ℕ) where
  name_of : {n k : ℕ} → PiecesAre name_tag true 4 rec at n k → NameIs true rec at n k
  name_of g = record { nm = g.ws; is = g.is; inside = g.inside; count = g.count }

  pub name_as : (r : Maybe Pieces) → named ≡ true → IsPieces name_tag true 4 rec at r → IsName named rec at r
  name_as (Some p) y g = subst (λ (x : Bool). NameIs x rec at p.count p.next) (sym y) (name_of g)
  name_as None y g = rw y g

  pub name_none : named ≡ false → at ≤ length rec → NameIs named rec at 0 at
  name_none y h = record { nm = []; is = rw y; inside = h; count = refl }

  pub names_gone : (b : Base) → IsName named rec at None → parts named b (drop at rec) ≡ none
  unfolding parts
  names_gone b i = rw i

  module _ {n j : ℕ} (g : NameIs named rec at n j) where
    pub value_gone : (b : Base) → IsValue b rec j None → parts named b (drop at rec) ≡ none
    unfolding parts
    value_gone b i = rw (g.is, i)

    module _ (s : Small rec) (i : at ≤ length rec) where
      -- the value begins behind the name's bytes
      begins_at_lem : j ≡ at + size (map (λ w. field name_tag w) g.nm)
      begins_at_lem = ends_at rec at j (bytes_of (map (λ w. field name_tag w) g.nm)) (behind_is named (drop at rec) g.nm (drop j rec) (small_drop at rec s) g.is).1 i g.inside

      pub name_order : at ≤ j
      name_order = omega (arith, begins_at_lem)

      module _ (base : ℕ) {m k : ℕ} {t : Bool} (h : ValueIs (base_at base) rec j m k) (e : t ≡ kind_agrees named (j - at) m) where
        by_bytes : kind_agrees named (j - at) m ≡ kind_agrees named (length g.nm) m
        unfolding kind_agrees
        by_bytes =
            let n : j - at ≡ size (map (λ w. field name_tag w) g.nm) = omega (arith, begins_at_lem) in
            rw (n, no_bytes g.nm)

        agreed : agrees named (place (base_at base) g.nm h.v) ≡ t
        agreed = sym (agree_is named (base_at base) (drop at rec) g.nm (drop j rec) h.v g.is) ∙ rw (← h.arguments) (sym (e ∙ by_bytes))

        parts_no : t ≡ false → parts named (base_at base) (drop at rec) ≡ none
        unfolding parts
        parts_no y = rw (g.is, h.is, agreed, y)

        parts_yes : t ≡ true → PartsAre named base rec at m j k
        unfolding parts
        parts_yes y =
            record {
              nm = g.nm;
              v = h.v;
              is = rw (g.is, h.is, agreed, y);
              inside = h.inside;
              arguments = h.arguments;
              few = h.few;
              begins = begins_at_lem;
              ends = ends_at rec j k (bytes_of (many element_fields h.v)) (value_is (base_at base) (drop j rec) h.v (drop k rec) (small_drop j rec s) h.is).1 g.inside h.inside;
            }

        pub parts_told : {r : Maybe OnePlace} → r ≡ then_some t (record { number = m; value = j; next = k }) → IsParts named base rec at r
        parts_told q = by_bool t (λ y. rw (q, y) (parts_yes y)) (λ y. rw (q, y) (parts_no y))

-- ---- the place's field

base_yes : (c : ℕ) → is_base c ≡ true → base_of c ≡ some (base_at c)
unfolding is_base
base_yes c h =
    by_bool (eqb c (byte "D")) (λ y. at (byte "D") (eqb-true c (byte "D") y) refl)
    (λ y1. by_bool (eqb c (byte "H")) (λ y. at (byte "H") (eqb-true c (byte "H") y) refl)
    (λ y2. by_bool (eqb c (byte "O")) (λ y. at (byte "O") (eqb-true c (byte "O") y) refl)
    (λ y3. by_bool (eqb c (byte "B")) (λ y. at (byte "B") (eqb-true c (byte "B") y) refl)
    (λ y4. by_bool (eqb c (byte "K")) (λ y. at (byte "K") (eqb-true c (byte "K") y) refl) (λ y. absurd (false≢true (rw (y1, y2, y3, y4, y) at h)))))))
  where
    at : (n : ℕ) → c ≡ n → base_of n ≡ some (base_at n) → base_of c ≡ some (base_at c)
    at n e q = subst (λ (m : ℕ). base_of m ≡ some (base_at m)) (sym e) q

base_no : (c : ℕ) → is_base c ≡ false → base_of c ≡ none
unfolding is_base
base_no c h =
    by_bool (eqb c (byte "D")) (λ y. absurd (false≢true (sym (rw y at h))))
    (λ y1. by_bool (eqb c (byte "H")) (λ y. absurd (false≢true (sym (rw (y1, y) at h))))
    (λ y2. by_bool (eqb c (byte "O")) (λ y. absurd (false≢true (sym (rw (y1, y2, y) at h))))
    (λ y3. by_bool (eqb c (byte "B")) (λ y. absurd (false≢true (sym (rw (y1, y2, y3, y) at h))))
    (λ y4. by_bool (eqb c (byte "K")) (λ y. absurd (false≢true (sym (rw (y1, y2, y3, y4, y) at h)))) (λ y. rw (y1, y2, y3, y4, y))))))

pub place_inside : (rec : List ℕ) (at : ℕ) → head_tag (drop at rec) ≡ place_tag → at ≤ length rec
place_inside rec at h = omega (arith, tag_inside rec at (omega arith))

pub place_gone : (named : Bool) (rec : List ℕ) (at : ℕ) {r : Maybe Field} → r ≡ None → r ≡ field_at rec at → one_place named (drop at rec) ≡ none
unfolding one_place
place_gone named rec at e q = rw (nothing_there rec at e q)

module _ (rec : List ℕ) (at : ℕ) {r : Maybe Field} {f : Field} (e : r ≡ Some f) (q : r ≡ field_at rec at) (three : head_tag (drop at rec) ≡ place_tag) where
  own_letter : Lettered rec at (number f.tag) f.start f.next
  unfolding fits
  own_letter = lettered rec at place_tag (λ n. refl) e q three

  abbrev s : ℕ
  s = f.start

  abbrev j : ℕ
  j = f.next

  pub behind_inside : j ≤ length rec
  behind_inside = own_letter.own.inside

  pub letter_inside : s < length rec
  letter_inside = own_letter.here

  letter_there : one_byte (bytes_in rec s j) ≡ base_of (get_or rec s 0)
  letter_there = rw own_letter.content

  pub place_no : (named : Bool) {y : Bool} → y ≡ is_base (get_or rec s 0) → y ≡ false → one_place named (drop at rec) ≡ none
  unfolding one_place
  place_no named letter h = rw (own_letter.own.is, letter_there, base_no (get_or rec s 0) (sym letter ∙ h))

  module _ (named : Bool) {y : Bool} (letter : y ≡ is_base (get_or rec s 0)) (h : y ≡ true) where
    same_parts : one_place named (drop at rec) ≡ parts named (base_at (get_or rec s 0)) (drop j rec)
    unfolding one_place
    same_parts = rw (own_letter.own.is, letter_there, base_yes (get_or rec s 0) (sym letter ∙ h))

    place_is : {n begin k : ℕ} → PartsAre named (get_or rec s 0) rec j n begin k → PlaceIs named rec at n begin k
    place_is d =
        record {
          p = place (base_at (get_or rec s 0)) d.nm d.v;
          is = same_parts ∙ d.is;
          inside = d.inside;
          arguments = d.arguments;
          few = d.few;
          begins = omega (arith, d.begins, own_letter.own.start, own_letter.own.ends, own_letter.one);
          ends = omega (arith, d.begins, d.ends, own_letter.own.start, own_letter.own.ends, own_letter.one, size_append (map (λ w. field name_tag w) d.nm) (many element_fields d.v));
        }

    pub place_as : (r : Maybe OnePlace) → IsParts named (get_or rec s 0) rec j r → IsPlace named rec at r
    place_as (Some p) d = place_is d
    place_as None d = same_parts ∙ d
