-- A field ends where its length says, so fields that stand in a record end behind the last of them: by induction on the fields.
use mathlib.Core.Path.{◌≡◌, refl, sym, ap, ◌∙◌, subst}
use mathlib.Core.Bool.{Bool, true, false, false≢true}
use mathlib.Core.List.{List, [], ◌∷◌, ◌++◌, map, append_assoc}
use Prim.Native.Nat.{ℕ, ◌+◌, ◌-◌, ◌*◌, ◌/◌, ◌%◌, ◌≤◌, ◌<◌}
use native.Mathlib.Nat.{div-add-mod'}
use native.Mathlib.Omega.{arith}
use borrow.Author.Tests.{lt-leb, le-leb, leb-true}
use lib.Dec.{leb}
use lib.ListN.{length, get_or, take, drop, length-append, length-drop, drop_of_length-le}
use lib.Seq.{get_or-take, get_or-drop, take-add, take_at, drop-drop, drop-append_seam, length-take-le}
use Rattle.laws.specs.Cases.{and_l, and_r}
use Rattle.laws.specs.Lists.{all, all_append}
use Rattle.rules.specs.Characters.{between}
use Rattle.rules.specs.Units.{Unit, num, keyed, identifier, symbolic, text}
use Rattle.rules.specs.Commands.{Element, single, range}
use Rattle.rules.specs.Records.{Field, field, four_bytes, num4, field_bytes, bytes_of, many, unit_field, element_fields}
use Rattle.rules.proofs.FieldLaws.{bytes_append}
use Rattle.record_walk.specs.Fronts.{tag_of, size_of}
use Rattle.record_walk.specs.Spans.{size}
use Rattle.record_walk.proofs.WalkLaws.{tag_there}
use Rattle.record_walk.specs.Runs.{Whole, bytes_in, field_size, tag_in, RunsTo, ElementTo}

-- what stands behind e, where e stands at `at`
pub drop_behind : (rec : List ℕ) (at : ℕ) (e rest : List ℕ) → drop at rec ≡ e ++ rest → drop (at + length e) rec ≡ rest
drop_behind rec at e rest h = sym (drop-drop (length e) at rec) ∙ ap (drop (length e)) h ∙ drop-append_seam e rest

-- and it stands inside the record
pub stands_inside : (rec : List ℕ) (at : ℕ) (e rest : List ℕ) → drop at rec ≡ e ++ rest → at ≤ length rec → at + length e ≤ length rec
stands_inside rec at e rest h k = omega (arith, length-drop at rec, ap length h, length-append e rest)

-- the bytes of fields one behind the other
pub size_append : (fs gs : List Field) → size (fs ++ gs) ≡ size fs + size gs
size_append fs gs = ap length (bytes_append fs gs) ∙ length-append (bytes_of fs) (bytes_of gs)

-- ---- bytes from one position to another

module _ (rec : List ℕ) (a e : ℕ) where
  pub byte_in : (i : ℕ) → a + i < e → get_or (bytes_in rec a e) i 0 ≡ get_or rec (a + i) 0
  byte_in i h = rw (get_or-take (e - a) (drop a rec) i 0 (omega arith), get_or-drop a rec i 0)

  pub number_in : (i : ℕ) → a + i + 4 ≤ e → num4 (bytes_in rec a e) i ≡ num4 rec (a + i)
  number_in i h =
      let one : a + (1 + i) ≡ 1 + (a + i) = omega arith in
      let two : a + (2 + i) ≡ 2 + (a + i) = omega arith in
      let three : a + (3 + i) ≡ 3 + (a + i) = omega arith in
      rw (byte_in i (omega arith), byte_in (1 + i) (omega arith), byte_in (2 + i) (omega arith), byte_in (3 + i) (omega arith), one, two, three)

  pub long_in : e ≤ length rec → length (bytes_in rec a e) ≡ e - a
  long_in h = length-take-le (e - a) (drop a rec) (omega (arith, length-drop a rec))

-- none from a position to itself
pub bytes_none : (rec : List ℕ) (a : ℕ) → bytes_in rec a a ≡ []
bytes_none rec a = let z : a - a ≡ 0 = omega arith in rw z

-- w stands at q: the bytes up to its end
pub bytes_on : (rec : List ℕ) (a q : ℕ) (w rest : List ℕ) → a ≤ q → drop q rec ≡ w ++ rest → bytes_in rec a (q + length w) ≡ bytes_in rec a q ++ w
bytes_on rec a q w rest h e =
    let n : q + length w - a ≡ (q - a) + length w = omega arith in
    let m : a + (q - a) ≡ q = omega arith in
    let d : drop (q - a) (drop a rec) ≡ w ++ rest = drop-drop (q - a) a rec ∙ ap (λ (k : ℕ). drop k rec) m ∙ e in
    ap (λ (k : ℕ). take k (drop a rec)) n ∙ take-add (q - a) (length w) (drop a rec)
    ∙ ap (λ (x : List ℕ). bytes_in rec a q ++ x) (ap (take (length w)) d ∙ take_at w rest (length w) refl)

-- ---- one field

size_some : (r : List ℕ) → 0 < length r → field_size r ≡ size_of r
unfolding field_size
size_some [] h = absurd (omega arith)
size_some (t ∷ r) h = refl

size_field : (f : Field) (rest : List ℕ) → field_size (field_bytes f ++ rest) ≡ length (field_bytes f)
unfolding field_size
size_field (field t w) rest = let n : length w / 256 * 256 + length w % 256 ≡ length w = div-add-mod' (length w) 256 in omega arith

-- the field that stands there ends behind its bytes
pub after_field : (rec : List ℕ) (at : ℕ) (f : Field) (rest : List ℕ) → drop at rec ≡ field_bytes f ++ rest
    → at + field_size (drop at rec) ≡ at + length (field_bytes f)
after_field rec at f rest h = ap (λ (r : List ℕ). at + field_size r) h ∙ ap (λ (n : ℕ). at + n) (size_field f rest)

module _ (rec : List ℕ) (at : ℕ) where
  pub after_none : length rec ≤ at → at ≡ at + field_size (drop at rec)
  unfolding field_size
  after_none h = rw (drop_of_length-le rec h) (omega arith)

  size_there : at < length rec → field_size (drop at rec) ≡ 3 + (get_or rec (at + 1) 0 * 256 + get_or rec (at + 2) 0)
  size_there h = size_some (drop at rec) (omega (arith, length-drop at rec)) ∙ rw (get_or-drop at rec 1 0, get_or-drop at rec 2 0)

  pub after_some : {s : ℕ} → s ≡ 3 + (get_or rec (at + 1) 0 * 256 + get_or rec (at + 2) 0) → at < length rec → at + s ≡ at + field_size (drop at rec)
  after_some e h = omega (arith, size_there h)

  pub after_on : at < length rec → at + 3 ≤ at + field_size (drop at rec)
  after_on h = omega (arith, size_there h)

-- and what stands behind it
pub behind_field : (rec : List ℕ) (at : ℕ) (f : Field) (rest : List ℕ) → drop at rec ≡ field_bytes f ++ rest → drop (at + field_size (drop at rec)) rec ≡ rest
behind_field rec at f rest h = ap (λ (n : ℕ). drop n rec) (after_field rec at f rest h) ∙ drop_behind rec at (field_bytes f) rest h

-- behind a field the record is whole as well
whole_from : (rec : List ℕ) (at : ℕ) (fs : List Field) → drop at rec ≡ bytes_of fs → at ≤ length rec → Whole rec (at + field_size (drop at rec))
unfolding field_size
whole_from rec at [] e k =
    let z : at ≡ at + field_size (drop at rec) = rw e (omega arith) in
    subst (Whole rec) z (record { fs = []; is = e; inside = k })
whole_from rec at (f ∷ fs) e k =
    let z : at + length (field_bytes f) ≡ at + field_size (drop at rec) = sym (after_field rec at f (bytes_of fs) e) in
    subst (Whole rec) z (record {
      fs = fs;
      is = drop_behind rec at (field_bytes f) (bytes_of fs) e;
      inside = stands_inside rec at (field_bytes f) (bytes_of fs) e k;
    })

pub whole_after : {rec : List ℕ} {at : ℕ} → Whole rec at → Whole rec (at + field_size (drop at rec))
whole_after {rec} {at} w = whole_from rec at w.fs w.is w.inside

pub header_inside : (rec : List ℕ) (at : ℕ) → Whole rec at → at < length rec → at + 3 ≤ length rec
header_inside rec at w h = omega (arith, (whole_after w).inside, after_on rec at h)

pub whole_next : {rec : List ℕ} {at next : ℕ} → Whole rec at → next ≡ at + field_size (drop at rec) → Whole rec next
whole_next {rec} w e = subst (Whole rec) (sym e) (whole_after w)

-- ---- fields of some tags

module _ (low high : ℕ) (rec : List ℕ) (at : ℕ) where
  -- none stands there
  none_is : between low high (tag_of (drop at rec)) ≡ false → (fs : List Field) (rest : List ℕ) → drop at rec ≡ bytes_of fs ++ rest
      → all (tag_in low high) fs ≡ true → at ≡ at + length (bytes_of fs)
  none_is h [] rest e a = omega arith
  none_is h (field t w ∷ fs) rest e a =
      absurd (false≢true (sym h ∙ ap (λ (r : List ℕ). between low high (tag_of r)) e ∙ and_l (between low high t) (all (tag_in low high) fs) a))

  end_is : (fs : List Field) (rest : List ℕ) → [] ≡ bytes_of fs ++ rest → at ≡ at + length (bytes_of fs)
  end_is [] rest e = omega arith
  end_is (field t w ∷ fs) rest e = absurd (omega (arith, ap length e))

  -- one stands there, and others may stand behind it
  more_is : between low high (tag_of (drop at rec)) ≡ true → {r : ℕ} → RunsTo low high rec (at + field_size (drop at rec)) r
      → (fs : List Field) (rest : List ℕ) → drop at rec ≡ bytes_of fs ++ rest → all (tag_in low high) fs ≡ true → between low high (tag_of rest) ≡ false
      → r ≡ at + length (bytes_of fs)
  more_is h p [] rest e a s = absurd (false≢true (sym s ∙ ap (λ (r : List ℕ). between low high (tag_of r)) (sym e) ∙ h))
  more_is h {r} p (field t w ∷ fs) rest e a s =
      let b : List ℕ = field_bytes (field t w) in
      let g : drop at rec ≡ b ++ (bytes_of fs ++ rest) = e ∙ append_assoc b (bytes_of fs) rest in
      let z = after_field rec at (field t w) (bytes_of fs ++ rest) g in
      let q = p.is fs rest (behind_field rec at (field t w) (bytes_of fs ++ rest) g) (and_r (between low high t) (all (tag_in low high) fs) a) s in
      omega (arith, length-append b (bytes_of fs))

-- ---- the loop: where the run ends from here, it ends from the start

pub record Running (low high : ℕ) (rec : List ℕ) (at end : ℕ) : Type 0 where
  pub whole : Whole rec end
  pub same : (r : ℕ) → RunsTo low high rec end r → RunsTo low high rec at r

pub running_none : (low high : ℕ) {rec : List ℕ} {at : ℕ} → Whole rec at → Running low high rec at at
running_none low high w = record { whole = w; same = λ r p. p }

module _ {low high at end : ℕ} {rec : List ℕ} (v : Running low high rec at end) where
  ended : ((fs : List Field) (rest : List ℕ) → drop end rec ≡ bytes_of fs ++ rest → all (tag_in low high) fs ≡ true → end ≡ end + length (bytes_of fs)) → RunsTo low high rec at end
  ended k = v.same end (record { from = omega arith; whole = v.whole; is = λ fs rest g a s. k fs rest g a })

  pub running_over : length rec ≤ end → RunsTo low high rec at end
  running_over h = ended (λ fs rest g a. end_is low high rec end fs rest (sym (drop_of_length-le rec h) ∙ g))

  module _ {q : Bool} (e : q ≡ between low high (get_or rec end 0)) where
    tag_is : {y : Bool} → q ≡ y → between low high (tag_of (drop end rec)) ≡ y
    tag_is h = rw (tag_there rec end) (sym e ∙ h)

    pub running_stop : q ≡ false → RunsTo low high rec at end
    running_stop h = ended (none_is low high rec end (tag_is h))

    pub running_more : {next : ℕ} → end < length rec → q ≡ true → next ≡ end + field_size (drop end rec) → Running low high rec at next
    running_more k h n =
        rw n (record {
          whole = whole_after v.whole;
          same = λ r p. v.same r (record { from = omega (arith, after_on rec end k, p.from); whole = p.whole; is = more_is low high rec end (tag_is h) p });
        })

-- each turn comes nearer to the end
pub running_less : (rec : List ℕ) (end : ℕ) {next : ℕ} → end < length rec → next ≡ end + field_size (drop end rec) → length rec - next < length rec - end
running_less rec end k n = omega (arith, after_on rec end k)

-- ---- an element

unit_tag : (u : Unit) → tag_in 7 11 (unit_field u) ≡ true
unit_tag (num r f v) = refl
unit_tag (keyed w) = refl
unit_tag (identifier w) = refl
unit_tag (symbolic w) = refl
unit_tag (text w) = refl

pub unit_tags : (us : List Unit) → all (tag_in 7 11) (map unit_field us) ≡ true
unit_tags [] = refl
unit_tags (u ∷ us) = rw (unit_tag u, unit_tags us)

module _ (rec : List ℕ) (at : ℕ) {next r : ℕ} (n : next ≡ at + field_size (drop at rec)) (p : RunsTo 7 11 rec next r) where
  units_is : (f : Field) (us : List Unit) (rest : List ℕ) → drop at rec ≡ bytes_of (f ∷ map unit_field us) ++ rest → between 7 11 (tag_of rest) ≡ false
      → r ≡ at + length (bytes_of (f ∷ map unit_field us))
  units_is f us rest e s =
      let b : List ℕ = field_bytes f in
      let u : List ℕ = bytes_of (map unit_field us) in
      let g : drop at rec ≡ b ++ (u ++ rest) = e ∙ append_assoc b u rest in
      let z = after_field rec at f (u ++ rest) g in
      let q = p.is (map unit_field us) rest (ap (λ (k : ℕ). drop k rec) n ∙ behind_field rec at f (u ++ rest) g) (unit_tags us) s in
      omega (arith, length-append b u)

  element_is : (e : Element) (rest : List ℕ) → drop at rec ≡ bytes_of (element_fields e) ++ rest → between 7 11 (tag_of rest) ≡ false
      → r ≡ at + length (bytes_of (element_fields e))
  element_is (single l u) rest e s = units_is (field 5 []) (l ++ (u ∷ [])) rest e s
  element_is (range l r lo up inc) rest e s =
      units_is (field 6 (four_bytes up ++ four_bytes inc)) (l ++ (num r 0 lo ∷ [])) rest e s

  pub element_to : ElementTo rec at r
  element_to = record { from = omega (arith, p.from); whole = p.whole; is = element_is }

-- ---- tags

pub name_tags : (nm : List (List ℕ)) → all (tag_in 4 4) (map (λ w. field 4 w) nm) ≡ true
name_tags [] = refl
name_tags (w ∷ nm) = name_tags nm

wider : (fs : List Field) → all (tag_in 7 11) fs ≡ true → all (tag_in 5 11) fs ≡ true
wider [] h = refl
wider (field t w ∷ fs) h =
    let k : between 7 11 t ≡ true = and_l (between 7 11 t) (all (tag_in 7 11) fs) h in
    let low : 7 ≤ t = leb-true 7 t (and_l (leb 7 t) (leb t 11) k) in
    rw (le-leb 5 t (omega arith), and_r (leb 7 t) (leb t 11) k) (wider fs (and_r (between 7 11 t) (all (tag_in 7 11) fs) h))

pub element_tags : (es : List Element) → all (tag_in 5 11) (many element_fields es) ≡ true
element_tags [] = refl
element_tags (single l u ∷ es) =
    all_append (tag_in 5 11) (map unit_field (l ++ (u ∷ []))) (many element_fields es) (wider (map unit_field (l ++ (u ∷ []))) (unit_tags (l ++ (u ∷ [])))) (element_tags es)
element_tags (range l r lo up inc ∷ es) =
    all_append (tag_in 5 11) (map unit_field (l ++ (num r 0 lo ∷ []))) (many element_fields es) (wider (map unit_field (l ++ (num r 0 lo ∷ []))) (unit_tags (l ++ (num r 0 lo ∷ [])))) (element_tags es)

-- a tag below 4 is none of a name's, an element's or a unit's
pub low_tag : (low high t : ℕ) → t < low → between low high t ≡ false
low_tag low high t h = rw (lt-leb low t h)
