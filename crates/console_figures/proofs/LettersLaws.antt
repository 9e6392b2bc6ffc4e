-- The turns of the loop that goes from field to field; and of a record, what it finds are its places' letters.
use mathlib.Core.Path.{◌≡◌, refl, sym, ap, subst, ◌∙◌}
use mathlib.Core.List.{List, [], ◌∷◌, ◌++◌, append_assoc, append-nil}
use Prim.Native.Nat.{ℕ, zero, suc, ◌+◌, ◌-◌, ◌*◌, ◌≤◌, ◌<◌}
use native.Mathlib.Omega.{arith}
use native.Mathlib.Numerals.{add-one}
use borrow.Author.Tests.{lt-ltb, le-ltb, eq-eqb, ne_eqb}
use lib.Dec.{eqb}
use lib.ListN.{length, get_or, take, drop, set, length-append, length-take, take-append-drop}
use lib.Seq.{take-append-le, take_all, take-nil, set_split, drop-drop}
use Rattle.laws.specs.Cases.{cond_by}
use Rattle.laws.specs.Over.{over, over_part, length_over}
use Rattle.rules.specs.Records.{place_tag}
use Rattle.console_figures.specs.Letters.{field_size, letter_at, kept_at, letters_from, letters_for}

-- one field
pub from_field : (k : ℕ) (s : List ℕ) (i : ℕ) → i < length s → letters_from (suc k) s i ≡ letter_at s i ++ letters_from k s (i + field_size s i)
unfolding letters_from
from_field k s i h = rw (lt-ltb i (length s) h)

pub from_end : (k : ℕ) (s : List ℕ) (i : ℕ) → length s ≤ i → letters_from k s i ≡ []
unfolding letters_from
from_end zero s i h = refl
from_end (suc k) s i h = rw (le-ltb i (length s) h)

-- ---- one letter kept, or none

-- what `keep_base` promises
abbrev pub Keeps : List ℕ → List ℕ → List ℕ → ℕ → ℕ → ℕ → Type 0
Keeps old s out i n r = (r ≡ n + length (kept_at (length old) n s i)) × (out ≡ take n old ++ over (kept_at (length old) n s i) (drop n old))

keeps_none : (old s : List ℕ) (i n : ℕ) → kept_at (length old) n s i ≡ [] → Keeps old s old i n n
keeps_none old s i n e = rw e (omega arith, sym (take-append-drop n old))

pub keeps_other : (old s : List ℕ) (i n : ℕ) → (get_or s i 0 ≡ place_tag → ⊥) → Keeps old s old i n n
keeps_other old s i n h =
    let none : letter_at s i ≡ [] = rw (ne_eqb (get_or s i 0) place_tag h) refl in
    keeps_none old s i n (rw none (take-nil (length old - n)))

pub keeps_full : (old s : List ℕ) (i n : ℕ) → length old ≤ n → Keeps old s old i n n
keeps_full old s i n h =
    let none : length old - n ≡ 0 = omega arith in
    keeps_none old s i n (rw none refl)

pub keeps_one : (old s : List ℕ) (i n : ℕ) {b : ℕ} → b ≡ get_or s (i + 3) 0 → get_or s i 0 ≡ place_tag → n < length old → Keeps old s (set old n b) i n (n + 1)
keeps_one old s i n {b} e h k =
    let one : letter_at s i ≡ b ∷ [] = rw (eq-eqb (get_or s i 0) place_tag h) (ap (λ (m : ℕ). m ∷ []) (sym e)) in
    let all : kept_at (length old) n s i ≡ b ∷ [] = rw one (take_all (length old - n) (b ∷ []) (omega arith)) in
    rw all (refl, set_split old n b k ∙ rw (drop-drop 1 n old, add-one n) refl)

-- ---- the turns of the loop

-- the letters of the fields before i stand at the start of the buffer, and those from i on are found in so many steps
pub record Found (old s out : List ℕ) (i n : ℕ) : Type 0 where
  pub done : List ℕ
  pub steps : ℕ
  pub enough : length s ≤ i + steps
  pub same : letters_for (length old) s ≡ take (length old) (done ++ letters_from steps s i)
  pub is : out ≡ over done old
  pub size : length done ≡ n
  pub room : n ≤ length old
  pub long : length out ≡ length old

pub found_none : (old s : List ℕ) → Found old s old 0 0
found_none old s =
    record { done = []; steps = length s; enough = omega arith; same = refl; is = refl; size = refl; room = omega arith; long = refl }

-- what `own_bases` promises
abbrev pub Promise : List ℕ → List ℕ → List ℕ → ℕ → Type 0
Promise old s out r = (r ≡ length (letters_for (length old) s)) × (out ≡ over (letters_for (length old) s) old)

module _ {old s out : List ℕ} {i n : ℕ} (v : Found old s out i n) where
  all_found : length s ≤ i → letters_for (length old) s ≡ v.done
  all_found h =
      v.same ∙ rw (from_end v.steps s i h, append-nil v.done) (take_all (length old) v.done (omega (arith, v.size, v.room)))

  pub found_end : length s ≤ i → Promise old s out n
  found_end h = rw (all_found h) (sym v.size, v.is)

letter_most : (s : List ℕ) (i : ℕ) → length (letter_at s i) ≤ 1
letter_most s i = cond_by (λ (w : List ℕ). length w ≤ 1) (eqb (get_or s i 0) place_tag) (λ _. omega arith) (λ _. omega arith)

-- where there is room for one letter more, it is kept; where there is none, what stands behind counts no more
kept_take : (m : ℕ) (done l rest : List ℕ) → length l ≤ 1
    → take (length done + m) (done ++ (l ++ rest)) ≡ take (length done + m) ((done ++ take m l) ++ rest)
kept_take zero done l rest h =
    let few : length done + 0 ≤ length done = omega arith in
    rw (append-nil done, take-append-le (length done + 0) done (l ++ rest) few, take-append-le (length done + 0) done rest few) refl
kept_take (suc m) done l rest h = rw (take_all (suc m) l (omega arith), append_assoc) refl

kept_step : (room n : ℕ) (done l rest : List ℕ) → length done ≡ n → n ≤ room → length l ≤ 1
    → take room (done ++ (l ++ rest)) ≡ take room ((done ++ take (room - n) l) ++ rest)
kept_step room n done l rest p q h =
    let e : length done + (room - n) ≡ room = omega arith in
    subst (λ (m : ℕ). take m (done ++ (l ++ rest)) ≡ take m ((done ++ take (room - n) l) ++ rest)) e (kept_take (room - n) done l rest h)

module _ {old s out : List ℕ} {i n : ℕ} (v : Found old s out i n) where
  pub found_more : i < length s → {out' : List ℕ} {r size : ℕ} → Keeps out s out' i n r
      → size ≡ get_or s (i + 1) 0 * 256 + get_or s (i + 2) 0 → Found old s out' (i + (3 + size)) r
  found_more h {out'} {r} {size} (count, kept) e =
      let k = kept_at (length out) n s i in
      let few : length k ≤ length old - n = rw (← v.long) (simp length-take (omega arith)) in
      let room' : length (v.done ++ k) ≤ length old = simp length-append (omega (arith, v.size, v.room)) in
      let left = v.steps - 1 in
      let one : v.steps ≡ suc left = omega (arith, v.enough) in
      let rest = letters_from left s (i + field_size s i) in
      let is' : out' ≡ over (v.done ++ k) old = kept ∙ ap (λ (o : List ℕ). take n o ++ over k (drop n o)) v.is ∙ over_part v.done k old n v.size in
      let size' : length (v.done ++ k) ≡ r = length-append v.done k ∙ ap (λ (m : ℕ). m + length k) v.size ∙ sym count in
      record {
        done = v.done ++ k;
        steps = left;
        enough = omega (arith, v.enough);
        same =
            v.same
            ∙ ap (λ (m : ℕ). take (length old) (v.done ++ letters_from m s i)) one
            ∙ ap (λ (w : List ℕ). take (length old) (v.done ++ w)) (from_field left s i h)
            ∙ kept_step (length old) n v.done (letter_at s i) rest v.size v.room (letter_most s i)
            ∙ ap (λ (m : ℕ). take (length old) ((v.done ++ take (m - n) (letter_at s i)) ++ rest)) (sym v.long)
            ∙ ap (λ (m : ℕ). take (length old) ((v.done ++ k) ++ letters_from left s (i + (3 + m)))) (sym e);
        is = is';
        size = size';
        room = omega (arith, size', room');
        long = ap length is' ∙ length_over (v.done ++ k) old room';
      }
