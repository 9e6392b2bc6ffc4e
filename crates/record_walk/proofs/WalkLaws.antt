-- The walker's field is the field at the front of what stands there: the three tests are those of `front`.
use mathlib.Core.Path.{◌≡◌, refl, sym, ap, ◌∙◌, subst}
use mathlib.Core.Bool.{Bool, true, false, false≢true}
use mathlib.Core.List.{List, [], ◌∷◌}
use mathlib.Core.Option.{none, some}
use Rattle.std.specs.Prelude.{Option, Some, None}
use Prim.Native.Nat.{ℕ, ◌+◌, ◌-◌, ◌*◌, ◌≤◌, ◌<◌}
use native.Mathlib.Nat.{add-zero}
use native.Mathlib.Omega.{arith}
use borrow.Author.Tests.{eqb-true, lt-ltb, le-ltb, ltb-false, ltb-true}
use lib.Dec.{eqb, ltb}
use lib.ListN.{length, get_or, drop, length-drop}
use lib.Seq.{drop-cons, get_or-drop, drop-drop, length-take-le}
use Rattle.laws.specs.Cases.{by_bool, pick_if}
use Rattle.rules.specs.Records.{field}
use Rattle.record_walk.specs.declared.Tag.{Tag}
use Rattle.record_walk.specs.declared.Field.{Field}
use Rattle.record_walk.specs.Tags.{number, tag_named}
use Rattle.record_walk.proofs.TagLaws.{named, unnamed}
use Rattle.record_walk.specs.Fields.{fits, length_at, field_from, field_at}
use Rattle.record_walk.specs.Fronts.{tag_of, head_tag, front}
use Rattle.record_walk.specs.Runs.{bytes_in}
use Rattle.record_walk.proofs.FrontLaws.{head_some, head_room, front_of, front_unfit, front_short}

-- ---- the turns of the function

module _ (rec : List ℕ) (at : ℕ) where
  pub field_short : length rec - at < 3 → None ≡ field_at rec at
  unfolding field_at
  field_short h = rw (lt-ltb _ _ h)

  pub field_cut : (n : ℕ) → n ≡ length_at rec at → 3 ≤ length rec - at → length rec - at - 3 < n → None ≡ field_at rec at
  unfolding field_at
  field_cut n e h k = rw (le-ltb _ _ h, ← e, lt-ltb _ _ k)

  module _ (n : ℕ) (e : n ≡ length_at rec at) (h : 3 ≤ length rec - at) (k : n ≤ length rec - at - 3) {o : Option Tag} (q : o ≡ tag_named (get_or rec at 0)) where
    pub field_unknown : o ≡ None → None ≡ field_at rec at
    unfolding field_at
    field_unknown z = rw (le-ltb _ _ h, ← e, le-ltb _ _ k, ← q, z) (by_bool (fits (get_or rec at 0) n) (λ y. rw y) (λ y. rw y))

    pub field_unfit : {t : Tag} {f : Bool} → o ≡ Some t → f ≡ fits (number t) n → f ≡ false → None ≡ field_at rec at
    unfolding field_at
    field_unfit {t} z p g = rw (le-ltb _ _ h, ← e, le-ltb _ _ k, ← named _ (sym q ∙ z), ← p, g)

    pub field_fits : {t : Tag} {f : Bool} → o ≡ Some t → f ≡ fits (number t) n → f ≡ true
        → Some (record { tag = t; start = at + 3; next = at + 3 + n }) ≡ field_at rec at
    unfolding field_at
    field_fits {t} z p g = rw (le-ltb _ _ h, ← e, le-ltb _ _ k, ← q, z, ap (λ (m : ℕ). fits m n) (sym (named _ (sym q ∙ z))) ∙ sym p ∙ g)

-- ---- what is found

-- a field of tag t that stands at `at`, its content from s to k
pub record IsField (rec : List ℕ) (at t s k : ℕ) : Type 0 where
  pub tag : t ≡ head_tag (drop at rec)
  pub start : s ≡ at + 3
  pub ends : s ≤ k
  pub size : k ≡ at + 3 + length_at rec at
  pub inside : k ≤ length rec
  pub fit : fits t (k - s) ≡ true
  pub long : length (bytes_in rec s k) ≡ k - s
  pub is : front (drop at rec) ≡ some (field t (bytes_in rec s k), drop k rec)

abbrev pub Finds : List ℕ → ℕ → Option Field → Type 0
Finds rec at (Some f) = IsField rec at (number f.tag) f.start f.next
Finds rec at None = front (drop at rec) ≡ none

module _ (rec : List ℕ) (at : ℕ) where
  pub tag_there : tag_of (drop at rec) ≡ get_or rec at 0
  tag_there = rw (get_or-drop, add-zero)

  length_there : get_or (drop at rec) 1 0 * 256 + get_or (drop at rec) 2 0 ≡ length_at rec at
  length_there = rw (get_or-drop at rec 1 0, get_or-drop at rec 2 0)

  cut_off : length rec < at + 3 + length_at rec at → front (drop at rec) ≡ none
  cut_off h = front_short (drop at rec) (length_at rec at) length_there (omega (arith, length-drop at rec))

  stands_whole : at + 3 + length_at rec at ≤ length rec → fits (get_or rec at 0) (length_at rec at) ≡ true
      → IsField rec at (get_or rec at 0) (at + 3) (at + 3 + length_at rec at)
  stands_whole h f =
      let n : ℕ = length_at rec at in
      let room : 3 + n ≤ length (drop at rec) = omega (arith, length-drop at rec) in
      let size : at + 3 + n - (at + 3) ≡ n = omega arith in
      let behind : at + (3 + n) ≡ at + 3 + n = omega arith in
      record {
        tag = sym (head_some (drop at rec) (omega (arith, length-drop at rec)) ∙ tag_there);
        start = refl;
        ends = omega arith;
        size = refl;
        inside = h;
        fit = rw size f;
        long = rw size (length-take-le n (drop (at + 3) rec) (omega (arith, length-drop (at + 3) rec)));
        is = rw (size, front_of (drop at rec) (get_or rec at 0) n tag_there length_there room f, drop-drop 3 at rec, drop-drop (3 + n) at rec, behind);
      }

  -- a field that fits has a tag
  found_whole : (o : Option Tag) → o ≡ tag_named (get_or rec at 0) → at + 3 + length_at rec at ≤ length rec → fits (get_or rec at 0) (length_at rec at) ≡ true
      → Finds rec at (field_from o (at + 3) (at + 3 + length_at rec at))
  found_whole None q h f = absurd (false≢true (sym (unnamed (get_or rec at 0) (length_at rec at) (sym q)) ∙ f))
  found_whole (Some t) q h f = subst (λ (n : ℕ). IsField rec at n (at + 3) (at + 3 + length_at rec at)) (sym (named (get_or rec at 0) (sym q))) (stands_whole h f)

  finds_there : Finds rec at (field_at rec at)
  unfolding field_at
  finds_there =
      let n : ℕ = length_at rec at in
      pick_if (Finds rec at) (ltb (length rec - at) 3) (λ y. cut_off (omega (arith, ltb-true (length rec - at) 3 y)))
      (λ y1. pick_if (Finds rec at) (ltb (length rec - at - 3) n)
      (λ y. cut_off (omega (arith, ltb-false (length rec - at) 3 y1, ltb-true (length rec - at - 3) n y)))
      (λ y2.
      let room : at + 3 + n ≤ length rec = omega (arith, ltb-false (length rec - at) 3 y1, ltb-false (length rec - at - 3) n y2) in
      pick_if (Finds rec at) (fits (get_or rec at 0) n) (λ y. found_whole (tag_named (get_or rec at 0)) refl room y)
      (λ y. front_unfit (drop at rec) (get_or rec at 0) n tag_there length_there (omega (arith, length-drop at rec)) y)))

  pub finds : (r : Option Field) → r ≡ field_at rec at → Finds rec at r
  finds r e = subst (Finds rec at) (sym e) finds_there

  -- by the walker's answer
  pub field_there : {r : Option Field} {f : Field} → r ≡ Some f → r ≡ field_at rec at → IsField rec at (number f.tag) f.start f.next
  field_there {r} {f} e q = finds (Some f) (sym e ∙ q)

  pub nothing_there : {r : Option Field} → r ≡ None → r ≡ field_at rec at → front (drop at rec) ≡ none
  nothing_there e q = finds None (sym e ∙ q)

  -- where a tag stands, the record goes on
  pub tag_inside : 1 ≤ head_tag (drop at rec) → at < length rec
  tag_inside h = omega (arith, head_room (drop at rec) h, length-drop at rec)

-- a field whose content is one byte: a block's kind, a place's letter
pub record Lettered (rec : List ℕ) (at t s k : ℕ) : Type 0 where
  pub own : IsField rec at t s k
  pub one : k - s ≡ 1
  pub here : s < length rec
  pub content : bytes_in rec s k ≡ get_or rec s 0 ∷ []

pub lettered : (rec : List ℕ) (at tag : ℕ) → ((n : ℕ) → fits tag n ≡ eqb n 1) → {r : Option Field} {g : Field} → r ≡ Some g → r ≡ field_at rec at → head_tag (drop at rec) ≡ tag
    → Lettered rec at (number g.tag) g.start g.next
lettered rec at tag letter {r} {g} e q h =
    let s : ℕ = g.start in
    let k : ℕ = g.next in
    let f = field_there rec at e q in
    let fit : fits tag (k - s) ≡ true = rw (f.tag ∙ h) at f.fit in
    let one = eqb-true (k - s) 1 (sym (letter (k - s)) ∙ fit) in
    let here : s < length rec = omega (arith, f.inside, one) in
    record { own = f; one = one; here = here; content = rw (one, drop-cons rec s 0 here) }
