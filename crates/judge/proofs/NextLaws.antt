-- A place that was read is written to the same bytes again, so it stands behind those before it; and in a named block its name is told by theirs.
use mathlib.Core.Path.{◌≡◌, sym, ap, ap₂, ◌∙◌, subst, refl}
use mathlib.Core.Bool.{Bool, true, false, ◌||◌, not, false≢true}
use mathlib.Core.List.{List, [], ◌∷◌, ◌++◌, map, append_assoc, append-nil}
use Prim.Native.Nat.{ℕ, ◌+◌, ◌-◌, ◌≤◌}
use native.Mathlib.Omega.{arith}
use borrow.Author.Tests.{eq-eqb}
use lib.ListN.{length, take, drop, length-append, length-drop, length-take, take-append-drop}
use lib.Seq.{take_at, drop-drop}
use Rattle.rules.specs.Units.{letter}
use Rattle.rules.specs.Commands.{Place, place, place_name, Name, same_name}
use Rattle.rules.specs.Records.{place_tag, name_tag, field, field_bytes, bytes_of, many, element_fields, place_fields}
use Rattle.rules.specs.WellFormed.{wf_place, names_differ}
use Rattle.rules.proofs.FieldLaws.{bytes_append, many_append}
use Rattle.record_walk.specs.Fronts.{head_tag}
use Rattle.record_walk.specs.Runs.{Whole, bytes_in}
use Rattle.record_walk.specs.Spans.{size, head_fields}
use Rattle.record_walk.proofs.FrontLaws.{Small, small_drop}
use Rattle.record_walk.proofs.RunLaws.{drop_behind, size_append}
use Rattle.marks.specs.Marks.{added_if}
use Rattle.marks.specs.declared.Marks.{Marks}
use Rattle.judge_place.specs.Judging.{PlaceIs, IsPlace}
use Rattle.judge_place.proofs.PlaceBytes.{place_is}
use Rattle.judge_names.specs.Names.{name_bytes, is_name_of, all_marked, Answers, Tells}
use Rattle.judge_names.proofs.StandLaws.{all_marked_lem}
use Rattle.judge.specs.Blocks.{fresh_place}
use Rattle.judge.specs.Judged.{Stand, NextIs, IsNext}
use Rattle.std.proofs.Common.{Option, Some, None}
use Rattle.laws.specs.Cases.{by_bool, and_false, or_true}
use Rattle.rules.proofs.Names.{name_sym}

-- ---- the names of places with one more differ where those before it do and it is none of them; once it is one of them they do not

name_in_lem : (ps : List Place) (p : Place) (qs : List Place) (nm : Name) → same_name nm (place_name p) ≡ true → is_name_of ((ps ++ (p ∷ [])) ++ qs) nm ≡ true
name_in_lem [] p qs nm h = rw h
name_in_lem (q ∷ ps) p qs nm h = rw (name_in_lem ps p qs nm h) (or_true (same_name nm (place_name q)))

name_out : (ps : List Place) (p : Place) (nm : Name) → is_name_of ps nm ≡ false → same_name nm (place_name p) ≡ false → is_name_of (ps ++ (p ∷ [])) nm ≡ false
name_out [] p nm h k = rw k
name_out (q ∷ ps) p nm h k =
    by_bool (same_name nm (place_name q)) (λ y. absurd (false≢true (sym h ∙ rw y))) (λ y. rw y (name_out ps p nm (rw y at h) k))

pub differ_more : (ps : List Place) (p : Place) → names_differ (map place_name ps) ≡ true → is_name_of ps (place_name p) ≡ false
    → names_differ (map place_name (ps ++ (p ∷ []))) ≡ true
differ_more [] p h k = refl
differ_more (q ∷ ps) p h k =
    by_bool (same_name (place_name p) (place_name q))
    (λ y. absurd (false≢true (sym k ∙ rw y)))
    (λ y.
    by_bool (is_name_of ps (place_name q))
    (λ z. absurd (false≢true (rw z at h)))
    (λ z. rw (name_out ps p (place_name q) z (name_sym (place_name q) (place_name p) ∙ y)) (differ_more ps p (rw z at h) (rw y at k))))

pub differ_not : (ps : List Place) (p : Place) (qs : List Place) → is_name_of ps (place_name p) ≡ true → names_differ (map place_name ((ps ++ (p ∷ [])) ++ qs)) ≡ false
differ_not [] p qs h = absurd (false≢true h)
differ_not (q ∷ ps) p qs h =
    by_bool (same_name (place_name p) (place_name q))
    (λ y. rw (name_in_lem ps p qs (place_name q) (name_sym (place_name q) (place_name p) ∙ y)))
    (λ y. rw (differ_not ps p qs (rw y at h)) (and_false (not (is_name_of ((ps ++ (p ∷ [])) ++ qs) (place_name q)))))

-- ---- a place's parts

-- a place's value ends behind its beginning
pub head_first : (p : Place) → size (head_fields p) ≤ size (place_fields p)
head_first (place b nm v) =
    omega (arith, size_append (map (λ w. field name_tag w) nm) (many element_fields v))

-- a name stands behind the place's field
name_behind : (p : Place) → size (head_fields p) ≡ 4 + length (name_bytes (place_name p))
name_behind (place b nm v) = omega arith

-- a named place has a name
name_long : (p : Place) → wf_place true p ≡ true → 3 ≤ length (name_bytes (place_name p))
name_long (place b [] v) h = absurd (false≢true h)
name_long (place b (w ∷ nm) v) h = omega arith

-- the name of the place that stands there
name_there : (rec : List ℕ) (at begin : ℕ) (p : Place) (rest : List ℕ) → drop at rec ≡ bytes_of (place_fields p) ++ rest → begin ≡ at + size (head_fields p)
    → bytes_in rec (at + 4) begin ≡ name_bytes (place_name p)
name_there rec at begin (place b nm v) rest e q =
    let f : List ℕ = field_bytes (field place_tag (letter b ∷ [])) in
    let ns : List ℕ = name_bytes nm in
    let vs : List ℕ = bytes_of (many element_fields v) ++ rest in
    let joined : bytes_of (map (λ w. field name_tag w) nm ++ many element_fields v) ++ rest ≡ ns ++ vs =
    ap (λ (x : List ℕ). x ++ rest) (bytes_append (map (λ w. field name_tag w) nm) (many element_fields v)) ∙ append_assoc ns (bytes_of (many element_fields v)) rest in
    let d : drop (at + 4) rec ≡ ns ++ vs = drop_behind rec at f (ns ++ vs) (e ∙ ap (λ (x : List ℕ). f ++ x) joined) in
    ap (take (begin - (at + 4))) d ∙ take_at ns vs (begin - (at + 4)) (omega arith)

-- ---- the next place

-- where places stand that begin at `from`
pub stand_ends : {named : Bool} {rec : List ℕ} {from at : ℕ} {m : Marks} {ps : List Place} → Stand named rec from at m ps → at ≡ from + size (many place_fields ps)
stand_ends {rec = rec} {from = from} {at = at} st = omega (arith, st.order, st.inside, ap length st.bytes, length-take (at - from) (drop from rec), length-drop from rec)

pub next_none : (named : Bool) (rec : List ℕ) (from at : ℕ) (m : Marks) → IsPlace named rec at None → IsNext named rec from at m None
unfolding fresh_place
next_none named rec from at m j ps st = rw j

-- places that stand in a record are fields
pub places_whole : {named : Bool} {rec : List ℕ} {from at : ℕ} {m : Marks} {ps : List Place} → Stand named rec from at m ps → Whole (bytes_in rec from at) 0
places_whole {ps = ps} st = record { fs = many place_fields ps; is = st.bytes; inside = omega arith }

module _ (named : Bool) (rec : List ℕ) (at : ℕ) {n begin k : ℕ} (place_there : PlaceIs named rec at n begin k) where
  pub begin_behind : at + 4 ≤ begin
  begin_behind = omega (arith, place_there.begins, name_behind place_there.p)

  pub begin_inside : begin ≤ length rec
  begin_inside = omega (arith, place_there, head_first place_there.p)

module _ (named : Bool) (rec : List ℕ) (from at : ℕ) {n begin k : ℕ} (t : head_tag (drop at rec) ≡ place_tag) (sm : Small rec) (d : PlaceIs named rec at n begin k) where
  abbrev here : List ℕ
  here = bytes_of (place_fields d.p)

  place_read : (wf_place named d.p ≡ true) × (drop at rec ≡ here ++ drop k rec)
  place_read = place_is named (drop at rec) d.p (drop k rec) (small_drop at rec sm) (eq-eqb (head_tag (drop at rec)) place_tag t) d.is

  name_bytes_lem : bytes_in rec (at + 4) begin ≡ name_bytes (place_name d.p)
  name_bytes_lem = name_there rec at begin d.p (drop k rec) place_read.1 d.begins

  name_enough : named ≡ true → 3 ≤ length (bytes_in rec (at + 4) begin)
  name_enough y = rw name_bytes_lem (name_long d.p (rw y at place_read.0))

  module _ {m : Marks} (ps : List Place) (st : Stand named rec from at m ps) where
    abbrev those : List ℕ
    those = bytes_of (many place_fields ps)

    both_there : bytes_in rec from k ≡ those ++ here
    both_there =
        let on : from + (at - from) ≡ at = omega (arith, st.order) in
        let rest : drop (at - from) (drop from rec) ≡ here ++ drop k rec = drop-drop (at - from) from rec ∙ ap (λ (i : ℕ). drop i rec) on ∙ place_read.1 in
        let all_there : drop from rec ≡ (those ++ here) ++ drop k rec =
        sym (take-append-drop (at - from) (drop from rec)) ∙ ap₂ (λ (x y : List ℕ). x ++ y) st.bytes rest ∙ sym (append_assoc those here (drop k rec)) in
        let long : length (those ++ here) ≡ k - from = omega (arith, d.ends, stand_ends st, st.order, length-append those here) in
        ap (take (k - from)) all_there ∙ take_at (those ++ here) (drop k rec) (k - from) long

    stand_more : (m' : Marks) → not named || all_marked m' (ps ++ (d.p ∷ [])) ≡ true → Stand named rec from k m' (ps ++ (d.p ∷ []))
    stand_more m' h =
        let joined : bytes_of (many place_fields (ps ++ (d.p ∷ []))) ≡ those ++ here =
        ap bytes_of (many_append place_fields ps (d.p ∷ []) ∙ ap (λ x. many place_fields ps ++ x) (append-nil (place_fields d.p))) ∙ bytes_append (many place_fields ps) (place_fields d.p) in
        record { order = omega (arith, st.order, d.ends); inside = d.inside; bytes = both_there ∙ sym joined; marks = h }

    fresh_there : (u : ℕ) → not named || not (is_name_of ps (place_name d.p)) ≡ true → not named || all_marked (added_if named m u) (ps ++ (d.p ∷ [])) ≡ true
        → NextIs named rec from at m ps n begin k u
    unfolding fresh_place
    fresh_there u f h =
        record {
          p = d.p;
          is = rw (d.is, f);
          arguments = d.arguments;
          few = d.few;
          begins = d.begins;
          ends = d.ends;
          more = stand_more (added_if named m u) h;
        }

  module _ {m : Marks} where
    pub next_unnamed : (u : ℕ) → named ≡ false → IsNext named rec from at m (Some (record { place = record { number = n; value = begin; next = k }; key = u }))
    next_unnamed u y ps st = fresh_there ps st u (rw y) (rw y)

    module _ {a : Option ℕ} (g : Tells (bytes_in rec from at) (bytes_in rec (at + 4) begin) m a) (y : named ≡ true) where
      pub next_once : {u : ℕ} → a ≡ Some u → IsNext named rec from at m (Some (record { place = record { number = n; value = begin; next = k }; key = u }))
      next_once {u} q ps st =
          let h : all_marked m ps ≡ true = rw y at st.marks in
          let told = subst (Answers ps (place_name d.p)) q (g ps (place_name d.p) st.bytes name_bytes_lem h) in
          fresh_there ps st u (rw (y, told.0)) (rw (y, told.1) (all_marked_lem m ps d.p h))

      pub next_twice : a ≡ None → IsNext named rec from at m None
      unfolding fresh_place
      next_twice q ps st =
          let told = subst (Answers ps (place_name d.p)) q (g ps (place_name d.p) st.bytes name_bytes_lem (rw y at st.marks)) in
          rw (d.is, y, told)

pub name_there_enough : (named : Bool) (rec : List ℕ) (at : ℕ) {n begin k : ℕ} → PlaceIs named rec at n begin k → head_tag (drop at rec) ≡ place_tag → Small rec
    → named ≡ true → 3 ≤ length (bytes_in rec (at + 4) begin)
name_there_enough named rec at j t sm y = name_enough named rec at at t sm j y
