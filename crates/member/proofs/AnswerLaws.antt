-- The call's answer: the judge's row tells where the place and its value stand, so its base is the one that the rules take, and the position that was found is the one that the rules give.
use mathlib.Core.Path.{◌≡◌, refl, sym, ap, ◌∙◌, subst}
use mathlib.Core.Bool.{Bool, true, false}
use mathlib.Core.List.{List, [], ◌∷◌, ◌++◌, map}
use Prim.Native.Nat.{ℕ, zero, suc, ◌+◌, ◌-◌, ◌*◌, ◌≤◌, ◌<◌}
use native.Mathlib.Omega.{arith}
use lib.ListN.{length, get_or, take, drop, replicate, length-drop, get_or-eq_default}
use lib.Seq.{get_or-take, get_or-drop}
use Rattle.laws.specs.Lists.{is_nil}
use Rattle.laws.specs.Over.{part}
use Rattle.rules.specs.Characters.{between}
use Rattle.std.proofs.Common.{Option, Some, None, Ok, Err}
use Rattle.rules.specs.declared.Refusal.{Refusal}
use Rattle.rules.specs.Reasons.{refusal}
use Rattle.rules.specs.Refusals.{bad, not_well_formed, no_such_place, wrong_argument}
use Rattle.rules.specs.Units.{Base, keys, letter, base_at, Unit}
use Rattle.rules.specs.Commands.{Element, Place, place, place_base, place_value, terms, sum, Command, command, all_places}
use Rattle.rules.specs.Records.{bytes_of, place_fields, code_tag, block_tag, ends, head_size}
use Rattle.rules.specs.WellFormed.{record_of}
use Rattle.rules.specs.Positions.{place_of, argument_of, is_given, position_of, answer_of}
use Rattle.rules.specs.Answers.{Answer, locating, answered, Locates}
use Rattle.rules.proofs.Counts.{terms_pos}
use Rattle.rules.proofs.LocateCall.{Given, given_some, argument_back}
use Rattle.rules.proofs.FieldLaws.{bytes_append}
use Rattle.digits.proofs.LetterLaws.{base_at_lem}
use Rattle.record_walk.specs.Fronts.{tag_of}
use Rattle.record_walk.specs.Runs.{Whole, RunsTo}
use Rattle.record_walk.specs.Spans.{arguments_of}
use Rattle.record_walk.specs.Values.{PlaceAt, PlacesAt, end_before}
use Rattle.record_walk.proofs.PlaceLaws.{place_holds, places_in, told_places, NthPlace, nth_place}
use Rattle.judge.specs.Judged.{per_place, row_length, blocks_of, Judges}
use Rattle.judge.specs.declared.Judged.{Judged}
use Rattle.judge.proofs.ToldLaws.{judged, judged_cut, body_judged}
use Rattle.member.specs.Seeking.{Sought, IsPosition, Ahead, IsBase, in_place, Numbered, InRow, IsAnswer}

-- ---- a place's base

module _ {rec : List ℕ} {at from to : ℕ} (p : Place) (t : PlaceAt rec at from to p) where
  -- its own field: tag, length, letter
  own_field_lem : (rest : List ℕ) × (drop t.start rec ≡ 3 ∷ 0 ∷ 1 ∷ letter (place_base p) ∷ rest)
  own_field_lem = go p t.stands
    where
      go : (q : Place) → drop t.start rec ≡ bytes_of (place_fields q) ++ bytes_of t.rest
          → (rest : List ℕ) × (drop t.start rec ≡ 3 ∷ 0 ∷ 1 ∷ letter (place_base q) ∷ rest)
      go (place b nm v) e = (_, e)

  -- it stands behind code pieces and blocks' own fields
  pub start_is : {r : ℕ} → RunsTo code_tag block_tag rec at r → r ≡ t.start
  start_is k =
      let low : between code_tag block_tag (tag_of (drop t.start rec)) ≡ false = rw own_field_lem.1 in
      k.is t.heads.fs (drop t.start rec) t.heads.bytes t.heads.are low ∙ sym t.heads.ends

  pub base_inside : t.start + 3 < length rec
  base_inside = omega (arith, ap length own_field_lem.1, length-drop t.start rec)

  pub letter_is : get_or rec (t.start + 3) 0 ≡ letter (place_base p)
  letter_is = sym (get_or-drop t.start rec 3 0) ∙ ap (λ (x : List ℕ). get_or x 3 0) own_field_lem.1

  pub place_whole : Whole rec at
  place_whole = record {
    fs = t.heads.fs ++ (place_fields p ++ t.rest);
    is =
        t.heads.bytes ∙ ap (λ (x : List ℕ). bytes_of t.heads.fs ++ x) (t.stands ∙ sym (bytes_append (place_fields p) t.rest))
        ∙ sym (bytes_append t.heads.fs (place_fields p ++ t.rest));
    inside = omega (arith, t.heads.ends, t.inside);
  }

pub ahead_whole : {rec : List ℕ} {at : ℕ} → Ahead rec at → Whole rec at
ahead_whole a = place_whole a.p a.stands

pub ahead_inside : {rec : List ℕ} {at r : ℕ} → Ahead rec at → RunsTo code_tag block_tag rec at r → r + 3 < length rec
ahead_inside a k = omega (arith, start_is a.p a.stands k, base_inside a.p a.stands)

pub base_is_lem : {rec : List ℕ} {at r : ℕ} → RunsTo code_tag block_tag rec at r → IsBase rec at (get_or rec (r + 3) 0)
base_is_lem {rec} k from to p t = ap (λ (n : ℕ). get_or rec (n + 3) 0) (start_is p t k) ∙ letter_is p t

-- ---- the place in the row

-- the place before ends where the last of its numbers says
pub end_behind : (row : List ℕ) (i : ℕ) → (i ≡ 0 → ⊥) → get_or row (i - 1) 0 ≡ end_before 0 row i
end_behind row zero h = absurd (h refl)
end_behind row (suc i) h = let z : suc i - 1 ≡ i = omega arith in ap (λ (n : ℕ). get_or row n 0) z

pub row_ahead : (rec row : List ℕ) (i : ℕ) {at : ℕ} → at ≡ end_before 0 row i → InRow rec row i → Ahead rec at
row_ahead rec row i e r = record {
  from = get_or row (i + 1) 0;
  to = get_or row (i + 2) 0;
  p = r.p;
  stands = subst (λ (n : ℕ). PlaceAt rec n (get_or row (i + 1) 0) (get_or row (i + 2) 0) r.p) (sym e) r.stands;
}

-- where an argument that could stand there was found
answer_found : (p : Place) (w : List ℕ) (l : List Unit) (u : Unit) (q : ℕ) → is_given (place_base p) w ≡ true → argument_of w ≡ ends l u → q ≡ answer_of (position_of (place_value p) l u)
    → Ok q ≡ answered (in_place p w)
answer_found p w l u q y e f = rw (y, e) (ap Ok f)

module _ (rec row w : List ℕ) (i base : ℕ) {at : ℕ} {g : Bool} (a : at ≡ end_before 0 row i) (b : IsBase rec at base) (e : g ≡ is_given (base_at base) w) where
  given_under : (p : Place) → Numbered rec row i p → g ≡ is_given (place_base p) w
  given_under p t =
      let is : base ≡ letter (place_base p) = subst (λ (n : ℕ). IsBase rec n base) a b (get_or row (i + 1) 0) (get_or row (i + 2) 0) p t in
      e ∙ ap (λ (x : Base). is_given x w) (ap base_at is ∙ base_at_lem (place_base p))

  pub row_sought : InRow rec row i → g ≡ true → Sought rec (get_or row (i + 1) 0) (get_or row (i + 2) 0) w
  row_sought r y =
      let given : Given (place_base r.p) w = given_some (place_base r.p) w (sym (given_under r.p r.stands) ∙ y) in
      record {
        base = place_base r.p;
        elements = place_value r.p;
        holds = place_holds r.p r.stands;
        well = r.stands.well;
        lead = given.lead;
        last = given.last;
        bytes = given.bytes;
      }

  pub row_found : {q : ℕ} → g ≡ true → IsPosition rec (get_or row (i + 1) 0) (get_or row (i + 2) 0) w q → IsAnswer rec row i w (Ok q)
  row_found {q} y found p t =
      let yes : is_given (place_base p) w ≡ true = sym (given_under p t) ∙ y in
      let given : Given (place_base p) w = given_some (place_base p) w yes in
      let units : argument_of w ≡ ends given.lead given.last = ap argument_of (sym given.bytes) ∙ argument_back given.lead given.last in
      answer_found p w given.lead given.last q yes units (found (place_value p) given.lead given.last (place_holds p t) given.bytes)

  pub row_wrong : {f : Refusal} → f ≡ refusal wrong_argument 0 → g ≡ false → IsAnswer rec row i w (Err f)
  row_wrong s y p t = let no : is_given (place_base p) w ≡ false = sym (given_under p t) ∙ y in rw (s, no)

-- ---- the record

no_argument : (v : List Element) → sum (map terms v) ≡ 0 → is_nil v ≡ true
no_argument [] h = refl
no_argument (e ∷ es) h = absurd (omega (arith, terms_pos e))

some_argument : (v : List Element) → (sum (map terms v) ≡ 0 → ⊥) → is_nil v ≡ false
some_argument [] h = absurd (h refl)
some_argument (e ∷ es) h = refl

arguments_are : (p : Place) → arguments_of p ≡ sum (map terms (place_value p))
arguments_are (place b nm v) = refl

nth_is : (c : Command) (n : ℕ) → place_of c n ≡ get_or (places_in c) n (place keys [] [])
nth_is (command c bs) n = refl

places_are : (c : Command) → all_places (blocks_of c) ≡ places_in c
places_are (command c bs) = refl

pub member_bad : (rec row w : List ℕ) (place' : ℕ) {r : Option Judged} → r ≡ None → Judges (record_of rec) (replicate row_length 0) row r → Locates rec place' w (Err (refusal not_well_formed 0))
unfolding locating
member_bad rec row w place' e j = let h : record_of rec ≡ bad not_well_formed 0 = subst (Judges (record_of rec) (replicate row_length 0) row) e j in rw h

module _ (rec row w : List ℕ) (m : ℕ) {r : Option Judged} {x : Judged} (e : r ≡ Some x) (j : Judges (record_of rec) (replicate row_length 0) row r) where
  abbrev n : ℕ
  n = x.places

  abbrev tree : Command
  tree = (judged rec row e j).tree

  abbrev asked : Place
  asked = place_of tree m

  -- no such place
  pub member_none : n ≤ m → Locates rec m w (Err (refusal no_such_place m))
  unfolding locating
  member_none h =
      let few : length (places_in tree) ≤ m = omega (arith, (judged rec row e j).places, ap length (places_are tree)) in
      let none' : place_value asked ≡ [] = ap place_value (nth_is tree m ∙ get_or-eq_default (places_in tree) (place keys [] []) few) in
      rw ((judged rec row e j).is, none')

  abbrev body : List ℕ
  body = part rec head_size

  abbrev told_row : List ℕ
  told_row = take (per_place * n) row

  module _ (h : m < n) where
    there : NthPlace body 0 told_row (3 * m) asked
    there =
        let inside : m < length (places_in tree) = omega (arith, (judged rec row e j).places, ap length (places_are tree)) in
        let stand : PlacesAt body 0 told_row (places_in tree) = subst (λ (l : List ℕ). PlacesAt body 0 l (places_in tree)) (sym ((judged rec row e j).told (omega arith))) (told_places body tree (body_judged rec row e j)) in
        subst (NthPlace body 0 told_row (3 * m)) (sym (nth_is tree m)) (nth_place body m 0 told_row (places_in tree) (place keys [] []) stand inside)

    number_is : get_or row (3 * m) 0 ≡ sum (map terms (place_value asked))
    number_is = sym (get_or-take (per_place * n) row (3 * m) 0 (omega arith)) ∙ there.number ∙ arguments_are asked

    -- an omitted one
    pub member_omitted : {f : Refusal} → f ≡ refusal no_such_place m → get_or row (3 * m) 0 ≡ 0 → Locates rec m w (Err f)
    unfolding locating
    member_omitted s z = rw (s, (judged rec row e j).is, no_argument (place_value asked) (sym number_is ∙ z))

    pub member_room : 3 * m < row_length
    member_room = omega (arith, (judged rec row e j).few)

    pub member_row : InRow body told_row (3 * m)
    member_row = record { p = asked; stands = there.stands; room = omega (arith, judged_cut rec row e j) }

    pub member_answer : {a : Answer} → (get_or row (3 * m) 0 ≡ 0 → ⊥) → IsAnswer body told_row (3 * m) w a → Locates rec m w a
    unfolding locating
    member_answer z a = a asked there.stands ∙ rw ((judged rec row e j).is, some_argument (place_value asked) (λ q. z (number_is ∙ q)))
