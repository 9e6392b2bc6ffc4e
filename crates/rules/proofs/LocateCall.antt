-- M-107: the call answers the first index in the written-out list of the place, and refuses with 18, 26 and 27 in this order: an argument's fields give its units back, so bytes are
-- taken for an argument exactly where they are the fields of one that could stand there.
use Prim.Native.Nat.{ℕ, zero, suc, ◌≤◌, ◌<◌}
use mathlib.Core.Path.{◌≡◌, refl, sym, ap, ◌∙◌, subst}
use mathlib.Core.Bool.{Bool, true, false, false≢true}
use mathlib.Core.List.{List, [], ◌∷◌, ◌++◌, map}
use mathlib.Core.Option.{Option, none, some}
use native.Mathlib.Omega.{arith}
use lib.Dec.{leb}
use lib.ListN.{length, get_or, get_or-eq_default}
use lib.Seq.{get_or-append_seam}
use borrow.Author.Tests.{eq-eqb}
use Rattle.laws.specs.Cases.{by_bool, by_option, and_l, and_r, conjuncts}
use Rattle.laws.specs.Lists.{all, all_append, all_mono, eq_l, is_nil, eq_l_is, eq_l_refl}
use Rattle.rules.specs.Refusals.{ok, bad, no_such_place, wrong_argument, most_leading, most_arguments}
use Rattle.rules.specs.Units.{Base, keys, Unit}
use Rattle.rules.specs.Commands.{Element, single, Place, place, Block, block, Command, command, place_base, place_value, value_count, all_places}
use Rattle.rules.specs.Records.{Field, field, field_bytes, unit_field, Ends, ends, empty}
use Rattle.rules.specs.WellFormed.{wf_unit, wf_element, wf_value, wf_place, wf_block, well_formed, record_of}
use Rattle.rules.specs.Answers.{locating}
use Rattle.rules.specs.Positions.{place_of, unit_bytes, cons_unit, field_units, argument_of, could_stand, are_given, is_given, position_of, answer_of, located, written_out, is_argument, first_in, IsFirst, IsNowhere}
use Rattle.rules.proofs.CommandBack.{c_blocks}
use Rattle.rules.proofs.DecodeEncode.{cut_all, last_split_lem, place_value_lem}
use Rattle.rules.proofs.EncodeDecode.{record_is}
use Rattle.rules.proofs.FirstPosition.{is_nowhere, nowhere_is, first_is, is_first, first_position, position_below}
use Rattle.rules.proofs.Names.{block_places}
use Rattle.rules.proofs.ResultLaws.{ok_inj}
use Rattle.rules.proofs.ValueBack.{field_unit, field_unit_lem, ok_lead, ok_last, v_all, v_lead}

-- ---- an argument's fields give its units back

unit_back : (u : Unit) (fs : List Field) → field_units (unit_field u ∷ fs) ≡ cons_unit (some u) (field_units fs)
unit_back u fs = step (unit_field u) (field_unit_lem u)
  where
    step : (f : Field) → field_unit (field_bytes f) ≡ some u → field_units (f ∷ fs) ≡ cons_unit (some u) (field_units fs)
    step (field t w) h = ap (λ o. cons_unit o (field_units fs)) h

units_back : (us : List Unit) → field_units (map unit_field us) ≡ some us
units_back [] = refl
units_back (u ∷ us) = unit_back u (map unit_field us) ∙ rw (units_back us)

pub argument_back : (l : List Unit) (u : Unit) → argument_of (unit_bytes l u) ≡ ends l u
argument_back l u =
    let us : List Unit = l ++ (u ∷ []) in
    rw (cut_all (map unit_field us), units_back us) (last_split_lem l u)

-- ---- "1 to 4 unit fields that could stand under that place's base"

-- the bytes are those of an argument's unit fields that could stand under the base
pub record Given (b : Base) (w : List ℕ) : Type 0 where
  pub lead : List Unit
  pub last : Unit
  pub could : could_stand b lead last ≡ true
  pub bytes : unit_bytes lead last ≡ w

pub given_is : (b : Base) (w : List ℕ) (e : Ends) → are_given b w e ≡ true → Given b w
given_is b w empty h = absurd (false≢true h)
given_is b w (ends l u) h =
    record {
      lead = l;
      last = u;
      could = and_l (could_stand b l u) (eq_l (unit_bytes l u) w) h;
      bytes = eq_l_is (unit_bytes l u) w (and_r (could_stand b l u) (eq_l (unit_bytes l u) w) h);
    }

pub given_some : (b : Base) (w : List ℕ) → is_given b w ≡ true → Given b w
given_some b w h = given_is b w (argument_of w) h

pub given_units : (b : Base) (l : List Unit) (u : Unit) → could_stand b l u ≡ true → is_given b (unit_bytes l u) ≡ true
given_units b l u s = rw (argument_back l u, s) (eq_l_refl (unit_bytes l u))

pub given_back : (b : Base) (w : List ℕ) → Given b w → is_given b w ≡ true
given_back b w g = subst (λ x. is_given b x ≡ true) g.bytes (given_units b g.lead g.last g.could)

-- a value of this argument alone is well formed
pub could_stand_lem : (b : Base) (l : List Unit) (u : Unit)
    → (could_stand b l u ≡ true → wf_value b (single l u ∷ []) ≡ true) × (wf_value b (single l u ∷ []) ≡ true → could_stand b l u ≡ true)
could_stand_lem b l u = (there, back)
  where
    there : could_stand b l u ≡ true → wf_value b (single l u ∷ []) ≡ true
    there h =
        let few : leb (length l) most_leading ≡ true = search conjuncts in
        let lead : all (wf_unit b) l ≡ true = search conjuncts in
        let last : wf_unit b u ≡ true = search conjuncts in
        rw (few, eq-eqb (length l) (length l) refl, lead, last)

    back : wf_value b (single l u ∷ []) ≡ true → could_stand b l u ≡ true
    back h =
        let e : Element = single l u in
        let fits : wf_element b (length l) e ≡ true = and_l (wf_element b (length l) e) true (v_all b e [] h) in
        rw (v_lead b e [] h, ok_lead b (length l) e fits, ok_last b (length l) e fits)

-- ---- "Places .. count from 0"

module _ (code : List (List ℕ)) (bs : List Block) where
  pub place_at : (before : List Place) (p : Place) (behind : List Place) → all_places bs ≡ before ++ (p ∷ behind) → place_of (command code bs) (length before) ≡ p
  place_at before p behind e = rw e (get_or-append_seam before p behind (place keys [] []))

  pub no_place_at : (n : ℕ) → length (all_places bs) ≤ n → place_value (place_of (command code bs) n) ≡ []
  no_place_at n h = ap place_value (get_or-eq_default (all_places bs) (place keys [] []) h)

-- ---- a place's value is well formed under its base

abbrev fine : Place → Bool
fine p = wf_value (place_base p) (place_value p)

place_fine : (k : Bool) (p : Place) → wf_place k p ≡ true → fine p ≡ true
place_fine k (place b nm v) h = place_value_lem k b nm v h

blocks_fine : (bs : List Block) → all wf_block bs ≡ true → all fine (all_places bs) ≡ true
blocks_fine [] h = refl
blocks_fine (block k ps ∷ bs) h =
    all_append fine ps (all_places bs) (all_mono (wf_place k) fine (place_fine k) ps (block_places k ps (search conjuncts))) (blocks_fine bs (search conjuncts))

places_fine : (ps : List Place) (n : ℕ) → all fine ps ≡ true → fine (get_or ps n (place keys [] [])) ≡ true
places_fine [] n h = refl
places_fine (p ∷ ps) zero h = search conjuncts
places_fine (p ∷ ps) (suc n) h = places_fine ps n (search conjuncts)

pub value_fine : (c : Command) (n : ℕ) → well_formed c ≡ true → wf_value (place_base (place_of c n)) (place_value (place_of c n)) ≡ true
value_fine (command c bs) n h = places_fine (all_places bs) n (blocks_fine bs (c_blocks c bs h))

-- ---- the call

-- 0, or 1 and a position below the number of arguments
pub located_most : (b : Base) (v : List Element) (e : Ends) → wf_value b v ≡ true → located v e ≤ most_arguments
located_most b v empty h = omega arith
located_most b v (ends l u) h =
    by_option (position_of v l u)
    (λ q. rw q (omega arith))
    (λ k q. let few : (k < value_count v) × (value_count v ≤ most_arguments) = position_below b v l u k h q in rw q (omega (arith, few.0, few.1)))

pub answer_none : (o : Option ℕ) → answer_of o ≡ 0 → o ≡ none
answer_none none h = refl
answer_none (some k) h = absurd (omega arith)

answer_some : (o : Option ℕ) (k : ℕ) → answer_of o ≡ suc k → o ≡ some k
answer_some none k h = absurd (omega arith)
answer_some (some j) k h = let z : j ≡ k = omega arith in ap some z

module _ (r : List ℕ) (n : ℕ) where
  pub not_found : (w : List ℕ) (nr p : ℕ) → record_of r ≡ bad nr p → locating r n w ≡ bad nr p
  unfolding locating
  not_found w nr p h = rw h

  module _ (c : Command) (h : record_of r ≡ ok c) where
    pub no_place : (w : List ℕ) → is_nil (place_value (place_of c n)) ≡ true → locating r n w ≡ bad no_such_place n
    unfolding locating
    no_place w z = rw h (rw z)

    module _ (z : is_nil (place_value (place_of c n)) ≡ false) where
      pub no_argument : (w : List ℕ) → (Given (place_base (place_of c n)) w → ⊥) → locating r n w ≡ bad wrong_argument 0
      unfolding locating
      no_argument w none' =
          let b : Base = place_base (place_of c n) in
          by_bool (is_given b w) (λ y. absurd (none' (given_some b w y))) (λ y. rw h (rw (z, y)))

      module _ (l : List Unit) (u : Unit) (s : could_stand (place_base (place_of c n)) l u ≡ true) where
        pub found : locating r n (unit_bytes l u) ≡ ok (answer_of (first_in (is_argument l u) (written_out (place_value (place_of c n)))))
        unfolding locating
        found =
            let v : List Element = place_value (place_of c n) in
            let first : position_of v l u ≡ first_in (is_argument l u) (written_out v) =
            first_position (place_base (place_of c n)) v l u (value_fine c n (record_is r c h).well) in
            rw h (rw (z, argument_back l u, s, eq_l_refl (unit_bytes l u), first))

        -- yes k exactly where k is the first index, and no exactly where there is none
        pub found_first : (k : ℕ) → locating r n (unit_bytes l u) ≡ ok (suc k) → IsFirst (is_argument l u) (written_out (place_value (place_of c n))) k
        found_first k e =
            let all' : List Element = written_out (place_value (place_of c n)) in
            is_first (is_argument l u) all' k (answer_some (first_in (is_argument l u) all') k (ok_inj (sym found ∙ e)))

        pub first_found : (k : ℕ) → IsFirst (is_argument l u) (written_out (place_value (place_of c n))) k → locating r n (unit_bytes l u) ≡ ok (suc k)
        first_found k f = found ∙ ap (λ o. ok (answer_of o)) (first_is (is_argument l u) (written_out (place_value (place_of c n))) k f)

        pub found_nowhere : locating r n (unit_bytes l u) ≡ ok 0 → IsNowhere (is_argument l u) (written_out (place_value (place_of c n)))
        found_nowhere e =
            let all' : List Element = written_out (place_value (place_of c n)) in
            is_nowhere (is_argument l u) all' (answer_none (first_in (is_argument l u) all') (ok_inj (sym found ∙ e)))

        pub nowhere_found : IsNowhere (is_argument l u) (written_out (place_value (place_of c n))) → locating r n (unit_bytes l u) ≡ ok 0
        nowhere_found f = found ∙ ap (λ o. ok (answer_of o)) (nowhere_is (is_argument l u) (written_out (place_value (place_of c n))) f)
