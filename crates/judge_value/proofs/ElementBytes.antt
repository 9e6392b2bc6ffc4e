-- Units and elements that were read from the front of bytes are written to the same bytes again, and well-formed ones are read back from their fields.
use mathlib.Core.Path.{◌≡◌, refl, sym, ap, ap₂, ◌∙◌, subst}
use mathlib.Core.Bool.{true, false, cond, ◌&&◌, false≢true, not}
use mathlib.Core.List.{List, [], ◌∷◌, ◌++◌, map}
use mathlib.Core.Option.{none, some}
use Prim.Native.Nat.{ℕ, ◌/◌, ◌%◌, ◌≤◌}
use native.Mathlib.Omega.{arith}
use borrow.Author.Tests.{eqb-true, eq-eqb, le-leb}
use lib.Dec.{leb, eqb}
use lib.ListN.{length, get_or, length-append}
use Rattle.laws.specs.Cases.{by_bool, none≢some, cond_some, and_l, and_r}
use Rattle.laws.specs.Lists.{all, is_nil, all_append, all_front, all_last}
use Rattle.rules.specs.Units.{Radix, Base, plain, Unit, num, keyed, identifier, symbolic, text, allowed}
use Rattle.rules.specs.Commands.{Element, single, range, leading}
use Rattle.rules.specs.Records.{Field, field, is_unit, is_element, four_bytes, unit_field, element_fields, field_bytes, bytes_of, num4, Ends, ends, empty, cons_ends, last_split, single_of, range_of, element_of}
use Rattle.rules.specs.WellFormed.{wf_unit, wf_element}
use Rattle.rules.proofs.DecodeEncode.{four, value_small, last_split_lem}
use Rattle.rules.proofs.ValueBack.{ok_lead, ok_last, ok_range}
use Rattle.record_walk.specs.Fields.{fits}
use Rattle.record_walk.specs.Fronts.{and_then, made, head_tag, front}
use Rattle.record_walk.proofs.FrontLaws.{then_some, only_some, made_some, Small, small_behind, small_front, cut_is, front_is, front_field, goods, several_is, several_all}
use Rattle.judge_value.specs.Elements.{units, element_in, in_order, element, same_base, few_units}
use Rattle.judge_unit.proofs.UnitLaws.{small_number}
use Rattle.judge_unit.proofs.UnitBytes.{listed_is, unit_fields, unit_is, unit_back, unit_opens}
use Rattle.judge_value.proofs.UnitsLaws.{snoc_some}
use Rattle.rules.proofs.FieldLaws.{four_bytes_lem, many_map}
use Rattle.judge_unit.specs.Units.{unit}

-- ---- units

goods_all : (b : Base) (us : List Unit) → goods is_unit unit same_base wf_unit unit_fields b us ≡ all (wf_unit b) us
goods_all b [] = refl
goods_all b (u ∷ us) = ap (λ t. wf_unit b u && t) (goods_all b us)

pub record UnitsWrote (b : Base) (r : List ℕ) (us : List Unit) (r' : List ℕ) : Type 0 where
  pub well : all (wf_unit b) us ≡ true
  pub few : length us ≤ 4
  pub bytes : r ≡ bytes_of (map unit_field us) ++ r'

pub units_is : (b : Base) (r : List ℕ) (us : List Unit) (r' : List ℕ) → Small r → units b r ≡ some (us, r') → UnitsWrote b r us r'
units_is b r us r' s e =
    only_some (λ (x : List Unit). not (is_nil x)) (few_units b r) us r' e
    (λ _ k.
    let w = several_is is_unit unit same_base wf_unit unit_fields unit_is 4 b r us r' s k in
    record { well = sym (goods_all b us) ∙ w.well; few = w.few; bytes = w.bytes ∙ rw (many_map unit_field us) })

pub units_back : (b : Base) (us : List Unit) (rest : List ℕ) → all (wf_unit b) us ≡ true → length us ≤ 4 → is_nil us ≡ false → is_unit (head_tag rest) ≡ false
    → units b (bytes_of (map unit_field us) ++ rest) ≡ some (us, rest)
units_back b us rest h n l t =
    let back : few_units b (bytes_of (map unit_field us) ++ rest) ≡ some (us, rest) = rw (← many_map unit_field us)
    (several_all is_unit unit same_base wf_unit unit_fields (λ _. true) unit_back unit_opens (λ _ _. refl) us 4 b rest (goods_all b us ∙ h) n t refl) in
    rw (back, l)

ruleset parts = (and_l, and_r)

-- ---- leading units and the last

split_nil : (us : List Unit) → last_split us ≡ empty → us ≡ []
split_nil [] h = refl
split_nil (i ∷ is) h = go (last_split is) h
  where
    go : (o : Ends) → cons_ends i o ≡ empty → i ∷ is ≡ []
    go (ends l u) q = let z : ◌≡◌ {A = ℕ} 0 1 = cc in absurd (omega arith)
    go empty q = let z : ◌≡◌ {A = ℕ} 0 1 = cc in absurd (omega arith)

split_back : (us l : List Unit) (u : Unit) → last_split us ≡ ends l u → us ≡ l ++ (u ∷ [])
split_back [] l u h = let z : ◌≡◌ {A = ℕ} 0 1 = cc in absurd (omega arith)
split_back (i ∷ is) l u h = go (λ m v q. split_back is m v q) (last_split is) refl h
  where
    go : ((m : List Unit) (v : Unit) → last_split is ≡ ends m v → is ≡ m ++ (v ∷ [])) → (o : Ends) → last_split is ≡ o → cons_ends i o ≡ ends l u → i ∷ is ≡ l ++ (u ∷ [])
    go back (ends m v) q e =
        let el : i ∷ m ≡ l = cc in
        let eu : v ≡ u = cc in
        rw (← el, ← eu, back m v q)
    go back empty q e =
        let el : [] ≡ l = cc in
        let eu : i ≡ u = cc in
        rw (← el, ← eu, split_nil is q)

-- ---- what was read is written again

pub record ElementWrote (b : Base) (r : List ℕ) (e : Element) (r' : List ℕ) : Type 0 where
  pub well : wf_element b (length (leading e)) e ≡ true
  pub few : length (leading e) ≤ 3
  pub bytes : r ≡ bytes_of (element_fields e) ++ r'

module _ (b : Base) (w r₁ : List ℕ) (us : List Unit) (r' : List ℕ) (g : UnitsWrote b r₁ us r') where
  single_wrote : (l : List Unit) (u : Unit) → us ≡ l ++ (u ∷ []) → w ≡ [] → ElementWrote b (field_bytes (field 5 w) ++ r₁) (single l u) r'
  single_wrote l u q n =
      let a : all (wf_unit b) (l ++ (u ∷ [])) ≡ true = rw q at g.well in
      record {
        well = rw (eq-eqb (length l) (length l) refl, all_front (wf_unit b) l u a, all_last (wf_unit b) l u a);
        few = omega (arith, g.few, ap length q, length-append l (u ∷ []));
        bytes = rw (n, g.bytes, q);
      }

  ends_bytes : Small w → length w ≡ 8 → four_bytes (num4 w 0) ++ four_bytes (num4 w 4) ≡ w
  ends_bytes s h =
      ap₂ (λ (x y : List ℕ). x ++ y) (four_bytes_lem (get_or w 0 0) (get_or w 1 0) (get_or w 2 0) (get_or w 3 0) (s 1) (s 2) (s 3))
      (four_bytes_lem (get_or w 4 0) (get_or w 5 0) (get_or w 6 0) (get_or w 7 0) (s 5) (s 6) (s 7))
      ∙ sym (listed_is 8 w 0 (sym h))

  range_wrote : (l : List Unit) (ρ : Radix) (lo : ℕ) → Small w → us ≡ l ++ (num ρ 0 lo ∷ []) → length w ≡ 8 → leb lo (num4 w 0) && leb 1 (num4 w 4) ≡ true
      → ElementWrote b (field_bytes (field 6 w) ++ r₁) (range l ρ lo (num4 w 0) (num4 w 4)) r'
  range_wrote l ρ lo s q h o =
      let u : Unit = num ρ 0 lo in
      let a : all (wf_unit b) (l ++ (u ∷ [])) ≡ true = rw q at g.well in
      let wl : wf_unit b u ≡ true = all_last (wf_unit b) l u a in
      let al : allowed b (plain ρ) ≡ true = search parts in
      let v : leb lo 4294967295 ≡ true = search parts in
      record {
        well = rw (
          eq-eqb (length l) (length l) refl,
          all_front (wf_unit b) l u a,
          al,
          v,
          le-leb (num4 w 0) 4294967295 (small_number w 0 s),
          le-leb (num4 w 4) 4294967295 (small_number w 4 s),
          and_l (leb lo (num4 w 0)) (leb 1 (num4 w 4)) o,
          and_r (leb lo (num4 w 0)) (leb 1 (num4 w 4)) o,
        );
        few = omega (arith, g.few, ap length q, length-append l (u ∷ []));
        bytes = ap (λ (x : List ℕ). field_bytes (field 6 x) ++ r₁) (sym (ends_bytes s h)) ∙ rw (g.bytes, q);
      }

element_made : (b : Base) (t : ℕ) (w r₁ : List ℕ) (us : List Unit) (e : Element) (r' : List ℕ) → Small w → is_element t ≡ true → UnitsWrote b r₁ us r'
    → element_of t w (last_split us) ≡ some e → in_order e ≡ true → ElementWrote b (field_bytes (field t w) ++ r₁) e r'
element_made b t w r₁ us e r' s h g o y =
    by_bool (eqb t 5)
    (λ five. rw (eqb-true t 5 five) (singled (last_split us) refl (rw five at o)))
    (λ other. rw (eqb-true t 6 (rw other at h)) (by_bool (eqb (length w) 8)
    (λ eight. ranged (eqb-true (length w) 8 eight) (last_split us) refl (rw (other, eight) at o)) (λ n. none≢some (rw (other, n) at o))))
  where
    nil : (x : List ℕ) → is_nil x ≡ true → x ≡ []
    nil [] h = refl
    nil (c ∷ cs) h = absurd (false≢true h)

    singled : (z : Ends) → last_split us ≡ z → cond (is_nil w) (single_of z) none ≡ some e → ElementWrote b (field_bytes (field 5 w) ++ r₁) e r'
    singled (ends l u) q c = cond_some (is_nil w) (single l u) e c (λ n k. rw (← k) (single_wrote b w r₁ us r' g l u (split_back us l u q) (nil w n)))
    singled empty q c = by_bool (is_nil w) (λ n. none≢some (rw n at c)) (λ n. none≢some (rw n at c))

    ranged : length w ≡ 8 → (z : Ends) → last_split us ≡ z → range_of (num4 w 0) (num4 w 4) z ≡ some e → ElementWrote b (field_bytes (field 6 w) ++ r₁) e r'
    ranged n empty q c = none≢some c
    ranged n (ends l (num ρ f v)) q c =
        cond_some (eqb f 0) (range l ρ v (num4 w 0) (num4 w 4)) e c
        (λ z k. rw (← k) (range_wrote b w r₁ us r' g l ρ v s (split_back us l (num ρ f v) q ∙ rw (eqb-true f 0 z)) n (rw (← k) at y)))
    ranged n (ends l (keyed x)) q c = none≢some c
    ranged n (ends l (identifier x)) q c = none≢some c
    ranged n (ends l (symbolic x)) q c = none≢some c
    ranged n (ends l (text x)) q c = none≢some c

pub element_is : (b : Base) (r : List ℕ) (e : Element) (r' : List ℕ) → Small r → is_element (head_tag r) ≡ true → element b r ≡ some (e, r') → ElementWrote b r e r'
unfolding element
element_is b r e r' s h q =
    only_some in_order (and_then (front r) (λ f r₁. and_then (units b r₁) (λ us r₂. made (element_in f us) r₂))) e r' q
    (λ y g. then_some (front r) (λ f r₁. and_then (units b r₁) (λ us r₂. made (element_in f us) r₂)) (e, r') g
    (λ f r₁ c m. then_some (units b r₁) (λ us r₂. made (element_in f us) r₂) (e, r') m (λ us r₂ u o. whole f r₁ c us r₂ u y o)))
  where
    whole : (f : Field) (r₁ : List ℕ) → front r ≡ some (f, r₁) → (us : List Unit) (r₂ : List ℕ) → units b r₁ ≡ some (us, r₂) → in_order e ≡ true
        → made (element_in f us) r₂ ≡ some (e, r') → ElementWrote b r e r'
    whole (field t w) r₁ c us r₂ u y m =
        front_is r t w r₁ c
        (λ fit k₀.
        let k : r ≡ field_bytes (field t w) ++ r₁ = cut_is r (field t w) r₁ s k₀ in
        let head : List ℕ = t ∷ length w / 256 ∷ length w % 256 ∷ [] in
        let sb : Small (w ++ r₁) = small_behind head (w ++ r₁) (subst Small k s) in
        made_some (element_of t w (last_split us)) r₂ e r' m
        (λ o n. rw k (element_made b t w r₁ us e r' (small_front w r₁ sb) (rw k at h) (units_is b r₁ us r' (small_behind w r₁ sb) (u ∙ rw n)) o y)))

-- ---- what is well formed is read back

units_whole : (b : Base) (l : List Unit) (u : Unit) (rest : List ℕ) → all (wf_unit b) l ≡ true → wf_unit b u ≡ true → length l ≤ 3 → is_unit (head_tag rest) ≡ false
    → units b (bytes_of (map unit_field (l ++ (u ∷ []))) ++ rest) ≡ some (l ++ (u ∷ []), rest)
units_whole b l u rest hl hu n t =
    units_back b (l ++ (u ∷ [])) rest (all_append (wf_unit b) l (u ∷ []) hl (rw hu)) (omega (arith, length-append l (u ∷ []))) (snoc_some l u) t

pub element_back : (b : Base) (e : Element) (rest : List ℕ) → wf_element b (length (leading e)) e ≡ true → length (leading e) ≤ 3 → is_unit (head_tag rest) ≡ false
    → element b (bytes_of (element_fields e) ++ rest) ≡ some (e, rest)
unfolding element fits
element_back b (single l u) rest h n t =
    let e : Element = single l u in
    let r₁ : List ℕ = bytes_of (map unit_field (l ++ (u ∷ []))) ++ rest in
    rw (front_field 5 [] r₁ refl, units_whole b l u rest (ok_lead b (length l) e h) (ok_last b (length l) e h) n t, last_split_lem l u)
element_back b (range l ρ lo up inc) rest h n t =
    let e : Element = range l ρ lo up inc in
    let r₁ : List ℕ = bytes_of (map unit_field (l ++ (num ρ 0 lo ∷ []))) ++ rest in
    let w : List ℕ = four_bytes up ++ four_bytes inc in
    let k : wf_unit b (num ρ 0 up) && wf_unit b (num ρ 0 inc) && leb lo up && leb 1 inc ≡ true = ok_range b (length l) e h in
    let in_order_lem : leb lo up ≡ true = search parts in
    let some_step : leb 1 inc ≡ true = search parts in
    rw (
      front_field 6 w r₁ refl,
      units_whole b l (num ρ 0 lo) rest (ok_lead b (length l) e h) (ok_last b (length l) e h) n t,
      last_split_lem l (num ρ 0 lo),
      four up (value_small b ρ 0 up (search parts)),
      four inc (value_small b ρ 0 inc (search parts)),
      in_order_lem,
      some_step,
    )
