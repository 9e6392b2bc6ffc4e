-- A value from the front: each turn of the loop over elements reads one more that joins those before.
use mathlib.Core.Path.{◌≡◌, refl, sym, ap, ◌∙◌}
use mathlib.Core.Bool.{Bool, true, false}
use mathlib.Core.List.{List, [], ◌∷◌, ◌++◌, map}
use mathlib.Core.Option.{none, some}
use Prim.Native.Nat.{ℕ, suc, ◌+◌, ◌-◌, ◌≤◌}
use native.Mathlib.Omega.{arith}
use lib.ListN.{length, drop}
use Rattle.rules.specs.Units.{Base}
use Rattle.rules.specs.Commands.{Element, terms, sum}
use Rattle.rules.specs.Records.{is_element}
use Rattle.record_walk.specs.Fronts.{head_tag, before, several}
use Rattle.record_walk.proofs.FrontLaws.{before_nil, going_end, going_full, going_bad, going_more}
use Rattle.judge_value.specs.Elements.{joins, joining, next_element, behind, value}
use Rattle.judge_value.proofs.ValueBytes.{state, joins_sum}
use Rattle.judge_value.specs.Judging.{ElementIs, IsElement, ValueIs}
use Rattle.std.specs.Prelude.{None}

sum_snoc : (es : List Element) (e : Element) → sum (map terms (es ++ (e ∷ []))) ≡ sum (map terms es) + terms e
sum_snoc [] e = omega arith
sum_snoc (x ∷ es) e = omega (arith, sum_snoc es e)

pub joined_few : (k a n more : ℕ) {g : Bool} → g ≡ joins k a n (more + 1) → g ≡ true → a + (more + 1) ≤ 4096
joined_few k a n more p f = joins_sum k a n (more + 1) (sym p ∙ f)

-- `done` was read up to `at`, at most `left` more may stand there
pub record ValueRead (b : Base) (rec : List ℕ) (from at left k a : ℕ) : Type 0 where
  pub done : List Element
  pub is : value b (drop from rec) ≡ before done (several is_element next_element behind left (state b k a) (drop at rec))
  pub inside : at ≤ length rec
  pub counted : a ≡ sum (map terms done)
  pub few : a ≤ 4096

pub value_none : (b : Base) (rec : List ℕ) (from : ℕ) → from ≤ length rec → ValueRead b rec from from 64 0 0
value_none b rec from h = record { done = []; is = before_nil (value b (drop from rec)); inside = h; counted = refl; few = omega arith }

module _ {b : Base} {rec : List ℕ} {from at left k a t : ℕ} {y : Bool} (v : ValueRead b rec from at left k a) (e : t ≡ head_tag (drop at rec)) (q : y ≡ is_element t) where
  pub tag_is : {z : Bool} → y ≡ z → is_element (head_tag (drop at rec)) ≡ z
  tag_is h = ap is_element (sym e) ∙ sym q ∙ h

  pub value_end : y ≡ false → ValueIs b rec from a at
  value_end h =
      record {
        v = v.done;
        is = going_end is_element next_element behind v.done left (state b k a) (drop at rec) v.is e (sym q ∙ h);
        inside = v.inside;
        arguments = v.counted;
        few = v.few;
      }

  pub value_full : y ≡ true → left ≡ 0 → value b (drop from rec) ≡ none
  value_full h z = going_full is_element next_element behind v.done left (state b k a) (drop at rec) v.is e (sym q ∙ h) z

  bad_here : y ≡ true → (left ≡ 0 → ⊥) → next_element (state b k a) (drop at rec) ≡ none → value b (drop from rec) ≡ none
  bad_here h z n = going_bad is_element next_element behind v.done left (state b k a) (drop at rec) v.is e (sym q ∙ h) z n

  pub value_bad : y ≡ true → (left ≡ 0 → ⊥) → IsElement b rec at None → value b (drop from rec) ≡ none
  unfolding next_element
  value_bad h z i = bad_here h z (rw i)

  module _ {n more j : ℕ} {g : Bool} (d : ElementIs b rec at n more j) (p : g ≡ joins k a n (more + 1)) where
    joining_is : joining (state b k a) d.e ≡ g
    joining_is = rw (← d.units, d.counts) (sym p)

    pub value_apart : y ≡ true → (left ≡ 0 → ⊥) → g ≡ false → value b (drop from rec) ≡ none
    unfolding next_element
    value_apart h z f = bad_here h z (rw (d.is, joining_is, f))

    next_is_lem : g ≡ true → next_element (state b k a) (drop at rec) ≡ some (d.e, drop j rec)
    unfolding next_element
    next_is_lem f = rw (d.is, joining_is, f)

    behind_is : behind (state b k a) d.e ≡ state b n (a + more + 1)
    behind_is =
        let s : a + terms d.e ≡ a + more + 1 = omega (arith, d.counts) in
        rw (← d.units, s)

    pub value_more : y ≡ true → (left ≡ 0 → ⊥) → g ≡ true → ValueRead b rec from j (left - 1) n (a + more + 1)
    value_more h z f =
        let one_less : left ≡ suc (left - 1) = omega arith in
        record {
          done = v.done ++ (d.e ∷ []);
          is = rw behind_is at (going_more is_element next_element behind v.done left (state b k a) (drop at rec) v.is e (sym q ∙ h) one_less (next_is_lem f));
          inside = d.inside;
          counted = omega (arith, v.counted, sum_snoc v.done d.e, d.counts);
          few = omega (arith, joined_few k a n more p f);
        }
