-- Elements that stand in a record one behind the other: the first ends where its last unit does, since no unit stands behind, and the others stand from there on.
use mathlib.Core.Path.{◌≡◌, refl, sym, ap, ◌∙◌}
use mathlib.Core.Bool.{true, false, false≢true}
use mathlib.Core.List.{List, [], ◌∷◌, ◌++◌}
use Prim.Native.Nat.{ℕ, ◌+◌, ◌-◌, ◌≤◌, ◌<◌}
use native.Mathlib.Omega.{arith}
use borrow.Author.Tests.{le-leb, leb-true}
use lib.Dec.{leb}
use lib.ListN.{length, take, drop, length-append}
use lib.Seq.{take_at}
use Rattle.laws.specs.Cases.{by_bool, and_l, and_r}
use Rattle.laws.specs.Lists.{all}
use Rattle.rules.specs.Characters.{between}
use Rattle.rules.specs.Commands.{Element, single, range}
use Rattle.rules.specs.Records.{bytes_of, many, element_fields, single_tag, string_tag, is_unit}
use Rattle.rules.specs.WellFormed.{wf_element}
use Rattle.rules.proofs.FieldLaws.{bytes_append, bytes_cons}
use Rattle.record_walk.specs.Fronts.{tag_of}
use Rattle.record_walk.specs.Runs.{Whole, ElementTo, bytes_in}
use Rattle.record_walk.specs.Values.{value_bytes, Holds, Value}
use Rattle.record_walk.proofs.RunLaws.{drop_behind}

-- ---- what stands behind an element

not_unit : (t : ℕ) → between single_tag string_tag t ≡ false → is_unit t ≡ false
not_unit t h =
    by_bool (is_unit t)
    (λ y.
    let low : 7 ≤ t = leb-true 7 t (and_l (leb 7 t) (leb t 11) y) in
    let high : leb t 11 ≡ true = and_r (leb 7 t) (leb t 11) y in
    absurd (false≢true (sym h ∙ rw (le-leb 5 t (omega arith), high))))
    (λ y. y)

pub no_unit_behind : (es : List Element) (rest : List ℕ) → between single_tag string_tag (tag_of rest) ≡ false → is_unit (tag_of (bytes_of (many element_fields es) ++ rest)) ≡ false
no_unit_behind [] rest h = not_unit (tag_of rest) h
no_unit_behind (single l u ∷ es) rest h = refl
no_unit_behind (range l r lo up inc ∷ es) rest h = refl

-- ---- elements that stand in a record

-- an element has bytes
pub element_some : (e : Element) → 0 < length (bytes_of (element_fields e))
element_some (single l u) = omega arith
element_some (range l r lo up inc) = omega arith

pub value_cons : (e : Element) (es : List Element) → length (value_bytes (e ∷ es)) ≡ length (bytes_of (element_fields e)) + length (value_bytes es)
value_cons e es = ap length (bytes_append (element_fields e) (many element_fields es)) ∙ length-append (bytes_of (element_fields e)) (value_bytes es)

pub holds_whole : {rec : List ℕ} {from to : ℕ} {es : List Element} → Holds rec from to es → Whole rec from
holds_whole {es = es} h = record {
  fs = many element_fields es ++ h.rest;
  is = h.stands ∙ sym (bytes_append (many element_fields es) h.rest);
  inside = omega (arith, h.ends, h.inside);
}

pub value_whole : {rec : List ℕ} {from to : ℕ} → Value rec from to → Whole rec from
value_whole v = holds_whole v.holds

module _ {rec : List ℕ} {from to end : ℕ} (e : Element) (es : List Element) (h : Holds rec from to (e ∷ es)) (q : end ≡ from + length (bytes_of (element_fields e))) where
  abbrev own : List ℕ
  own = bytes_of (element_fields e)

  from_on : drop from rec ≡ own ++ (value_bytes es ++ bytes_of h.rest)
  from_on = h.stands ∙ bytes_cons element_fields e es (bytes_of h.rest)

  -- the first element's own bytes
  pub first_bytes : bytes_in rec from end ≡ own
  first_bytes = ap (take (end - from)) from_on ∙ take_at own (value_bytes es ++ bytes_of h.rest) (end - from) (omega arith)

  -- and the others behind it
  pub behind_first : Holds rec end to es
  behind_first = record {
    base = h.base;
    lead = h.lead;
    rest = h.rest;
    stands = ap (λ (n : ℕ). drop n rec) q ∙ drop_behind rec from own (value_bytes es ++ bytes_of h.rest) from_on;
    ends = omega (arith, h.ends, value_cons e es);
    inside = h.inside;
    fine = and_r (wf_element h.base h.lead e) (all (wf_element h.base h.lead) es) h.fine;
    low = h.low;
  }

  pub fine_first : wf_element h.base h.lead e ≡ true
  fine_first = and_l (wf_element h.base h.lead e) (all (wf_element h.base h.lead) es) h.fine

-- where the element's end was found
pub end_is : {rec : List ℕ} {from to end : ℕ} (e : Element) (es : List Element) (h : Holds rec from to (e ∷ es)) → ElementTo rec from end
    → end ≡ from + length (bytes_of (element_fields e))
end_is e es h t =
    t.is e (value_bytes es ++ bytes_of h.rest) (h.stands ∙ bytes_cons element_fields e es (bytes_of h.rest)) (no_unit_behind es (bytes_of h.rest) h.low)

-- it ends behind its beginning, and not behind the value
pub element_on : {rec : List ℕ} {from to end : ℕ} → Value rec from to → from < to → ElementTo rec from end → (from < end) × (end ≤ to)
element_on {rec} {from} {to} {end} v lt t = go v.elements v.holds
  where
    go : (es : List Element) → Holds rec from to es → (from < end) × (end ≤ to)
    go [] h = absurd (omega (arith, h.ends))
    go (e ∷ es) h =
        let q : end ≡ from + length (bytes_of (element_fields e)) = end_is e es h t in
        (omega (arith, element_some e), omega (arith, h.ends, value_cons e es))
