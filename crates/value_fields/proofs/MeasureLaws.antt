-- Measuring: the length of what is done, unit by unit and element by element, until nothing is left.
use Prim.Native.Nat.{ℕ, ◌+◌, ◌-◌, ◌*◌, ◌≤◌, ◌<◌}
use mathlib.Core.Path.{◌≡◌, refl, sym, ◌∙◌, ap}
use mathlib.Core.Bool.{cond}
use mathlib.Core.List.{List, [], ◌∷◌, ◌++◌}
use native.Mathlib.Omega.{arith}
use native.Mathlib.Numerals.{add-one}
use mir.Syntax.{w64}
use mir.Val.{Fits}
use lib.Dec.{eqb}
use lib.ListN.{length, length-append}
use Rattle.rules.specs.Commands.{Element}
use Rattle.rules.specs.Records.{bytes_of, element_fields}
use Rattle.rules.specs.Tokens.{sep_code, amp_}
use Rattle.read_joins.specs.Joins.{joins_in, count, sep_kind}
use Rattle.read_joins.specs.Answers.{next_of, ArgEnd}
use Rattle.read_joins.specs.declared.Shape.{Shape}
use Rattle.read_elements.specs.Shapes.{Later}
use Rattle.std.proofs.Common.{Result, Ok}
use Rattle.rules.specs.declared.Refusal.{Refusal}
use Rattle.token_table.specs.declared.Token.{Token as Entry}
use Rattle.read_elements.proofs.EachLaws.{Between}
use Rattle.read_value.specs.Passes.{Faultless}
use Rattle.value_fields.specs.Measure.{bytes_at, bytes_from, head_bytes, element_bytes, ValueLen}
use Rattle.value_fields.proofs.TurnLaws.{value_bytes, value_snoc, one_bytes, met_none, met_all, met}

-- ---- units

module _ (l : ℕ) (cs : List ℕ) (ts : List Entry) (n : ℕ) where
  pub units_none : 0 ≡ length (bytes_from l cs ts n 0)
  unfolding bytes_from
  units_none = refl

  module _ (i : ℕ) {total : ℕ} (e : total ≡ length (bytes_from l cs ts n i)) where
    pub units_more : {x : ℕ} → x ≡ length (bytes_at l cs ts (n + i)) → total + x ≡ length (bytes_from l cs ts n (i + 1))
    unfolding bytes_from
    units_more g = rw (add-one i, length-append, ← e, ← g)

    pub units_all : (m : ℕ) → i ≤ m → m ≤ i → total ≡ length (bytes_from l cs ts n m)
    units_all m h g = let z : m ≡ i = omega arith in rw (z, e)

-- ---- an element

module _ (l : ℕ) (cs : List ℕ) (ts : List Entry) (x : Shape) (f k m : ℕ) where
  pub element_len : length (element_bytes l cs ts x f k m) ≡ length (head_bytes x) + length (bytes_from l cs ts f k) + length (bytes_at l cs ts m)
  unfolding element_bytes
  element_len = rw (length-append, length-append)

  -- the three lengths together
  module _ {p q r : ℕ} (ep : p ≡ length (head_bytes x)) (eq : q ≡ length (bytes_from l cs ts f k)) (er : r ≡ length (bytes_at l cs ts m)) where
    pub sum_len : p + q + r ≡ length (element_bytes l cs ts x f k m)
    sum_len = omega (arith, element_len)

-- ---- the elements

-- a value of one unit
module _ (l : ℕ) (cs : List ℕ) (ts : List Entry) {r : ℕ} (q : r ≡ length (bytes_at l cs ts 0)) where
  pub one_len : length ts ≡ 1 → ValueLen ts cs l (3 + r)
  one_len h b e es own g = rw (one_bytes l cs ts h b e es own g, q) (omega arith)

pub record Measuring (l : ℕ) (cs : List ℕ) (ts : List Entry) (k n f total : ℕ) : Type 0 where
  pub done : List Element
  pub between : Between (joins_in l cs ts) k done n f
  pub is : total ≡ length (value_bytes done)
  pub small : total ≤ length done * 300000

module _ (l : ℕ) (cs : List ℕ) (ts : List Entry) (v : Faultless ts cs l) where
  pub measuring_none : {q : ℕ} → ArgEnd ts 1 q → Measuring l cs ts (q - 1) 0 0 0
  measuring_none a = record { done = []; between = met_none l cs ts v a; is = refl; small = omega arith }

  module _ {k n f total m : ℕ} (w : Measuring l cs ts k n f total) (c : m ≡ count ts) where
    pub measuring_end : m ≤ n → ValueLen ts cs l total
    measuring_end h b p es own g = w.is ∙ ap (λ x. length (value_bytes x)) (met_all l cs ts w.between c h b p es own g)

    module _ {r : Result Shape Refusal} {x : Shape} {kd f' la z : ℕ} (h : n < m) (y : Later (joins_in l cs ts) k n r) (u : r ≡ Ok x) (ek : kd ≡ sep_kind ts n)
        (ef : f' ≡ cond (eqb kd (sep_code amp_)) f n) (ea : la ≡ cond (eqb kd (sep_code amp_)) n (n + k)) (ez : z ≡ length (element_bytes l cs ts x f' k la)) (sz : z ≤ 300000) where
      pub measuring_fits : Fits w64 (total + z)
      measuring_fits =
          let t = met l cs ts w.between c v h y u ek ef ea in
          omega (arith, w.small, t.few)

      pub measuring_more : {nx : ℕ} → nx ≡ next_of x → Measuring l cs ts k nx f' (total + z)
      measuring_more q =
          let t = met l cs ts w.between c v h y u ek ef ea in
          let d = w.done in
          let o = length-append (value_bytes d) (bytes_of (element_fields t.el)) in
          let r : length (value_bytes (d ++ (t.el ∷ []))) ≡ total + z = rw (value_snoc d t.el, ez, t.bytes) (omega (arith, w.is)) in
          record {
            done = d ++ (t.el ∷ []);
            between = rw q t.then;
            is = sym r;
            small = omega (arith, w.small, length-append d (t.el ∷ []));
          }
