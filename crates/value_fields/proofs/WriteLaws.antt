-- Writing: what is written stands over the start of the buffer, and what comes next is written behind it, until nothing is left.
use Prim.Native.Nat.{ℕ, zero, suc, ◌+◌, ◌-◌, ◌^◌, ◌≤◌, ◌<◌}
use mathlib.Core.Path.{◌≡◌, refl, sym, ◌∙◌, ap}
use mathlib.Core.Bool.{cond}
use mathlib.Core.List.{List, [], ◌∷◌, ◌++◌}
use native.Mathlib.Omega.{arith}
use native.Mathlib.Numerals.{add-one}
use mir.Syntax.{w64}
use mir.Val.{Fits as Holds}
use lib.Dec.{eqb}
use lib.ListN.{length, length-append}
use Rattle.laws.specs.Over.{over, part, back, back_over, length_over, length_part}
use Rattle.rules.specs.Commands.{Element}
use Rattle.rules.specs.Records.{field, field_bytes, bytes_of, element_fields}
use Rattle.rules.specs.Tokens.{sep_code, amp_}
use Rattle.rules.proofs.ResultLaws.{ok_inj}
use Rattle.read_joins.specs.Joins.{joins_in, count, sep_kind}
use Rattle.read_joins.specs.Answers.{next_of, ArgEnd}
use Rattle.read_joins.specs.declared.Shape.{Shape}
use Rattle.read_elements.specs.Shapes.{Later}
use Rattle.std.proofs.Common.{Result, Ok}
use Rattle.rules.specs.declared.Refusal.{Refusal}
use Rattle.token_table.specs.declared.Token.{Token as Entry}
use Rattle.read_elements.proofs.EachLaws.{Between}
use Rattle.read_value.proofs.FaultlessLaws.{sound}
use Rattle.value_fields.specs.Measure.{bytes_at, bytes_from, head_bytes, element_bytes}
use Rattle.value_fields.proofs.MeasureLaws.{element_len}
use Rattle.value_fields.proofs.TurnLaws.{value_bytes, value_append, value_snoc, one_bytes, Met, met_none, met_all, met}
use Rattle.value_fields.specs.Writes.{Fits, PutValue}

-- ---- two parts, the second written behind the first

module _ (a b old : List ℕ) {xs : List ℕ} {p : ℕ} (e : p ≡ length a) (q : xs ≡ over a old) (h : length a + length b ≤ length old) where
  long : length xs ≡ length old
  long = ap length q ∙ length_over a old (omega arith)

  pub first_inside : p ≤ length xs
  first_inside = omega (arith, long)

  pub second_room : length b ≤ length (part xs p)
  second_room = omega (arith, long, length_part xs p)

-- ---- units

pub record Putting (l : ℕ) (cs : List ℕ) (ts : List Entry) (old : List ℕ) (n d i k : ℕ) (o : List ℕ) : Type 0 where
  pub is : o ≡ over (bytes_from l cs ts n i) old
  pub size : length (bytes_from l cs ts n i) ≡ k
  pub long : length o ≡ length old
  pub left : i ≤ d

pub putting_none : (l : ℕ) (cs : List ℕ) (ts : List Entry) (old : List ℕ) (n d : ℕ) → Putting l cs ts old n d 0 0 old
unfolding bytes_from
putting_none l cs ts old n d = record { is = refl; size = refl; long = refl; left = omega arith }

-- fewer units take no more bytes
fewer : (j i l : ℕ) (cs : List ℕ) (ts : List Entry) (n : ℕ) → length (bytes_from l cs ts n i) ≤ length (bytes_from l cs ts n (i + j))
unfolding bytes_from
fewer zero i l cs ts n = let z : i + 0 ≡ i = omega arith in rw z (omega arith)
fewer (suc j) i l cs ts n =
    let z : i + suc j ≡ suc (i + j) = omega arith in
    rw (z, length-append) (omega (arith, fewer j i l cs ts n))

module _ {l : ℕ} {cs : List ℕ} {ts : List Entry} {old : List ℕ} {n d i k : ℕ} {o : List ℕ} (w : Putting l cs ts old n d i k o) where
  module _ (room : length (bytes_from l cs ts n d) ≤ length old) (h : i < d) where
    next_room : k + length (bytes_at l cs ts (n + i)) ≤ length o
    unfolding bytes_from
    next_room =
        let z : suc i + (d - suc i) ≡ d = omega arith in
        let f : length (bytes_from l cs ts n (suc i)) ≤ length (bytes_from l cs ts n d) = rw z at (fewer (d - suc i) (suc i) l cs ts n) in
        omega (arith, w.size, w.long, length-append (bytes_from l cs ts n i) (bytes_at l cs ts (n + i)))

    pub putting_inside : k ≤ length o
    putting_inside = omega (arith, next_room)

    pub putting_room : length (bytes_at l cs ts (n + i)) ≤ length (part o k)
    putting_room = omega (arith, next_room, length_part o k)

    pub putting_fits : {m : ℕ} → m ≡ length (bytes_at l cs ts (n + i)) → length old < 2 ^ 64 → Holds w64 (k + m)
    putting_fits e g = omega (arith, next_room, w.long)

    pub putting_more : {m : ℕ} {ys : List ℕ} → m ≡ length (bytes_at l cs ts (n + i)) → ys ≡ over (bytes_at l cs ts (n + i)) (part o k)
        → Putting l cs ts old n d (i + 1) (k + m) (back o k ys)
    unfolding bytes_from
    putting_more {m} {ys} em ey =
        let x = bytes_from l cs ts n i in let y = bytes_at l cs ts (n + i) in
        let p : back o k ys ≡ over (x ++ y) old = back_over x y old w.is w.size ey in
        let z : length (x ++ y) ≡ k + m = length-append x y ∙ omega (arith, w.size) in
        let q : bytes_from l cs ts n (i + 1) ≡ x ++ y = rw (add-one i) in
        record {
          is = rw q p;
          size = rw q z;
          long = ap length p ∙ length_over (x ++ y) old (omega (arith, next_room, w.long));
          left = omega arith;
        }

  module _ (h : d ≤ i) where
    pub putting_len : k ≡ length (bytes_from l cs ts n d)
    putting_len = let z : d ≡ i = omega (arith, w.left) in rw z (sym w.size)

    pub putting_over : o ≡ over (bytes_from l cs ts n d) old
    putting_over = let z : d ≡ i = omega (arith, w.left) in rw z w.is

-- ---- an element: its own field, its leading units, its last unit

module _ (l : ℕ) (cs : List ℕ) (ts : List Entry) (x : Shape) (f k m : ℕ) (old : List ℕ) (h : length (element_bytes l cs ts x f k m) ≤ length old) where
  pub head_room : length (head_bytes x) ≤ length old
  head_room = omega (arith, element_len l cs ts x f k m)

  front_room : length (head_bytes x) + length (bytes_from l cs ts f k) ≤ length old
  front_room = omega (arith, element_len l cs ts x f k m)

  module _ {p q : ℕ} (ep : p ≡ length (head_bytes x)) (eq : q ≡ length (bytes_from l cs ts f k)) (g : length old < 2 ^ 64) where
    pub front_sum : Holds w64 (p + q)
    front_sum = omega (arith, front_room)

    pub all_sum : {r : ℕ} → r ≡ length (bytes_at l cs ts m) → Holds w64 (p + q + r)
    all_sum e = omega (arith, element_len l cs ts x f k m)

  module _ {p : ℕ} {xs : List ℕ} (ep : p ≡ length (head_bytes x)) (ex : xs ≡ over (head_bytes x) old) where
    pub head_inside : p ≤ length xs
    head_inside = first_inside (head_bytes x) (bytes_from l cs ts f k) old ep ex front_room

    pub units_room : length (bytes_from l cs ts f k) ≤ length (part xs p)
    units_room = second_room (head_bytes x) (bytes_from l cs ts f k) old ep ex front_room

    module _ {q : ℕ} {ys : List ℕ} (eq : q ≡ length (bytes_from l cs ts f k)) (ey : ys ≡ over (bytes_from l cs ts f k) (part xs p)) where
      front_len : p + q ≡ length (head_bytes x ++ bytes_from l cs ts f k)
      front_len = omega (arith, length-append (head_bytes x) (bytes_from l cs ts f k))

      front_over : back xs p ys ≡ over (head_bytes x ++ bytes_from l cs ts f k) old
      front_over = back_over (head_bytes x) (bytes_from l cs ts f k) old ex (sym ep) ey

      all_room : length (head_bytes x ++ bytes_from l cs ts f k) + length (bytes_at l cs ts m) ≤ length old
      all_room = omega (arith, element_len l cs ts x f k m, length-append (head_bytes x) (bytes_from l cs ts f k))

      pub front_inside : p + q ≤ length (back xs p ys)
      front_inside = first_inside (head_bytes x ++ bytes_from l cs ts f k) (bytes_at l cs ts m) old front_len front_over all_room

      pub last_room : length (bytes_at l cs ts m) ≤ length (part (back xs p ys) (p + q))
      last_room = second_room (head_bytes x ++ bytes_from l cs ts f k) (bytes_at l cs ts m) old front_len front_over all_room

      pub element_over : {zs : List ℕ} → zs ≡ over (bytes_at l cs ts m) (part (back xs p ys) (p + q)) → back (back xs p ys) (p + q) zs ≡ over (element_bytes l cs ts x f k m) old
      unfolding element_bytes
      element_over ez = back_over (head_bytes x ++ bytes_from l cs ts f k) (bytes_at l cs ts m) old front_over (sym front_len) ez

-- ---- a value of one unit: the field of a single element, then the unit's

module _ (l : ℕ) (cs : List ℕ) (ts : List Entry) (old : List ℕ) (h : length ts ≡ 1) (v : Fits ts cs l (length old)) where
  pub one_room : 3 + length (bytes_at l cs ts 0) ≤ length old
  one_room = let s = v.value in omega (arith, v.room, ap length (one_bytes l cs ts h s.base s.end s.es s.own s.is))

  pub one_head : 3 ≤ length old
  one_head = omega (arith, one_room)

  module _ {p : ℕ} {xs : List ℕ} (ep : p ≡ 3) (ex : xs ≡ over (field_bytes (field 5 [])) old) where
    pub one_inside : p ≤ length xs
    one_inside = first_inside (field_bytes (field 5 [])) (bytes_at l cs ts 0) old ep ex one_room

    pub one_behind : length (bytes_at l cs ts 0) ≤ length (part xs p)
    one_behind = second_room (field_bytes (field 5 [])) (bytes_at l cs ts 0) old ep ex one_room

    pub one_sum : {q : ℕ} → q ≡ length (bytes_at l cs ts 0) → length old < 2 ^ 64 → Holds w64 (p + q)
    one_sum e g = omega (arith, one_room)

    pub one_put : {q : ℕ} {ys : List ℕ} → q ≡ length (bytes_at l cs ts 0) → ys ≡ over (bytes_at l cs ts 0) (part xs p) → PutValue ts cs l (p + q) old (back xs p ys)
    one_put eq ey b e es own g =
        rw (one_bytes l cs ts h b e es own g) (omega arith, back_over (field_bytes (field 5 [])) (bytes_at l cs ts 0) old ex (sym ep) ey)

-- ---- the elements

pub record Writing (l : ℕ) (cs : List ℕ) (ts : List Entry) (old : List ℕ) (k n f at : ℕ) (o : List ℕ) : Type 0 where
  pub done : List Element
  pub between : Between (joins_in l cs ts) k done n f
  pub is : o ≡ over (value_bytes done) old
  pub size : length (value_bytes done) ≡ at
  pub long : length o ≡ length old

module _ (l : ℕ) (cs : List ℕ) (ts : List Entry) (old : List ℕ) (v : Fits ts cs l (length old)) where
  pub writing_none : {q : ℕ} → ArgEnd ts 1 q → Writing l cs ts old (q - 1) 0 0 0 old
  writing_none a = record { done = []; between = met_none l cs ts v.value a; is = refl; size = refl; long = refl }

  module _ {k n f at m : ℕ} {o : List ℕ} (w : Writing l cs ts old k n f at o) (c : m ≡ count ts) where
    pub writing_end : m ≤ n → PutValue ts cs l at old o
    writing_end h b p es own g =
        let z : w.done ≡ es = met_all l cs ts w.between c h b p es own g in
        rw (← z) (sym w.size, w.is)

    module _ {r : Result Shape Refusal} {x : Shape} {kd f' la : ℕ} (h : n < m) (y : Later (joins_in l cs ts) k n r) (u : r ≡ Ok x) (ek : kd ≡ sep_kind ts n)
        (ef : f' ≡ cond (eqb kd (sep_code amp_)) f n) (ea : la ≡ cond (eqb kd (sep_code amp_)) n (n + k)) where
      here : Met l cs ts k w.done n x (next_of x) f' la
      here = met l cs ts w.between c v.value h y u ek ef ea

      -- there is room for the element
      next_fits : at + length (element_bytes l cs ts x f' k la) ≤ length o
      next_fits =
          let d = w.done in let s = v.value in
          let rest = here.then.left in
          let g : s.es ≡ (d ++ (here.el ∷ [])) ++ rest = ok_inj (sym (rw s.own (sound s.base ts cs s.end s.es s.is).groups) ∙ here.then.whole) in
          let a : value_bytes s.es ≡ (value_bytes d ++ bytes_of (element_fields here.el)) ++ value_bytes rest
          = ap value_bytes g ∙ (value_append (d ++ (here.el ∷ [])) rest ∙ ap (λ y. y ++ value_bytes rest) (value_snoc d here.el)) in
          let t : length (value_bytes s.es) ≡ length (value_bytes d) + length (bytes_of (element_fields here.el)) + length (value_bytes rest) = rw (a, length-append, length-append) in
          rw here.bytes (omega (arith, v.room, w.size, w.long))

      pub writing_inside : at ≤ length o
      writing_inside = omega (arith, next_fits)

      pub writing_room : length (element_bytes l cs ts x f' k la) ≤ length (part o at)
      writing_room = omega (arith, next_fits, length_part o at)

      module _ {z : ℕ} (ez : z ≡ length (element_bytes l cs ts x f' k la)) where
        pub writing_fits : length old < 2 ^ 64 → Holds w64 (at + z)
        writing_fits g = omega (arith, next_fits, w.long)

        pub writing_more : {nx : ℕ} {ys : List ℕ} → nx ≡ next_of x → ys ≡ over (element_bytes l cs ts x f' k la) (part o at) → Writing l cs ts old k nx f' (at + z) (back o at ys)
        writing_more {nx} {ys} g ey =
            let d = w.done in let e = element_bytes l cs ts x f' k la in
            let q : value_bytes (d ++ (here.el ∷ [])) ≡ value_bytes d ++ e = rw here.bytes (value_snoc d here.el) in
            let p : back o at ys ≡ over (value_bytes d ++ e) old = back_over (value_bytes d) e old w.is w.size ey in
            let r : length (value_bytes d ++ e) ≡ at + z = length-append (value_bytes d) e ∙ omega (arith, w.size) in
            record {
              done = d ++ (here.el ∷ []);
              between = rw g here.then;
              is = rw q p;
              size = rw q r;
              long = ap length p ∙ length_over (value_bytes d ++ e) old (omega (arith, next_fits, w.long));
            }
