-- A value without fault, element by element: those done and those left are the whole, and those left are the rules' elements from the n-th unit on.
use Prim.Native.Nat.{ℕ, suc, ◌+◌, ◌-◌, ◌≤◌, ◌<◌}
use mathlib.Core.Path.{◌≡◌, refl, sym, ◌∙◌, ap}
use mathlib.Core.Bool.{true}
use mathlib.Core.List.{List, [], ◌∷◌, ◌++◌, append_assoc, append-nil}
use native.Mathlib.Omega.{arith}
use native.Mathlib.Numerals.{add-one}
use borrow.Author.Tests.{leb-true, leb-false}
use lib.Dec.{leb}
use lib.ListN.{length, length-append}
use Rattle.laws.specs.Cases.{by_bool}
use Rattle.rules.specs.Commands.{Element, leading}
use Rattle.rules.specs.Groups.{Join, later, later_elements, elements, collect, groups_of}
use Rattle.rules.specs.Refusals.{ok, map_r}
use Rattle.rules.specs.Units.{Unit}
use Rattle.rules.proofs.ResultLaws.{ok_inj, ok≢bad, bind_ok, map_ok}
use Rattle.read_joins.specs.Joins.{joins_in, kind_at, units_from, groups_at, dashes_at, next_at, begins_kind}
use Rattle.read_joins.specs.Answers.{element_answer, ArgEnd}
use Rattle.read_elements.specs.Shapes.{Later, group_at}
use Rattle.read_joins.specs.declared.Shape.{Shape}
use Rattle.std.proofs.Common.{Result}
use Rattle.rules.specs.declared.Refusal.{Refusal}
use Rattle.token_table.specs.declared.Token.{Token as Entry}
use Rattle.read_joins.proofs.JoinLaws.{joins_length, group_end, group_more, groups_next, begins_next, dashes_inside, units_length}
use Rattle.read_elements.proofs.WalkLaws.{elements_later, elements_long, starts_first}
use Rattle.read_elements.proofs.StandLaws.{front_at, Stands, later_stands}

-- before the element that begins at n, in a value whose arguments have k leading units; those of the element before stand from f on
pub record Between (js : List (Join Unit)) (k : ℕ) (done : List Element) (n f : ℕ) : Type 0 where
  pub left : List Element
  pub whole : elements (groups_of (collect js)) ≡ ok (done ++ left)
  pub is : later_elements (suc (length done)) (units_from js f k) (groups_at js n) ≡ ok left
  pub starts : begins_kind (kind_at js n) ≡ true
  pub short : k ≤ 3
  pub inside : f + k < length js

pub between_none : (b : ℕ) (cs : List ℕ) (ts : List Entry) (es : List Element) {q : ℕ} → 0 < length ts → elements (groups_of (collect (joins_in b cs ts))) ≡ ok es → ArgEnd ts 1 q
    → Between (joins_in b cs ts) (q - 1) [] 0 0
between_none b cs ts es {q} h e a =
    let js = joins_in b cs ts in
    let d = dashes_at js 1 in
    let z : q - 1 ≡ d = omega (arith, a b cs) in
    by_bool (leb d 3)
    (λ y. record {
      left = es;
      whole = e;
      is = rw z (sym (elements_later b cs ts (leb-true d 3 y)) ∙ e);
      starts = starts_first b cs ts;
      short = omega (arith, leb-true d 3 y);
      inside = omega (arith, dashes_inside d js 0 (omega (arith, joins_length b cs ts)) refl);
    })
    (λ y. ok≢bad (sym (elements_long b cs ts (omega (arith, leb-false d 3 y))) ∙ e))

-- the element that begins at n
pub record Turn (js : List (Join Unit)) (k : ℕ) (done : List Element) (n f : ℕ) : Type 0 where
  pub el : Element
  pub is : later (units_from js f k) (group_at js n) ≡ ok el
  pub stands : Stands js f k n el
  pub few : length done < 64
  pub then : Between js k (done ++ (el ∷ [])) (next_at js (n + 1)) (front_at js f n)

module _ (js : List (Join Unit)) {k : ℕ} {done : List Element} {n f : ℕ} (b : Between js k done n f) where
  pub between_end : length js ≤ n → elements (groups_of (collect js)) ≡ ok done
  between_end h =
      let z : [] ≡ b.left = ok_inj (rw (group_end js n h) at b.is) in
      b.whole ∙ rw (← z, append-nil)

  pub turn : n < length js → Turn js k done n f
  turn h =
      let l = units_from js f k in let c = length done in let rest = groups_at js (n + 1) in
      let g : later_elements (suc c) l (group_at js n ∷ rest) ≡ ok b.left = rw (← group_more js n h b.starts) b.is in
      by_bool (leb (suc c) 64)
      (λ y. bind_ok (later l (group_at js n)) (λ e. map_r (λ es. e ∷ es) (later_elements (suc (suc c)) (leading e) rest)) b.left (rw (y, later_elements) at g)
      (λ e t m. map_ok (λ es. e ∷ es) (later_elements (suc (suc c)) (leading e) rest) b.left m
      (λ left s z.
      let st = later_stands js f k n e b.inside h t in
      let o : done ++ b.left ≡ (done ++ (e ∷ [])) ++ left = rw (← z, append_assoc) in
      let q : suc (length (done ++ (e ∷ []))) ≡ suc (suc c) = rw (length-append, add-one c) in
      record {
        el = e;
        is = t;
        stands = st;
        few = omega (arith, leb-true (suc c) 64 y);
        then = record {
          left = left;
          whole = b.whole ∙ ap ok o;
          is = rw (q, groups_next js (n + 1), ← st.leads) s;
          starts = begins_next js (n + 1);
          short = b.short;
          inside = st.front_inside;
        };
      })))
      (λ y. ok≢bad (rw (y, later_elements) at g))

-- the code's answer for it
pub turn_answer : (js : List (Join Unit)) {k : ℕ} {done : List Element} {n f : ℕ} {x : Result Shape Refusal} (t : Turn js k done n f) → Later js k n x
    → x ≡ element_answer (next_at js (n + 1)) (ok t.el)
turn_answer js {k} {done} {n} {f} t y = y (units_from js f k) (units_length k js f) ∙ rw t.is
