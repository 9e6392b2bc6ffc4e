-- Three numbers for each place, in the judge's row and in the row of standings: both taken apart at a place, and put together again.
use mathlib.Core.Path.{◌≡◌, refl, sym, ap, ◌∙◌, subst}
use mathlib.Core.Bool.{false≢true}
use mathlib.Core.List.{List, [], ◌∷◌, ◌++◌}
use Prim.Native.Nat.{ℕ, zero, suc, ◌+◌, ◌-◌, ◌*◌, ◌≤◌, ◌<◌}
use native.Mathlib.Numerals.{add-one}
use native.Mathlib.Omega.{arith}
use borrow.Author.Tests.{eq-eqb}
use lib.Dec.{eqb}
use lib.ListN.{length, get_or, take, drop}
use lib.Seq.{drop-cons, drop-drop, drop-nil}
use Rattle.laws.specs.Cases.{by_bool}
use Rattle.judge.specs.Blocks.{counted}
use Rattle.judge.proofs.ToldLaws.{three_front}
use Rattle.list_argument.proofs.StandingLaws.{stands_some}
use Rattle.list.specs.Filled.{Chosen, Values}
use Rattle.list.specs.Odometer.{AllStand}
use Rattle.list.proofs.OdometerLaws.{Some}

-- ---- as long as there are places

pub values_long : (rec : List ℕ) (at : ℕ) (row : List ℕ) (fs : List (List (List ℕ))) → Values rec at row fs → length row ≡ 3 * length fs
values_long rec at [] [] v = refl
values_long rec at [] (f ∷ fs) v = absurd v
values_long rec at (n ∷ []) fs v = absurd v
values_long rec at (n ∷ (from ∷ [])) fs v = absurd v
values_long rec at (n ∷ (from ∷ (to ∷ row))) [] v = absurd v
values_long rec at (n ∷ (from ∷ (to ∷ row))) (f ∷ fs) (c, v) = omega (arith, values_long rec to row fs v)

pub stand_long : (rec row cur : List ℕ) (ls : List (List (List ℕ))) → AllStand rec row cur ls → length cur ≡ length row
stand_long rec [] [] ls a = refl
stand_long rec [] (s ∷ cur) ls a = absurd a
stand_long rec (n ∷ []) cur ls a = absurd a
stand_long rec (n ∷ (from ∷ [])) cur ls a = absurd a
stand_long rec (n ∷ (from ∷ (to ∷ row))) [] ls a = absurd a
stand_long rec (n ∷ (from ∷ (to ∷ row))) (s ∷ []) ls a = absurd a
stand_long rec (n ∷ (from ∷ (to ∷ row))) (s ∷ (e ∷ [])) ls a = absurd a
stand_long rec (n ∷ (from ∷ (to ∷ row))) (s ∷ (e ∷ (t ∷ cur))) [] a = absurd a
stand_long rec (n ∷ (from ∷ (to ∷ row))) (s ∷ (e ∷ (t ∷ cur))) (l ∷ ls) (p, a) = omega (arith, stand_long rec row cur ls a)

-- as many standings as places
pub stand_count : (rec row cur : List ℕ) (ls : List (List (List ℕ))) → AllStand rec row cur ls → length row ≡ 3 * length ls
stand_count rec [] [] [] a = refl
stand_count rec [] [] (l ∷ ls) a = absurd a
stand_count rec [] (s ∷ cur) ls a = absurd a
stand_count rec (n ∷ []) cur ls a = absurd a
stand_count rec (n ∷ (from ∷ [])) cur ls a = absurd a
stand_count rec (n ∷ (from ∷ (to ∷ row))) [] ls a = absurd a
stand_count rec (n ∷ (from ∷ (to ∷ row))) (s ∷ []) ls a = absurd a
stand_count rec (n ∷ (from ∷ (to ∷ row))) (s ∷ (e ∷ [])) ls a = absurd a
stand_count rec (n ∷ (from ∷ (to ∷ row))) (s ∷ (e ∷ (t ∷ cur))) [] a = absurd a
stand_count rec (n ∷ (from ∷ (to ∷ row))) (s ∷ (e ∷ (t ∷ cur))) (l ∷ ls) (p, a) = omega (arith, stand_count rec row cur ls a)

-- every value has a choice
counted_some : (n : ℕ) → 0 ≡ counted n → ⊥
unfolding counted
counted_some n h =
    by_bool (eqb n 0) (λ y. let z : 0 ≡ 1 = rw y at h in absurd (omega arith)) (λ y. let z : 0 ≡ n = rw y at h in false≢true (sym y ∙ eq-eqb n 0 (sym z)))

pub values_some : (rec : List ℕ) (at : ℕ) (row : List ℕ) (fs : List (List (List ℕ))) → Values rec at row fs → Some fs
values_some rec at [] [] v = tt
values_some rec at [] (f ∷ fs) v = absurd v
values_some rec at (n ∷ []) fs v = absurd v
values_some rec at (n ∷ (from ∷ [])) fs v = absurd v
values_some rec at (n ∷ (from ∷ (to ∷ row))) [] v = absurd v
values_some rec at (n ∷ (from ∷ (to ∷ row))) ([] ∷ fs) (c, v) = absurd (counted_some n c.number)
values_some rec at (n ∷ (from ∷ (to ∷ row))) ((x ∷ xs) ∷ fs) (c, v) = values_some rec to row fs v

-- and so has what is left of each
pub stand_some : (rec row cur : List ℕ) (ls : List (List (List ℕ))) → AllStand rec row cur ls → Some ls
stand_some rec [] [] [] a = tt
stand_some rec [] [] (l ∷ ls) a = absurd a
stand_some rec [] (s ∷ cur) ls a = absurd a
stand_some rec (n ∷ []) cur ls a = absurd a
stand_some rec (n ∷ (from ∷ [])) cur ls a = absurd a
stand_some rec (n ∷ (from ∷ (to ∷ row))) [] ls a = absurd a
stand_some rec (n ∷ (from ∷ (to ∷ row))) (s ∷ []) ls a = absurd a
stand_some rec (n ∷ (from ∷ (to ∷ row))) (s ∷ (e ∷ [])) ls a = absurd a
stand_some rec (n ∷ (from ∷ (to ∷ row))) (s ∷ (e ∷ (t ∷ cur))) [] a = absurd a
stand_some rec (n ∷ (from ∷ (to ∷ row))) (s ∷ (e ∷ (t ∷ cur))) ([] ∷ ls) (p, a) = absurd (omega (arith, stands_some p))
stand_some rec (n ∷ (from ∷ (to ∷ row))) (s ∷ (e ∷ (t ∷ cur))) ((x ∷ xs) ∷ ls) (p, a) = stand_some rec row cur ls a

-- ---- from a place on

behind_three : (n m k : ℕ) (row : List ℕ) (i : ℕ) → 3 ≤ i → drop i (n ∷ m ∷ k ∷ row) ≡ drop (i - 3) row
behind_three n m k row i h = let e : i ≡ 3 + (i - 3) = omega arith in ap (λ (j : ℕ). drop j (n ∷ m ∷ k ∷ row)) e ∙ sym (drop-drop (i - 3) 3 (n ∷ m ∷ k ∷ row))

-- the places from the i-th on
pub values_behind : (rec : List ℕ) (i at : ℕ) (row : List ℕ) (fs : List (List (List ℕ))) → Values rec at row fs → (n : ℕ) × Values rec n (drop (3 * i) row) (drop i fs)
values_behind rec zero at row fs v = (at, v)
values_behind rec (suc i) at [] [] v = (at, subst (λ row. Values rec at row []) (sym (drop-nil (3 * suc i))) v)
values_behind rec (suc i) at [] (f ∷ fs) v = absurd v
values_behind rec (suc i) at (n ∷ []) fs v = absurd v
values_behind rec (suc i) at (n ∷ (from ∷ [])) fs v = absurd v
values_behind rec (suc i) at (n ∷ (from ∷ (to ∷ row))) [] v = absurd v
values_behind rec (suc i) at (n ∷ (from ∷ (to ∷ row))) (f ∷ fs) v =
    let e : 3 * suc i ≡ suc (suc (suc (3 * i))) = omega arith in
    rw e (values_behind rec i to row fs v.1)

-- the i-th place, whose numbers stand at j
pub record PlaceOf (rec row : List ℕ) (fs : List (List (List ℕ))) (i j : ℕ) : Type 0 where
  pub at : ℕ
  pub row_is : drop j row ≡ get_or row j 0 ∷ get_or row (j + 1) 0 ∷ get_or row (j + 2) 0 ∷ drop (j + 3) row
  pub choices_are : drop i fs ≡ get_or fs i [] ∷ drop (i + 1) fs
  pub chosen : Chosen rec at (get_or row j 0) (get_or row (j + 1) 0) (get_or row (j + 2) 0) (get_or fs i [])
  pub behind : Values rec (get_or row (j + 2) 0) (drop (j + 3) row) (drop (i + 1) fs)

pub place_of : (rec row : List ℕ) (fs : List (List (List ℕ))) (i j : ℕ) → Values rec 0 row fs → i < length fs → j ≡ 3 * i → PlaceOf rec row fs i j
place_of rec row fs i j v h q =
    let place : List ℕ = get_or row j 0 ∷ get_or row (j + 1) 0 ∷ get_or row (j + 2) 0 ∷ drop (j + 3) row in
    let e : drop i fs ≡ get_or fs i [] ∷ drop (i + 1) fs = rw (add-one i) (drop-cons fs i [] h) in
    let r : drop j row ≡ place = three_front row j (omega (arith, values_long rec 0 row fs v)) in
    let b : (n : ℕ) × Values rec n (drop (3 * i) row) (drop i fs) = values_behind rec i 0 row fs v in
    let c : Values rec b.0 place (get_or fs i [] ∷ drop (i + 1) fs) =
    subst (λ (l : List ℕ). Values rec b.0 l (get_or fs i [] ∷ drop (i + 1) fs)) (ap (λ (n : ℕ). drop n row) (sym q) ∙ r)
    (subst (Values rec b.0 (drop (3 * i) row)) e b.1) in
    record { at = b.0; row_is = r; choices_are = e; chosen = c.0; behind = c.1 }

pub stand_from : (rec row cur : List ℕ) (i : ℕ) (ks ls : List (List (List ℕ))) → i ≡ 3 * length ks → AllStand rec row cur (ks ++ ls) → AllStand rec (drop i row) (drop i cur) ls
stand_from rec row cur i [] ls e a = rw e a
stand_from rec [] [] i (k ∷ ks) ls e a = absurd a
stand_from rec [] (s ∷ cur) i (k ∷ ks) ls e a = absurd a
stand_from rec (n ∷ []) cur i (k ∷ ks) ls e a = absurd a
stand_from rec (n ∷ (from ∷ [])) cur i (k ∷ ks) ls e a = absurd a
stand_from rec (n ∷ (from ∷ (to ∷ row))) [] i (k ∷ ks) ls e a = absurd a
stand_from rec (n ∷ (from ∷ (to ∷ row))) (s ∷ []) i (k ∷ ks) ls e a = absurd a
stand_from rec (n ∷ (from ∷ (to ∷ row))) (s ∷ (m ∷ [])) i (k ∷ ks) ls e a = absurd a
stand_from rec (n ∷ (from ∷ (to ∷ row))) (s ∷ (m ∷ (t ∷ cur))) i (k ∷ ks) ls e (p, a) =
    rw (behind_three n from to row i (omega arith), behind_three s m t cur i (omega arith)) (stand_from rec row cur (i - 3) ks ls (omega arith) a)

-- and with others put there
pub stand_with : (rec row cur new : List ℕ) (i : ℕ) (ks ls ms : List (List (List ℕ))) → i ≡ 3 * length ks → AllStand rec row cur (ks ++ ls) → AllStand rec (drop i row) new ms
    → AllStand rec row (take i cur ++ new) (ks ++ ms)
stand_with rec row cur new i [] ls ms e a b = rw e (rw e at b)
stand_with rec [] [] new i (k ∷ ks) ls ms e a b = absurd a
stand_with rec [] (s ∷ cur) new i (k ∷ ks) ls ms e a b = absurd a
stand_with rec (n ∷ []) cur new i (k ∷ ks) ls ms e a b = absurd a
stand_with rec (n ∷ (from ∷ [])) cur new i (k ∷ ks) ls ms e a b = absurd a
stand_with rec (n ∷ (from ∷ (to ∷ row))) [] new i (k ∷ ks) ls ms e a b = absurd a
stand_with rec (n ∷ (from ∷ (to ∷ row))) (s ∷ []) new i (k ∷ ks) ls ms e a b = absurd a
stand_with rec (n ∷ (from ∷ (to ∷ row))) (s ∷ (m ∷ [])) new i (k ∷ ks) ls ms e a b = absurd a
stand_with rec (n ∷ (from ∷ (to ∷ row))) (s ∷ (m ∷ (t ∷ cur))) new i (k ∷ ks) ls ms e (p, a) b =
    let q : i ≡ suc (suc (suc (i - 3))) = omega arith in
    let c : AllStand rec row (take (i - 3) cur ++ new) (ks ++ ms) =
    stand_with rec row cur new (i - 3) ks ls ms (omega arith) a (rw (behind_three n from to row i (omega arith)) at b) in
    subst (λ (j : ℕ). AllStand rec (n ∷ (from ∷ (to ∷ row))) (take j (s ∷ (m ∷ (t ∷ cur))) ++ new) ((k ∷ ks) ++ ms)) (sym q) (p, c)
