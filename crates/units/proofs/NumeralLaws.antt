-- A numeral read in one pass is the rules' numeral: the run of digits ends the word, or ends at the one full stop behind which digits end it.
use mathlib.Core.Path.{◌≡◌, refl, sym, ap, ◌∙◌, subst}
use mathlib.Core.List.{List, [], ◌∷◌, ◌++◌}
use mathlib.Core.Bool.{true, false, ◌&&◌, false≢true}
use mathlib.Core.Option.{Option, none, some}
use mathlib.Core.Logic.{inl, inr}
use Prim.Native.Nat.{ℕ, suc, ◌+◌, ◌-◌, ◌<◌, ◌≤◌}
use native.Mathlib.Omega.{arith}
use lib.ListN.{length, get_or, take, drop, length-drop}
use lib.Seq.{drop-drop, get_or-drop, take_all}
use lib.Dec.{ltb, eqb}
use borrow.Author.Tests.{lt-ltb, le-ltb, le-leb, lt-leb, eq-eqb, ne_eqb, eqb-true, eqb-false, ltb-true, ltb-false}
use Rattle.laws.specs.Cases.{Always, by_bool, pick, and_false}
use Rattle.laws.specs.Lists.{all}
use Rattle.rules.specs.Refusals.{most_value}
use Rattle.rules.specs.Characters.{byte}
use Rattle.rules.specs.Units.{Radix, r_d, r_h, r_o, r_b, plain, size, num, digit_value, is_digit_of, value_from, run_of, at_stop, dotted, fraction, numeral, radix_at, base_at}
use Rattle.rules.proofs.UnitBack.{size_least, value_append}
use Rattle.digits.specs.Digits.{digits_at}
use Rattle.digits.proofs.RunLaws.{run_length, run_yes, run_no, run_none, run_end, run_le, Near, near_run, broken_run, run_all, run_not, run_empty, run_take}
use Rattle.std.proofs.Common.{Err}
use Rattle.units.specs.declared.Fault.TheVariants.{Unreadable}
use Rattle.units.specs.Words.{sized, fraction_unit, plain_for, plain_unit, of_numeral}

-- ---- digits to the end

near_sized : (l f a b : ℕ) → Near a b → sized l f a ≡ sized l f b
unfolding sized
near_sized l f a b (inl e) = ap (sized l f) e
near_sized l f a b (inr p) = rw (lt-leb a most_value p.0, lt-leb b most_value p.1)

num_all : (r : Radix) (x : List ℕ) → run_length (size r) x ≡ length x → 1 ≤ length x → numeral (plain r) x ≡ some (num r 0 (value_from (size r) 0 x))
num_all r x h k = rw (run_all r x h k, numeral)

num_not : (r : Radix) (x : List ℕ) → run_of (is_digit_of r) x ≡ false → numeral (plain r) x ≡ fraction r x
num_not r x h = rw (h, numeral)

-- ---- the full stop

not_stop : (c : ℕ) → ltb (digit_value c) 10 ≡ true → eqb c (byte ".") ≡ false
not_stop c y = by_bool (eqb c (byte ".")) (λ z. absurd (false≢true (ap (λ (n : ℕ). ltb (digit_value n) 10) (sym (eqb-true c (byte ".") z)) ∙ y))) (λ z. z)

stop_at : (x : List ℕ) → run_length 10 x < length x → get_or x (run_length 10 x) 0 ≡ byte "." → at_stop x ≡ some (take (run_length 10 x) x, drop (suc (run_length 10 x)) x)
stop_at [] h e = absurd (omega (arith, run_none 10))
stop_at (c ∷ cs) h e =
    by_bool (ltb (digit_value c) 10)
    (λ y.
    let n : run_length 10 (c ∷ cs) ≡ suc (run_length 10 cs) = run_yes 10 c cs y in
    rw n (rw (not_stop c y, at_stop) (rw (stop_at cs (omega arith) (rw n at e)))))
    (λ y.
    let n : run_length 10 (c ∷ cs) ≡ 0 = run_no 10 c cs y in
    rw n (rw (eq-eqb c (byte ".") (rw n at e), at_stop)))

abbrev Broken : Option (List ℕ × List ℕ) → Type 0
Broken none = Always
Broken (some s) = all (is_digit_of r_d) s.0 ≡ false

stop_not : (x : List ℕ) → (get_or x (run_length 10 x) 0 ≡ byte "." → ⊥) → Broken (at_stop x)
stop_not [] e = tt
stop_not (c ∷ cs) e =
    by_bool (ltb (digit_value c) 10)
    (λ y. good y (at_stop cs) refl (stop_not cs (λ q. e (rw (run_yes 10 c cs y) q))))
    (λ y. bad' y (ne_eqb c (byte ".") (λ q. e (rw (run_no 10 c cs y) q))) (at_stop cs) refl)
  where
    good : ltb (digit_value c) 10 ≡ true → (o : Option (List ℕ × List ℕ)) → at_stop cs ≡ o → Broken o → Broken (at_stop (c ∷ cs))
    good y none q b = rw (not_stop c y, at_stop) (rw q tt)
    good y (some s) q b = rw (not_stop c y, at_stop) (rw (q, y) b)

    bad' : ltb (digit_value c) 10 ≡ false → eqb c (byte ".") ≡ false → (o : Option (List ℕ × List ℕ)) → at_stop cs ≡ o → Broken (at_stop (c ∷ cs))
    bad' y z none q = rw (z, at_stop) (rw q tt)
    bad' y z (some s) q = rw (z, at_stop) (rw (q, y))

dotted_broken : (o : Option (List ℕ × List ℕ)) → Broken o → dotted o ≡ none
dotted_broken none b = refl
dotted_broken (some s) b = rw (broken_run (is_digit_of r_d) s.0 b)

pub dotted_second : (xs ys : List ℕ) → run_of (is_digit_of r_d) ys ≡ false → dotted (some (xs, ys)) ≡ none
dotted_second xs ys h =
    let z : run_of (is_digit_of r_d) xs && run_of (is_digit_of r_d) ys ≡ false = ap (λ t. run_of (is_digit_of r_d) xs && t) h ∙ and_false (run_of (is_digit_of r_d) xs) in
    rw z

dotted_both : (xs ys : List ℕ) → run_of (is_digit_of r_d) xs ≡ true → run_of (is_digit_of r_d) ys ≡ true
    → dotted (some (xs, ys)) ≡ some (num r_d (length ys) (value_from 10 0 (xs ++ ys)))
dotted_both xs ys h k = rw (h, k)

-- ---- no digit at the start: no numeral

num_start : (r : Radix) (x : List ℕ) → run_length (size r) x ≡ 0 → numeral (plain r) x ≡ none
num_start r_d [] h = refl
num_start r_h [] h = refl
num_start r_o [] h = refl
num_start r_b [] h = refl
num_start r_d (c ∷ cs) h =
    num_not r_d (c ∷ cs) (run_not r_d (c ∷ cs) (omega arith))
    ∙ by_bool (eqb c (byte "."))
    (λ z. rw (stop_at (c ∷ cs) (omega arith) (rw h (eqb-true c (byte ".") z)), h))
    (λ z. dotted_broken (at_stop (c ∷ cs)) (stop_not (c ∷ cs) (rw h (eqb-false c (byte ".") z))))
num_start r_h (c ∷ cs) h = num_not r_h (c ∷ cs) (run_not r_h (c ∷ cs) (omega arith))
num_start r_o (c ∷ cs) h = num_not r_o (c ∷ cs) (run_not r_o (c ∷ cs) (omega arith))
num_start r_b (c ∷ cs) h = num_not r_b (c ∷ cs) (run_not r_b (c ∷ cs) (omega arith))

-- ---- the code's fraction is the rules'

module _ (l k : ℕ) (w : List ℕ) (at v : ℕ) (xs : List ℕ) (h : at < length w) (n : Near v (value_from 10 0 xs)) (f : run_of (is_digit_of r_d) xs ≡ true) (s : get_or w at 0 ≡ byte ".") where
  pub fraction_is : fraction_unit l w at v ≡ of_numeral l k (dotted (some (xs, drop (at + 1) w)))
  unfolding fraction_unit of_numeral
  fraction_is =
      let y : List ℕ = drop (at + 1) w in
      let q : length y ≡ length w - (at + 1) = length-drop (at + 1) w in
      let le : run_length 10 y ≤ length y = run_le 10 y in
      by_bool (ltb (run_length 10 y) (length y))
      (λ b.
      let lt : run_length 10 y < length y = ltb-true (run_length 10 y) (length y) b in
      rw (dotted_second xs y (run_not r_d y lt), eq-eqb (get_or w at 0) (byte ".") s, run_end 10 w (at + 1) v, lt-ltb (at + 1 + run_length 10 y) (length w) (omega arith)))
      (λ b.
      let ge : length y ≤ run_length 10 y = ltb-false (run_length 10 y) (length y) b in
      by_bool (eqb (run_length 10 y) 0)
      (λ z.
      let zero' : run_length 10 y ≡ 0 = eqb-true (run_length 10 y) 0 z in
      rw (dotted_second xs y (run_empty r_d y (omega arith)), eq-eqb (get_or w at 0) (byte ".") s, run_end 10 w (at + 1) v, le-ltb (at + 1 + run_length 10 y) (length w) (omega arith), le-leb (at + 1 + run_length 10 y) (at + 1) (omega arith)))
      (λ z.
      let some' : run_length 10 y ≡ 0 → ⊥ = eqb-false (run_length 10 y) 0 z in
      let full : run_length 10 y ≡ length y = omega arith in
      let count : at + 1 + run_length 10 y - (at + 1) ≡ length y = omega arith in
      rw (dotted_both xs y f (run_all r_d y full (omega arith)), eq-eqb (get_or w at 0) (byte ".") s, run_end 10 w (at + 1) v, le-ltb (at + 1 + run_length 10 y) (length w) (omega arith), lt-leb (at + 1 + run_length 10 y) (at + 1) (omega arith), count)
      (near_sized l (length y) (digits_at 10 w (at + 1) v).value (value_from 10 0 (xs ++ y)) (near y refl full))))
    where
      near : (y : List ℕ) → drop (at + 1) w ≡ y → run_length 10 y ≡ length y → Near (digits_at 10 w (at + 1) v).value (value_from 10 0 (xs ++ y))
      near y e full =
          let read : Near (digits_at 10 w (at + 1) v).value (value_from 10 (value_from 10 0 xs) (take (run_length 10 y) y)) = rw e at (near_run 10 w (at + 1) v (value_from 10 0 xs) (omega arith) n) in
          rw (value_append 10 0 xs y) (rw (take_all (run_length 10 y) y (omega arith)) at read)

fraction_none : (l : ℕ) (w : List ℕ) (at v : ℕ) → (get_or w at 0 ≡ byte "." → ⊥) → fraction_unit l w at v ≡ Err Unreadable
unfolding fraction_unit
fraction_none l w at v s = rw (ne_eqb (get_or w at 0) (byte ".") s)

-- ---- the code's numeral is the rules'

-- with a fraction
frac_for : (r : Radix) (l : ℕ) (w : List ℕ) (i v : ℕ) → run_length (size r) (drop i w) < length (drop i w) → 1 ≤ run_length (size r) (drop i w)
    → Near v (value_from (size r) 0 (take (run_length (size r) (drop i w)) (drop i w)))
    → pick (eqb (size r) 10) (fraction_unit l w (i + run_length (size r) (drop i w)) v) (Err Unreadable) ≡ of_numeral l i (fraction r (drop i w))
unfolding of_numeral
frac_for r_h l w i v h k n = refl
frac_for r_o l w i v h k n = refl
frac_for r_b l w i v h k n = refl
frac_for r_d l w i v h k n = go (get_or-drop i w (run_length 10 (drop i w)) 0) (drop-drop (suc (run_length 10 (drop i w))) i w)
  where
    go : get_or (drop i w) (run_length 10 (drop i w)) 0 ≡ get_or w (i + run_length 10 (drop i w)) 0
        → drop (suc (run_length 10 (drop i w))) (drop i w) ≡ drop (i + suc (run_length 10 (drop i w))) w
        → fraction_unit l w (i + run_length 10 (drop i w)) v ≡ of_numeral l i (dotted (at_stop (drop i w)))
    go g d =
        let x : List ℕ = drop i w in
        let j : ℕ = run_length 10 (drop i w) in
        let len : length (drop i w) ≡ length w - i = length-drop i w in
        by_bool (eqb (get_or x j 0) (byte "."))
        (λ y.
        let s : get_or x j 0 ≡ byte "." = eqb-true (get_or x j 0) (byte ".") y in
        let e : i + suc j ≡ i + j + 1 = omega arith in
        rw (stop_at x h s, d, e) (fraction_is l i w (i + j) v (take j x) (omega arith) n (run_take r_d x k) (sym g ∙ s)))
        (λ y.
        let s : get_or x j 0 ≡ byte "." → ⊥ = eqb-false (get_or x j 0) (byte ".") y in
        rw (dotted_broken (at_stop x) (stop_not x s)) (fraction_none l w (i + j) v (λ q. s (g ∙ q))))

module _ (r : Radix) (l : ℕ) (w : List ℕ) (i : ℕ) where
  near_at : Near (digits_at (size r) w i 0).value (value_from (size r) 0 (take (run_length (size r) (drop i w)) (drop i w)))
  near_at = near_run (size r) w i 0 0 (omega (arith, size_least r)) (inl refl)

  pub plain_for_lem : plain_for r l w i ≡ of_numeral l i (numeral (plain r) (drop i w))
  unfolding of_numeral
  plain_for_lem =
      let x : List ℕ = drop i w in
      let n : ℕ = run_length (size r) (drop i w) in
      let le : n ≤ length x = run_le (size r) x in
      let len : length x ≡ length w - i = length-drop i w in
      by_bool (eqb n 0)
      (λ y.
      let z : n ≡ 0 = eqb-true n 0 y in
      rw (num_start r x z, run_end (size r) w i 0, le-leb (i + n) i (omega arith)))
      (λ y.
      let z : n ≡ 0 → ⊥ = eqb-false n 0 y in
      let more : i < i + n = omega arith in
      by_bool (ltb n (length x))
      (λ b.
      let lt : n < length x = ltb-true n (length x) b in
      rw (num_not r x (run_not r x lt), run_end (size r) w i 0, lt-leb (i + n) i more, lt-ltb (i + n) (length w) (omega arith))
      (frac_for r l w i (digits_at (size r) w i 0).value lt (omega arith) near_at))
      (λ b.
      let ge : length x ≤ n = ltb-false n (length x) b in
      let full : n ≡ length x = omega arith in
      rw (num_all r x full (omega arith), run_end (size r) w i 0, lt-leb (i + n) i more, le-ltb (i + n) (length w) (omega arith))
      (near_sized l 0 (digits_at (size r) w i 0).value (value_from (size r) 0 x)
      (subst (λ (t : List ℕ). Near (digits_at (size r) w i 0).value (value_from (size r) 0 t)) (take_all n x (omega arith)) near_at))))

pub plain_is : (l : ℕ) (w : List ℕ) (i : ℕ) → (l ≡ byte "K" → ⊥) → plain_unit l w i ≡ of_numeral l i (numeral (base_at l) (drop i w))
unfolding plain_unit
plain_is l w i k = rw (ne_eqb l (byte "K") k) (plain_for_lem (radix_at l) l w i)
