-- What the tests of an element and an argument say: each is one of the conditions under which the argument is a term, asked in turn.
use mathlib.Core.Path.{◌≡◌, sym, ap, ◌∙◌}
use mathlib.Core.Bool.{Bool, true, false}
use mathlib.Core.List.{List}
use Prim.Native.Nat.{ℕ, ◌+◌, ◌-◌, ◌/◌, ◌%◌, ◌≤◌}
use native.Mathlib.Nat.{div-le_self}
use native.Mathlib.Omega.{arith}
use borrow.Author.Tests.{eqb-true, eq-eqb, ne_eqb, le-leb}
use lib.Dec.{eqb}
use lib.ListN.{length, take, drop}
use Rattle.laws.specs.Cases.{and_l}
use Rattle.laws.specs.Lists.{eq_l}
use Rattle.laws.specs.Over.{part, part_from}
use Rattle.rules.specs.Records.{num4}
use Rattle.order_argument.specs.Terms.{is_range, range_field, upper_at, increment_at, lower_at}
use Rattle.order_argument.proofs.TermLaws.{range_long}
use Rattle.member.specs.Seeking.{alike, step_of, range_term, term_in}

-- ---- alike

module _ (x w : List ℕ) where
  pub alike_longer : (length x - range_field ≡ length w → ⊥) → false ≡ alike x w
  unfolding alike
  alike_longer h = rw (ne_eqb (length x - 11) (length w) h)

  pub alike_is : {s : Bool} → is_range x ≡ true → length x - range_field ≡ length w → s ≡ eq_l (take (length x - 4 - range_field) (drop range_field x)) (take (length w - 4) w)
      → s ≡ alike x w
  unfolding alike
  alike_is h e q =
      let n : length x - 4 - 11 ≡ length w - 4 = omega (arith, range_long x h) in
      q ∙ rw (n, eq-eqb (length x - 11) (length w) e)

  -- what is like a range is as long as its units
  pub alike_long : {s : Bool} → is_range x ≡ true → s ≡ alike x w → s ≡ true → 9 ≤ length w
  unfolding alike
  alike_long h q y =
      omega (arith, range_long x h, eqb-true (length x - 11) (length w) (and_l (eqb (length x - 11) (length w)) (eq_l (take (length w - 4) (drop 11 x)) (take (length w - 4) w)) (sym q ∙ y)))

-- ---- the step

module _ (lo up inc v : ℕ) where
  -- no more steps than the value
  pub step_few : (v - lo) / inc ≤ v
  step_few = omega (arith, div-le_self (v - lo) inc)

  pub step_is : lo ≤ v → v ≤ up → (inc ≡ 0 → ⊥) → (v - lo) % inc ≡ 0 → (v - lo) / inc + 1 ≡ step_of lo up inc v
  unfolding step_of
  step_is h k p z =
      let some : 1 ≤ inc = omega arith in
      rw (le-leb lo v h, le-leb v up k, le-leb 1 inc some, eq-eqb ((v - lo) % inc) 0 z) (omega arith)

-- ---- a term

module _ (x w : List ℕ) where
  pub term_unlike : {s : Bool} → s ≡ alike x w → s ≡ false → 0 ≡ range_term x w
  unfolding range_term
  term_unlike q y = rw (← q, y)

  pub term_alike : {s : Bool} {lo up inc v n : ℕ} → s ≡ alike x w → s ≡ true → lo ≡ num4 x (lower_at x) → up ≡ num4 x upper_at → inc ≡ num4 x increment_at
      → v ≡ num4 w (length w - 4) → n ≡ step_of lo up inc v → n ≡ range_term x w
  unfolding range_term
  term_alike q y el eu ei ev e = e ∙ rw (← q, y, el, eu, ei, ev)

  pub term_range : {r : Bool} {n : ℕ} → r ≡ is_range x → r ≡ true → n ≡ range_term x w → n ≡ term_in x w
  unfolding term_in
  term_range q y e = e ∙ rw (← q, y)

  module _ {r s : Bool} (q : r ≡ is_range x) (y : r ≡ false) (p : s ≡ eq_l (part x 3) w) where
    same_is : s ≡ eq_l (drop 3 x) w
    same_is = p ∙ ap (λ (l : List ℕ). eq_l l w) (part_from x 3)

    pub term_single : s ≡ true → 1 ≡ term_in x w
    unfolding term_in
    term_single z = rw (← q, y, ← same_is, z)

    pub term_other : s ≡ false → 0 ≡ term_in x w
    unfolding term_in
    term_other z = rw (← q, y, ← same_is, z)
