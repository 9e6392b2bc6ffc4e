-- Bytes begin with others where each of those is the same: byte by byte, and four bytes are the same where their numbers are.
use Prim.Native.Nat.{◌*◌, ◌+◌, ◌<◌, ◌^◌, ◌≤◌, ℕ}
use borrow.Author.Tests.{eq-eqb, eqb-true, ne_eqb}
use lib.Dec.{eqb}
use lib.ListN.{drop, drop_of_length-le, get_or, length}
use mathlib.Core.Bool.{Bool, ◌&&◌, false, true}
use mathlib.Core.List.{List, [], ◌∷◌}
use mathlib.Core.Path.{◌∙◌, ◌≡◌, refl, sym}
use native.Mathlib.Omega.{arith}
use Rattle.laws.specs.Cases.{and_l, and_r, by_bool}
use Rattle.laws.specs.Lists.{next}
use Rattle.rules.specs.Records.{num4}
use Rattle.record_walk.proofs.FrontLaws.{Small}
use Rattle.print_value.specs.Begins.{begins, begins_at}

pub begins_none : (xs : List ℕ) → begins xs [] ≡ true
begins_none [] = refl
begins_none (x ∷ xs) = refl

pub begins_short : (xs ys : List ℕ) → length xs < length ys → false ≡ begins xs ys
begins_short [] [] h = absurd (omega arith)
begins_short (x ∷ xs) [] h = absurd (omega arith)
begins_short [] (y ∷ ys) h = refl
begins_short (x ∷ xs) (y ∷ ys) h = by_bool (eqb y x) (λ e. rw e (begins_short xs ys (omega arith))) (λ e. rw e)

pub begins_start : (xs ys : List ℕ) → begins xs ys ≡ begins_at xs ys 0
unfolding begins_at
begins_start xs ys = refl

module _ (xs ys : List ℕ) (i : ℕ) where
  pub alike_end : {r : Bool} → r ≡ begins_at xs ys i → length ys ≤ i → true ≡ r
  unfolding begins_at
  alike_end q h = sym (q ∙ rw (drop_of_length-le ys h) (begins_none (drop i xs)))

  pub alike_more : {r : Bool} → r ≡ begins_at xs ys i → i < length ys → length ys ≤ length xs → get_or xs i 0 ≡ get_or ys i 0 → r ≡ begins_at xs ys (i + 1)
  unfolding begins_at
  alike_more q h k e =
      let l : i < length xs = omega arith in
      q ∙ rw (next xs i l, next ys i h, eq-eqb _ _ (sym e))

  pub alike_stop : {r : Bool} → r ≡ begins_at xs ys i → i < length ys → length ys ≤ length xs → (get_or xs i 0 ≡ get_or ys i 0 → ⊥) → false ≡ r
  unfolding begins_at
  alike_stop q h k n =
      let l : i < length xs = omega arith in
      let m : get_or ys i 0 ≡ get_or xs i 0 → ⊥ = λ e. n (sym e) in
      sym (q ∙ rw (next xs i l, next ys i h, ne_eqb _ _ m))

  alike_same : begins_at xs ys i ≡ true → i < length ys → length ys ≤ length xs → (get_or xs i 0 ≡ get_or ys i 0) × (begins_at xs ys (i + 1) ≡ true)
  unfolding begins_at
  alike_same e h k =
      let l : i < length xs = omega arith in
      let a : Bool = eqb (get_or ys i 0) (get_or xs i 0) in
      let b : Bool = begins (drop (i + 1) xs) (drop (i + 1) ys) in
      let f : a && b ≡ true = rw (next xs i l, next ys i h) at e in
      (sym (eqb-true _ _ (and_l a b f)), and_r a b f)

-- ---- four bytes at once

module _ (xs ys : List ℕ) (i : ℕ) where
  number_of : (zs : List ℕ)
      → num4 zs i ≡ get_or zs i 0 * 2 ^ 24 + get_or zs (i + 1) 0 * 2 ^ 16 + get_or zs (i + 1 + 1) 0 * 256 + get_or zs (i + 1 + 1 + 1) 0
  number_of zs =
      let p : 1 + i ≡ i + 1 = omega arith in
      let q : 2 + i ≡ i + 1 + 1 = omega arith in
      let r : 3 + i ≡ i + 1 + 1 + 1 = omega arith in
      rw (p, q, r)

  module _ {r : Bool} {m n : ℕ} (q : r ≡ begins_at xs ys i) (h : i + 4 ≤ length ys) (k : length ys ≤ length xs) (x : m ≡ num4 xs i) (y : n ≡ num4 ys i) where
    pub starts_more : Small xs → Small ys → m ≡ n → r ≡ begins_at xs ys (i + 4)
    starts_more s t e =
        let j : ℕ = i + 1 in
        let w = sym (x ∙ number_of xs) ∙ e ∙ y ∙ number_of ys in
        let a : get_or xs i 0 ≡ get_or ys i 0 = omega (arith, w, s j, s (j + 1), s (j + 1 + 1), t j, t (j + 1), t (j + 1 + 1)) in
        let b : get_or xs j 0 ≡ get_or ys j 0 = omega (arith, w, a, s (j + 1), s (j + 1 + 1), t (j + 1), t (j + 1 + 1)) in
        let c : get_or xs (j + 1) 0 ≡ get_or ys (j + 1) 0 = omega (arith, w, a, b, s (j + 1 + 1), t (j + 1 + 1)) in
        let d : get_or xs (j + 1 + 1) 0 ≡ get_or ys (j + 1 + 1) 0 = omega (arith, w, a, b, c) in
        let z : i + 1 + 1 + 1 + 1 ≡ i + 4 = omega arith in
        rw (← z) (alike_more xs ys (j + 1 + 1) (alike_more xs ys (j + 1) (alike_more xs ys j (alike_more xs ys i q (omega arith) k a) (omega arith) k b) (omega arith) k c) (omega arith) k d)

    pub starts_stop : (m ≡ n → ⊥) → false ≡ r
    starts_stop u =
        by_bool (begins_at xs ys i)
        (λ e.
        let a = alike_same xs ys i e (omega arith) k in
        let b = alike_same xs ys (i + 1) a.1 (omega arith) k in
        let c = alike_same xs ys (i + 1 + 1) b.1 (omega arith) k in
        let d = alike_same xs ys (i + 1 + 1 + 1) c.1 (omega arith) k in
        absurd (u (x ∙ number_of xs ∙ rw (a.0, b.0, c.0, d.0) (sym (y ∙ number_of ys)))))
        (λ e. sym (q ∙ e))
