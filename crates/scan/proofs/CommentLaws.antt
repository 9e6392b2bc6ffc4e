-- A comment goes on up to the first `*/`: a `*` with no `/` behind it leaves the automaton where any other byte leaves it.
use Prim.Native.Nat.{ℕ, ◌+◌, ◌<◌, ◌≤◌}
use mathlib.Core.Path.{◌≡◌, refl, sym, ◌∙◌}
use mathlib.Core.List.{List}
use native.Mathlib.Omega.{arith}
use lib.Dec.{ltb}
use lib.ListN.{length, get_or}
use borrow.Author.Tests.{ne_eqb, ltb-true, ltb-false}
use Rattle.laws.specs.Cases.{by_bool}
use Rattle.rules.specs.Characters.{byte}
use Rattle.rules.specs.Tokens.{idle, comment, star}
use Rattle.scan.specs.Along.{run_at, Closes, IsComment}
use Rattle.std.proofs.Common.{None}
use Rattle.scan.proofs.RunLaws.{run_end, run_step, stayed, stayed_next, inside}

-- the loop's invariant: from i to r the automaton stays in the comment
pub record Commenting (s : List ℕ) (i r : ℕ) : Type 0 where
  pub reads : (q : ℕ) → run_at (comment q) s i ≡ run_at (comment q) s r
  pub past : i ≤ r

pub comment_none : (s : List ℕ) (i : ℕ) → Commenting s i i
comment_none s i = record { reads = λ q. refl; past = omega arith }

-- a `*` that no `/` follows
star_comment : (q : ℕ) (s : List ℕ) (i : ℕ) → (get_or s i 0 ≡ byte "/" → ⊥) → run_at (star q) s i ≡ run_at (comment q) s i
star_comment q s i n =
    by_bool (ltb i (length s))
    (λ y.
    let h = ltb-true i (length s) y in
    rw (run_step (star q) s i h, run_step (comment q) s i h, ne_eqb (get_or s i 0) (byte "/") n))
    (λ y.
    let h = ltb-false i (length s) y in
    rw (run_end (star q) s i h, run_end (comment q) s i h))

module _ {s : List ℕ} {i₀ i : ℕ} (v : Commenting s i₀ i) where
  pub comment_more : i < length s → (get_or s i 0 ≡ byte "*" → ⊥) → Commenting s i₀ (i + 1)
  comment_more h n =
      record {
        reads = λ q. v.reads q ∙ stayed (comment q) (comment q) s i h (rw (ne_eqb (get_or s i 0) (byte "*") n));
        past = omega (arith, v.past);
      }

  pub comment_star : {b : ℕ} → i < length s → get_or s i 0 ≡ byte "*" → b ≡ get_or s (i + 1) 0 → (b ≡ byte "/" → ⊥) → Commenting s i₀ (i + 1)
  comment_star h t e n =
      record {
        reads = λ q. v.reads q ∙ stayed (comment q) (star q) s i h (rw t) ∙ star_comment q s (i + 1) (λ z. n (e ∙ z));
        past = omega (arith, v.past);
      }

  pub comment_stop : {b : ℕ} → i < length s → get_or s i 0 ≡ byte "*" → b ≡ get_or s (i + 1) 0 → b ≡ byte "/" → Closes s i₀ (i + 2)
  comment_stop h t e z =
      let y : get_or s (i + 1) 0 ≡ byte "/" = sym e ∙ z in
      let k = inside s (i + 1) y in
      record {
        reads = λ q. v.reads q ∙ stayed (comment q) (star q) s i h (rw t) ∙ stayed_next (star q) idle s i k (rw y);
        past = omega (arith, v.past);
        inside = omega arith;
      }

  pub comment_end : length s ≤ i → IsComment s i₀ None
  comment_end h q = v.reads q ∙ run_end (comment q) s i h
