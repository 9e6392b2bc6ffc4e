-- The separators that begin with `&`: the automaton looks for the longest, and so does the code.
use Prim.Native.Nat.{ℕ, ◌+◌, ◌≤◌}
use mathlib.Core.Path.{◌≡◌, sym, ◌∙◌}
use mathlib.Core.Bool.{false}
use mathlib.Core.List.{List, [], ◌∷◌}
use native.Mathlib.Omega.{arith}
use lib.Dec.{eqb}
use lib.ListN.{length, get_or}
use borrow.Author.Tests.{ne_eqb}
use Rattle.rules.specs.Characters.{byte}
use Rattle.rules.specs.Refusals.{ok}
use Rattle.rules.specs.Tokens.{at, idle, and_then, ampamp_, ampamp, amp_, amp, sep_code, one_amp, two_amp}
use Rattle.token_table.specs.Table.{lex_of_kind, string_kind}
use Rattle.scan.specs.Along.{run_at, Skipped, IsAmp}
use Rattle.scan.proofs.RunLaws.{run_step, stayed, settle, inside}
use Rattle.scan.proofs.SkipLaws.{skips_one, skips_two}

its_kind : {s : List ℕ} {i k e : ℕ} → ((q : ℕ) (w : List ℕ) → run_at (one_amp q) s i ≡ and_then (ok (at q (lex_of_kind k w) ∷ [])) (run_at idle s e)) → k ≤ string_kind → i ≤ e → e ≤ length s → IsAmp s i k e
its_kind r f p b = record { reads = r; few = f; past = p; inside = b }

module _ {s : List ℕ} {i j b : ℕ} (z : Skipped s i j) (g : b ≡ get_or s j 0) where
  one : (q : ℕ) → run_at (one_amp q) s i ≡ run_at (one_amp q) s j
  one q = z.reads (one_amp q) (skips_one q)

  pub amp_dash : b ≡ byte "-" → IsAmp s i (sep_code amp_) (j + 1)
  unfolding lex_of_kind
  amp_dash t =
      let y : get_or s j 0 ≡ byte "-" = sym g ∙ t in
      its_kind (λ q w. one q ∙ run_step (one_amp q) s j (inside s j y) ∙ rw y) (omega arith) (omega (arith, z.past)) (omega (arith, inside s j y))

  pub amp_one : (b ≡ byte "-" → ⊥) → (b ≡ byte "&" → ⊥) → IsAmp s i (sep_code amp) j
  unfolding lex_of_kind
  amp_one m n =
      let d : eqb (get_or s j 0) (byte "-") ≡ false = ne_eqb (get_or s j 0) (byte "-") (λ t. m (g ∙ t)) in
      let a : eqb (get_or s j 0) (byte "&") ≡ false = ne_eqb (get_or s j 0) (byte "&") (λ t. n (g ∙ t)) in
      its_kind (λ q w. one q ∙ settle (one_amp q) s j (λ p. rw (a, d, z.stops))) (omega arith) z.past z.inside

  pub amp_next : b ≡ byte "&" → j + 1 ≤ length s
  amp_next t = omega (arith, inside s j (sym g ∙ t))

  module _ {k c : ℕ} (t : b ≡ byte "&") (z2 : Skipped s (j + 1) k) (g2 : c ≡ get_or s k 0) where
    two : (q : ℕ) → run_at (one_amp q) s i ≡ run_at (two_amp q) s k
    two q =
        let y : get_or s j 0 ≡ byte "&" = sym g ∙ t in
        one q ∙ stayed (one_amp q) (two_amp q) s j (inside s j y) (rw y) ∙ z2.reads (two_amp q) (skips_two q)

    pub amp_two_dash : c ≡ byte "-" → IsAmp s i (sep_code ampamp_) (k + 1)
    unfolding lex_of_kind
    amp_two_dash u =
        let y : get_or s k 0 ≡ byte "-" = sym g2 ∙ u in
        its_kind (λ q w. two q ∙ run_step (two_amp q) s k (inside s k y) ∙ rw y) (omega arith) (omega (arith, z.past, z2.past)) (omega (arith, inside s k y))

    pub amp_two : (c ≡ byte "-" → ⊥) → IsAmp s i (sep_code ampamp) k
    unfolding lex_of_kind
    amp_two m =
        let d : eqb (get_or s k 0) (byte "-") ≡ false = ne_eqb (get_or s k 0) (byte "-") (λ u. m (g2 ∙ u)) in
        its_kind (λ q w. two q ∙ settle (two_amp q) s k (λ p. rw (d, z2.stops))) (omega arith) (omega (arith, z.past, z2.past)) z2.inside
