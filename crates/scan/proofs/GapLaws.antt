-- A gap: between tokens the automaton passes over format effectors and comments.
use Prim.Native.Nat.{ℕ, ◌+◌, ◌<◌}
use mathlib.Core.Path.{◌≡◌, sym, ap, ◌∙◌, subst}
use mathlib.Core.Bool.{false}
use mathlib.Core.List.{List}
use native.Mathlib.Omega.{arith}
use lib.Dec.{eqb}
use lib.ListN.{length, get_or}
use borrow.Author.Tests.{ne_eqb, eqb-true}
use Rattle.rules.specs.Characters.{byte}
use Rattle.rules.specs.Refusals.{bad, unclosed, no_token}
use Rattle.rules.specs.Tokens.{idle, slash, comment}
use Rattle.chars.specs.declared.Class.{Class}
use Rattle.chars.specs.declared.Class.TheVariants.{Effector, Slash}
use Rattle.chars.specs.Classes.{class_of, number}
use Rattle.chars.proofs.ClassLaws.{effector_yes, is_slash}
use Rattle.std.proofs.Common.{Option, Some, None}
use Rattle.scan.specs.Along.{IsComment, run_at, Closes, Passes}
use Rattle.scan.proofs.RunLaws.{stayed, stayed_next, settle, inside}
use Rattle.scan.proofs.SkipLaws.{skips_idle}

-- a format effector is passed over
pub gap_skip : {s : List ℕ} {i : ℕ} {k : Class} → i < length s → number k ≡ class_of (get_or s i 0) → k ≡ Effector → Passes s i (i + 1)
gap_skip {s} {i} h e t =
    record { reads = stayed idle idle s i h (skips_idle i (get_or s i 0) (effector_yes (get_or s i 0) e (ap number t))); past = omega arith; inside = omega arith }

-- a `/`
pub gap_slash : (s : List ℕ) (i : ℕ) {k : Class} → number k ≡ class_of (get_or s i 0) → k ≡ Slash → get_or s i 0 ≡ byte "/"
gap_slash s i e t = eqb-true (get_or s i 0) (byte "/") (is_slash (get_or s i 0) ∙ rw (← e, t))

closes : (s : List ℕ) (i : ℕ) {r : Option ℕ} {j : ℕ} → IsComment s i r → r ≡ Some j → Closes s i j
closes s i w y = subst (IsComment s i) y w

module _ (s : List ℕ) (i : ℕ) {b : ℕ} (y : get_or s i 0 ≡ byte "/") (g : b ≡ get_or s (i + 1) 0) where
  into : run_at idle s i ≡ run_at (slash i) s (i + 1)
  into = stayed idle (slash i) s i (inside s i y) (rw y)

  pub gap_five : (b ≡ byte "*" → ⊥) → run_at idle s i ≡ bad no_token i
  gap_five m =
      let z : eqb (get_or s (i + 1) 0) (byte "*") ≡ false = ne_eqb (get_or s (i + 1) 0) (byte "*") (λ u. m (g ∙ u)) in
      into ∙ settle (slash i) s (i + 1) (λ p. rw z)

  module _ (u : b ≡ byte "*") where
    there : get_or s (i + 1) 0 ≡ byte "*"
    there = sym g ∙ u

    opened : run_at idle s i ≡ run_at (comment i) s (i + 2)
    opened = into ∙ stayed_next (slash i) (comment i) s i (inside s (i + 1) there) (rw there)

    module _ {r : Option ℕ} (w : IsComment s (i + 2) r) where
      pub gap_over : {j : ℕ} → r ≡ Some j → Passes s i j
      gap_over y = let z = closes s (i + 2) w y in record { reads = opened ∙ z.reads i; past = omega (arith, z.past); inside = z.inside }

      pub gap_four : r ≡ None → run_at idle s i ≡ bad unclosed i
      gap_four y = opened ∙ subst (IsComment s (i + 2)) y w i
