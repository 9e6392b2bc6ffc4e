-- 2 and 3 come before the scan: the rule `scan` tests them in this order, and then is the automaton.
use Prim.Native.Nat.{ℕ, suc, ◌+◌, ◌<◌, ◌≤◌}
use mathlib.Core.Path.{◌≡◌, sym, ◌∙◌, subst}
use mathlib.Core.Bool.{true}
use mathlib.Core.List.{List, [], ◌∷◌}
use lib.ListN.{length}
use borrow.Author.Tests.{le-leb, lt-leb}
use Rattle.rules.specs.Refusals.{ok, bad, too_long, not_permitted, most_text}
use Rattle.rules.specs.Tokens.{idle, run, scan, first_off}
use Rattle.chars.specs.Off.{IsOff}
use Rattle.std.proofs.Common.{Option, Some, None, Result, Ok, Err}
use Rattle.rules.specs.Characters.{is_permitted}
use Rattle.rules.specs.declared.Refusal.{Refusal}
use Rattle.rules.proofs.ResultLaws.{ok≢bad}
use Rattle.token_table.specs.declared.Token.{Token as Entry}
use native.Mathlib.Omega.{arith}
use Rattle.laws.specs.Cases.{by_bool}
use Rattle.scan.specs.Filled.{IsFilled}
use Rattle.scan.specs.declared.Filled.{Filled}

-- where the first byte stands that is not permitted
off_below : (s : List ℕ) (i p : ℕ) → first_off i s ≡ bad not_permitted p → p < i + length s
off_below [] i p h = ok≢bad (sym h)
off_below (c ∷ s) i p h =
    by_bool (is_permitted c)
    (λ y. let z = off_below s (suc i) p (rw (y, first_off) at h) in omega arith)
    (λ y. let z : i ≡ p = (let w = rw (y, first_off) at h in cc) in omega arith)

module _ (s : List ℕ) where
  pub whole_long : most_text < length s → scan s ≡ bad too_long most_text
  unfolding scan
  whole_long h = rw (lt-leb (length s) most_text h, scan)

  module _ (h : length s ≤ most_text) {off : Option ℕ} (w : IsOff s off) where
    pub whole_place : (p : ℕ) → off ≡ Some p → p < length s
    whole_place p y = omega (arith, off_below s 0 p (subst (IsOff s) y w))

    pub whole_off : (p : ℕ) → off ≡ Some p → scan s ≡ bad not_permitted p
    unfolding scan
    whole_off p y = let e : first_off 0 s ≡ bad not_permitted p = subst (IsOff s) y w in rw (le-leb (length s) most_text h, scan, e)

    scan_run : off ≡ None → scan s ≡ run idle 0 s
    unfolding scan
    scan_run y = let e : first_off 0 s ≡ ok true = subst (IsOff s) y w in rw (le-leb (length s) most_text h, scan, e)

    pub whole_fill : (toks : List Entry) (contents : List ℕ) (r : Result Filled Refusal) → off ≡ None → IsFilled (run idle 0 s) toks contents r → IsFilled (scan s) toks contents r
    whole_fill toks contents (Ok f) e t = record { is = scan_run e ∙ t.is; within = t.within; table = t.table; bytes = t.bytes }
    whole_fill toks contents (Err x) e t = scan_run e ∙ t
