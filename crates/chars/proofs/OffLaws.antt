-- The first byte that is not permitted is where the rule `first_off` refuses, and where there is none it does not.
use Prim.Native.Nat.{ℕ, suc}
use mathlib.Core.Path.{◌≡◌, refl, subst, sym, ◌∙◌}
use mathlib.Core.Bool.{Bool, true, cond, not}
use mathlib.Core.List.{List, [], ◌∷◌}
use native.Mathlib.Numerals.{add-one}
use lib.Dec.{ltb}
use lib.ListN.{length}
use Rattle.std.proofs.Common.{Option, Some, None}
use Rattle.std.proofs.lemmas.Iterator.Adapters.{position_from-zero}
use Rattle.std.specs.List.{position_from, position_or_len}
use Rattle.laws.specs.Cases.{by_bool}
use Rattle.rules.specs.Characters.{is_permitted}
use Rattle.rules.specs.Refusals.{Res, ok, bad, not_permitted}
use Rattle.rules.specs.Tokens.{first_off}
use Rattle.chars.specs.Off.{IsOff}

-- a refusal at the place that was found
abbrev Off : Res Bool → Option ℕ → Type 0
Off q (Some p) = q ≡ bad not_permitted p
Off q None = q ≡ ok true

off_from : (s : List ℕ) (i : ℕ) → Off (first_off i s) (position_from (λ b. not (is_permitted b)) i s)
off_from [] i = refl
off_from (b ∷ s) i =
    by_bool (is_permitted b)
    (λ y. rw (y, first_off, add-one i) (off_from s (suc i)))
    (λ y. rw (y, first_off))

at_start : (s : List ℕ) (r : Option ℕ) → Off (first_off 0 s) r → IsOff s r
at_start s (Some p) h = h
at_start s None h = h

pub off_is : (s : List ℕ) (r : Option ℕ) → r ≡ cond (ltb (position_or_len (λ b. not (is_permitted b)) s) (length s)) (Some (position_or_len (λ b. not (is_permitted b)) s)) None → IsOff s r
off_is s r e = at_start s r (subst (Off (first_off 0 s)) (sym (e ∙ position_from-zero (λ b. not (is_permitted b)) s)) (off_from s 0))
