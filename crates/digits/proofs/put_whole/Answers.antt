-- A number below the base is its only digit. All digits of another one are its last so many, where so many were counted.
use Prim.Native.Nat.{ℕ, ◌≤◌}
use mathlib.Core.List.{List, [], ◌∷◌}
use lib.ListN.{length}
use lib.Seq.{sets-eq}
use Rattle.rules.specs.Printing.{digit_char}
use Rattle.digits.specs.Digits.{whole}
use Rattle.laws.specs.Over.{over}
use Rattle.digits.proofs.DigitLaws.{whole_one, whole_fixed}
use mathlib.Core.Path.{◌≡◌, refl, ap, ◌∙◌}
use native.Mathlib.Omega.{arith}
use Rattle.digits.proofs.put_whole.Goals as goal

pub bounds-out-0 : goal.bounds-out-0
bounds-out-0 c = let a = c.args in omega (arith, c.requires.2, ap length (whole_one a.base a.n c.if-n-base.true))

pub returns-then-n-base : goal.returns-then-n-base
returns-then-n-base c =
    let a = c.args in
    let one : whole a.base a.n ≡ digit_char a.n ∷ [] = whole_one a.base a.n c.if-n-base.true in
    let room : 1 ≤ length a.out.now = omega (arith, c.requires.2, ap length one) in
    rw one (refl, rw c.digit_char.ensures (sets-eq (digit_char a.n ∷ []) a.out.now 0 room))

pub returns : goal.returns
returns c = let a = c.args in (c.digit_count-k.ensures, c.put_digits.ensures ∙ ap (λ (x : List ℕ). over x a.out.now) (whole_fixed a.base a.n c.digit_count-k.result (omega arith) c.digit_count-k.ensures))
