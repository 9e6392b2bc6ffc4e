-- What stands before a content, the letter, the fraction digits and the value are written one behind the other.
use Prim.Native.Nat.{ℕ}
use mathlib.Core.List.{List, [], ◌∷◌, ◌++◌}
use mathlib.Core.Path.{refl}
use Rattle.laws.specs.Over.{back_over}
use Rattle.rules.specs.Records.{four_bytes}
use Rattle.fields.specs.Units.{numeral_bytes, two_bytes}
use Rattle.fields.proofs.put_numeral.Goals as goal

pub returns : goal.returns
unfolding numeral_bytes
returns c =
    let a = c.args in
    let old = a.out.now in
    let e : List ℕ = 7 ∷ two_bytes 6 in
    let one = back_over e (a.letter ∷ []) old c.put_header.ensures refl c.put_u8.ensures in
    let two = back_over (e ++ (a.letter ∷ [])) (a.fraction ∷ []) old one refl c.put_u8-2.ensures in
    back_over (e ++ (a.letter ∷ a.fraction ∷ [])) (four_bytes a.value) old two refl c.put_number.ensures
