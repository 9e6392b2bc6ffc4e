-- Two writers one behind the other put their texts one behind the other, and the room that is left is what the first one did not take.
use mathlib.Core.List.{List, [], ◌++◌}
use mathlib.Core.Path.{◌≡◌, ◌∙◌, ap, refl, sym}
use Prim.Native.Nat.{ℕ, ◌+◌, ◌≤◌}
use native.Mathlib.Omega.{arith}
use lib.ListN.{length, length-append, take, take-append-drop}
use lib.Seq.{length-take-le, sets, sets-eq}
use Rattle.laws.specs.Over.{back, back_over, length_part, over, part}
use Rattle.print_unit.specs.Ways.{Way, Fits, Puts, written}

module _ {w : Way} (s t : List ℕ) {old : List ℕ} {at : ℕ} where
  pub fits_first : Fits w (s ++ t) at old → Fits w s at old
  fits_first h = record { room = omega (arith, h.room, length-append s t) }

  pub fits_next : {p : ℕ} {mid : List ℕ} → Fits w (s ++ t) at old → Puts w s at old p mid → Fits w t p mid
  fits_next h x = record { room = omega (arith, h.room, length-append s t, x.end, ap w.room x.is, w.kept old at s) }

  pub both_put : {p q : ℕ} {mid new : List ℕ} → Puts w s at old p mid → Puts w t p mid q new → Puts w (s ++ t) at old q new
  both_put x y = record { end = omega (arith, length-append s t, x.end, y.end); is = y.is ∙ rw (x.is, x.end) (w.both old at s t) }

-- .. three of them
module _ {w : Way} (s t u : List ℕ) {old : List ℕ} {at : ℕ} (h : Fits w ((s ++ t) ++ u) at old) where
  pub three_first : Fits w s at old
  three_first = fits_first s t (fits_first (s ++ t) u h)

  module _ {p : ℕ} {xs : List ℕ} (x : Puts w s at old p xs) where
    pub three_second : Fits w t p xs
    three_second = fits_next s t (fits_first (s ++ t) u h) x

    module _ {q : ℕ} {ys : List ℕ} (y : Puts w t p xs q ys) where
      pub three_third : Fits w u q ys
      three_third = fits_next (s ++ t) u h (both_put s t x y)

      pub three_put : {r : ℕ} {zs : List ℕ} → Puts w u q ys r zs → Puts w ((s ++ t) ++ u) at old r zs
      three_put z = both_put (s ++ t) u (both_put s t x y) z

-- nothing is put
pub nothing_put : (w : Way) (old : List ℕ) (at : ℕ) → Puts w [] at old at old
nothing_put w old at = record { end = omega arith; is = sym (w.none old at) }

over_start : (old : List ℕ) (at : ℕ) → at ≤ length old → over (take at old) old ≡ old
over_start old at h = rw (length-take-le at old h) (take-append-drop at old)

-- a text that was written over the start of the buffer's part behind `at` is stored there
pub part_stored : (t old : List ℕ) (at : ℕ) {ys : List ℕ} → at + length t ≤ length old → ys ≡ over t (part old at) → back old at ys ≡ sets old at t
part_stored t old at {ys} h e =
    back_over (take at old) t old (sym (over_start old at (omega arith))) (length-take-le at old (omega arith)) e
    ∙ rw (length-append (take at old) t, length-take-le at old (omega arith), sets-eq t old at h) refl

module _ {t old : List ℕ} {at : ℕ} (h : Fits written t at old) where
  pub behind_fits : length t ≤ length (part old at)
  behind_fits = omega (arith, h.room, length_part old at)

  pub behind_put : {r : ℕ} {ys : List ℕ} → r ≡ at + length t → ys ≡ over t (part old at) → Puts written t at old r (back old at ys)
  behind_put z e = record { end = z; is = part_stored t old at h.room e }
