-- Every answer of `read_word` keeps the limits, since each way to a numeral passes them: the letter is its base's own, a keyed numeral has characters.
use mathlib.Core.Path.{◌≡◌, refl, sym}
use mathlib.Core.List.{List, [], ◌∷◌, ◌++◌}
use mathlib.Core.Bool.{true, false, ◌&&◌, false≢true}
use mathlib.Core.Option.{Option, none, some}
use Prim.Native.Nat.{ℕ, ◌-◌, ◌<◌, ◌≤◌}
use native.Mathlib.Omega.{arith}
use lib.ListN.{length, get_or, drop, length-drop}
use lib.Dec.{leb, eqb}
use borrow.Author.Tests.{leb-true}
use Rattle.laws.specs.Cases.{Always, by_bool}
use Rattle.rules.specs.Refusals.{most_value, most_fraction}
use Rattle.rules.specs.Characters.{byte, capital}
use Rattle.rules.specs.Units.{Radix, r_d, r_h, r_o, r_b, Base, plain, keys, size, letter, radix_letter, numeral, is_identifier, is_symbolic_name, run_of, is_key, is_digit_of, dotted, fraction, at_stop, value_from, radix_at, base_at}
use Rattle.digits.proofs.LetterLaws.{is_plain}
use Rattle.std.proofs.Common.{Ok, Err}
use Rattle.units.specs.declared.Word.TheVariants.{Numeral, Keyed, Identifier, Symbolic}
use Rattle.units.specs.declared.Fault.TheVariants.{Unreadable, TooBig}
use Rattle.units.specs.Words.{Answer, sized, of_numeral, name_unit, or_name, may_stand, prefix_unit, unit_under}

-- the letter is its base's own, and the limits hold
pub record IsNumeral (l f v : ℕ) : Type 0 where
  pub own : radix_letter (radix_at l) ≡ l
  pub few : f ≤ most_fraction
  pub small : v ≤ most_value

-- what every answer for the word w keeps
abbrev pub Fits : List ℕ → Answer → Type 0
Fits w (Ok (Numeral l f v)) = IsNumeral l f v
Fits w (Ok (Keyed k)) = k < length w
Fits w (Ok Identifier) = Always
Fits w (Ok Symbolic) = Always
Fits w (Err Unreadable) = Always
Fits w (Err TooBig) = Always

sized_fits : (w : List ℕ) (l f v : ℕ) → radix_letter (radix_at l) ≡ l → Fits w (sized l f v)
unfolding sized
sized_fits w l f v e =
    by_bool (leb v most_value)
    (λ y. by_bool (leb f most_fraction) (λ z. rw (y, z) (record { own = e; few = leb-true f most_fraction z; small = leb-true v most_value y })) (λ z. rw (y, z) tt))
    (λ y. rw y tt)

dotted_fits : (w : List ℕ) (l k : ℕ) (o : Option (List ℕ × List ℕ)) → radix_letter (radix_at l) ≡ l → Fits w (of_numeral l k (dotted o))
unfolding of_numeral
dotted_fits w l k none e = tt
dotted_fits w l k (some s) e =
    by_bool (run_of (is_digit_of r_d) s.0 && run_of (is_digit_of r_d) s.1) (λ y. rw y (sized_fits w l (length s.1) (value_from 10 0 (s.0 ++ s.1)) e)) (λ y. rw y tt)

plain_fits : (w : List ℕ) (l k : ℕ) (r : Radix) (x : List ℕ) → radix_letter (radix_at l) ≡ l → Fits w (of_numeral l k (numeral (plain r) x))
unfolding of_numeral
plain_fits w l k r x e =
    by_bool (run_of (is_digit_of r) x) (λ y. rw (y, numeral) (sized_fits w l 0 (value_from (size r) 0 x) e)) (λ y. rw (y, numeral) (part r))
  where
    part : (r : Radix) → Fits w (of_numeral l k (fraction r x))
    part r_d = dotted_fits w l k (at_stop x) e
    part r_h = tt
    part r_o = tt
    part r_b = tt

some_drop : (w : List ℕ) (k : ℕ) → run_of is_key (drop k w) ≡ true → k < length w
some_drop w k h = go (drop k w) (length-drop k w) h
  where
    go : (x : List ℕ) → length x ≡ length w - k → run_of is_key x ≡ true → k < length w
    go [] e h = absurd (false≢true h)
    go (c ∷ cs) e h = omega arith

keys_fits : (w : List ℕ) (l k : ℕ) → Fits w (of_numeral l k (numeral keys (drop k w)))
unfolding of_numeral
keys_fits w l k = by_bool (run_of is_key (drop k w)) (λ y. rw y (some_drop w k y)) (λ y. rw y tt)

abbrev Own : ℕ → Type 0
Own l = eqb l (byte "K") ≡ false → radix_letter (radix_at l) ≡ l

numeral_fits : (w : List ℕ) (l k : ℕ) → Own l → Fits w (of_numeral l k (numeral (base_at l) (drop k w)))
numeral_fits w l k e =
    by_bool (eqb l (byte "K"))
    (λ y. rw y (keys_fits w l k))
    (λ y. rw y (plain_fits w l k (radix_at l) (drop k w) (e y)))

own_letter : (b : Base) → Own (letter b)
own_letter (plain r_d) z = refl
own_letter (plain r_h) z = refl
own_letter (plain r_o) z = refl
own_letter (plain r_b) z = refl
own_letter keys z = absurd (false≢true (sym z))

own_prefix : (b c : ℕ) → may_stand b c ≡ true → Own c
unfolding may_stand
own_prefix b c h z = by_bool (eqb b (byte "K")) (λ k. absurd (false≢true (rw (z, k) at h))) (λ k. (is_plain c (rw (z, k) at h)).own)

name_fits : (w : List ℕ) → Fits w (name_unit w)
unfolding name_unit
name_fits w = by_bool (is_identifier w) (λ y. rw y tt) (λ y. by_bool (is_symbolic_name w) (λ z. rw (y, z) tt) (λ z. rw (y, z) tt))

or_fits : (w : List ℕ) (a : Answer) → Fits w a → Fits w (or_name w a)
unfolding or_name
or_fits w (Ok (Numeral l f v)) h = h
or_fits w (Ok (Keyed k)) h = h
or_fits w (Ok Identifier) h = tt
or_fits w (Ok Symbolic) h = tt
or_fits w (Err Unreadable) h = name_fits w
or_fits w (Err TooBig) h = tt

pub unit_fits : (b : Base) (w : List ℕ) → Fits w (unit_under (letter b) w)
unfolding unit_under prefix_unit
unit_fits b w =
    by_bool (eqb (get_or w 1 0) (byte "'"))
    (λ y.
    let l : ℕ = capital (get_or w 0 0) in
    by_bool (may_stand (letter b) l)
    (λ z. rw (y, z) (numeral_fits w l 2 (own_prefix (letter b) l z)))
    (λ z. rw (y, z) tt))
    (λ y. rw y (or_fits w (of_numeral (letter b) 0 (numeral (base_at (letter b)) w)) (numeral_fits w (letter b) 0 (own_letter b))))
