-- A unit that the reader accepts is well formed under its base: the rules' tests, one after the other, are those of `wf_unit`.
use Prim.Native.Nat.{ℕ, zero, suc, ◌≤◌}
use mathlib.Core.Path.{◌≡◌, refl, sym, ◌∙◌}
use mathlib.Core.Bool.{Bool, true, false, ◌&&◌, ◌||◌, false≢true}
use mathlib.Core.List.{List, [], ◌∷◌, map}
use native.Mathlib.Omega.{arith}
use lib.Dec.{leb, eqb, eqb-suc-zero}
use lib.ListN.{length, length-map}
use borrow.Author.Tests.{le-leb}
use Rattle.laws.specs.Cases.{by_bool, or_true, conjuncts}
use Rattle.laws.specs.Lists.{any, all_map}
use Rattle.rules.specs.Characters.{capital}
use Rattle.rules.specs.Refusals.{ok}
use Rattle.rules.specs.Tokens.{Lex, word, word_chars, word_most}
use Rattle.rules.specs.Units.{Radix, Base, plain, keys, Unit, num, keyed, identifier, symbolic, text, is_key, is_held_key, run_of, limited, allowed}
use Rattle.rules.specs.WellFormed.{wf_unit, ok_fraction, is_decimal}
use Rattle.rules.proofs.ReadSteps.{NumeralRead, whole, stopped, dialled, numeral_read, UnitRead, by_prefix, by_base, by_identifier, by_symbols, by_string}
use Rattle.rules.proofs.ResultLaws.{cond_ok}
use Rattle.rules.proofs.ScanBack.{ok_lex}

-- what a numeral's characters give, its size apart
abbrev pub shape : Base → Unit → Bool
shape d (num r f v) = allowed d (plain r) && (eqb f 0 || is_decimal r)
shape d (keyed w) = run_of is_held_key w && leb (length w) 32
shape d (identifier w) = false
shape d (symbolic w) = false
shape d (text w) = false

pub frac_ok : (r : Radix) (f : ℕ) → eqb f 0 || is_decimal r ≡ true → leb f 9 ≡ true → ok_fraction r f ≡ true
frac_ok r zero h k = refl
frac_ok r (suc f) h k =
    let d : is_decimal r ≡ true = rw (eqb-suc-zero f) at h in
    rw (d, k)

pub limited_wf : (d : Base) (p : ℕ) (i : Unit) → shape d i ≡ true → limited p i ≡ ok i → wf_unit d i ≡ true
limited_wf d p (num r f v) s h =
    cond_ok (leb v 4294967295 && leb f 9) (num r f v) 13 p (num r f v) h
    (λ t e.
    let ha : allowed d (plain r) ≡ true = search conjuncts in
    let hv : leb v 4294967295 ≡ true = search conjuncts in
    rw (ha, frac_ok r f (search conjuncts) (search conjuncts), hv))
limited_wf d p (keyed w) s h = s
limited_wf d p (identifier w) s h = absurd (false≢true s)
limited_wf d p (symbolic w) s h = absurd (false≢true s)
limited_wf d p (text w) s h = absurd (false≢true s)

-- what is typed as keyed digits is held as them
run_held : (w : List ℕ) → run_of is_key w ≡ true → run_of is_held_key (map capital w) ≡ true
run_held [] h = h
run_held (c ∷ w) h = all_map is_key is_held_key capital (λ c y. y) (c ∷ w) h

pub numeral_shape : {b : Base} {w : List ℕ} {i : Unit} (d : Base) → allowed d b ≡ true → length w ≤ 32 → NumeralRead b w i → shape d i ≡ true
numeral_shape d ha hl (whole t) = rw ha
numeral_shape d ha hl (stopped xs ys s t) = rw ha (or_true (eqb (length ys) 0))
numeral_shape d ha hl (dialled {w = w} t) = rw (run_held w t, length-map w capital, le-leb (length w) 32 hl)

pub allowed_self : (d : Base) → allowed d d ≡ true
allowed_self (plain r) = refl
allowed_self keys = refl

pub plain_most : (w : List ℕ) → any (λ c. eqb c 39) w ≡ false → word_most w ≡ 32
plain_most [] h = refl
plain_most (c ∷ []) h = refl
plain_most (c ∷ m ∷ w) h = by_bool (eqb m 39) (λ y. absurd (false≢true (sym h ∙ rw y (or_true (eqb c 39))))) (λ y. rw y)

pub word_ok : (w : List ℕ) → ok_lex (word w) ≡ true → (word_chars false w ≡ true) × (length w ≤ word_most w)
word_ok [] h = absurd (false≢true h)
word_ok (c ∷ cs) h = (search conjuncts, search conjuncts)

-- a word without a mark is at most 32 bytes
pub plain_short : (w : List ℕ) → ok_lex (word w) ≡ true → any (λ c. eqb c 39) w ≡ false → length w ≤ 32
plain_short w h y = omega (arith, (word_ok w h).1, plain_most w y)

pub unit_wf : {b : Base} {p : ℕ} {x : Lex} {i : Unit} → UnitRead b p x i → ok_lex x ≡ true → wf_unit b i ≡ true
unit_wf {b} {p} (by_prefix {a = a} {c = c} {w = w} {i = i} z al n l) h =
    limited_wf b p i (numeral_shape b al (omega (arith, (word_ok (c ∷ 39 ∷ w) h).1)) (numeral_read a w i n)) l
unit_wf {b} {p} (by_base {w = w} {i = i} y n l) h = limited_wf b p i (numeral_shape b (allowed_self b) (plain_short w h y) (numeral_read b w i n)) l
unit_wf (by_identifier {w = w} y z t) h = rw (t, z, le-leb (length w) 32 (plain_short w h y))
unit_wf (by_symbols {w = w} y z t s) h = rw (s, t, z, le-leb (length w) 32 (plain_short w h y), (word_ok w h).0)
unit_wf by_string h = h
