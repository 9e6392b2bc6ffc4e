-- A unit's text, read under its place's base, gives the unit back: digits written are digits read, once over the base.
use Prim.Native.Nat.{ℕ, zero, suc, ◌+◌, ◌*◌, ◌/◌, ◌%◌, ◌^◌, ◌≤◌, ◌<◌}
use mathlib.Core.Path.{◌≡◌, refl, sym, ap, ◌∙◌}
use mathlib.Core.Bool.{Bool, true, false, ◌&&◌, ◌||◌, not, false≢true}
use mathlib.Core.List.{List, [], ◌∷◌, ◌++◌, map}
use mathlib.Core.Option.{Option, none, some}
use Prim.Native.Nat.{suc-le-suc}
use native.Mathlib.Nat.{add-zero, zero-add, zero-mul, pow-suc, pow-zero, mod-lt, div-add-mod', div-lt_iff_lt-mul, le_trans, lt_of_le_of_lt, mod-one, mul-one, mul-pos, div-le_self}
use native.Mathlib.Omega.{arith}
use lib.Arith.{mod-mul}
use lib.Dec.{ltb, leb, eqb, lit≤}
use lib.ListN.{length, length-append}
use borrow.Author.Tests.{eqb-true, ltb-true, ltb-false, leb-true, le-leb, lt-ltb, lt-leb}
use Rattle.laws.specs.Cases.{by_bool, and_l, and_r, and_false, conjuncts}
use Rattle.laws.specs.Lists.{all, any, is_nil, all_append, snoc_some, all_broken, any_append}
use Rattle.rules.specs.Characters.{capital, is_letter, is_alnum, is_symbol_char}
use Rattle.rules.specs.Printing.{digit_char, digits, digits_of, num_text, prefixed, unit_lex}
use Rattle.rules.specs.Refusals.{ok}
use Rattle.rules.specs.Units.{Radix, r_d, r_h, r_o, r_b, Base, plain, keys, size, letter, Unit, num, keyed, identifier, symbolic, text, same_base, read_unit, digit_value, is_digit_of, is_key, is_held_key, value_from, run_of, at_stop, numeral, base_of, limited, is_identifier, is_symbolic_name, allowed, prefix_numeral, with_mark, read_word}
use Rattle.rules.specs.WellFormed.{is_none, is_decimal, ok_fraction, wf_unit}
use Rattle.rules.proofs.CapitalLaws.{letter_capital, held_run, held_capitals}

-- ---- a digit

pub digit_back : (n : ℕ) → n < 16 → digit_value (digit_char n) ≡ n
digit_back n h =
    by_bool (ltb n 10)
    (λ y.
    let lt : n < 10 = ltb-true n 10 y in
    rw (y, le-leb 48 (48 + n) (omega arith), le-leb (48 + n) 57 (omega arith)) (omega arith))
    (λ y.
    let le : 10 ≤ n = ltb-false n 10 y in
    rw (y, le-leb 48 (55 + n) (omega arith), lt-leb (55 + n) 57 (omega arith), lt-leb 97 (55 + n) (omega arith), le-leb 65 (55 + n) (omega arith), le-leb (55 + n) 70 (omega arith)) (omega arith))

pub size_least : (r : Radix) → 2 ≤ size r
size_least r_d = lit≤ tt
size_least r_h = lit≤ tt
size_least r_o = lit≤ tt
size_least r_b = lit≤ tt

pub size_most : (r : Radix) → size r ≤ 16
size_most r_d = lit≤ tt
size_most r_h = lit≤ tt
size_most r_o = lit≤ tt
size_most r_b = lit≤ tt

pub digit_is : (r : Radix) (n : ℕ) → n < size r → is_digit_of r (digit_char n) ≡ true
digit_is r n h = rw (digit_back n (omega (arith, size_most r))) (lt-ltb n (size r) h)

-- ---- the digits of a number

pub value_append : (b a : ℕ) (xs ys : List ℕ) → value_from b a (xs ++ ys) ≡ value_from b (value_from b a xs) ys
value_append b a [] ys = refl
value_append b a (x ∷ xs) ys = value_append b (a * b + digit_value x) xs ys

pub digits_low : (k b n : ℕ) → ltb n b ≡ true → digits (suc k) b n ≡ digit_char n ∷ []
unfolding digits
digits_low k b n y = rw (y, digits)

pub digits_high : (k b n : ℕ) → ltb n b ≡ false → digits (suc k) b n ≡ digits k b (n / b) ++ (digit_char (n % b) ∷ [])
unfolding digits
digits_high k b n y = rw (y, digits)

pub digits_most : (k b n : ℕ) → length (digits k b n) ≤ k
unfolding digits
digits_most zero b n = omega arith
digits_most (suc k) b n =
    by_bool (ltb n b)
    (λ y. rw (digits_low k b n y) (omega arith))
    (λ y. rw (digits_high k b n y, length-append) (omega (arith, digits_most k b (n / b))))

module _ (r : Radix) where
  pub size_pos : 0 < size r
  size_pos = omega (arith, size_least r)

  pub digits_value : (k n : ℕ) → n < size r ^ k → value_from (size r) 0 (digits k (size r) n) ≡ n
  unfolding digits
  digits_value zero n h = omega (arith, rw pow-zero at h)
  digits_value (suc k) n h =
      by_bool (ltb n (size r))
      (λ y. rw (digits_low k (size r) n y, digit_back n (omega (arith, size_most r, ltb-true n (size r) y)), zero-mul, zero-add))
      (λ y.
      let low : n / size r < size r ^ k = (div-lt_iff_lt-mul size_pos).1 (rw pow-suc at h) in
      let lt : n % size r < size r = mod-lt n size_pos in
      rw (digits_high k (size r) n y, value_append, digits_value k (n / size r) low, digit_back (n % size r) (omega (arith, size_most r)))
      (div-add-mod' n (size r)))

  pub digits_all : (k n : ℕ) → all (is_digit_of r) (digits k (size r) n) ≡ true
  unfolding digits
  digits_all zero n = refl
  digits_all (suc k) n =
      by_bool (ltb n (size r))
      (λ y. rw (digits_low k (size r) n y, digit_is r n (ltb-true n (size r) y)))
      (λ y.
      rw (digits_high k (size r) n y)
      (all_append (is_digit_of r) (digits k (size r) (n / size r)) (digit_char (n % size r) ∷ []) (digits_all k (n / size r))
      (rw (digit_is r (n % size r) (mod-lt n size_pos)))))

  pub digits_some : (k n : ℕ) → is_nil (digits (suc k) (size r) n) ≡ false
  digits_some k n =
      by_bool (ltb n (size r))
      (λ y. rw (digits_low k (size r) n y))
      (λ y. rw (digits_high k (size r) n y) (snoc_some (digits k (size r) (n / size r)) (digit_char (n % size r))))

  pub digits_run : (k n : ℕ) → run_of (is_digit_of r) (digits (suc k) (size r) n) ≡ true
  digits_run k n = rw (digits_some k n, digits_all (suc k) n)

pub pow_least : (b k : ℕ) → 0 < b → 0 < b ^ k
pow_least b zero h = rw pow-zero (omega arith)
pow_least b (suc k) h = rw pow-suc (mul-pos (pow_least b k h) h)

-- exactly k digits, after a value a
pub of_value : (k b a n : ℕ) → 2 ≤ b → b ≤ 16 → value_from b a (digits_of k b n) ≡ a * b ^ k + n % b ^ k
of_value zero b a n lo hi = rw (pow-zero, mod-one, mul-one, add-zero)
of_value (suc k) b a n lo hi =
    let pos : 0 < b = omega arith in
    let lt : n % b < b = mod-lt n pos in
    rw (value_append, of_value k b a (n / b) lo hi, digit_back (n % b) (omega arith), pow-suc, mod-mul n (pow_least b k pos) pos) (omega arith)

pub of_length : (k b n : ℕ) → length (digits_of k b n) ≡ k
of_length zero b n = refl
of_length (suc k) b n = rw (length-append, of_length k b (n / b)) (omega arith)

pub of_all : (k : ℕ) (r : Radix) (n : ℕ) → all (is_digit_of r) (digits_of k (size r) n) ≡ true
of_all zero r n = refl
of_all (suc k) r n =
    all_append (is_digit_of r) (digits_of k (size r) (n / size r)) (digit_char (n % size r) ∷ []) (of_all k r (n / size r))
    (rw (digit_is r (n % size r) (mod-lt n (size_pos r))))

-- ---- no mark among them

pub no_mark : (f : ℕ → Bool) → f 39 ≡ false → (w : List ℕ) → all f w ≡ true → any (λ c. eqb c 39) w ≡ false
no_mark f h [] k = refl
no_mark f h (c ∷ w) k =
    by_bool (f c)
    (λ y.
    by_bool (eqb c 39)
    (λ z. absurd (false≢true (sym h ∙ ap f (sym (eqb-true c 39 z)) ∙ y)))
    (λ z. rw z (no_mark f h w (rw y at k))))
    (λ y. absurd (false≢true (rw y at k)))

-- ---- a numeral's characters, read back

pub most : (r : Radix) (v : ℕ) → leb v 4294967295 ≡ true → v < size r ^ 32
most r_d v h = le_trans (suc-le-suc (leb-true v 4294967295 h)) (lit≤ tt)
most r_h v h = le_trans (suc-le-suc (leb-true v 4294967295 h)) (lit≤ tt)
most r_o v h = le_trans (suc-le-suc (leb-true v 4294967295 h)) (lit≤ tt)
most r_b v h = le_trans (suc-le-suc (leb-true v 4294967295 h)) (lit≤ tt)

pub stop_at : (xs ys : List ℕ) → all (is_digit_of r_d) xs ≡ true → at_stop (xs ++ 46 ∷ ys) ≡ some (xs, ys)
stop_at [] ys h = refl
stop_at (x ∷ xs) ys h =
    by_bool (is_digit_of r_d x)
    (λ y.
    by_bool (eqb x 46)
    (λ z. absurd (false≢true (ap (is_digit_of r_d) (sym (eqb-true x 46 z)) ∙ y)))
    (λ z. rw (z, at_stop) (rw (stop_at xs ys (rw y at h)))))
    (λ y. absurd (false≢true (rw y at h)))

pub fraction_back : (f v : ℕ) → leb v 4294967295 ≡ true → numeral (plain r_d) (num_text r_d (suc f) v) ≡ some (num r_d (suc f) v)
fraction_back f v h =
    let xs : List ℕ = digits 32 10 (v / 10 ^ suc f) in
    let ys : List ℕ = digits_of (suc f) 10 v in
    let lt : v / 10 ^ suc f < 10 ^ 32 = lt_of_le_of_lt (div-le_self v (10 ^ suc f)) (most r_d v h) in
    let broken : run_of (is_digit_of r_d) (xs ++ 46 ∷ ys) ≡ false = ap (λ t. not (is_nil (xs ++ 46 ∷ ys)) && t) (all_broken (is_digit_of r_d) xs 46 ys refl) ∙ and_false (not (is_nil (xs ++ 46 ∷ ys))) in
    let split : at_stop (xs ++ 46 ∷ ys) ≡ some (xs, ys) = stop_at xs ys (digits_all r_d 32 (v / 10 ^ suc f)) in
    let some_ys : run_of (is_digit_of r_d) ys ≡ true = rw (snoc_some (digits_of f 10 (v / 10)) (digit_char (v % 10)), of_all (suc f) r_d v) in
    let is_v : value_from 10 0 (xs ++ ys) ≡ v =
    rw (value_append 10 0 xs ys, digits_value r_d 32 (v / 10 ^ suc f) lt, of_value (suc f) 10 (v / 10 ^ suc f) v (lit≤ tt) (lit≤ tt)) (div-add-mod' v (10 ^ suc f)) in
    rw (broken, numeral) (rw (split, digits_run r_d 31 (v / 10 ^ suc f), some_ys, is_v, of_length (suc f) 10 v))

pub numeral_back : (r : Radix) (f v : ℕ) → ok_fraction r f ≡ true → leb v 4294967295 ≡ true → numeral (plain r) (num_text r f v) ≡ some (num r f v)
numeral_back r zero v hf h = rw (digits_run r 31 v, numeral) (rw (digits_value r 32 v (most r v h)))
numeral_back r_d (suc f) v hf h = fraction_back f v h
numeral_back r_h (suc f) v hf h = absurd (false≢true hf)
numeral_back r_o (suc f) v hf h = absurd (false≢true hf)
numeral_back r_b (suc f) v hf h = absurd (false≢true hf)

pub few : (r : Radix) (f : ℕ) → ok_fraction r f ≡ true → leb f 9 ≡ true
few r zero h = refl
few r (suc f) h = and_r (is_decimal r) (leb (suc f) 9) h

pub no_mark_digits : (r : Radix) (w : List ℕ) → all (is_digit_of r) w ≡ true → any (λ c. eqb c 39) w ≡ false
no_mark_digits r_d w h = no_mark (is_digit_of r_d) refl w h
no_mark_digits r_h w h = no_mark (is_digit_of r_h) refl w h
no_mark_digits r_o w h = no_mark (is_digit_of r_o) refl w h
no_mark_digits r_b w h = no_mark (is_digit_of r_b) refl w h

pub no_mark_num : (r : Radix) (f v : ℕ) → any (λ c. eqb c 39) (num_text r f v) ≡ false
no_mark_num r zero v = no_mark_digits r (digits 32 (size r) v) (digits_all r 32 v)
no_mark_num r (suc f) v =
    any_append (λ c. eqb c 39) (digits 32 (size r) (v / size r ^ suc f)) (46 ∷ digits_of (suc f) (size r) v)
    (no_mark_digits r (digits 32 (size r) (v / size r ^ suc f)) (digits_all r 32 (v / size r ^ suc f)))
    (no_mark_digits r (digits_of (suc f) (size r) v) (of_all (suc f) r v))

-- ---- the base letters

pub base_back : (b : Base) → base_of (letter b) ≡ some b
base_back (plain r_d) = refl
base_back (plain r_h) = refl
base_back (plain r_o) = refl
base_back (plain r_b) = refl
base_back keys = refl

pub same_base_lem : (a b : Base) → same_base a b ≡ true → a ≡ b
same_base_lem a b h = let e : letter a ≡ letter b = eqb-true (letter a) (letter b) h in cc (base_back a, base_back b)

pub letter_mark : (b : Base) (t : Bool) → eqb (letter b) 39 || t ≡ t
letter_mark (plain r_d) t = refl
letter_mark (plain r_h) t = refl
letter_mark (plain r_o) t = refl
letter_mark (plain r_b) t = refl
letter_mark keys t = refl

-- ---- a unit

-- a numeral's text, with or without its prefix
pub word_back : (d b : Base) (w : List ℕ) (i : Unit) (p : ℕ) → any (λ c. eqb c 39) w ≡ false → allowed d b ≡ true → numeral b w ≡ some i
    → limited p i ≡ ok i → read_word d p (prefixed (same_base d b) (letter b) w) ≡ ok i
word_back d b w i p nm al nu lim =
    by_bool (same_base d b)
    (λ y. rw (y, same_base_lem d b y) (rw (nm, read_word) (rw (nu, lim))))
    (λ y. rw y (rw (letter_mark b true, read_word) (rw (letter_capital b, with_mark) (rw (al, prefix_numeral) (rw (nu, lim))))))

pub none_is : (o : Option Unit) → is_none o ≡ true → o ≡ none
none_is none h = refl
none_is (some i) h = absurd (false≢true h)

pub ident_alnum : (w : List ℕ) → is_identifier w ≡ true → all is_alnum w ≡ true
ident_alnum [] h = refl
ident_alnum (c ∷ cs) h = rw (and_l (is_letter c) (all is_alnum cs) h, and_r (is_letter c) (all is_alnum cs) h)

pub item_back : (b : Base) (i : Unit) (p : ℕ) → wf_unit b i ≡ true → read_unit b p (unit_lex b i) ≡ ok i
item_back b (num r f v) p h =
    let ho : ok_fraction r f ≡ true = search conjuncts in
    let hl : leb v 4294967295 ≡ true = search conjuncts in
    word_back b (plain r) (num_text r f v) (num r f v) p (no_mark_num r f v) (search conjuncts) (numeral_back r f v ho hl) (rw (hl, few r f ho))
item_back b (keyed w) p h =
    let held : run_of is_held_key w ≡ true = search conjuncts in
    let k : run_of is_key w ≡ true = held_run w held in
    let same : map capital w ≡ w = held_capitals w (search conjuncts) in
    word_back b keys w (keyed w) p (no_mark is_key refl w (search conjuncts)) (keys_allowed b) (rw (k, same)) refl
  where
    keys_allowed : (b : Base) → allowed b keys ≡ true
    keys_allowed (plain r) = refl
    keys_allowed keys = refl
item_back b (identifier w) p h =
    let hw : is_identifier w ≡ true = search conjuncts in
    rw (no_mark is_alnum refl w (ident_alnum w hw), read_word) (rw (none_is (numeral b w) (search conjuncts), hw))
item_back b (symbolic w) p h =
    let hs : is_symbolic_name w ≡ true = search conjuncts in
    let hi : is_identifier w ≡ false = search conjuncts in
    rw (no_mark is_symbol_char refl w (search conjuncts), read_word) (rw (none_is (numeral b w) (search conjuncts), hi, hs))
item_back b (text w) p h = refl
