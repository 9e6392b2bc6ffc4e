-- The turns of the loops that read digits: what the rest of the text stands for, behind what is read, is what the text stands for.
use mathlib.Core.Path.{◌≡◌, refl, sym, ap, ◌∙◌}
use mathlib.Core.Option.{Option as Maybe, none, some}
use mathlib.Core.Bool.{Bool, true, false, false≢true}
use mathlib.Core.List.{List, [], ◌∷◌, ◌++◌}
use Prim.Native.Nat.{ℕ, ◌+◌, ◌-◌, ◌*◌, ◌^◌, ◌<◌, ◌≤◌}
use native.Mathlib.Omega.{arith}
use borrow.Author.Tests.{ne_eqb, lt-ltb, le-ltb, lt-leb, le-leb, leb-true, ltb-true, ltb-false}
use lib.ListN.{length, get_or, drop, set, drop_of_length-le, length-append, length-set, get_or-eq_default}
use lib.Dec.{leb, ltb}
use Rattle.std.specs.Prelude.{Option, Some, None, Result, Ok, Err}
use Rattle.laws.specs.Cases.{by_bool, and_l, and_r, and_false, cond_by}
use Rattle.laws.specs.Lists.{all, next}
use Rattle.rules.specs.Characters.{is_digit, between}
use Rattle.laws.specs.Over.{over, over_byte}
use Rattle.console_figures.specs.Numbers.{hex_value, is_hex, digit_of, is_blank, value_from, number_from, number_of, Pairs, out_of_place, good, wrong, pairs_from, pairs_of, digit_at, pair_at}
use Rattle.console_figures.specs.declared.numbers.OutOfPlace.{OutOfPlace}

-- ---- digits

between_true : (a b c : ℕ) → between a b c ≡ true → (a ≤ c) × (c ≤ b)
between_true a b c y = (leb-true a c (and_l (leb a c) (leb c b) y), leb-true c b (and_r (leb a c) (leb c b) y))

-- a digit's value, or 16
pub hex_most : (c : ℕ) → hex_value c ≤ 16
unfolding hex_value
hex_most c =
    cond_by (λ v. v ≤ 16) (is_digit c) (λ y. omega (arith, between_true 48 57 c y))
    (λ n. cond_by (λ v. v ≤ 16) (between 65 70 c) (λ y. omega (arith, between_true 65 70 c y))
    (λ m. cond_by (λ v. v ≤ 16) (between 97 102 c) (λ y. omega (arith, between_true 97 102 c y)) (λ k. omega arith)))

decimal_value : (c : ℕ) → is_digit c ≡ true → hex_value c ≡ c - 48
unfolding hex_value
decimal_value c y = rw y

decimal_no : (c : ℕ) → 9 < hex_value c → is_digit c ≡ false
decimal_no c h =
    by_bool (is_digit c) (λ y. absurd (omega (arith, between_true 48 57 c y, decimal_value c y))) (λ y. y)

-- what is no decimal digit counts ten or more
high : (c : ℕ) → is_digit c ≡ false → 9 < hex_value c
unfolding hex_value
high c n =
    rw n
    (cond_by (λ v. 9 < v) (between 65 70 c) (λ y. omega arith)
    (λ m. cond_by (λ v. 9 < v) (between 97 102 c) (λ y. omega arith) (λ k. omega arith)))

decimal_yes : (c : ℕ) → hex_value c ≤ 9 → is_digit c ≡ true
decimal_yes c h = by_bool (is_digit c) (λ y. y) (λ y. absurd (omega (arith, high c y)))

-- a digit found, and none found
some_inj : {a b : ℕ} → ◌≡◌ {A = Option ℕ} (Some a) (Some b) → a ≡ b
some_inj h = cc

some≢none : {C : Type 0} {a : ℕ} → ◌≡◌ {A = Option ℕ} (Some a) None → C
some≢none h = let z : ◌≡◌ {A = ℕ} 0 1 = cc in absurd (omega arith)

pub digit_is : (c : ℕ) {d : ℕ} → digit_of c ≡ Some d → (is_hex c ≡ true) × (d ≡ hex_value c)
digit_is c q = by_bool (is_hex c) (λ y. (y, sym (some_inj (rw y at q)))) (λ n. some≢none (sym (rw n at q)))

pub digit_none : (c : ℕ) → digit_of c ≡ None → is_hex c ≡ false
digit_none c q = by_bool (is_hex c) (λ y. some≢none (rw y at q)) (λ n. n)

-- ---- white space

pub blank_in : (c : ℕ) → 9 ≤ c → c ≤ 13 → true ≡ is_blank c
unfolding is_blank
blank_in c h k = rw (le-leb 9 c h, le-leb c 13 k)

pub blank_space : (c : ℕ) → c ≡ 32 → true ≡ is_blank c
unfolding is_blank
blank_space c e = rw e

pub blank_below : (c : ℕ) → c < 9 → false ≡ is_blank c
unfolding is_blank
blank_below c h = rw (lt-leb 9 c h, ne_eqb c 32 (λ e. absurd (omega arith)))

pub blank_above : (c : ℕ) → 13 < c → (c ≡ 32 → ⊥) → false ≡ is_blank c
unfolding is_blank
blank_above c h n = rw (lt-leb c 13 h, ne_eqb c 32 n, and_false (leb 9 c))

-- ---- decimal numbers

-- more digits make a value no smaller
grows : (cs : List ℕ) (v : ℕ) → v ≤ value_from v cs
grows [] v = omega arith
grows (c ∷ cs) v = omega (arith, grows cs (v * 10 + (c - 48)))

-- the number that the digits from position i on write, behind digits of value v
unfoldable pub number_at : List ℕ → ℕ → ℕ → Option ℕ
number_at s i v = number_from v (drop i s)

pub number_none : (s : List ℕ) → length s ≡ 0 → None ≡ number_of s
unfolding number_of
number_none [] h = refl
number_none (c ∷ cs) h = absurd (omega arith)

pub number_start : (s : List ℕ) → (length s ≡ 0 → ⊥) → number_of s ≡ number_at s 0 0
unfolding number_of number_at
number_start [] h = absurd (h refl)
number_start (c ∷ cs) h = refl

module _ (s : List ℕ) (i v : ℕ) where
  pub number_end : {r : Option ℕ} → r ≡ number_at s i v → length s ≤ i → v < 2 ^ 64 → Some v ≡ r
  unfolding number_at number_from
  number_end q h k = sym (q ∙ rw (drop_of_length-le s h, lt-ltb v (2 ^ 64) k))

  stopped : {r : Option ℕ} → r ≡ number_at s i v → i < length s → is_digit (get_or s i 0) ≡ false → None ≡ r
  unfolding number_at number_from
  stopped q h n = sym (q ∙ rw (next s i h, n))

  -- no digit at all
  pub number_other : {r : Option ℕ} → r ≡ number_at s i v → i < length s → digit_of (get_or s i 0) ≡ None → None ≡ r
  number_other q h e =
      let c = get_or s i 0 in
      let k : 16 ≤ hex_value c = ltb-false (hex_value c) 16 (digit_none c e) in
      stopped q h (decimal_no c (omega arith))

  -- a digit above 9
  pub number_stop : {d : ℕ} {r : Option ℕ} → r ≡ number_at s i v → i < length s → digit_of (get_or s i 0) ≡ Some d → 9 < d → None ≡ r
  number_stop q h e t = let k = (digit_is (get_or s i 0) e).1 in stopped q h (decimal_no (get_or s i 0) (omega arith))

  pub number_big : {d : ℕ} {r : Option ℕ} → r ≡ number_at s i v → i < length s → digit_of (get_or s i 0) ≡ Some d → d ≤ 9
      → 2 ^ 64 ≤ v * 10 + d → None ≡ r
  unfolding number_at number_from
  number_big q h e t k =
      let c = get_or s i 0 in
      let same = (digit_is c e).1 in
      let y : is_digit c ≡ true = decimal_yes c (omega arith) in
      let w : 2 ^ 64 ≤ value_from (v * 10 + (c - 48)) (drop (i + 1) s)
      = omega (arith, decimal_value c y, grows (drop (i + 1) s) (v * 10 + (c - 48))) in
      sym (q ∙ rw (next s i h, y, le-ltb _ _ w, and_false (all is_digit (drop (i + 1) s))))

  pub number_more : {d : ℕ} {r : Option ℕ} → r ≡ number_at s i v → i < length s → digit_of (get_or s i 0) ≡ Some d → d ≤ 9
      → r ≡ number_at s (i + 1) (v * 10 + d)
  unfolding number_at number_from
  number_more q h e t =
      let same = (digit_is (get_or s i 0) e).1 in
      let y : is_digit (get_or s i 0) ≡ true = decimal_yes (get_or s i 0) (omega arith) in
      q ∙ rw (same, decimal_value (get_or s i 0) y, next s i h, y)

-- ---- pairs of hexadecimal digits

-- past the end there is no digit
past_none : (s : List ℕ) (i : ℕ) → length s ≤ i → is_hex (get_or s i 0) ≡ false
unfolding hex_value
past_none s i h = rw (get_or-eq_default s 0 h)

-- the digit at place i
pub at_past : (s : List ℕ) (i : ℕ) → length s ≤ i → Err (out_of_place i) ≡ digit_at s i
unfolding digit_at
at_past s i h = rw (past_none s i h)

pub at_digit : (s : List ℕ) (i : ℕ) {d : ℕ} → digit_of (get_or s i 0) ≡ Some d → Ok d ≡ digit_at s i
unfolding digit_at
at_digit s i q = let e = digit_is (get_or s i 0) q in rw (e.0, e.1)

pub at_none : (s : List ℕ) (i : ℕ) → digit_of (get_or s i 0) ≡ None → Err (out_of_place i) ≡ digit_at s i
unfolding digit_at
at_none s i q = rw (digit_none (get_or s i 0) q)

ok_inj : {a b : ℕ} → ◌≡◌ {A = Result ℕ OutOfPlace} (Ok a) (Ok b) → a ≡ b
ok_inj h = cc

err_same : {e f : OutOfPlace} → ◌≡◌ {A = Result ℕ OutOfPlace} (Err e) (Err f) → e ≡ f
err_same h = cc

err_inj : {a b : ℕ} → ◌≡◌ {A = Result ℕ OutOfPlace} (Err (out_of_place a)) (Err (out_of_place b)) → a ≡ b
err_inj h = ap (λ (e : OutOfPlace). e.place) (err_same h)

ok≢err : {C : Type 0} {a : ℕ} {b : OutOfPlace} → ◌≡◌ {A = Result ℕ OutOfPlace} (Ok a) (Err b) → C
ok≢err h = let z : ◌≡◌ {A = ℕ} 0 1 = cc in absurd (omega arith)

digit_ok : (s : List ℕ) (i : ℕ) {d : ℕ} → digit_at s i ≡ Ok d → (is_hex (get_or s i 0) ≡ true) × (d ≡ hex_value (get_or s i 0))
unfolding digit_at
digit_ok s i q = by_bool (is_hex (get_or s i 0)) (λ y. (y, sym (ok_inj (rw y at q)))) (λ n. ok≢err (sym (rw n at q)))

digit_err : (s : List ℕ) (i : ℕ) {e : OutOfPlace} → digit_at s i ≡ Err e → (is_hex (get_or s i 0) ≡ false) × (◌≡◌ {A = Result ℕ OutOfPlace} (Err e) (Err (out_of_place i)))
unfolding digit_at
digit_err s i q = by_bool (is_hex (get_or s i 0)) (λ y. ok≢err (rw y at q)) (λ n. (n, sym (rw n at q)))

-- the pair at place i, by its two digits
module _ (s : List ℕ) (i : ℕ) where
  pub pair_first : {e : OutOfPlace} → digit_at s i ≡ Err e → Err e ≡ pair_at s i
  unfolding pair_at
  pair_first q = let d = digit_err s i q in d.1 ∙ rw (d.0)

  pub pair_second : {d : ℕ} {e : OutOfPlace} → digit_at s i ≡ Ok d → digit_at s (i + 1) ≡ Err e → Err e ≡ pair_at s i
  unfolding pair_at
  pair_second q r = let d = digit_ok s i q in let f = digit_err s (i + 1) r in f.1 ∙ rw (d.0, f.0)

  pub pair_both : {d l : ℕ} → digit_at s i ≡ Ok d → digit_at s (i + 1) ≡ Ok l → Ok (d * 16 + l) ≡ pair_at s i
  unfolding pair_at
  pair_both q r = let d = digit_ok s i q in let f = digit_ok s (i + 1) r in rw (d.0, f.0, d.1, f.1)

  -- a digit's value is below 16
  pub digit_low : {d : ℕ} → digit_at s i ≡ Ok d → d < 16
  digit_low q = let d = digit_ok s i q in let t = ltb-true (hex_value (get_or s i 0)) 16 d.0 in omega (arith, d.1)

inside : (s : List ℕ) (i : ℕ) → is_hex (get_or s i 0) ≡ true → i < length s
inside s i y =
    by_bool (ltb i (length s)) (λ t. ltb-true i (length s) t)
    (λ t. absurd (false≢true (sym (past_none s i (ltb-false i (length s) t)) ∙ y)))

-- what the bytes from place i on give
unfoldable pub pairs_at : Maybe ℕ → ℕ → List ℕ → List ℕ → ℕ → Pairs
pairs_at o room done s i = pairs_from (drop i s) o room done i

-- one byte of the text
module _ (room : ℕ) (done s : List ℕ) (i : ℕ) where
  at_end : length s ≤ i → pairs_at none room done s i ≡ good done
  unfolding pairs_at pairs_from
  at_end h = rw (drop_of_length-le s h)

  at_blank : i < length s → is_blank (get_or s i 0) ≡ true → pairs_at none room done s i ≡ pairs_at none room done s (i + 1)
  unfolding pairs_at pairs_from
  at_blank h b = rw (next s i h, b)

  at_full : i < length s → is_blank (get_or s i 0) ≡ false → room ≤ length done → pairs_at none room done s i ≡ wrong done i
  unfolding pairs_at pairs_from
  at_full h b k = rw (next s i h, b, le-ltb (length done) room k, and_false (is_hex (get_or s i 0)))

  at_other : i < length s → is_blank (get_or s i 0) ≡ false → is_hex (get_or s i 0) ≡ false → pairs_at none room done s i ≡ wrong done i
  unfolding pairs_at pairs_from
  at_other h b n = rw (next s i h, b, n)

  at_first : i < length s → is_blank (get_or s i 0) ≡ false → length done < room → is_hex (get_or s i 0) ≡ true
      → pairs_at none room done s i ≡ pairs_at (some (hex_value (get_or s i 0))) room done s (i + 1)
  unfolding pairs_at pairs_from
  at_first h b k y = rw (next s i h, b, y, lt-ltb (length done) room k)

  at_second : (v : ℕ) → is_hex (get_or s i 0) ≡ true
      → pairs_at (some v) room done s i ≡ pairs_at none room (done ++ ((v * 16 + hex_value (get_or s i 0)) ∷ [])) s (i + 1)
  unfolding pairs_at pairs_from
  at_second v y = rw (next s i (inside s i y), y)

  at_missing : (v : ℕ) → is_hex (get_or s i 0) ≡ false → pairs_at (some v) room done s i ≡ wrong done i
  unfolding pairs_at pairs_from
  at_missing v n =
      by_bool (ltb i (length s)) (λ t. rw (next s i (ltb-true i (length s) t), n))
      (λ t. rw (drop_of_length-le s (ltb-false i (length s) t)))

-- ---- the turns of the loop that reads pairs

module _ (room : ℕ) (done s : List ℕ) (i : ℕ) (h : i < length s) (b : is_blank (get_or s i 0) ≡ false) (k : length done < room) where
  at_pair : (v : ℕ) → pair_at s i ≡ Ok v → pairs_at none room done s i ≡ pairs_at none room (done ++ (v ∷ [])) s (i + 2)
  unfolding pair_at
  at_pair v q =
      by_bool (is_hex (get_or s i 0))
      (λ y. by_bool (is_hex (get_or s (i + 1) 0))
      (λ z.
      let e : hex_value (get_or s i 0) * 16 + hex_value (get_or s (i + 1) 0) ≡ v = ok_inj (rw (y, z) at q) in
      let j : i + 1 + 1 ≡ i + 2 = omega arith in
      rw (← j, ← e) (at_first room done s i h b k y ∙ at_second room done s (i + 1) (hex_value (get_or s i 0)) z))
      (λ n. ok≢err (sym (rw (y, n) at q))))
      (λ n. ok≢err (sym (rw n at q)))

  at_wrong : (p : ℕ) → pair_at s i ≡ Err (out_of_place p) → pairs_at none room done s i ≡ wrong done p
  unfolding pair_at
  at_wrong p q =
      by_bool (is_hex (get_or s i 0))
      (λ y. by_bool (is_hex (get_or s (i + 1) 0))
      (λ z. ok≢err (rw (y, z) at q))
      (λ n.
      let e : i + 1 ≡ p = err_inj (rw (y, n) at q) in
      rw (← e) (at_first room done s i h b k y ∙ at_missing room done s (i + 1) (hex_value (get_or s i 0)) n)))
      (λ n.
      let e : i ≡ p = err_inj (rw n at q) in
      rw (← e) (at_other room done s i h b n))

-- the bytes of the pairs before place i stand at the start of the buffer, and what the rest gives behind them is what the text gives
pub record Reading (old s out : List ℕ) (i n : ℕ) : Type 0 where
  pub done : List ℕ
  pub same : pairs_of (length old) s ≡ pairs_at none (length old) done s i
  pub is : out ≡ over done old
  pub size : length done ≡ n
  pub room : n ≤ length old
  pub long : length out ≡ length old

pub reading_none : (old s : List ℕ) → Reading old s old 0 0
unfolding pairs_of pairs_at
reading_none old s = record { done = []; same = refl; is = refl; size = refl; room = omega arith; long = refl }

-- what `decode` promises
abbrev pub Promise : List ℕ → List ℕ → List ℕ → Result ℕ OutOfPlace → Type 0
Promise old s out r = (r ≡ (pairs_of (length old) s).answer) × (out ≡ over (pairs_of (length old) s).bytes old)

module _ {old s out : List ℕ} {i n : ℕ} (v : Reading old s out i n) where
  promised : (a : Result ℕ OutOfPlace) → pairs_of (length old) s ≡ record { bytes = v.done; answer = a } → Promise old s out a
  promised a e = rw e (refl, v.is)

  pub reading_end : length s ≤ i → Promise old s out (Ok n)
  reading_end h = rw (← v.size) (promised (Ok (length v.done)) (v.same ∙ at_end (length old) v.done s i h))

  module _ (h : i < length s) {t : Bool} (e : t ≡ is_blank (get_or s i 0)) where
    pub reading_blank : t ≡ true → Reading old s out (i + 1) n
    reading_blank y = record {
      done = v.done;
      same = v.same ∙ at_blank (length old) v.done s i h (sym e ∙ y);
      is = v.is;
      size = v.size;
      room = v.room;
      long = v.long;
    }

    pub reading_full : t ≡ false → length out ≤ n → Promise old s out (Err (out_of_place i))
    reading_full y k =
        promised (Err (out_of_place i)) (v.same ∙ at_full (length old) v.done s i h (sym e ∙ y) (omega (arith, v.size, v.long)))

    pub reading_wrong : t ≡ false → n < length out → (p : ℕ) → pair_at s i ≡ Err (out_of_place p) → Promise old s out (Err (out_of_place p))
    reading_wrong y k p q =
        let r : length v.done < length old = omega (arith, v.size, v.long) in
        promised (Err (out_of_place p)) (v.same ∙ at_wrong (length old) v.done s i h (sym e ∙ y) r p q)

    pub reading_err : t ≡ false → n < length out → {e : OutOfPlace} {r : Result ℕ OutOfPlace} → pair_at s i ≡ Err e → r ≡ Err e → Promise old s out r
    reading_err y k {e = e} q z = let p = reading_wrong y k e.place q in rw z p

    pub reading_pair : t ≡ false → n < length out → (b : ℕ) → pair_at s i ≡ Ok b → Reading old s (set out n b) (i + 2) (n + 1)
    reading_pair y k b q =
        let r : length v.done < length old = omega (arith, v.size, v.long) in
        record {
          done = v.done ++ (b ∷ []);
          same = v.same ∙ at_pair (length old) v.done s i h (sym e ∙ y) r b q;
          is = ap (λ (o : List ℕ). set o n b) v.is ∙ over_byte v.done old b n v.size (omega (arith, v.long));
          size = length-append v.done (b ∷ []) ∙ ap (λ (m : ℕ). m + 1) v.size;
          room = omega (arith, v.long);
          long = length-set out n b ∙ v.long;
        }
