-- The spots go with the scan's states, byte by byte, so what they say of a line is what the rules say; and the walk over a line, turn by turn.
use Prim.Native.Nat.{ℕ, suc, ◌+◌, ◌-◌, ◌≤◌, ◌<◌}
use mathlib.Core.Path.{◌≡◌, refl, sym, ap, ◌∙◌}
use mathlib.Core.Bool.{Bool, true, false, false≢true}
use mathlib.Core.List.{List, [], ◌∷◌, ◌++◌}
use native.Mathlib.Omega.{arith}
use lib.Dec.{eqb}
use lib.ListN.{length, get_or, take, drop, drop_of_length-le}
use lib.Seq.{length-take-le, get_or-take, take-suc}
use borrow.Author.Tests.{ne_eqb, eqb-true}
use Rattle.laws.specs.Cases.{by_bool, cond_both, cond_by, and_false}
use Rattle.laws.specs.Lists.{next, is_nil}
use Rattle.rules.specs.Characters.{is_word_char, is_effector}
use Rattle.rules.specs.Tokens.{Token, State, idle, in_word, in_plus, one_amp, two_amp, slash, comment, star, in_str, quote, flush, Step, stay, emit, fresh, after, end, step}
use Rattle.rules.specs.Refusals.{Res}
use Rattle.rules.specs.Keeping.{state_of, outside, ends_line, ready_from, ready}
use Rattle.keeper.specs.declared.Spot.{Spot}
use Rattle.keeper.specs.declared.Spot.TheVariants.{Outside, Slashed}
use Rattle.keeper.specs.Spots.{spot_of, opened, turned, is_outside, ends_here, ends_from}

-- ---- spots and states

outside_spot : (s : State) → outside s ≡ is_outside (spot_of s)
outside_spot idle = refl
outside_spot (in_word p w) = refl
outside_spot (in_plus p w q) = refl
outside_spot (one_amp p) = refl
outside_spot (two_amp p) = refl
outside_spot (slash p) = refl
outside_spot (comment p) = refl
outside_spot (star p) = refl
outside_spot (in_str p w) = refl
outside_spot (quote p w) = refl

-- the step leads to the spot t
abbrev To : Spot → Step → Type 0
To t st = spot_of (state_of st) ≡ t

after_to : (t : Spot) (r : Res (List Token)) (st : Step) → To t st → To t (after r st)
after_to t r (stay s) h = h
after_to t r (emit r' s) h = h

-- a byte of a class that has neither `/` nor `"`
plain_byte : (f : ℕ → Bool) → f 47 ≡ false → f 34 ≡ false → (c : ℕ) → f c ≡ true → Outside ≡ opened c
plain_byte f k m c y = rw (off 47 k, off 34 m)
  where
    off : (n : ℕ) → f n ≡ false → eqb c n ≡ false
    off n z = by_bool (eqb c n) (λ e. absurd (false≢true (sym z ∙ (ap f (sym (eqb-true c n e)) ∙ y)))) (λ e. e)

one_byte_lem : (n : ℕ) → eqb 47 n ≡ false → eqb 34 n ≡ false → (c : ℕ) → eqb c n ≡ true → Outside ≡ opened c
one_byte_lem n k m c y = plain_byte (λ b. eqb b n) k m c y

fresh_to : (p c : ℕ) → To (opened c) (fresh p c)
fresh_to p c =
    let G : Step → Type 0 = To (opened c) in
    cond_by G (is_word_char c) (λ y. plain_byte is_word_char refl refl c y)
    (λ _. cond_by G (eqb c 43) (λ y. one_byte_lem 43 refl refl c y)
    (λ _. cond_by G (eqb c 38) (λ y. one_byte_lem 38 refl refl c y)
    (λ _. cond_by G (eqb c 45) (λ y. one_byte_lem 45 refl refl c y)
    (λ _. cond_by G (eqb c 44) (λ y. one_byte_lem 44 refl refl c y)
    (λ _. cond_by G (eqb c 58) (λ y. one_byte_lem 58 refl refl c y)
    (λ _. cond_by G (eqb c 61) (λ y. one_byte_lem 61 refl refl c y)
    (λ _. cond_by G (eqb c 59) (λ y. one_byte_lem 59 refl refl c y)
    (λ _. cond_by G (eqb c 47) (λ y. rw y)
    (λ y. cond_by G (eqb c 34) (λ z. rw (y, z)) (λ z. cond_both G (is_effector c) (rw (y, z)) (rw (y, z))))))))))))

end_to : (s : State) (p c : ℕ) → To (opened c) (end s p c)
end_to s p c = after_to (opened c) (flush s) (fresh p c) (fresh_to p c)

step_to : (s : State) (p c : ℕ) → To (turned (spot_of s) c) (step s p c)
step_to idle p c = fresh_to p c
step_to (in_word q w) p c =
    let G : Step → Type 0 = To (opened c) in
    cond_by G (is_word_char c) (λ y. plain_byte is_word_char refl refl c y)
    (λ _. cond_by G (eqb c 43) (λ y. one_byte_lem 43 refl refl c y)
    (λ _. cond_by G (is_effector c) (λ y. plain_byte is_effector refl refl c y) (λ _. end_to (in_word q w) p c)))
step_to (in_plus q w r) p c =
    let G : Step → Type 0 = To (opened c) in
    cond_by G (is_word_char c) (λ y. plain_byte is_word_char refl refl c y)
    (λ _. cond_by G (eqb c 43) (λ y. one_byte_lem 43 refl refl c y)
    (λ _. cond_by G (is_effector c) (λ y. plain_byte is_effector refl refl c y) (λ _. end_to (in_plus q w r) p c)))
step_to (one_amp q) p c =
    let G : Step → Type 0 = To (opened c) in
    cond_by G (eqb c 38) (λ y. one_byte_lem 38 refl refl c y)
    (λ _. cond_by G (eqb c 45) (λ y. one_byte_lem 45 refl refl c y)
    (λ _. cond_by G (is_effector c) (λ y. plain_byte is_effector refl refl c y) (λ _. end_to (one_amp q) p c)))
step_to (two_amp q) p c =
    let G : Step → Type 0 = To (opened c) in
    cond_by G (eqb c 45) (λ y. one_byte_lem 45 refl refl c y)
    (λ _. cond_by G (is_effector c) (λ y. plain_byte is_effector refl refl c y) (λ _. end_to (two_amp q) p c))
step_to (slash q) p c =
    cond_by (To (turned Slashed c)) (eqb c 42)
    (λ y. rw y)
    (λ y. let e : opened c ≡ turned Slashed c = rw y in end_to (slash q) p c ∙ e)
step_to (comment q) p c = by_bool (eqb c 42) (λ y. rw y) (λ y. rw y)
step_to (star q) p c = by_bool (eqb c 47) (λ y. rw y) (λ y. by_bool (eqb c 42) (λ z. rw (y, z)) (λ z. rw (y, z)))
step_to (in_str q w) p c = by_bool (eqb c 34) (λ y. rw y) (λ y. rw y)
step_to (quote q w) p c =
    cond_by (To (opened c)) (eqb c 34) (λ y. let e : c ≡ 34 = eqb-true c 34 y in rw e) (λ _. end_to (quote q w) p c)

-- what the spots say of bytes is what the states say
ends_ready : (cs : List ℕ) (s : State) (p : ℕ) → ends_from (spot_of s) cs ≡ ready_from s p cs
unfolding ends_from
ends_ready [] s p = refl
ends_ready (c ∷ cs) s p =
    by_bool (ends_line s c)
    (λ y. rw (← outside_spot s, ends_from, ready_from, y))
    (λ y. rw (← outside_spot s, ends_from, ready_from, y, ← step_to s p c) (ends_ready cs (state_of (step s p c)) (suc p)))

pub ready_spots : (l : List ℕ) → ready l ≡ ends_from Outside l
unfolding ready
ready_spots l = sym (ends_ready l idle 0)

-- ---- the last byte

-- a line whose last byte is no `;` is not ready
unended : (bs : List ℕ) (s : Spot) (c : ℕ) → eqb c 59 ≡ false → ends_from s (bs ++ c ∷ []) ≡ false
unfolding ends_from
unended [] s c h = rw (h, and_false (is_outside s), ends_from)
unended (b ∷ bs) s c h =
    by_bool (ends_here s b) (λ y. rw (y, ends_from) (more bs)) (λ y. rw (y, ends_from) (unended bs (turned s b) c h))
  where
    more : (ds : List ℕ) → is_nil (ds ++ c ∷ []) ≡ false
    more [] = refl
    more (d ∷ ds) = refl

module _ (l : List ℕ) (n : ℕ) where
  pub none_held : n ≡ 0 → false ≡ ready (take n l)
  unfolding ready
  none_held z = rw z

  -- the last of n bytes is at n - 1
  pub last_semi : {r : Bool} → (n ≡ 0 → ⊥) → r ≡ ready (take (n - 1 + 1) l) → r ≡ ready (take n l)
  last_semi z q = let e : n - 1 + 1 ≡ n = omega arith in q ∙ ap (λ m. ready (take m l)) e

  pub last_other : (n ≡ 0 → ⊥) → n ≤ length l → (get_or l (n - 1) 0 ≡ 59 → ⊥) → eqb (get_or l (n - 1) 0) 59 ≡ ready (take n l)
  last_other z h k =
      let m : ℕ = n - 1 in
      let snoc : take (suc m) l ≡ take m l ++ (get_or l m 0 ∷ []) = take-suc l m 0 (omega arith) in
      let e : suc m ≡ n = omega arith in
      let no : eqb (get_or l m 0) 59 ≡ false = ne_eqb (get_or l m 0) 59 k in
      let unready : ready (take (suc m) l) ≡ false
      = ready_spots (take (suc m) l) ∙ ap (ends_from Outside) snoc ∙ unended (take m l) Outside (get_or l m 0) no in
      no ∙ sym (ap (λ i. ready (take i l)) (sym e) ∙ unready)

-- ---- the walk

-- the line up to n, from i on, at the spot reached
unfoldable pub ends_at : Spot → List ℕ → ℕ → ℕ → Bool
ends_at s l n i = ends_from s (drop i (take (n + 1) l))

pub walk_start : (l : List ℕ) (n : ℕ) → ready (take (n + 1) l) ≡ ends_at Outside l n 0
unfolding ends_at
walk_start l n = ready_spots (take (n + 1) l)

-- one byte `;`
one_end : (s : Spot) → ends_from s (59 ∷ []) ≡ is_outside s
unfolding ends_from
one_end s = by_bool (is_outside s) (λ y. rw (y, ends_from)) (λ y. rw (y, ends_from))

module _ (l : List ℕ) (n : ℕ) (h : n < length l) where
  long : length (take (n + 1) l) ≡ n + 1
  long = length-take-le (n + 1) l (omega arith)

  byte_at : (i : ℕ) → i < n + 1 → drop i (take (n + 1) l) ≡ get_or l i 0 ∷ drop (i + 1) (take (n + 1) l)
  byte_at i k = rw (← get_or-take (n + 1) l i 0 k) (next (take (n + 1) l) i (omega (arith, long)))

  front : length (take n l) ≡ n
  front = length-take-le n l (omega arith)

  -- a byte before the one at n
  byte_in : (i : ℕ) → i < length (take n l) → drop i (take (n + 1) l) ≡ get_or (take n l) i 0 ∷ drop (i + 1) (take (n + 1) l)
  byte_in i k =
      let here : i < n = omega (arith, front) in
      byte_at i (omega arith) ∙ ap (λ b. b ∷ drop (i + 1) (take (n + 1) l)) (sym (get_or-take n l i 0 here))

  -- an earlier `;` outside string and comment
  pub walk_earlier : (i : ℕ) (s : Spot) {t r : Bool} → r ≡ ends_at s l n i → i < length (take n l) → t ≡ ends_here s (get_or (take n l) i 0) → t ≡ true → false ≡ r
  unfolding ends_at ends_from
  walk_earlier i s q k e y =
      let here : i < n = omega (arith, front) in
      sym (q ∙ rw (byte_in i k, ← e, ends_from, y, byte_at (i + 1) (omega arith)))

  -- any other byte
  pub walk_more : (i : ℕ) (s : Spot) {t r : Bool} {s' : Spot} → r ≡ ends_at s l n i → i < length (take n l) → t ≡ ends_here s (get_or (take n l) i 0) → t ≡ false
      → s' ≡ turned s (get_or (take n l) i 0) → r ≡ ends_at s' l n (i + 1)
  unfolding ends_at ends_from
  walk_more i s q k e y e' = q ∙ rw (e', byte_in i k, ← e, ends_from, y)

  -- the `;` at n
  pub walk_end : (i : ℕ) (s : Spot) {t r : Bool} → r ≡ ends_at s l n i → i ≤ length (take n l) → length (take n l) ≤ i → get_or l n 0 ≡ 59 → t ≡ is_outside s → t ≡ r
  unfolding ends_at
  walk_end i s q k k' e e' =
      let here : i ≡ n = omega (arith, front) in
      let none : drop (n + 1) (take (n + 1) l) ≡ [] = drop_of_length-le (take (n + 1) l) {i = n + 1} (omega (arith, long)) in
      let last : drop i (take (n + 1) l) ≡ 59 ∷ [] = rw (here, byte_at n (omega arith), e, none) in
      e' ∙ sym (q ∙ ap (ends_from s) last ∙ one_end s)
