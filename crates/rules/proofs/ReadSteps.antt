-- A reading that succeeded, taken apart: each step of the reader succeeded, and what was read is what the steps gave. One law for each step.
use Prim.Native.Nat.{ℕ, zero, suc, ◌+◌, ◌≤◌, ◌<◌}
use mathlib.Core.Path.{◌≡◌, refl, sym, ap, ◌∙◌, subst}
use mathlib.Core.Bool.{Bool, true, false, cond, ◌&&◌, not, false≢true, beq}
use mathlib.Core.List.{List, [], ◌∷◌, ◌++◌, map}
use mathlib.Core.Option.{Option, none, some}
use lib.Dec.{leb, ltb, eqb}
use lib.ListN.{length, get_or}
use borrow.Author.Tests.{eqb-true, leb-true, ltb-true}
use Rattle.laws.specs.Cases.{by_bool, by_option, some_inj, none≢some, cond_some, conjuncts}
use Rattle.laws.specs.Lists.{any, is_nil, all}
use Rattle.rules.specs.Characters.{byte, capital, is_permitted}
use Rattle.rules.specs.Refusals.{ok, bad, map_r, wrong_name, wrong_code, name_twice, too_many, kind_differs, too_many_orders, more_of_name, more_of_code, most_places, most_blocks, most_leading, most_elements, most_arguments, most_text}
use Rattle.rules.specs.Tokens.{Sep, ampamp_, ampamp, amp_, amp, plusplus, dash, comma, colon, equals, semi, Lex, word, str, sep, Token, at, sep_code, pos_of, scan, idle, run, first_off}
use Rattle.rules.specs.Units.{Radix, r_d, r_h, r_o, r_b, Base, plain, keys, size, same_radix, Unit, num, keyed, identifier, symbolic, text, is_digit_of, is_key, value_from, run_of, at_stop, fraction, base_of, numeral, limited, or_else, is_identifier, is_symbolic_name, allowed, prefix_numeral, with_mark, read_word, read_unit}
use Rattle.rules.specs.Commands.{Name, Element, single, range, place, place_name, same_name, Command, command, leading, value_count, is_sep, Seg, seg, first, split, Cut, cut, uncut, cut_at, is_cut, piece, pieces, is_piece, cons_head, cons_cut}
use Rattle.rules.specs.Printing.{Link, link}
use Rattle.rules.specs.Groups.{Join, join, Want, unit_after, joiner, is_joiner, is_unit, joiner_of, alternate, read_units, Group, group, Collected, collected, collect_one, collect, groups_of, Arg, arg, cons_arg, full_arg, no_more, inc_of, end_of, increment, ends, upper, first_arg, later_arg, later, later_elements, elements, read_value}
use Rattle.rules.specs.Reading.{Placed, placed, unplaced, read_named, read_of_kind, read_place, read_places, kind_of, PlacedBlock, placed_block, read_block, block_size, read_blocks, running_blocks, block_of, read_segs, read_cut, read_letters, read}
use Rattle.rules.proofs.ResultLaws.{ok_inj, ok≢bad, bind_ok, map_ok, guard_ok, cond_ok}

-- ---- separators and radices are known by their numbers

abbrev pub seps : List Sep
seps = ampamp_ ∷ ampamp ∷ amp_ ∷ amp ∷ plusplus ∷ dash ∷ comma ∷ colon ∷ equals ∷ semi ∷ []

abbrev sep_of : ℕ → Sep
sep_of n = get_or seps n ampamp_

sep_back : (s : Sep) → sep_of (sep_code s) ≡ s
sep_back ampamp_ = refl
sep_back ampamp = refl
sep_back amp_ = refl
sep_back amp = refl
sep_back plusplus = refl
sep_back dash = refl
sep_back comma = refl
sep_back colon = refl
sep_back equals = refl
sep_back semi = refl

pub sep_same : (s t : Sep) → eqb (sep_code s) (sep_code t) ≡ true → s ≡ t
sep_same s t h = sym (sep_back s) ∙ ap sep_of (eqb-true (sep_code s) (sep_code t) h) ∙ sep_back t

-- a test that is computed at each separator holds of all
pub every_sep : (f : Sep → Bool) → all f seps ≡ true → (s : Sep) → f s ≡ true
every_sep f h s = subst (λ t. f t ≡ true) (sep_back s) (at_each seps (sep_code s) h)
  where
    at_each : (ts : List Sep) (n : ℕ) → all f ts ≡ true → f (get_or ts n ampamp_) ≡ true
    at_each [] n k = search conjuncts
    at_each (t ∷ ts) zero k = search conjuncts
    at_each (t ∷ ts) (suc n) k = at_each ts n (search conjuncts)

pub is_sep_lem : (s : Sep) (x : Lex) → is_sep s x ≡ true → x ≡ sep s
is_sep_lem s (word w) h = absurd (false≢true h)
is_sep_lem s (str w) h = absurd (false≢true h)
is_sep_lem s (sep t) h = ap (λ z. sep z) (sym (sep_same s t h))

abbrev radix_of : ℕ → Radix
radix_of n = cond (eqb n 10) r_d (cond (eqb n 16) r_h (cond (eqb n 8) r_o r_b))

radix_back : (r : Radix) → radix_of (size r) ≡ r
radix_back r_d = refl
radix_back r_h = refl
radix_back r_o = refl
radix_back r_b = refl

pub same_radix_is : (r s : Radix) → same_radix r s ≡ true → r ≡ s
same_radix_is r s h = let e : size r ≡ size s = eqb-true (size r) (size s) h in cc (radix_back r, radix_back s)

-- ---- a numeral, prefix apart: digits, digits with a full stop, keyed digits

pub data NumeralRead : Base → List ℕ → Unit → Type 0 where
  whole : {r : Radix} {w : List ℕ} → run_of (is_digit_of r) w ≡ true → NumeralRead (plain r) w (num r 0 (value_from (size r) 0 w))
  stopped : (xs ys : List ℕ) → run_of (is_digit_of r_d) xs ≡ true → run_of (is_digit_of r_d) ys ≡ true
      → NumeralRead (plain r_d) (xs ++ (byte "." ∷ ys)) (num r_d (length ys) (value_from 10 0 (xs ++ ys)))
  dialled : {w : List ℕ} → run_of is_key w ≡ true → NumeralRead keys w (keyed (map capital w))

stop_is : (w : List ℕ) (s : List ℕ × List ℕ) → at_stop w ≡ some s → w ≡ s.0 ++ (byte "." ∷ s.1)
stop_is [] s h = none≢some h
stop_is (c ∷ w) s h =
    by_bool (eqb c 46)
    (λ y. let e : ([], w) ≡ s = some_inj (rw (y, at_stop) at h) in rw (← e) (ap (λ z. z ∷ w) (eqb-true c 46 y)))
    (λ y.
    by_option (at_stop w)
    (λ z. none≢some (rw z at (rw (y, at_stop) at h)))
    (λ r z. let e : (c ∷ r.0, r.1) ≡ s = some_inj (rw z at (rw (y, at_stop) at h)) in rw (← e) (ap (λ l. c ∷ l) (stop_is w r z))))

pub numeral_read : (b : Base) (w : List ℕ) (i : Unit) → numeral b w ≡ some i → NumeralRead b w i
numeral_read (plain r) w i h =
    by_bool (run_of (is_digit_of r) w)
    (λ y. rw (← (some_inj (rw (y, numeral) at h))) (whole y))
    (λ y. with_stop r (rw (y, numeral) at h))
  where
    with_stop : (r : Radix) → fraction r w ≡ some i → NumeralRead (plain r) w i
    with_stop r_d k =
        by_option (at_stop w)
        (λ z. none≢some (rw z at k))
        (λ s z.
        let a : Bool = run_of (is_digit_of r_d) s.0 in
        let d : Bool = run_of (is_digit_of r_d) s.1 in
        cond_some (a && d) (num r_d (length s.1) (value_from 10 0 (s.0 ++ s.1))) i (rw z at k)
        (λ t e. rw (← e, stop_is w s z) (stopped s.0 s.1 (search conjuncts) (search conjuncts))))
    with_stop r_h k = none≢some k
    with_stop r_o k = none≢some k
    with_stop r_b k = none≢some k
numeral_read keys w i h = cond_some (run_of is_key w) (keyed (map capital w)) i h (λ t e. rw (← e) (dialled t))

-- ---- a unit: by which rule its word was read, or that it is a string

pub data UnitRead (b : Base) (p : ℕ) : Lex → Unit → Type 0 where
  by_prefix : {a : Base} {c : ℕ} {w : List ℕ} {i : Unit} → base_of (capital c) ≡ some a → allowed b a ≡ true → numeral a w ≡ some i → limited p i ≡ ok i
      → UnitRead b p (word (c ∷ byte "'" ∷ w)) i
  by_base : {w : List ℕ} {i : Unit} → any (λ c. eqb c (byte "'")) w ≡ false → numeral b w ≡ some i → limited p i ≡ ok i → UnitRead b p (word w) i
  by_identifier : {w : List ℕ} → any (λ c. eqb c (byte "'")) w ≡ false → numeral b w ≡ none → is_identifier w ≡ true → UnitRead b p (word w) (identifier w)
  by_symbols : {w : List ℕ} → any (λ c. eqb c (byte "'")) w ≡ false → numeral b w ≡ none → is_identifier w ≡ false → is_symbolic_name w ≡ true
      → UnitRead b p (word w) (symbolic w)
  by_string : {w : List ℕ} → UnitRead b p (str w) (text w)

limited_is : (p : ℕ) (i j : Unit) → limited p i ≡ ok j → i ≡ j
limited_is p (num r f v) j h = cond_ok (leb v 4294967295 && leb f 9) (num r f v) 13 p j h (λ t e. e)
limited_is p (keyed w) j h = ok_inj h
limited_is p (identifier w) j h = ok_inj h
limited_is p (symbolic w) j h = ok_inj h
limited_is p (text w) j h = ok_inj h

module _ (b : Base) (p : ℕ) where
  mark_read : (w : List ℕ) (i : Unit) → or_else p (with_mark b w) (bad 12 p) ≡ ok i → UnitRead b p (word w) i
  mark_read [] i h = ok≢bad h
  mark_read (c ∷ []) i h = ok≢bad h
  mark_read (c ∷ m ∷ w) i h =
      by_bool (eqb m 39)
      (λ y.
      by_option (base_of (capital c))
      (λ z. ok≢bad (rw z at (rw (y, with_mark) at h)))
      (λ a z.
      by_bool (allowed b a)
      (λ al.
      by_option (numeral a w)
      (λ q. ok≢bad (rw q at (rw (al, prefix_numeral) at (rw z at (rw (y, with_mark) at h)))))
      (λ j q.
      let l : limited p j ≡ ok i = rw q at (rw (al, prefix_numeral) at (rw z at (rw (y, with_mark) at h))) in
      let e : j ≡ i = limited_is p j i l in
      rw (eqb-true m 39 y) (by_prefix z al (rw e at q) (rw e at l))))
      (λ al. ok≢bad (rw (al, prefix_numeral) at (rw z at (rw (y, with_mark) at h))))))
      (λ y. ok≢bad (rw (y, with_mark) at h))

  pub unit_read : (x : Lex) (i : Unit) → read_unit b p x ≡ ok i → UnitRead b p x i
  unit_read (word w) i h =
      by_bool (any (λ c. eqb c 39) w)
      (λ y. mark_read w i (rw (y, read_word) at h))
      (λ y.
      by_option (numeral b w)
      (λ z.
      by_bool (is_identifier w)
      (λ t. rw (← (ok_inj (rw t at (rw z at (rw (y, read_word) at h))))) (by_identifier y z t))
      (λ t. cond_ok (is_symbolic_name w) (symbolic w) 12 p i (rw t at (rw z at (rw (y, read_word) at h))) (λ s e. rw (← e) (by_symbols y z t s))))
      (λ j z.
      let l : limited p j ≡ ok i = rw z at (rw (y, read_word) at h) in
      let e : j ≡ i = limited_is p j i l in
      by_base y (rw e at z) (rw e at l)))
  unit_read (str w) i h = rw (← (ok_inj h)) by_string
  unit_read (sep s) i h = ok≢bad h

-- ---- units and joining separators by turns

pub data JoinsRead (b : Base) : Want → List Token → List (Join Unit) → Type 0 where
  joins_end : JoinsRead b joiner [] []
  separator : {s : Sep} {p : ℕ} {ts : List Token} {is : List (Join Unit)} → is_joiner s ≡ true → JoinsRead b (unit_after s p) ts is → JoinsRead b joiner (at p (sep s) ∷ ts) is
  unit : {s : Sep} {q p : ℕ} {x : Lex} {i : Unit} {ts : List Token} {is : List (Join Unit)} → UnitRead b p x i → JoinsRead b joiner ts is
      → JoinsRead b (unit_after s q) (at p x ∷ ts) (join s q p i ∷ is)

joiner_is : (x : Lex) (s : Sep) → joiner_of x ≡ some s → (x ≡ sep s) × (is_joiner s ≡ true)
joiner_is (word w) s h = none≢some h
joiner_is (str w) s h = none≢some h
joiner_is (sep t) s h = cond_some (is_joiner t) t s h (λ y e. (ap (λ z. sep z) e, subst (λ z. is_joiner z ≡ true) e y))

pub joins_read : (b : Base) (w : Want) (ts : List Token) (e : ℕ) (js : List (Join Lex)) (is : List (Join Unit)) → alternate w ts e ≡ ok js → read_units b js ≡ ok is
    → JoinsRead b w ts is
joins_read b (unit_after s q) [] e js is h k = ok≢bad h
joins_read b joiner [] e js is h k = rw (← (ok_inj (rw (← (ok_inj h)) at k))) joins_end
joins_read b (unit_after s q) (at p x ∷ ts) e js is h k =
    by_bool (is_unit x)
    (λ y.
    map_ok (λ js. join s q p x ∷ js) (alternate joiner ts e) js (rw (y, alternate) at h)
    (λ js' a r.
    bind_ok (read_unit b p x) (λ i. map_r (λ is. join s q p i ∷ is) (read_units b js')) is (rw (← r) at k)
    (λ i c k'. map_ok (λ is. join s q p i ∷ is) (read_units b js') is k' (λ is' d t. rw (← t) (unit (unit_read b p x i c) (joins_read b joiner ts e js' is' a d))))))
    (λ y. ok≢bad (rw (y, alternate) at h))
joins_read b joiner (at p x ∷ ts) e js is h k =
    by_option (joiner_of x)
    (λ y. ok≢bad (rw (y, alternate) at h))
    (λ s y.
    let j : (x ≡ sep s) × (is_joiner s ≡ true) = joiner_is x s y in
    rw j.0 (separator j.1 (joins_read b (unit_after s p) ts e js is (rw (y, alternate) at h) k)))

-- ---- an element: an argument in full, and what follows its last unit

-- from the unit i on, behind which js stand
pub data Full : Unit → List (Join Unit) → Arg → Type 0 where
  last : {i : Unit} {js : List (Join Unit)} → Full i js (arg [] i js)
  joined : {i j u : Unit} {q p : ℕ} {js r : List (Join Unit)} {l : List Unit} → Full j js (arg l u r) → Full i (join dash q p j ∷ js) (arg (i ∷ l) u r)

full_cons : (i j : Unit) (q p : ℕ) (js : List (Join Unit)) (a : Arg) → Full j js a → Full i (join dash q p j ∷ js) (cons_arg i a)
full_cons i j q p js (arg l u r) f = joined f

pub full_read : (i : Unit) (js : List (Join Unit)) → Full i js (full_arg i js)
full_read i [] = last
full_read i (join s q p j ∷ js) =
    by_bool (eqb (sep_code s) 5)
    (λ y. rw (y, full_arg) (rw (sep_same s dash y) (full_cons i j q p js (full_arg j js) (full_read j js))))
    (λ y. rw (y, full_arg) last)

-- joined units without their places
abbrev pub strip : List (Join Unit) → List Link
strip [] = []
strip (join s q p i ∷ js) = link s i ∷ strip js

-- the links behind leading units l and the last one: none, an upper end, or an upper end and an increment
pub data Tail (l : List Unit) : Unit → List Link → Element → Type 0 where
  alone : {u : Unit} → Tail l u [] (single l u)
  up_to : {r : Radix} {lo up : ℕ} → lo ≤ up → Tail l (num r 0 lo) (link (cond (is_nil l) ampamp ampamp_) (num r 0 up) ∷ []) (range l r lo up 1)
  up_by : {r : Radix} {lo up inc : ℕ} → lo ≤ up → 1 ≤ inc
      → Tail l (num r 0 lo) (link (cond (is_nil l) ampamp ampamp_) (num r 0 up) ∷ link plusplus (num r 0 inc) ∷ []) (range l r lo up inc)

pub tail_lead : {l : List Unit} {u : Unit} {ls : List Link} {e : Element} → Tail l u ls e → leading e ≡ l
tail_lead alone = refl
tail_lead (up_to h) = refl
tail_lead (up_by h k) = refl

pub end_is : (i : Unit) (r : Radix) (v : ℕ) → end_of i ≡ some (r, v) → i ≡ num r 0 v
end_is (num s f w) r v h = cond_some (eqb f 0) (s, w) (r, v) h (λ t e. rw (eqb-true f 0 t, ap (λ x. x.0) e, ap (λ x. x.1) e))
end_is (keyed w) r v h = none≢some h
end_is (identifier w) r v h = none≢some h
end_is (symbolic w) r v h = none≢some h
end_is (text w) r v h = none≢some h

pub ends_are : (a c : Option (Radix × ℕ)) (x : Radix × ℕ × ℕ) → ends a c ≡ some x → (a ≡ some (x.0, x.1)) × (c ≡ some (x.0, x.2))
ends_are none c x h = none≢some h
ends_are (some a) none x h = none≢some h
ends_are (some a) (some c) x h =
    cond_some (same_radix a.0 c.0) (a.0, a.1, c.1) x h
    (λ t e.
    let r : a.0 ≡ c.0 = same_radix_is a.0 c.0 t in
    let e0 : a.0 ≡ x.0 = ap (λ y. y.0) e in
    let e1 : a.1 ≡ x.1 = ap (λ y. y.1) e in
    let e2 : c.1 ≡ x.2 = ap (λ y. y.2) e in
    (λ i. some (e0 i, e1 i), λ i. some ((sym r ∙ e0) i, e2 i)))

increment_is : (r : Radix) (i : Unit) (k : ℕ) → inc_of r i ≡ some k → (i ≡ num r 0 k) × (1 ≤ k)
increment_is r (num s f v) k q =
    let a : Bool = same_radix r s in
    let z : Bool = eqb f 0 in
    cond_some (a && z && leb 1 v) v k q
    (λ t e.
    let er : r ≡ s = same_radix_is r s (search conjuncts) in
    let ef : f ≡ 0 = eqb-true f 0 (search conjuncts) in
    (cc, rw e at (leb-true 1 v (search conjuncts))))
increment_is r (keyed w) k q = none≢some q
increment_is r (identifier w) k q = none≢some q
increment_is r (symbolic w) k q = none≢some q
increment_is r (text w) k q = none≢some q

module _ (l : List Unit) where
  abbrev through : Sep
  through = cond (is_nil l) ampamp ampamp_

  increment_read : (r : Radix) (lo up : ℕ) (js : List (Join Unit)) (e : Element) → lo ≤ up → increment l r lo up js ≡ ok e
      → Tail l (num r 0 lo) (link through (num r 0 up) ∷ strip js) e
  increment_read r lo up [] e hle h = rw (← (ok_inj h)) (up_to hle)
  increment_read r lo up (join s q p i ∷ js) e hle h =
      by_bool (eqb (sep_code s) 4)
      (λ y.
      by_option (inc_of r i)
      (λ z. ok≢bad (rw z at (rw (y, increment) at h)))
      (λ k z.
      let n : (i ≡ num r 0 k) × (1 ≤ k) = increment_is r i k z in
      rw (sep_same s plusplus y, n.0) (end js k n.1 (rw z at (rw (y, increment) at h)))))
      (λ y. ok≢bad (rw (y, increment) at h))
    where
      end : (js : List (Join Unit)) (k : ℕ) → 1 ≤ k → no_more js (range l r lo up k) ≡ ok e
          → Tail l (num r 0 lo) (link through (num r 0 up) ∷ link plusplus (num r 0 k) ∷ strip js) e
      end [] k hk h = rw (← (ok_inj h)) (up_by hle hk)
      end (join s q p i ∷ js) k hk h = ok≢bad h

  pub upper_read : (u : Unit) (js : List (Join Unit)) (e : Element) → upper l u js ≡ ok e → Tail l u (strip js) e
  upper_read u [] e h = rw (← (ok_inj h)) alone
  upper_read u (join s q p i ∷ js) e h =
      by_bool (eqb (sep_code s) (cond (is_nil l) 1 0))
      (λ y.
      by_option (ends (end_of u) (end_of i))
      (λ z. ok≢bad (rw z at (rw (y, upper) at h)))
      (λ x z.
      let ab : (end_of u ≡ some (x.0, x.1)) × (end_of i ≡ some (x.0, x.2)) = ends_are (end_of u) (end_of i) x z in
      by_bool (leb x.1 x.2)
      (λ t.
      rw (code_of l s y, end_is u x.0 x.1 ab.0, end_is i x.0 x.2 ab.1)
      (increment_read x.0 x.1 x.2 js e (leb-true x.1 x.2 t) (rw t at (rw z at (rw (y, upper) at h)))))
      (λ t. ok≢bad (rw t at (rw z at (rw (y, upper) at h))))))
      (λ y. ok≢bad (rw (y, upper) at h))
    where
      code_of : (l : List Unit) (s : Sep) → eqb (sep_code s) (cond (is_nil l) 1 0) ≡ true → s ≡ cond (is_nil l) ampamp ampamp_
      code_of [] s y = sep_same s ampamp y
      code_of (i ∷ l) s y = sep_same s ampamp_ y

-- an element behind one with leading units l₀
pub data LaterRead (l₀ : List Unit) : Group → Element → Type 0 where
  short : {q p : ℕ} {i : Unit} {js : List (Join Unit)} {e : Element} → is_nil l₀ ≡ false → Tail l₀ i (strip js) e → LaterRead l₀ (group amp_ q p i js) e
  full : {s : Sep} {q p : ℕ} {i u : Unit} {js r : List (Join Unit)} {l : List Unit} {e : Element} → eqb (sep_code s) (sep_code amp_) ≡ false
      → Full i js (arg l u r) → length l ≡ length l₀ → Tail l u (strip r) e → LaterRead l₀ (group s q p i js) e

pub later_read : (l₀ : List Unit) (g : Group) (e : Element) → later l₀ g ≡ ok e → LaterRead l₀ g e
later_read l₀ (group s q p i js) e h =
    by_bool (eqb (sep_code s) 2)
    (λ y.
    by_bool (is_nil l₀)
    (λ z. ok≢bad (rw z at (rw (y, later) at h)))
    (λ z. rw (sep_same s amp_ y) (short z (upper_read l₀ i js e (rw z at (rw (y, later) at h))))))
    (λ y. in_full_lem y (full_arg i js) (full_read i js) (rw (y, later) at h))
  where
    in_full_lem : eqb (sep_code s) 2 ≡ false → (a : Arg) → Full i js a → later_arg l₀ p a ≡ ok e → LaterRead l₀ (group s q p i js) e
    in_full_lem y (arg l u r) f h =
        by_bool (eqb (length l) (length l₀))
        (λ z. full y f (eqb-true (length l) (length l₀) z) (upper_read l u r e (rw (z, later_arg) at h)))
        (λ z. ok≢bad (rw (z, later_arg) at h))

-- the n-th element and those behind it
pub data LatersRead : ℕ → List Unit → List Group → List Element → Type 0 where
  laters_end : {n : ℕ} {l : List Unit} → LatersRead n l [] []
  more : {n : ℕ} {l : List Unit} {g : Group} {gs : List Group} {e : Element} {es : List Element} → n ≤ most_elements → LaterRead l g e
      → LatersRead (suc n) (leading e) gs es → LatersRead n l (g ∷ gs) (e ∷ es)

pub laters_read : (n : ℕ) (l : List Unit) (gs : List Group) (es : List Element) → later_elements n l gs ≡ ok es → LatersRead n l gs es
laters_read n l [] es h = rw (← (ok_inj h)) laters_end
laters_read n l (g ∷ gs) es h =
    by_bool (leb n 64)
    (λ y.
    bind_ok (later l g) (λ e. map_r (λ es. e ∷ es) (later_elements (suc n) (leading e) gs)) es (rw (y, later_elements) at h)
    (λ e a h'.
    map_ok (λ es. e ∷ es) (later_elements (suc n) (leading e) gs) es h'
    (λ es' a' r. rw (← r) (more (leb-true n 64 y) (later_read l g e a) (laters_read (suc n) (leading e) gs es' a')))))
    (λ y. ok≢bad (rw (y, later_elements) at h))

-- ---- a value: step by step, and by its parts

pub record ValueRead (b : Base) (ts : List Token) (e : ℕ) (v : List Element) : Type 0 where
  pub js : List (Join Lex)
  pub is : List (Join Unit)
  pub turns : alternate (unit_after amp 0) ts e ≡ ok js
  pub units : read_units b js ≡ ok is
  pub grouped : elements (groups_of (collect is)) ≡ ok v
  pub few : value_count v ≤ most_arguments

pub value_read_lem : (b : Base) (ts : List Token) (e : ℕ) (v : List Element) → read_value b ts e ≡ ok v → ValueRead b ts e v
value_read_lem b ts e v h =
    bind_ok (alternate (unit_after amp 0) ts e) _ v h
    (λ js a h1.
    bind_ok (read_units b js) _ v h1
    (λ is c h2.
    bind_ok (elements (groups_of (collect is))) _ v h2
    (λ v' d h3.
    guard_ok (leb (value_count v') most_arguments) too_many_orders (first ts e) (λ _. ok v') v h3
    (λ y h4.
    let q : v' ≡ v = ok_inj h4 in
    record { js = js; is = is; turns = a; units = c; grouped = d ∙ h4; few = rw q at (leb-true (value_count v') most_arguments y) }))))

-- its first unit and the units joined on to it, what of these belongs to the first element, that element, and those behind it
pub data ValueParts (b : Base) : List Token → List Element → Type 0 where
  value_parts : {p : ℕ} {x : Lex} {i u : Unit} {ts : List Token} {is js r : List (Join Unit)} {gs : List Group} {l : List Unit} {e : Element} {es : List Element}
      → UnitRead b p x i → JoinsRead b joiner ts is → collect is ≡ collected js gs → Full i js (arg l u r) → length l ≤ most_leading → Tail l u (strip r) e
      → LatersRead 2 (leading e) gs es → value_count (e ∷ es) ≤ most_arguments → ValueParts b (at p x ∷ ts) (e ∷ es)

pub value_parts_lem : (b : Base) (ts : List Token) (e : ℕ) (v : List Element) → read_value b ts e ≡ ok v → ValueParts b ts v
value_parts_lem b ts₀ e₀ v h =
    begin (joins_read b (unit_after amp 0) ts₀ e₀ steps.js steps.is steps.turns steps.units) steps.grouped
  where
    steps : ValueRead b ts₀ e₀ v
    steps = value_read_lem b ts₀ e₀ v h

    begin : {ts : List Token} {is : List (Join Unit)} → JoinsRead b (unit_after amp 0) ts is → elements (groups_of (collect is)) ≡ ok v → ValueParts b ts v
    begin (unit {p = p} {x = x} {i = i} {ts = ts} {is = is} w j) g = collects (collect is) refl g
      where
        collects : (c : Collected) → collect is ≡ c → elements (groups_of (collect_one true (join amp 0 p i) c)) ≡ ok v → ValueParts b (at p x ∷ ts) v
        collects (collected js gs) o g =
            bind_ok (first_arg js (full_arg i js)) (λ e. map_r (λ es. e ∷ es) (later_elements 2 (leading e) gs)) v g
            (λ e a k. map_ok (λ es. e ∷ es) (later_elements 2 (leading e) gs) v k (λ es a' q. element (full_arg i js) (full_read i js) a (laters_read 2 (leading e) gs es a') q))
          where
            element : {e : Element} {es : List Element} (a : Arg) → Full i js a → first_arg js a ≡ ok e → LatersRead 2 (leading e) gs es → e ∷ es ≡ v → ValueParts b (at p x ∷ ts) v
            element {e} {es} (arg l u r) f a m q =
                by_bool (leb (length l) 3)
                (λ y. rw (← q) (value_parts w j o f (leb-true (length l) 3 y) (upper_read l u r e (rw (y, first_arg) at a)) m (rw (← q) at steps.few)))
                (λ y. ok≢bad (rw (y, first_arg) at a))

-- ---- cutting at separators

pub data Splits (s : Sep) (e : ℕ) : List Token → List Seg → Type 0 where
  last_seg : Splits s e [] (seg [] e ∷ [])
  end_seg : {p : ℕ} {ts : List Token} {ss : List Seg} → Splits s e ts ss → Splits s e (at p (sep s) ∷ ts) (seg [] p ∷ ss)
  in_seg : {t : Token} {q : ℕ} {ts us : List Token} {ss : List Seg} → Splits s e ts (seg us q ∷ ss) → Splits s e (t ∷ ts) (seg (t ∷ us) q ∷ ss)

some_seg : {s : Sep} {e : ℕ} {ts : List Token} {ss : List Seg} → Splits s e ts ss → is_nil ss ≡ false
some_seg last_seg = refl
some_seg (end_seg r) = refl
some_seg (in_seg r) = refl

pub splits : (s : Sep) (e : ℕ) (ts : List Token) → Splits s e ts (split s e ts)
splits s e [] = last_seg
splits s e (at p x ∷ ts) =
    by_bool (is_sep s x)
    (λ y. rw (y, split) (rw (is_sep_lem s x y) (end_seg (splits s e ts))))
    (λ y. rw (y, split) (longer (split s e ts) (splits s e ts)))
  where
    longer : (ss : List Seg) → Splits s e ts ss → Splits s e (at p x ∷ ts) (cons_head (at p x) ss)
    longer (seg us q ∷ ss) r = in_seg r
    longer [] r = absurd (false≢true (sym (some_seg r)))

pub data Cuts (s : Sep) : List Token → Cut → Type 0 where
  no_cut : {ts : List Token} → Cuts s ts uncut
  cut_here : {p : ℕ} {ts : List Token} → Cuts s (at p (sep s) ∷ ts) (cut [] p ts)
  cut_later : {t : Token} {p : ℕ} {ts us vs : List Token} → Cuts s ts (cut us p vs) → Cuts s (t ∷ ts) (cut (t ∷ us) p vs)

pub cuts : (s : Sep) (ts : List Token) → Cuts s ts (cut_at s ts)
cuts s [] = no_cut
cuts s (at p x ∷ ts) =
    by_bool (is_sep s x) (λ y. rw (y, cut_at) (rw (is_sep_lem s x y) cut_here)) (λ y. rw (y, cut_at) (longer (cut_at s ts) (cuts s ts)))
  where
    longer : (c : Cut) → Cuts s ts c → Cuts s (at p x ∷ ts) (cons_cut (at p x) c)
    longer (cut us q vs) r = cut_later r
    longer uncut r = no_cut

-- ---- pieces joined by `-`: the first, and those behind it

pub data MoreRead (g : List ℕ → Bool) : ℕ → List Token → List (List ℕ) → Type 0 where
  pieces_end : {left : ℕ} → MoreRead g left [] []
  dashed : {left p q : ℕ} {w : List ℕ} {ts : List Token} {ws : List (List ℕ)} → g w ≡ true → MoreRead g left ts ws
      → MoreRead g (suc left) (at p (sep dash) ∷ at q (word w) ∷ ts) (w ∷ ws)

pub data PiecesRead (f g : List ℕ → Bool) (left : ℕ) : List Token → List (List ℕ) → Type 0 where
  pieced : {p : ℕ} {w : List ℕ} {ts : List Token} {ws : List (List ℕ)} → f w ≡ true → MoreRead g left ts ws → PiecesRead f g left (at p (word w) ∷ ts) (w ∷ ws)

piece_is : (f : List ℕ → Bool) (x : Lex) (w : List ℕ) → piece f x ≡ some w → (x ≡ word w) × (f w ≡ true)
piece_is f (word v) w h = cond_some (f v) v w h (λ t e. (ap (λ z. word z) e, subst (λ z. f z ≡ true) e t))
piece_is f (str v) w h = none≢some h
piece_is f (sep s) w h = none≢some h

behind_dash : {g : List ℕ → Bool} {left p : ℕ} {ts : List Token} {ws : List (List ℕ)} → PiecesRead g g left ts ws → MoreRead g (suc left) (at p (sep dash) ∷ ts) ws
behind_dash (pieced h m) = dashed h m

module _ (nr e : ℕ) (g : List ℕ → Bool) where
  mutual
    pub pieces_read : (f : List ℕ → Bool) (left : ℕ) (ts : List Token) (ws : List (List ℕ)) → pieces nr f g left true ts e ≡ ok ws → PiecesRead f g left ts ws
    pieces_read f left [] ws k = ok≢bad k
    pieces_read f left (at p x ∷ ts) ws k =
        by_option (piece f x)
        (λ z. ok≢bad (rw (z, pieces) at k))
        (λ w z.
        let i : (x ≡ word w) × (f w ≡ true) = piece_is f x w z in
        map_ok (λ ws. w ∷ ws) (pieces nr g g left false ts e) ws (rw (z, pieces) at k) (λ ws' a r. rw (i.0, ← r) (pieced i.1 (more_read left ts ws' a))))

    more_read : (left : ℕ) (ts : List Token) (ws : List (List ℕ)) → pieces nr g g left false ts e ≡ ok ws → MoreRead g left ts ws
    more_read left [] ws k = rw (← (ok_inj k)) pieces_end
    more_read zero (at p x ∷ ts) ws k = ok≢bad k
    more_read (suc left) (at p x ∷ ts) ws k =
        by_bool (is_sep dash x)
        (λ y. rw (is_sep_lem dash x y) (behind_dash (pieces_read g left ts ws (rw (y, pieces) at k))))
        (λ y. ok≢bad (rw (y, pieces) at k))

-- ---- a place

pub record NamedRead (b : Base) (ns : List Name) (nm : List Token) (q : ℕ) (ts : List Token) (e : ℕ) (x : Placed) : Type 0 where
  pub name : Name
  pub v : List Element
  pub pieced : pieces wrong_name is_identifier is_piece more_of_name true nm q ≡ ok name
  pub free : not (any (same_name name) ns) ≡ true
  pub value : read_value b ts e ≡ ok v
  pub is : placed (first ts e) (place b name v) ≡ x

pub named_read : (b : Base) (ns : List Name) (nm : List Token) (q : ℕ) (ts : List Token) (e : ℕ) (x : Placed) → read_named b ns (cut nm q ts) e ≡ ok x
    → NamedRead b ns nm q ts e x
named_read b ns nm q ts e x h =
    bind_ok (pieces wrong_name is_identifier is_piece more_of_name true nm q) _ x h
    (λ name a h1.
    guard_ok (not (any (same_name name) ns)) name_twice (first nm q) _ x h1
    (λ f h2.
    map_ok (λ v. placed (first ts e) (place b name v)) (read_value b ts e) x h2
    (λ v c r. record { name = name; v = v; pieced = a; free = f; value = c; is = r })))

pub data KindRead (b : Base) (ns : List Name) : Bool → List Token → ℕ → Placed → Type 0 where
  omitted : {e : ℕ} → KindRead b ns false [] e (placed e (place b [] []))
  positional : {t : Token} {ts : List Token} {e : ℕ} {v : List Element} → read_value b (t ∷ ts) e ≡ ok v
      → KindRead b ns false (t ∷ ts) e (placed (pos_of t) (place b [] v))
  named : {ts nm us : List Token} {q e : ℕ} {x : Placed} → cut_at equals ts ≡ cut nm q us → NamedRead b ns nm q us e x → KindRead b ns true ts e x

pub kind_read : (k : Bool) (b : Base) (ns : List Name) (ts : List Token) (e : ℕ) (x : Placed) → read_of_kind k b ns ts e ≡ ok x → KindRead b ns k ts e x
kind_read true b ns ts e x h = go (cut_at equals ts) refl h
  where
    go : (c : Cut) → cut_at equals ts ≡ c → read_named b ns c e ≡ ok x → KindRead b ns true ts e x
    go uncut i h = ok≢bad h
    go (cut nm q us) i h = named i (named_read b ns nm q us e x h)
kind_read false b ns [] e x h = rw (← (ok_inj h)) omitted
kind_read false b ns (t ∷ ts) e x h = map_ok (λ v. placed (pos_of t) (place b [] v)) (read_value b (t ∷ ts) e) x h (λ v c r. rw (← r) (positional c))

pub record PlaceRead (k : Bool) (bs : List Base) (n : ℕ) (ns : List Name) (ts : List Token) (e : ℕ) (x : Placed) : Type 0 where
  pub few : n < most_places
  pub agrees : beq k (is_cut (cut_at equals ts)) ≡ true
  pub read : read_of_kind k (get_or bs n (plain r_d)) ns ts e ≡ ok x
  pub how : KindRead (get_or bs n (plain r_d)) ns k ts e x

pub place_read : (k : Bool) (bs : List Base) (n : ℕ) (ns : List Name) (ts : List Token) (e : ℕ) (x : Placed) → read_place k bs n ns (seg ts e) ≡ ok x
    → PlaceRead k bs n ns ts e x
place_read k bs n ns ts e x h =
    guard_ok (ltb n most_places) too_many (first ts e) _ x h
    (λ y h1.
    guard_ok (beq k (is_cut (cut_at equals ts))) kind_differs (first ts e) _ x h1
    (λ z h2. record { few = ltb-true n most_places y; agrees = z; read = h2; how = kind_read k (get_or bs n (plain r_d)) ns ts e x h2 }))

pub record PlacesRead (k : Bool) (bs : List Base) (n : ℕ) (ns : List Name) (s : Seg) (ss : List Seg) (xs : List Placed) : Type 0 where
  pub x : Placed
  pub more : List Placed
  pub here : read_place k bs n ns s ≡ ok x
  pub behind : read_places k bs (suc n) (place_name (unplaced x) ∷ ns) ss ≡ ok more
  pub is : x ∷ more ≡ xs

pub places_read_lem : (k : Bool) (bs : List Base) (n : ℕ) (ns : List Name) (s : Seg) (ss : List Seg) (xs : List Placed) → read_places k bs n ns (s ∷ ss) ≡ ok xs
    → PlacesRead k bs n ns s ss xs
places_read_lem k bs n ns s ss xs h =
    bind_ok (read_place k bs n ns s) _ xs h
    (λ x a h1.
    map_ok (λ xs. x ∷ xs) (read_places k bs (suc n) (place_name (unplaced x) ∷ ns) ss) xs h1
    (λ more c r. record { x = x; more = more; here = a; behind = c; is = r }))

-- ---- blocks and the command

pub record BlockRead (bs : List Base) (n : ℕ) (ss : List Seg) (x : PlacedBlock) : Type 0 where
  pub xs : List Placed
  pub places : read_places (kind_of ss) bs n [] ss ≡ ok xs
  pub is : placed_block (kind_of ss) xs ≡ x

pub block_read : (bs : List Base) (n : ℕ) (ss : List Seg) (x : PlacedBlock) → read_block bs n ss ≡ ok x → BlockRead bs n ss x
block_read bs n ss x h =
    map_ok (λ ps. placed_block (kind_of ss) ps) (read_places (kind_of ss) bs n [] ss) x h (λ xs a r. record { xs = xs; places = a; is = r })

pub record BlocksRead (bs : List Base) (m n q : ℕ) (ts : List Token) (e : ℕ) (ss : List Seg) (xs : List PlacedBlock) : Type 0 where
  pub few : m < most_blocks
  pub x : PlacedBlock
  pub more : List PlacedBlock
  pub here : read_block bs n (split comma e ts) ≡ ok x
  pub behind : read_blocks bs (suc m) (n + block_size x) e ss ≡ ok more
  pub is : x ∷ more ≡ xs

pub blocks_read_lem : (bs : List Base) (m n q : ℕ) (ts : List Token) (e : ℕ) (ss : List Seg) (xs : List PlacedBlock) → read_blocks bs m n q (seg ts e ∷ ss) ≡ ok xs
    → BlocksRead bs m n q ts e ss xs
blocks_read_lem bs m n q ts e ss xs h =
    guard_ok (ltb m most_blocks) too_many q _ xs h
    (λ y h1.
    bind_ok (read_block bs n (split comma e ts)) (λ b. map_r (λ r. b ∷ r) (read_blocks bs (suc m) (n + block_size b) e ss)) xs h1
    (λ x a h2.
    map_ok (λ r. x ∷ r) (read_blocks bs (suc m) (n + block_size x) e ss) xs h2
    (λ more c r. record { few = ltb-true m most_blocks y; x = x; more = more; here = a; behind = c; is = r })))

pub record SegsRead (bs : List Base) (ts : List Token) (e : ℕ) (ss : List Seg) (c : Command) : Type 0 where
  pub code : List (List ℕ)
  pub xs : List PlacedBlock
  pub orders : ℕ
  pub pieced : pieces wrong_code is_identifier is_identifier more_of_code true ts e ≡ ok code
  pub blocks : read_blocks bs 0 0 e ss ≡ ok xs
  pub counted : running_blocks 1 xs ≡ ok orders
  pub is : command code (map block_of xs) ≡ c

pub segs_read : (bs : List Base) (ts : List Token) (e : ℕ) (ss : List Seg) (c : Command) → read_segs bs (seg ts e ∷ ss) ≡ ok c → SegsRead bs ts e ss c
segs_read bs ts e ss c h =
    bind_ok (pieces wrong_code is_identifier is_identifier more_of_code true ts e) _ c h
    (λ code a h1.
    bind_ok (read_blocks bs 0 0 e ss) _ c h1
    (λ xs d h2.
    bind_ok (running_blocks 1 xs) _ c h2
    (λ m o h3. record { code = code; xs = xs; orders = m; pieced = a; blocks = d; counted = o; is = ok_inj h3 })))

-- the text is not too long, its bytes are permitted, and the automaton gives its tokens
pub record ScanRead (cs : List ℕ) (ts : List Token) : Type 0 where
  pub few : length cs ≤ most_text
  pub permitted : all is_permitted cs ≡ true
  pub runs : run idle 0 cs ≡ ok ts

pub off_none : (cs : List ℕ) (p : ℕ) (b : Bool) → first_off p cs ≡ ok b → all is_permitted cs ≡ true
off_none [] p b h = refl
off_none (c ∷ cs) p b h =
    by_bool (is_permitted c) (λ y. rw y (off_none cs (suc p) b (rw (y, first_off) at h))) (λ y. ok≢bad (rw (y, first_off) at h))

pub scan_read : (cs : List ℕ) (ts : List Token) → scan cs ≡ ok ts → ScanRead cs ts
unfolding scan
scan_read cs ts h =
    by_bool (leb (length cs) most_text)
    (λ y.
    bind_ok (first_off 0 cs) (λ b. run idle 0 cs) ts (rw (y, scan) at h)
    (λ b a k. record { few = leb-true (length cs) most_text y; permitted = off_none cs 0 b a; runs = k }))
    (λ y. ok≢bad (rw (y, scan) at h))

pub record CommandRead (ls cs : List ℕ) (c : Command) : Type 0 where
  pub bs : List Base
  pub ts : List Token
  pub bases : read_letters 0 ls ≡ ok bs
  pub tokens : scan cs ≡ ok ts
  pub cut : read_cut bs (length cs) (cut_at semi ts) ≡ ok c

pub command_read_lem : (ls cs : List ℕ) (c : Command) → read ls cs ≡ ok c → CommandRead ls cs c
unfolding read
command_read_lem ls cs c h =
    bind_ok (read_letters 0 ls) _ c h (λ bs a h1. bind_ok (scan cs) _ c h1 (λ ts d h2. record { bs = bs; ts = ts; bases = a; tokens = d; cut = h2 }))
