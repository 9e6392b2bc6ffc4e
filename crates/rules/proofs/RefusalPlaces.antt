-- What each pass of the reader can refuse with: one of its numbers, at a place before the text's end. Shown along the definitions, once for any property of number and place.
use Prim.Native.Nat.{ℕ, zero, suc, ◌+◌, ◌*◌, ◌<◌, ◌≤◌}
use mathlib.Core.Path.{◌≡◌, refl}
use mathlib.Core.Bool.{Bool, true, false, cond, ◌&&◌, not, beq}
use mathlib.Core.List.{List, [], ◌∷◌, ◌++◌, reverse}
use mathlib.Core.Option.{Option, none, some}
use native.Mathlib.Omega.{arith}
use lib.Dec.{leb, ltb, eqb}
use lib.ListN.{length, get_or}
use borrow.Author.Tests.{ltb-true}
use Rattle.laws.specs.Cases.{Always, by_bool, by_option, cond_both}
use Rattle.laws.specs.Keys.{any_of}
use Rattle.laws.specs.Lists.{any, is_nil}
use Rattle.rules.specs.Refusals.{Res, ok, bad, ◌>>=◌, map_r, guard}
use Rattle.rules.specs.Characters.{is_word_char, is_effector, is_permitted}
use Rattle.rules.specs.Tokens.{Sep, ampamp_, ampamp, amp_, amp, plusplus, dash, comma, colon, equals, sep_code, Lex, word, str, sep, Token, at, pos_of, lex_of, State, idle, in_word, in_plus, one_amp, two_amp, slash, comment, star, in_str, quote, word_most, word_token, word_tokens, flush, and_then, Step, stay, emit, fresh, after, end, step, next, run, first_off}
use Rattle.rules.specs.Units.{Radix, r_d, Base, plain, base_of, Unit, num, keyed, identifier, symbolic, text, numeral, limited, or_else, is_identifier, is_symbolic_name, named, with_mark, read_word, read_unit}
use Rattle.rules.specs.Commands.{Name, Element, range, place, place_name, same_name, leading, place_count, value_count, is_sep, first, Seg, seg, split, Cut, cut, uncut, cut_at, is_cut, piece, pieces, is_piece}
use Rattle.rules.specs.Groups.{Join, join, Want, unit_after, joiner, is_unit, joiner_of, alternate, read_units, Group, group, Collected, collected, collect_one, begins_j, collect, groups_of, Arg, arg, full_arg, sep_at, no_more, inc_of, end_of, increment, ends, upper, first_arg, later_arg, later, later_elements, elements, read_value}
use Rattle.rules.specs.Reading.{Placed, placed, unplaced, read_position, read_named, read_of_kind, read_place, read_places, kind_of, PlacedBlock, placed_block, block_size, read_block, read_blocks, running, running_blocks, read_segs, read_cut, read_letters}
use Rattle.rules.proofs.ReadSteps.{Splits, last_seg, end_seg, in_seg, splits, Cuts, no_cut, cut_here, cut_later, cuts, Full, last, joined, full_read}

-- ---- a property of every outcome

-- P of a refusal's number and place, Q of what is got
abbrev pub Comes : {A : Type 0} → (ℕ → ℕ → Type 0) → (A → Type 0) → Res A → Type 0
Comes P Q (ok a) = Q a
Comes P Q (bad n p) = P n p

abbrev pub Whatever : {A : Type 0} → A → Type 0
Whatever a = Always

pub bind_comes : {A B : Type 0} (P : ℕ → ℕ → Type 0) (Q : A → Type 0) (R : B → Type 0) (r : Res A) (f : A → Res B)
    → Comes P Q r → ((a : A) → Q a → Comes P R (f a)) → Comes P R (r >>= f)
bind_comes P Q R (ok a) f h k = k a h
bind_comes P Q R (bad n p) f h k = h

pub map_comes : {A B : Type 0} (P : ℕ → ℕ → Type 0) (Q : A → Type 0) (R : B → Type 0) (f : A → B) (r : Res A)
    → Comes P Q r → ((a : A) → Q a → R (f a)) → Comes P R (map_r f r)
map_comes P Q R f (ok a) h k = k a h
map_comes P Q R f (bad n p) h k = h

pub guard_comes : {B : Type 0} (P : ℕ → ℕ → Type 0) (R : B → Type 0) (t : Bool) (n p : ℕ) (f : Bool → Res B)
    → (t ≡ false → P n p) → (t ≡ true → Comes P R (f true)) → Comes P R (guard t n p >>= f)
guard_comes P R true n p f h k = k refl
guard_comes P R false n p f h k = h refl

pub comes_bad : {A : Type 0} (P : ℕ → ℕ → Type 0) (Q : A → Type 0) (r : Res A) (n p : ℕ) → Comes P Q r → r ≡ bad n p → P n p
comes_bad P Q r n p h e = rw e at h

pub comes_more : {A : Type 0} (P : ℕ → ℕ → Type 0) (Q R : A → Type 0) (r : Res A) → Comes P Q r → ((a : A) → Q a → R a) → Comes P R r
comes_more P Q R (ok a) h k = k a h
comes_more P Q R (bad n p) h k = h

pub comes_as : {A : Type 0} (P R : ℕ → ℕ → Type 0) (Q : A → Type 0) (r : Res A) → Comes P Q r → ((n p : ℕ) → P n p → R n p) → Comes R Q r
comes_as P R Q (ok a) h k = h
comes_as P R Q (bad n p) h k = k n p h

pub comes_self : {A : Type 0} (P : ℕ → ℕ → Type 0) (Q : A → Type 0) (r : Res A) → Comes P Q r → Comes P (λ a. r ≡ ok a) r
comes_self P Q (ok a) h = refl
comes_self P Q (bad n p) h = h

pub both_come : (P : ℕ → ℕ → Type 0) (Q R S : List Token → Type 0) → ((ts us : List Token) → Q ts → R us → S (ts ++ us)) → (a b : Res (List Token))
    → Comes P Q a → Comes P R b → Comes P S (and_then a b)
both_come P Q R S f (bad n p) b h k = h
both_come P Q R S f (ok ts) (bad n p) h k = k
both_come P Q R S f (ok ts) (ok us) h k = f ts us h k

-- ---- what stands before m

abbrev pub Before : ℕ → List Token → Type 0
Before m [] = Always
Before m (t ∷ ts) = (pos_of t < m) × Before m ts

abbrev pub StateIn : ℕ → State → Type 0
StateIn m idle = Always
StateIn m (in_word p w) = p < m
StateIn m (in_plus p w q) = (p < m) × (q < m)
StateIn m (one_amp p) = p < m
StateIn m (two_amp p) = p < m
StateIn m (slash p) = p < m
StateIn m (comment p) = p < m
StateIn m (star p) = p < m
StateIn m (in_str p w) = p < m
StateIn m (quote p w) = p < m

abbrev pub StepIn : (ℕ → ℕ → Type 0) → ℕ → Step → Type 0
StepIn P m (stay s) = StateIn m s
StepIn P m (emit r s) = Comes P (Before m) r × StateIn m s

abbrev pub SegsIn : ℕ → List Seg → Type 0
SegsIn m [] = Always
SegsIn m (seg ts e ∷ ss) = Before m ts × (e < m) × SegsIn m ss

abbrev pub CutIn : ℕ → Cut → Type 0
CutIn m uncut = Always
CutIn m (cut a p b) = Before m a × (p < m) × Before m b

abbrev pub JoinsIn : {A : Type 0} → ℕ → List (Join A) → Type 0
JoinsIn m [] = Always
JoinsIn m (join s q p a ∷ js) = (q < m) × (p < m) × JoinsIn m js

abbrev pub WantIn : ℕ → Want → Type 0
WantIn m (unit_after s q) = q < m
WantIn m joiner = Always

abbrev pub GroupsIn : ℕ → List Group → Type 0
GroupsIn m [] = Always
GroupsIn m (group s q p i js ∷ gs) = (q < m) × (p < m) × JoinsIn m js × GroupsIn m gs

abbrev pub CollectedIn : ℕ → Collected → Type 0
CollectedIn m (collected pre gs) = JoinsIn m pre × GroupsIn m gs

abbrev pub ArgIn : ℕ → Arg → Type 0
ArgIn m (arg l u r) = JoinsIn m r

abbrev pub PlacedIn : ℕ → Placed → Type 0
PlacedIn m (placed p x) = p < m

abbrev pub AllPlaced : ℕ → List Placed → Type 0
AllPlaced m [] = Always
AllPlaced m (x ∷ xs) = PlacedIn m x × AllPlaced m xs

abbrev pub BlocksIn : ℕ → List PlacedBlock → Type 0
BlocksIn m [] = Always
BlocksIn m (placed_block k ps ∷ bs) = AllPlaced m ps × BlocksIn m bs

abbrev pub BlockIn : ℕ → PlacedBlock → Type 0
BlockIn m (placed_block k ps) = AllPlaced m ps

-- ---- cutting keeps places

module _ (m : ℕ) where
  pub before_append : (ts us : List Token) → Before m ts → Before m us → Before m (ts ++ us)
  before_append [] us h k = k
  before_append (t ∷ ts) us h k = (h.0, before_append ts us h.1 k)

  pub first_in_lem : (ts : List Token) (e : ℕ) → Before m ts → e < m → first ts e < m
  first_in_lem [] e h k = k
  first_in_lem (t ∷ ts) e h k = h.0

  splits_in : {s : Sep} {e : ℕ} {ts : List Token} {ss : List Seg} → e < m → Splits s e ts ss → Before m ts → SegsIn m ss
  splits_in h last_seg k = (tt, h, tt)
  splits_in h (end_seg r) k = (tt, k.0, splits_in h r k.1)
  splits_in h (in_seg r) k = let i = splits_in h r k.1 in ((k.0, i.0), i.1, i.2)

  pub split_in : (s : Sep) (e : ℕ) (ts : List Token) → e < m → Before m ts → SegsIn m (split s e ts)
  split_in s e ts h k = splits_in h (splits s e ts) k

  cuts_in : {s : Sep} {ts : List Token} {c : Cut} → Cuts s ts c → Before m ts → CutIn m c
  cuts_in no_cut k = tt
  cuts_in cut_here k = (tt, k.0, k.1)
  cuts_in (cut_later r) k = let i = cuts_in r k.1 in ((k.0, i.0), i.1, i.2)

  pub cut_in : (s : Sep) (ts : List Token) → Before m ts → CutIn m (cut_at s ts)
  cut_in s ts k = cuts_in (cuts s ts) k

  pub collect_one_in : (t : Bool) (j : Join Unit) (c : Collected) → JoinsIn m (j ∷ []) → CollectedIn m c → CollectedIn m (collect_one t j c)
  collect_one_in true (join s q p i) (collected pre gs) h k = (tt, (h.0, h.1, k.0, k.1))
  collect_one_in false (join s q p i) (collected pre gs) h k = ((h.0, h.1, k.0), k.1)

  pub collect_in : (js : List (Join Unit)) → JoinsIn m js → CollectedIn m (collect js)
  collect_in [] h = (tt, tt)
  collect_in (join s q p i ∷ js) h =
      collect_one_in (begins_j (join s q p i)) (join s q p i) (collect js) (h.0, h.1, tt) (collect_in js h.2)

  pub groups_in : (c : Collected) → CollectedIn m c → GroupsIn m (groups_of c)
  groups_in (collected pre gs) h = h.1

  pub full_arg_in : {i : Unit} {js : List (Join Unit)} {a : Arg} → Full i js a → JoinsIn m js → ArgIn m a
  full_arg_in last h = h
  full_arg_in (joined f) h = full_arg_in f h.2

  pub sep_at_in : (n : ℕ) (js : List (Join Unit)) → 0 < m → JoinsIn m js → sep_at n js < m
  sep_at_in n [] z h = z
  sep_at_in zero (join s q p i ∷ js) z h = h.0
  sep_at_in (suc n) (join s q p i ∷ js) z h = sep_at_in n js z h.2

-- ---- the passes

-- the reader's numbers once the `;` is found and nothing stands behind it
abbrev pub of_command : List ℕ
of_command = 8 ∷ 9 ∷ 10 ∷ 11 ∷ 12 ∷ 13 ∷ 14 ∷ 15 ∷ 16 ∷ 21 ∷ []

-- the reader's numbers that have a byte of the text for their place: all but 1, 2, 6 and 17
abbrev pub of_text : List ℕ
of_text = 3 ∷ 4 ∷ 5 ∷ 7 ∷ of_command

any_later : (k : ℕ) (ks : List ℕ) (n : ℕ) → any_of ks n ≡ true → any_of (k ∷ ks) n ≡ true
any_later k ks n h = by_bool (eqb n k) (λ y. rw y) (λ y. rw y h)

command_text : (n : ℕ) → any_of of_command n ≡ true → any_of of_text n ≡ true
command_text n h =
    any_later 3 (4 ∷ 5 ∷ 7 ∷ of_command) n (any_later 4 (5 ∷ 7 ∷ of_command) n (any_later 5 (7 ∷ of_command) n (any_later 7 of_command n h)))

module _ (P : ℕ → ℕ → Type 0) (m : ℕ) (hit : (n p : ℕ) → any_of of_text n ≡ true → p < m → P n p) where
  -- 3
  pub off_comes : (cs : List ℕ) (p : ℕ) → p + length cs ≤ m → Comes P Whatever (first_off p cs)
  off_comes [] p h = tt
  off_comes (c ∷ cs) p h =
      by_bool (is_permitted c) (λ y. rw (y, first_off) (off_comes cs (suc p) (omega arith))) (λ y. rw (y, first_off) (hit 3 p refl (omega arith)))

  -- 4, 5, 15: the scan
  pub word_comes : (p : ℕ) (w : List ℕ) → p < m → Comes P (Before m) (word_token p w)
  word_comes p w h = cond_both (Comes P (Before m)) (leb (length w) (word_most w)) (h, tt) (hit 15 p refl h)

  pub words_comes : (p : ℕ) (w : List ℕ) → p < m → Comes P (Before m) (word_tokens p w)
  words_comes p [] h = tt
  words_comes p (c ∷ w) h = word_comes p (reverse (c ∷ w)) h

  pub flush_comes : (s : State) → StateIn m s → Comes P (Before m) (flush s)
  flush_comes idle i = tt
  flush_comes (in_word p w) i = word_comes p (reverse w) i
  flush_comes (in_plus p w q) i = word_comes p (reverse (43 ∷ w)) i.0
  flush_comes (one_amp p) i = (i, tt)
  flush_comes (two_amp p) i = (i, tt)
  flush_comes (slash p) i = hit 5 p refl i
  flush_comes (comment p) i = hit 4 p refl i
  flush_comes (star p) i = hit 4 p refl i
  flush_comes (in_str p w) i = hit 4 p refl i
  flush_comes (quote p w) i = cond_both (Comes P (Before m)) (leb (length (reverse w)) 80) (i, tt) (hit 15 p refl i)

  pub then_comes : (a b : Res (List Token)) → Comes P (Before m) a → Comes P (Before m) b → Comes P (Before m) (and_then a b)
  then_comes = both_come P (Before m) (Before m) (Before m) (before_append m)

  pub fresh_comes : (p c : ℕ) → p < m → StepIn P m (fresh p c)
  fresh_comes p c h =
      cond_both (StepIn P m) (is_word_char c) h
      (cond_both (StepIn P m) (eqb c 43) (h, h)
      (cond_both (StepIn P m) (eqb c 38) h
      (cond_both (StepIn P m) (eqb c 45) ((h, tt), tt)
      (cond_both (StepIn P m) (eqb c 44) ((h, tt), tt)
      (cond_both (StepIn P m) (eqb c 58) ((h, tt), tt)
      (cond_both (StepIn P m) (eqb c 61) ((h, tt), tt)
      (cond_both (StepIn P m) (eqb c 59) ((h, tt), tt)
      (cond_both (StepIn P m) (eqb c 47) h
      (cond_both (StepIn P m) (eqb c 34) h
      (cond_both (StepIn P m) (is_effector c) tt (hit 5 p refl h, tt)))))))))))

  pub after_comes : (r : Res (List Token)) (s : Step) → Comes P (Before m) r → StepIn P m s → StepIn P m (after r s)
  after_comes r (stay s) h k = (h, k)
  after_comes r (emit r' s) h k = (then_comes r r' h k.0, k.1)

  pub end_comes : (s : State) (p c : ℕ) → StateIn m s → p < m → StepIn P m (end s p c)
  end_comes s p c i h = after_comes (flush s) (fresh p c) (flush_comes s i) (fresh_comes p c h)

  pub step_comes : (s : State) (p c : ℕ) → StateIn m s → p < m → StepIn P m (step s p c)
  step_comes idle p c i h = fresh_comes p c h
  step_comes (in_word q w) p c i h =
      cond_both (StepIn P m) (is_word_char c) i
      (cond_both (StepIn P m) (eqb c 43) (i, h) (cond_both (StepIn P m) (is_effector c) i (end_comes (in_word q w) p c i h)))
  step_comes (in_plus q w r) p c i h =
      cond_both (StepIn P m) (is_word_char c) i.0
      (cond_both (StepIn P m) (eqb c 43) (then_comes (word_tokens q w) (ok (at r (sep plusplus) ∷ [])) (words_comes q w i.0) (i.1, tt), tt)
      (cond_both (StepIn P m) (is_effector c) i (end_comes (in_plus q w r) p c i h)))
  step_comes (one_amp q) p c i h =
      cond_both (StepIn P m) (eqb c 38) i
      (cond_both (StepIn P m) (eqb c 45) ((i, tt), tt) (cond_both (StepIn P m) (is_effector c) i (end_comes (one_amp q) p c i h)))
  step_comes (two_amp q) p c i h =
      cond_both (StepIn P m) (eqb c 45) ((i, tt), tt) (cond_both (StepIn P m) (is_effector c) i (end_comes (two_amp q) p c i h))
  step_comes (slash q) p c i h = cond_both (StepIn P m) (eqb c 42) i (end_comes (slash q) p c i h)
  step_comes (comment q) p c i h = cond_both (StepIn P m) (eqb c 42) i i
  step_comes (star q) p c i h = cond_both (StepIn P m) (eqb c 47) tt (cond_both (StepIn P m) (eqb c 42) i i)
  step_comes (in_str q w) p c i h = cond_both (StepIn P m) (eqb c 34) i i
  step_comes (quote q w) p c i h = cond_both (StepIn P m) (eqb c 34) i (end_comes (quote q w) p c i h)

  pub next_comes : (st : Step) (k : State → Res (List Token)) → StepIn P m st → ((s : State) → StateIn m s → Comes P (Before m) (k s)) → Comes P (Before m) (next st k)
  next_comes (stay s) k i r = r s i
  next_comes (emit a s) k i r = then_comes a (k s) i.0 (r s i.1)

  pub run_comes : (cs : List ℕ) (s : State) (p : ℕ) → StateIn m s → p + length cs ≤ m → Comes P (Before m) (run s p cs)
  run_comes [] s p i h = flush_comes s i
  run_comes (c ∷ cs) s p i h =
      next_comes (step s p c) (λ s'. run s' (suc p) cs) (step_comes s p c i (omega arith)) (λ s' i'. run_comes cs s' (suc p) i' (omega arith))

module _ (P : ℕ → ℕ → Type 0) (m : ℕ) (hit : (n p : ℕ) → any_of of_command n ≡ true → p < m → P n p) where
  -- 8, 10: pieces
  pub pieces_come : (nr : ℕ) → any_of of_command nr ≡ true → (f g : List ℕ → Bool) (left : ℕ) (due : Bool) (ts : List Token) (e : ℕ)
      → Before m ts → e < m → Comes P Whatever (pieces nr f g left due ts e)
  pieces_come nr z f g left true [] e h k = hit nr e z k
  pieces_come nr z f g left false [] e h k = tt
  pieces_come nr z f g left true (t ∷ ts) e h k =
      by_option (piece f (lex_of t))
      (λ y. rw (y, pieces) (hit nr (pos_of t) z h.0))
      (λ w y.
      rw (y, pieces) (map_comes P Whatever Whatever (λ ws. w ∷ ws) (pieces nr g g left false ts e) (pieces_come nr z g g left false ts e h.1 k) (λ a b. tt)))
  pieces_come nr z f g zero false (t ∷ ts) e h k = hit nr (pos_of t) z h.0
  pieces_come nr z f g (suc left) false (t ∷ ts) e h k =
      by_bool (is_sep dash (lex_of t))
      (λ y. rw (y, pieces) (pieces_come nr z g g left true ts e h.1 k))
      (λ y. rw (y, pieces) (hit nr (pos_of t) z h.0))

  -- 11
  pub alternate_comes : (w : Want) (ts : List Token) (e : ℕ) → WantIn m w → Before m ts → e < m → Comes P (JoinsIn m) (alternate w ts e)
  alternate_comes (unit_after s q) [] e i h k = hit 11 e refl k
  alternate_comes joiner [] e i h k = tt
  alternate_comes (unit_after s q) (at p x ∷ ts) e i h k =
      by_bool (is_unit x)
      (λ y.
      rw (y, alternate) (map_comes P (JoinsIn m) (JoinsIn m) (λ js. join s q p x ∷ js) (alternate joiner ts e) (alternate_comes joiner ts e tt h.1 k) (λ js z. (i, h.0, z))))
      (λ y. rw (y, alternate) (hit 11 p refl h.0))
  alternate_comes joiner (at p x ∷ ts) e i h k =
      by_option (joiner_of x)
      (λ y. rw (y, alternate) (hit 11 p refl h.0))
      (λ s y. rw (y, alternate) (alternate_comes (unit_after s p) ts e h.0 h.1 k))

  -- 12, 13
  pub limited_comes : (p : ℕ) (i : Unit) → p < m → Comes P Whatever (limited p i)
  limited_comes p (num r f v) h = cond_both (Comes P Whatever) (leb v 4294967295 && leb f 9) tt (hit 13 p refl h)
  limited_comes p (keyed w) h = tt
  limited_comes p (identifier w) h = tt
  limited_comes p (symbolic w) h = tt
  limited_comes p (text w) h = tt

  pub else_comes : (p : ℕ) (o : Option Unit) (r : Res Unit) → p < m → Comes P Whatever r → Comes P Whatever (or_else p o r)
  else_comes p none r h k = k
  else_comes p (some i) r h k = limited_comes p i h

  pub named_comes : (p : ℕ) (w : List ℕ) → p < m → Comes P Whatever (named p w)
  named_comes p w h = cond_both (Comes P Whatever) (is_identifier w) tt (cond_both (Comes P Whatever) (is_symbolic_name w) tt (hit 12 p refl h))

  pub word_unit_comes : (b : Base) (p : ℕ) (w : List ℕ) → p < m → Comes P Whatever (read_word b p w)
  word_unit_comes b p w h =
      by_bool (any (λ c. eqb c 39) w)
      (λ y. rw (y, read_word) (else_comes p (with_mark b w) (bad 12 p) h (hit 12 p refl h)))
      (λ y. rw (y, read_word) (else_comes p (numeral b w) (named p w) h (named_comes p w h)))

  pub unit_comes : (b : Base) (p : ℕ) (x : Lex) → p < m → Comes P Whatever (read_unit b p x)
  unit_comes b p (word w) h = word_unit_comes b p w h
  unit_comes b p (str w) h = tt
  unit_comes b p (sep s) h = hit 12 p refl h

  pub units_come : (b : Base) (js : List (Join Lex)) → JoinsIn m js → Comes P (JoinsIn m) (read_units b js)
  units_come b [] h = tt
  units_come b (join s q p x ∷ js) h =
      bind_comes P Whatever (JoinsIn m) (read_unit b p x) (λ i. map_r (λ is. join s q p i ∷ is) (read_units b js)) (unit_comes b p x h.1)
      (λ i z. map_comes P (JoinsIn m) (JoinsIn m) (λ is. join s q p i ∷ is) (read_units b js) (units_come b js h.2) (λ is y. (h.0, h.1, y)))

  -- 14, 15
  pub no_more_comes : (js : List (Join Unit)) (e : Element) → JoinsIn m js → Comes P Whatever (no_more js e)
  no_more_comes [] e h = tt
  no_more_comes (join s q p i ∷ js) e h = hit 14 q refl h.0

  pub increment_comes : (l : List Unit) (r : Radix) (lo up : ℕ) (js : List (Join Unit)) → JoinsIn m js → Comes P Whatever (increment l r lo up js)
  increment_comes l r lo up [] h = tt
  increment_comes l r lo up (join s q p i ∷ js) h =
      by_bool (eqb (sep_code s) (sep_code plusplus))
      (λ y.
      by_option (inc_of r i)
      (λ z. rw (y, increment) (rw (z, increment) (hit 14 p refl h.1)))
      (λ k z. rw (y, increment) (rw (z, increment) (no_more_comes js (range l r lo up k) h.2))))
      (λ y. rw (y, increment) (hit 14 q refl h.0))

  pub upper_comes : (l : List Unit) (u : Unit) (js : List (Join Unit)) → JoinsIn m js → Comes P Whatever (upper l u js)
  upper_comes l u [] h = tt
  upper_comes l u (join s q p i ∷ js) h =
      by_bool (eqb (sep_code s) (cond (is_nil l) (sep_code ampamp) (sep_code ampamp_)))
      (λ y.
      by_option (ends (end_of u) (end_of i))
      (λ z. rw (y, upper) (rw (z, upper) (hit 14 q refl h.0)))
      (λ x z.
      by_bool (leb x.1 x.2)
      (λ w. rw (y, upper) (rw (z, upper) (rw (w, upper) (increment_comes l x.0 x.1 x.2 js h.2))))
      (λ w. rw (y, upper) (rw (z, upper) (rw (w, upper) (hit 14 p refl h.1))))))
      (λ y. rw (y, upper) (hit 14 q refl h.0))

  pub first_arg_comes : (js : List (Join Unit)) (a : Arg) → 0 < m → JoinsIn m js → ArgIn m a → Comes P Whatever (first_arg js a)
  first_arg_comes js (arg l u r) z h k =
      by_bool (leb (length l) 3)
      (λ y. rw (y, first_arg) (upper_comes l u r k))
      (λ y. rw (y, first_arg) (hit 14 (sep_at 3 js) refl (sep_at_in m 3 js z h)))

  pub later_arg_comes : (l₀ : List Unit) (p : ℕ) (a : Arg) → p < m → ArgIn m a → Comes P Whatever (later_arg l₀ p a)
  later_arg_comes l₀ p (arg l u r) h k =
      by_bool (eqb (length l) (length l₀)) (λ y. rw (y, later_arg) (upper_comes l u r k)) (λ y. rw (y, later_arg) (hit 14 p refl h))

  pub later_comes : (l₀ : List Unit) (g : Group) → GroupsIn m (g ∷ []) → Comes P Whatever (later l₀ g)
  later_comes l₀ (group s q p i js) h =
      by_bool (eqb (sep_code s) (sep_code amp_))
      (λ y.
      by_bool (is_nil l₀)
      (λ z. rw (y, later) (rw (z, later) (hit 14 q refl h.0)))
      (λ z. rw (y, later) (rw (z, later) (upper_comes l₀ i js h.2))))
      (λ y. rw (y, later) (later_arg_comes l₀ p (full_arg i js) h.1 (full_arg_in m (full_read i js) h.2)))

  pub later_elements_come : (n : ℕ) (l₀ : List Unit) (gs : List Group) → GroupsIn m gs → Comes P Whatever (later_elements n l₀ gs)
  later_elements_come n l₀ [] h = tt
  later_elements_come n l₀ (group s q p i js ∷ gs) h =
      by_bool (leb n 64)
      (λ y.
      rw (y, later_elements)
      (bind_comes P Whatever Whatever (later l₀ (group s q p i js)) (λ e. map_r (λ es. e ∷ es) (later_elements (suc n) (leading e) gs))
      (later_comes l₀ (group s q p i js) (h.0, h.1, h.2, tt))
      (λ e z.
      map_comes P Whatever Whatever (λ es. e ∷ es) (later_elements (suc n) (leading e) gs) (later_elements_come (suc n) (leading e) gs h.3) (λ a b. tt))))
      (λ y. rw (y, later_elements) (hit 15 q refl h.0))

  pub elements_come : (gs : List Group) → 0 < m → GroupsIn m gs → Comes P Whatever (elements gs)
  elements_come [] z h = tt
  elements_come (group s q p i js ∷ gs) z h =
      bind_comes P Whatever Whatever (first_arg js (full_arg i js)) (λ e. map_r (λ es. e ∷ es) (later_elements 2 (leading e) gs))
      (first_arg_comes js (full_arg i js) z h.2 (full_arg_in m (full_read i js) h.2))
      (λ e y. map_comes P Whatever Whatever (λ es. e ∷ es) (later_elements 2 (leading e) gs) (later_elements_come 2 (leading e) gs h.3) (λ a b. tt))

  -- 11 to 16: a value
  pub value_comes : (b : Base) (ts : List Token) (e : ℕ) → Before m ts → e < m → Comes P Whatever (read_value b ts e)
  value_comes b ts e h k =
      let z : 0 < m = omega (arith, k) in
      bind_comes P (JoinsIn m) Whatever (alternate (unit_after amp 0) ts e) _ (alternate_comes (unit_after amp 0) ts e z h k)
      (λ js i.
      bind_comes P (JoinsIn m) Whatever (read_units b js) _ (units_come b js i)
      (λ is j.
      bind_comes P Whatever Whatever (elements (groups_of (collect is))) _ (elements_come (groups_of (collect is)) z (groups_in m (collect is) (collect_in m is j)))
      (λ v y.
      guard_comes P Whatever (leb (value_count v) 4096) 16 (first ts e) (λ _. ok v) (λ _. hit 16 (first ts e) refl (first_in_lem m ts e h k)) (λ _. tt))))

  -- 9, 10, 15, 21: places and blocks
  pub position_comes : (b : Base) (ts : List Token) (e : ℕ) → Before m ts → e < m → Comes P (PlacedIn m) (read_position b ts e)
  position_comes b [] e h k = k
  position_comes b (t ∷ ts) e h k =
      map_comes P Whatever (PlacedIn m) (λ v. placed (pos_of t) (place b [] v)) (read_value b (t ∷ ts) e) (value_comes b (t ∷ ts) e h k) (λ v z. h.0)

  pub named_place_comes : (b : Base) (ns : List Name) (c : Cut) (e : ℕ) → CutIn m c → e < m → Comes P (PlacedIn m) (read_named b ns c e)
  named_place_comes b ns uncut e h k = hit 10 e refl k
  named_place_comes b ns (cut nm q ts) e h k =
      bind_comes P Whatever (PlacedIn m) (pieces 10 is_identifier is_piece 3 true nm q) _
      (pieces_come 10 refl is_identifier is_piece 3 true nm q h.0 h.1)
      (λ ws y.
      guard_comes P (PlacedIn m) (not (any (same_name ws) ns)) 21 (first nm q) _ (λ _. hit 21 (first nm q) refl (first_in_lem m nm q h.0 h.1))
      (λ _.
      map_comes P Whatever (PlacedIn m) (λ v. placed (first ts e) (place b ws v)) (read_value b ts e) (value_comes b ts e h.2 k) (λ v z. first_in_lem m ts e h.2 k)))

  pub kind_comes : (k : Bool) (b : Base) (ns : List Name) (ts : List Token) (e : ℕ) → Before m ts → e < m → Comes P (PlacedIn m) (read_of_kind k b ns ts e)
  kind_comes true b ns ts e h i = named_place_comes b ns (cut_at equals ts) e (cut_in m equals ts h) i
  kind_comes false b ns ts e h i = position_comes b ts e h i

  pub place_comes : (k : Bool) (bs : List Base) (n : ℕ) (ns : List Name) (ts : List Token) (e : ℕ) → Before m ts → e < m
      → Comes P (PlacedIn m) (read_place k bs n ns (seg ts e))
  place_comes k bs n ns ts e h i =
      guard_comes P (PlacedIn m) (ltb n 32) 15 (first ts e) _ (λ _. hit 15 (first ts e) refl (first_in_lem m ts e h i))
      (λ _.
      guard_comes P (PlacedIn m) (beq k (is_cut (cut_at equals ts))) 9 (first ts e) _ (λ _. hit 9 (first ts e) refl (first_in_lem m ts e h i))
      (λ _. kind_comes k (get_or bs n (plain r_d)) ns ts e h i))

  pub places_come : (k : Bool) (bs : List Base) (n : ℕ) (ns : List Name) (ss : List Seg) → SegsIn m ss → Comes P (AllPlaced m) (read_places k bs n ns ss)
  places_come k bs n ns [] h = tt
  places_come k bs n ns (seg ts e ∷ ss) h =
      bind_comes P (PlacedIn m) (AllPlaced m) (read_place k bs n ns (seg ts e)) _
      (place_comes k bs n ns ts e h.0 h.1)
      (λ x y.
      map_comes P (AllPlaced m) (AllPlaced m) (λ xs. x ∷ xs) (read_places k bs (suc n) (place_name (unplaced x) ∷ ns) ss)
      (places_come k bs (suc n) (place_name (unplaced x) ∷ ns) ss h.2) (λ xs z. (y, z)))

  pub block_comes : (bs : List Base) (n : ℕ) (ss : List Seg) → SegsIn m ss → Comes P (BlockIn m) (read_block bs n ss)
  block_comes bs n ss h =
      map_comes P (AllPlaced m) (BlockIn m) (λ ps. placed_block (kind_of ss) ps) (read_places (kind_of ss) bs n [] ss) (places_come (kind_of ss) bs n [] ss h) (λ ps z. z)

  pub cons_block_in : (b : PlacedBlock) (bs : List PlacedBlock) → BlockIn m b → BlocksIn m bs → BlocksIn m (b ∷ bs)
  cons_block_in (placed_block k ps) bs h i = (h, i)

  pub blocks_come : (bs : List Base) (i n q : ℕ) (ss : List Seg) → q < m → SegsIn m ss → Comes P (BlocksIn m) (read_blocks bs i n q ss)
  blocks_come bs i n q [] z h = tt
  blocks_come bs i n q (seg ts e ∷ ss) z h =
      guard_comes P (BlocksIn m) (ltb i 8) 15 q _ (λ _. hit 15 q refl z)
      (λ _.
      bind_comes P (BlockIn m) (BlocksIn m) (read_block bs n (split comma e ts)) (λ b. map_r (λ r. b ∷ r) (read_blocks bs (suc i) (n + block_size b) e ss))
      (block_comes bs n (split comma e ts) (split_in m comma e ts h.1 h.0))
      (λ b y.
      map_comes P (BlocksIn m) (BlocksIn m) (λ r. b ∷ r) (read_blocks bs (suc i) (n + block_size b) e ss) (blocks_come bs (suc i) (n + block_size b) e ss h.1 h.2)
      (λ r x. cons_block_in b r y x)))

  -- 16
  pub running_comes : (a : ℕ) (ps : List Placed) → AllPlaced m ps → Comes P Whatever (running a ps)
  running_comes a [] h = tt
  running_comes a (placed p x ∷ ps) h =
      by_bool (leb (a * place_count x) 65535)
      (λ y. rw (y, running) (running_comes (a * place_count x) ps h.1))
      (λ y. rw (y, running) (hit 16 p refl h.0))

  pub running_blocks_come : (a : ℕ) (bs : List PlacedBlock) → BlocksIn m bs → Comes P Whatever (running_blocks a bs)
  running_blocks_come a [] h = tt
  running_blocks_come a (placed_block k ps ∷ bs) h =
      bind_comes P Whatever Whatever (running a ps) (λ a'. running_blocks a' bs) (running_comes a ps h.0) (λ a' y. running_blocks_come a' bs h.1)

  -- 8: the command
  pub segs_come : (bs : List Base) (ss : List Seg) → 0 < m → SegsIn m ss → Comes P Whatever (read_segs bs ss)
  segs_come bs [] z h = hit 8 0 refl z
  segs_come bs (seg ts e ∷ ss) z h =
      bind_comes P Whatever Whatever (pieces 8 is_identifier is_identifier 2 true ts e) _ (pieces_come 8 refl is_identifier is_identifier 2 true ts e h.0 h.1)
      (λ c x.
      bind_comes P (BlocksIn m) Whatever (read_blocks bs 0 0 e ss) _ (blocks_come bs 0 0 e ss h.1 h.2)
      (λ xs y. bind_comes P Whatever Whatever (running_blocks 1 xs) _ (running_blocks_come 1 xs y) (λ _ _. tt)))

-- 7: a token after the `;`; 6 has the text's end for its place
module _ (P : ℕ → ℕ → Type 0) (m : ℕ) (hit : (n p : ℕ) → any_of of_text n ≡ true → p < m → P n p) where
  pub cut_comes : (bs : List Base) (n : ℕ) (c : Cut) → P 6 n → CutIn m c → Comes P Whatever (read_cut bs n c)
  cut_comes bs n uncut e h = e
  cut_comes bs n (cut ts p []) e h = segs_come P m (λ i q z k. hit i q (command_text i z) k) bs (split colon p ts) (omega (arith, h.1)) (split_in m colon p ts h.1 h.0)
  cut_comes bs n (cut ts p (t ∷ us)) e h = hit 7 (pos_of t) refl h.2.0

-- 1: the place is an index of the list, 32 at most
pub letters_come : (P : ℕ → ℕ → Type 0) (m : ℕ) → ((p : ℕ) → p < m → p ≤ 32 → P 1 p) → (i : ℕ) (ls : List ℕ) → i + length ls ≤ m → i ≤ 32
    → Comes P Whatever (read_letters i ls)
letters_come P m hit i [] h k = tt
letters_come P m hit i (l ∷ ls) h k =
    by_bool (ltb i 32)
    (λ y.
    by_option (base_of l)
    (λ z. rw (y, read_letters) (rw (z, read_letters) (hit i (omega arith) k)))
    (λ b z.
    rw (y, read_letters)
    (rw (z, read_letters)
    (map_comes P Whatever Whatever (λ bs. b ∷ bs) (read_letters (suc i) ls) (letters_come P m hit (suc i) ls (omega arith) (ltb-true i 32 y)) (λ _ _. tt)))))
    (λ y. rw (y, read_letters) (hit i (omega arith) k))
