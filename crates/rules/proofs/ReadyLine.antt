-- M-100: a ready line is never refused with 4, 6 or 7, since up to its last byte the scan reads no `;`, and there it reads one; and a text that the reader accepts has a ready
-- beginning, since without a `;` outside string and comment the scan reads none.
use Prim.Native.Nat.{ℕ, suc, ◌≤◌}
use mathlib.Core.Path.{◌≡◌, refl, sym, subst, ◌∙◌}
use mathlib.Core.Bool.{Bool, true, false, cond, not, ◌&&◌, false≢true}
use mathlib.Core.List.{List, [], ◌∷◌, ◌++◌, reverse, append-nil}
use mathlib.Core.Logic.{◌⊎◌, inl, inr, ⊎_elim}
use native.Mathlib.Omega.{arith}
use lib.Dec.{leb, eqb}
use lib.ListN.{length, take}
use borrow.Author.Tests.{eqb-true}
use Rattle.laws.specs.Cases.{Always, by_bool, cond_both, cond_by, and_l, conjuncts}
use Rattle.laws.specs.Keys.{any_of}
use Rattle.laws.specs.Lists.{is_nil}
use Rattle.rules.specs.Refusals.{Res, ok, bad}
use Rattle.rules.specs.Characters.{is_word_char, is_effector, is_permitted}
use Rattle.rules.specs.Tokens.{semi, colon, plusplus, sep, Token, at, pos_of, lex_of, State, idle, in_word, in_plus, one_amp, two_amp, slash, comment, star, in_str, quote, word_token, word_tokens, word_most, flush, and_then, Step, stay, emit, fresh, after, end, step, next, run, first_off, scan}
use Rattle.rules.specs.Commands.{is_sep, cut, uncut, cut_at, split, Command}
use Rattle.rules.specs.Reading.{read_letters, read}
use Rattle.rules.specs.Keeping.{state_of, outside, ends_line, ready_from, ready}
use Rattle.rules.proofs.ReadSteps.{scan_read, command_read_lem}
use Rattle.rules.proofs.ResultLaws.{ok≢bad}
use Rattle.rules.proofs.RefusalPlaces.{Comes, Whatever, both_come, bind_comes, comes_bad, Before, CutIn, cut_in, split_in, of_command, segs_come, letters_come}
use Rattle.rules.proofs.FromTheList.{scan_comes}

-- ---- tokens without a `;`, and tokens with one, which is the last

abbrev without : List Token → Bool
without [] = true
without (t ∷ ts) = not (is_sep semi (lex_of t)) && without ts

abbrev sole : List Token → Bool
sole [] = false
sole (t ∷ ts) = cond (is_sep semi (lex_of t)) (is_nil ts) (sole ts)

abbrev Without : List Token → Type 0
Without ts = without ts ≡ true

abbrev Sole : List Token → Type 0
Sole ts = sole ts ≡ true

-- a refusal's number that is none of 4, 6 and 7
abbrev Other : ℕ → ℕ → Type 0
Other n p = any_of (4 ∷ 6 ∷ 7 ∷ []) n ≡ false

without_append : (ts us : List Token) → Without ts → Without us → Without (ts ++ us)
without_append [] us h k = k
without_append (t ∷ ts) us h k =
    by_bool (is_sep semi (lex_of t)) (λ y. absurd (false≢true (rw y at h))) (λ y. rw y (without_append ts us (rw y at h) k))

sole_append : (ts us : List Token) → Without ts → Sole us → Sole (ts ++ us)
sole_append [] us h k = k
sole_append (t ∷ ts) us h k =
    by_bool (is_sep semi (lex_of t)) (λ y. absurd (false≢true (rw y at h))) (λ y. rw y (sole_append ts us (rw y at h) k))

module _ (P : ℕ → ℕ → Type 0) where
  then_without : (r s : Res (List Token)) → Comes P Without r → Comes P Without s → Comes P Without (and_then r s)
  then_without = both_come P Without Without Without without_append

  then_sole : (r s : Res (List Token)) → Comes P Without r → Comes P Sole s → Comes P Sole (and_then r s)
  then_sole = both_come P Without Sole Sole sole_append

  then_nothing : (r : Res (List Token)) → Comes P Sole r → Comes P Sole (and_then r (ok []))
  then_nothing (bad n p) h = h
  then_nothing (ok ts) h = rw (append-nil ts) h

-- ---- one byte of the scan

-- no `;` is read
abbrev Quiet : Step → Type 0
Quiet (stay s) = Always
Quiet (emit r s) = Comes Other Without r

word_without : (p : ℕ) (w : List ℕ) → Comes Other Without (word_token p w)
word_without p w = cond_both (Comes Other Without) (leb (length w) (word_most w)) refl refl

words_without : (p : ℕ) (w : List ℕ) → Comes Other Without (word_tokens p w)
words_without p [] = refl
words_without p (c ∷ w) = word_without p (reverse (c ∷ w))

-- what stands before a byte outside string and comment
flush_without : (s : State) → outside s ≡ true → Comes Other Without (flush s)
flush_without idle o = refl
flush_without (in_word p w) o = word_without p (reverse w)
flush_without (in_plus p w q) o = word_without p (reverse (43 ∷ w))
flush_without (one_amp p) o = refl
flush_without (two_amp p) o = refl
flush_without (slash p) o = refl
flush_without (comment p) o = absurd (false≢true o)
flush_without (star p) o = absurd (false≢true o)
flush_without (in_str p w) o = absurd (false≢true o)
flush_without (quote p w) o = cond_both (Comes Other Without) (leb (length (reverse w)) 80) refl refl

-- a byte that is no `;`
module _ (p c : ℕ) (h : eqb c 59 ≡ false) where
  fresh_quiet : Quiet (fresh p c)
  fresh_quiet =
      cond_both Quiet (is_word_char c) tt
      (cond_both Quiet (eqb c 43) tt
      (cond_both Quiet (eqb c 38) tt
      (cond_both Quiet (eqb c 45) refl
      (cond_both Quiet (eqb c 44) refl
      (cond_both Quiet (eqb c 58) refl
      (cond_both Quiet (eqb c 61) refl
      (cond_by Quiet (eqb c 59) (λ y. absurd (false≢true (sym h ∙ y)))
      (λ _. cond_both Quiet (eqb c 47) tt (cond_both Quiet (eqb c 34) tt (cond_both Quiet (is_effector c) tt refl))))))))))

  after_quiet : (r : Res (List Token)) (s : Step) → Comes Other Without r → Quiet s → Quiet (after r s)
  after_quiet r (stay s) k q = k
  after_quiet r (emit r' s) k q = then_without Other r r' k q

  end_quiet : (s : State) → outside s ≡ true → Quiet (end s p c)
  end_quiet s o = after_quiet (flush s) (fresh p c) (flush_without s o) fresh_quiet

-- a byte that is no `;` outside string and comment
step_quiet : (s : State) (p c : ℕ) → ends_line s c ≡ false → Quiet (step s p c)
step_quiet idle p c h = fresh_quiet p c h
step_quiet (in_word q w) p c h =
    cond_both Quiet (is_word_char c) tt (cond_both Quiet (eqb c 43) tt (cond_both Quiet (is_effector c) tt (end_quiet p c h (in_word q w) refl)))
step_quiet (in_plus q w r) p c h =
    cond_both Quiet (is_word_char c) tt
    (cond_both Quiet (eqb c 43) (then_without Other (word_tokens q w) (ok (at r (sep plusplus) ∷ [])) (words_without q w) refl)
    (cond_both Quiet (is_effector c) tt (end_quiet p c h (in_plus q w r) refl)))
step_quiet (one_amp q) p c h =
    cond_both Quiet (eqb c 38) tt (cond_both Quiet (eqb c 45) refl (cond_both Quiet (is_effector c) tt (end_quiet p c h (one_amp q) refl)))
step_quiet (two_amp q) p c h = cond_both Quiet (eqb c 45) refl (cond_both Quiet (is_effector c) tt (end_quiet p c h (two_amp q) refl))
step_quiet (slash q) p c h = cond_both Quiet (eqb c 42) tt (end_quiet p c h (slash q) refl)
step_quiet (comment q) p c h = cond_both Quiet (eqb c 42) tt tt
step_quiet (star q) p c h = cond_both Quiet (eqb c 47) tt (cond_both Quiet (eqb c 42) tt tt)
step_quiet (in_str q w) p c h = cond_both Quiet (eqb c 34) tt tt
step_quiet (quote q w) p c h = cond_both Quiet (eqb c 34) tt (end_quiet p c h (quote q w) refl)

-- a `;` outside string and comment is read, behind what stands before it
step_semi : (s : State) (p : ℕ) → outside s ≡ true → step s p 59 ≡ emit (and_then (flush s) (ok (at p (sep semi) ∷ []))) idle
step_semi idle p o = refl
step_semi (in_word q w) p o = refl
step_semi (in_plus q w r) p o = refl
step_semi (one_amp q) p o = refl
step_semi (two_amp q) p o = refl
step_semi (slash q) p o = refl
step_semi (comment q) p o = absurd (false≢true o)
step_semi (star q) p o = absurd (false≢true o)
step_semi (in_str q w) p o = absurd (false≢true o)
step_semi (quote q w) p o = refl

-- ---- the whole scan

going : (P : ℕ → ℕ → Type 0) (Q : List Token → Type 0) (st : Step) (f : State → Res (List Token))
    → ((r s : Res (List Token)) → Comes Other Without r → Comes P Q s → Comes P Q (and_then r s)) → Quiet st → Comes P Q (f (state_of st)) → Comes P Q (next st f)
going P Q (stay s) f both q k = k
going P Q (emit r s) f both q k = both r (f s) q k

-- the `;` is the line's last byte
closing : (s : State) (p c : ℕ) (cs : List ℕ) → ends_line s c ≡ true → is_nil cs ≡ true → Comes Other Sole (run s p (c ∷ cs))
closing s p c (d ∷ cs) h k = absurd (false≢true k)
closing s p c [] h k =
    let o : outside s ≡ true = and_l (outside s) (eqb c 59) h in
    let e : c ≡ 59 = eqb-true c 59 (search conjuncts) in
    rw (e, step_semi s p o)
    (then_nothing Other (and_then (flush s) (ok (at p (sep semi) ∷ []))) (then_sole Other (flush s) (ok (at p (sep semi) ∷ [])) (flush_without s o) refl))

ready_sole : (cs : List ℕ) (s : State) (p : ℕ) → ready_from s p cs ≡ true → Comes Other Sole (run s p cs)
ready_sole [] s p h = absurd (false≢true h)
ready_sole (c ∷ cs) s p h =
    by_bool (ends_line s c)
    (λ y. closing s p c cs y (rw (y, ready_from) at h))
    (λ y.
    going Other Sole (step s p c) (λ s'. run s' (suc p) cs) (then_sole Other) (step_quiet s p c y)
    (ready_sole cs (state_of (step s p c)) (suc p) (rw (y, ready_from) at h)))

scan_sole : (cs : List ℕ) → ready cs ≡ true → Comes Other Sole (scan cs)
unfolding scan ready
scan_sole cs h =
    by_bool (leb (length cs) 1024)
    (λ y. rw (y, scan) (bind_comes Other Whatever Sole (first_off 0 cs) (λ b. run idle 0 cs) (off cs 0) (λ b z. ready_sole cs idle 0 h)))
    (λ y. rw (y, scan) refl)
  where
    off : (ds : List ℕ) (p : ℕ) → Comes Other Whatever (first_off p ds)
    off [] p = tt
    off (d ∷ ds) p = by_bool (is_permitted d) (λ y. rw (y, first_off) (off ds (suc p))) (λ y. rw (y, first_off) refl)

-- ---- the reader

-- cut at the sole `;`, the last token, nothing is behind it
cut_sole : {C : Type 0} (ts : List Token) → Sole ts → ((us : List Token) (p : ℕ) → cut_at semi ts ≡ cut us p [] → C) → C
cut_sole [] h k = absurd (false≢true h)
cut_sole {C = C} (t ∷ ts) h k =
    by_bool (is_sep semi (lex_of t))
    (λ y. nothing ts (rw y at h) (rw (y, cut_at)))
    (λ y. cut_sole ts (rw y at h) (λ us p e. k (t ∷ us) p (rw (y, cut_at, e))))
  where
    nothing : (us : List Token) → is_nil us ≡ true → cut_at semi (t ∷ ts) ≡ cut [] (pos_of t) us → C
    nothing [] z e = k [] (pos_of t) e
    nothing (u ∷ us) z e = absurd (false≢true z)

cut_without : (ts : List Token) → Without ts → cut_at semi ts ≡ uncut
cut_without [] h = refl
cut_without (t ∷ ts) h =
    by_bool (is_sep semi (lex_of t)) (λ y. absurd (false≢true (rw y at h))) (λ y. rw (y, cut_at, cut_without ts (rw y at h)))

-- 8 to 16 and 21 are none of the three
late : (n p : ℕ) → any_of of_command n ≡ true → Other n p
late n p h =
    by_bool (eqb n 4)
    (λ y. absurd (false≢true (rw (eqb-true n 4 y) at h)))
    (λ y.
    by_bool (eqb n 6)
    (λ z. absurd (false≢true (rw (eqb-true n 6 z) at h)))
    (λ z. by_bool (eqb n 7) (λ w. absurd (false≢true (rw (eqb-true n 7 w) at h))) (λ w. rw (y, z, w))))

-- the tokens of a ready line stand in it, and the sole `;` is the last of them
scan_ready : (line : List ℕ) → ready line ≡ true → Comes Other (λ ts. Sole ts × Before (length line) ts) (scan line)
scan_ready line h = both (scan line) (scan_sole line h) (scan_comes (λ n p. Always) line (λ _. tt) (λ n p z k few. tt))
  where
    both : (r : Res (List Token)) → Comes Other Sole r → Comes (λ n p. Always) (λ ts. Before (length line) ts × (length line ≤ 1024)) r
        → Comes Other (λ ts. Sole ts × Before (length line) ts) r
    both (ok ts) x y = (x, y.0)
    both (bad n p) x y = x

read_ready : (letters line : List ℕ) → ready line ≡ true → Comes Other Whatever (read letters line)
unfolding read
read_ready letters line h =
    bind_comes Other Whatever Whatever (read_letters 0 letters) _
    (letters_come Other (length letters) (λ p h k. refl) 0 letters (omega arith) (omega arith))
    (λ bs x.
    bind_comes Other (λ ts. Sole ts × Before (length line) ts) Whatever (scan line) _ (scan_ready line h)
    (λ ts y.
    cut_sole ts y.0
    (λ us p e.
    let i : CutIn (length line) (cut us p []) = subst (CutIn (length line)) e (cut_in (length line) semi ts y.1) in
    rw e
    (segs_come Other (length line) (λ n q z k. late n q z) bs (split colon p us) (omega (arith, i.1)) (split_in (length line) colon p us i.1 i.0)))))

-- a ready line is never refused with 4, 6 or 7
pub ready_line : (letters line : List ℕ) (n p : ℕ) → ready line ≡ true → read letters line ≡ bad n p → any_of (4 ∷ 6 ∷ 7 ∷ []) n ≡ false
ready_line letters line n p h e = comes_bad Other Whatever (read letters line) n p (read_ready letters line h) e

-- ---- and back

-- some beginning of the bytes is ready
pub record Begins (s : State) (p : ℕ) (cs : List ℕ) : Type 0 where
  pub long : ℕ
  pub is : ready_from s p (take long cs) ≡ true

abbrev Any : ℕ → ℕ → Type 0
Any n p = Always

any_without : (r : Res (List Token)) → Comes Other Without r → Comes Any Without r
any_without (ok ts) h = h
any_without (bad n p) h = tt

flush_any : (s : State) → Comes Any Without (flush s)
flush_any s =
    by_bool (outside s) (λ y. any_without (flush s) (flush_without s y)) (λ y. within s y)
  where
    within : (t : State) → outside t ≡ false → Comes Any Without (flush t)
    within idle o = absurd (false≢true (sym o))
    within (in_word p w) o = absurd (false≢true (sym o))
    within (in_plus p w q) o = absurd (false≢true (sym o))
    within (one_amp p) o = absurd (false≢true (sym o))
    within (two_amp p) o = absurd (false≢true (sym o))
    within (slash p) o = absurd (false≢true (sym o))
    within (comment p) o = tt
    within (star p) o = tt
    within (in_str p w) o = tt
    within (quote p w) o = absurd (false≢true (sym o))

begins_or : (cs : List ℕ) (s : State) (p : ℕ) → Begins s p cs ⊎ Comes Any Without (run s p cs)
begins_or [] s p = inr (flush_any s)
begins_or (c ∷ cs) s p =
    by_bool (ends_line s c)
    (λ y. inl (record { long = 1; is = rw (y, ready_from) }))
    (λ y.
    ⊎_elim
    (λ b. inl (record { long = suc b.long; is = rw (y, ready_from) b.is }))
    (λ w.
    inr
    (going Any Without (step s p c) (λ s'. run s' (suc p) cs) (λ r t k i. then_without Any r t (any_without r k) i) (step_quiet s p c y) w))
    (begins_or cs (state_of (step s p c)) (suc p)))

-- a text that the reader accepts has a ready beginning
pub accepted_begins : (letters text : List ℕ) (c : Command) → read letters text ≡ ok c → Begins idle 0 text
accepted_begins letters text c h =
    let r = command_read_lem letters text c h in
    ⊎_elim (λ b. b)
    (λ w.
    let none : cut_at semi r.ts ≡ uncut = cut_without r.ts (rw (scan_read text r.ts r.tokens).runs at w) in
    ok≢bad (rw none at r.cut))
    (begins_or text idle 0)
