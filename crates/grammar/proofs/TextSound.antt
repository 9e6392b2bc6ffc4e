-- What the scan accepts, the grammar derives: each state of the automaton stands for marks already seen.
use Rattle.laws.specs.Cases.{Always}
use Prim.Native.Nat.{ℕ, suc, ◌≤◌}
use mathlib.Core.Path.{◌≡◌, refl, sym, ap, ap₂, ◌∙◌, subst}
use mathlib.Core.Bool.{Bool, true, false, ◌||◌, false≢true}
use mathlib.Core.List.{List, [], ◌∷◌, ◌++◌, map, reverse, reverse_aux, append-nil}
use lib.Dec.{leb, eqb}
use lib.ListN.{length}
use borrow.Author.Tests.{eqb-true, leb-true}
use Rattle.laws.specs.Cases.{by_bool}
use Rattle.laws.specs.Lists.{all, is_nil}
use Rattle.rules.specs.Characters.{is_word_char, is_effector}
use Rattle.rules.specs.Refusals.{Res, ok, bad}
use Rattle.rules.specs.Tokens.{lex_of, Sep, ampamp_, ampamp, amp_, amp, plusplus, dash, comma, colon, equals, semi, Lex, word, str, sep, Token, at, State, idle, in_word, in_plus, one_amp, two_amp, slash, comment, star, in_str, quote, word_chars, word_most, word_token, word_tokens, flush, and_then, end, step, run, scan}
use Rattle.rules.proofs.ReadSteps.{scan_read}
use Rattle.rules.proofs.ResultLaws.{ok_inj, ok≢bad, cond_ok}
use Rattle.rules.proofs.ScanBack.{ended, step_w_end, step_p_end, then_assoc}
use Rattle.rules.proofs.ScanSound.{Goes, words_end, plus_end, reverse_some, some_aux}
use Rattle.grammar.specs.Grammar.{in_words, double, Mark, char, remark, quoted, begins, Comment, close, inside, Quoted, mark, is_plain, Shows, done, effector, visible, comment as comment', string, next_is, Ends, other, plus, Tokens, separator, letters, Spells}
use Rattle.grammar.proofs.WordExact.{chars_are}

-- ======== sound

-- what a state has read, before what it still will see
abbrev back : List ℕ → List Mark → List Mark
back [] ms = ms
back (c ∷ w) ms = back w (char c ∷ ms)

abbrev pre : State → List Mark → List Mark
pre idle ms = ms
pre (in_word q w) ms = back w ms
pre (in_plus q w r) ms = back w (char 43 ∷ ms)
pre (one_amp q) ms = char 38 ∷ ms
pre (two_amp q) ms = char 38 ∷ char 38 ∷ ms
pre (slash q) ms = ms
pre (comment q) ms = ms
pre (star q) ms = ms
pre (in_str q w) ms = ms
pre (quote q w) ms = quoted (reverse w) ∷ ms

abbrev Fit : State → Type 0
Fit idle = Always
Fit (in_word q w) = (is_nil w ≡ false) × Goes w
Fit (in_plus q w r) = Goes w
Fit (one_amp q) = Always
Fit (two_amp q) = Always
Fit (slash q) = Always
Fit (comment q) = Always
Fit (star q) = Always
Fit (in_str q w) = Always
Fit (quote q w) = Always

-- a byte that goes on with what a state has read
abbrev pub goes_on : State → ℕ → Bool
goes_on idle c = false
goes_on (in_word q w) c = is_word_char c || eqb c 43
goes_on (in_plus q w r) c = is_word_char c || eqb c 43
goes_on (one_amp q) c = eqb c 38 || eqb c 45
goes_on (two_amp q) c = eqb c 45
goes_on (slash q) c = false
goes_on (comment q) c = false
goes_on (star q) c = false
goes_on (in_str q w) c = false
goes_on (quote q w) c = false

record Outer (s : State) (t : List ℕ) (xs : List Lex) : Type 0 where
  ms : List Mark
  shows : Shows t ms
  tokens : Tokens (pre s ms) xs

record InC (t : List ℕ) (xs : List Lex) : Type 0 where
  u : List ℕ
  ms : List Mark
  rest : Comment t u
  shows : Shows u ms
  tokens : Tokens ms xs

record AtC (t : List ℕ) (xs : List Lex) : Type 0 where
  v : List ℕ
  is : t ≡ 42 ∷ v
  more : InC v xs

record InS (w t : List ℕ) (xs : List Lex) : Type 0 where
  v : List ℕ
  u : List ℕ
  ms : List Mark
  ys : List Lex
  rest : Quoted t v u
  shows : Shows u ms
  tokens : Tokens ms ys
  few : length (reverse_aux w v) ≤ 80
  are : xs ≡ str (reverse_aux w v) ∷ ys

abbrev Claim : State → List ℕ → List Lex → Type 0
Claim idle t xs = Outer idle t xs
Claim (in_word q w) t xs = Outer (in_word q w) t xs
Claim (in_plus q w r) t xs = Outer (in_plus q w r) t xs
Claim (one_amp q) t xs = Outer (one_amp q) t xs
Claim (two_amp q) t xs = Outer (two_amp q) t xs
Claim (slash q) t xs = AtC t xs
Claim (comment q) t xs = InC t xs
Claim (star q) t xs = InC (42 ∷ t) xs
Claim (in_str q w) t xs = InS w t xs
Claim (quote q w) t xs = InS w (34 ∷ t) xs

then_inv : {C : Type 0} (a b : Res (List Token)) (us : List Token) → and_then a b ≡ ok us
    → ((ts vs : List Token) → a ≡ ok ts → b ≡ ok vs → ts ++ vs ≡ us → C) → C
then_inv (bad n p) b us h k = ok≢bad h
then_inv (ok ts) (bad n p) us h k = ok≢bad h
then_inv (ok ts) (ok vs) us h k = k ts vs refl refl (ok_inj h)

lexes_append : (ts vs : List Token) → map lex_of (ts ++ vs) ≡ map lex_of ts ++ map lex_of vs
lexes_append [] vs = refl
lexes_append (t ∷ ts) vs = ap (λ l. lex_of t ∷ l) (lexes_append ts vs)

back_is : (w v : List ℕ) (ms : List Mark) → back w (map char v ++ ms) ≡ map char (reverse_aux w v) ++ ms
back_is [] v ms = refl
back_is (c ∷ w) v ms = back_is w (c ∷ v) ms

aux_append : (w v u : List ℕ) → reverse_aux w v ++ u ≡ reverse_aux w (v ++ u)
aux_append [] v u = refl
aux_append (c ∷ w) v u = aux_append w (c ∷ v) u

-- what a state has read when nothing goes on with it
flush_word : (q : ℕ) (w v : List ℕ) (ms : List Mark) (ys : List Lex) (us : List Token) → is_nil (reverse_aux w v) ≡ false → word_chars false (reverse_aux w v) ≡ true → Ends (reverse_aux w v) ms
    → Tokens ms ys → word_token q (reverse_aux w v) ≡ ok us → Tokens (back w (map char v ++ ms)) (map lex_of us ++ ys)
flush_word q w v ms ys us n k e t h =
    cond_ok (leb (length (reverse_aux w v)) (word_most (reverse_aux w v))) (at q (word (reverse_aux w v)) ∷ []) 15 q us h
    (λ y r.
    let cs : (all in_words (reverse_aux w v) ≡ true) × (double (reverse_aux w v) ≡ false) × (false ≡ true → begins 43 (reverse_aux w v) ≡ false) = chars_are false (reverse_aux w v) k in
    rw (← r, back_is w v ms) (letters (reverse_aux w v) (rw (n, cs.0)) cs.1 (leb-true (length (reverse_aux w v)) (word_most (reverse_aux w v)) y) e t))

flush_sound : (s : State) (ms : List Mark) (ys : List Lex) (us : List Token) → Fit s → next_is (goes_on s) ms ≡ false → Tokens ms ys → flush s ≡ ok us → Tokens (pre s ms) (map lex_of us ++ ys)
flush_sound idle ms ys us f n t h = rw (← (ok_inj h)) t
flush_sound (in_word q w) ms ys us f n t h = flush_word q w [] ms ys us (reverse_some w f.0) (f.1 [] refl) (other n) t h
flush_sound (in_plus q w r) ms ys us f n t h = flush_word q w (43 ∷ []) ms ys us (some_aux w 43 []) (f (43 ∷ []) refl) (other n) t h
flush_sound (one_amp q) ms ys us f n t h = rw (← (ok_inj h)) (separator amp n t)
flush_sound (two_amp q) ms ys us f n t h = rw (← (ok_inj h)) (separator ampamp n t)
flush_sound (slash q) ms ys us f n t h = ok≢bad h
flush_sound (comment q) ms ys us f n t h = ok≢bad h
flush_sound (star q) ms ys us f n t h = ok≢bad h
flush_sound (in_str q w) ms ys us f n t h = ok≢bad h
flush_sound (quote q w) ms ys us f n t h =
    cond_ok (leb (length (reverse w)) 80) (at q (str (reverse w)) ∷ []) 15 q us h (λ y r. rw (← r) (string (leb-true (length (reverse w)) 80 y) t))

shows_next : (f : ℕ → Bool) (c : ℕ) {cs : List ℕ} {ms : List Mark} → is_effector c ≡ false → f c ≡ false → Shows (c ∷ cs) ms → next_is f ms ≡ false
shows_next f c he hf (effector h s) = absurd (false≢true (sym he ∙ h))
shows_next f c he hf (visible h s) = hf
shows_next f c he hf (comment' h s) = refl
shows_next f c he hf (string h s) = refl

-- ---- a byte

module _ (c : ℕ) (cs : List ℕ) (ih : (s : State) (p : ℕ) (us : List Token) → Fit s → run s p cs ≡ ok us → Claim s cs (map lex_of us)) where
  emitted : (C : List Lex → Type 0) (ts : List Token) (p : ℕ) (us : List Token) → and_then (ok ts) (run idle p cs) ≡ ok us
      → ((ms : List Mark) (ys : List Lex) → Shows cs ms → Tokens ms ys → C (map lex_of ts ++ ys)) → C (map lex_of us)
  emitted C ts p us h k =
      then_inv (ok ts) (run idle p cs) us h
      (λ as' vs a b e.
      let o : Outer idle cs (map lex_of vs) = ih idle p vs tt b in
      subst C (sym (lexes_append ts vs) ∙ ap (λ l. map lex_of (l ++ vs)) (ok_inj a) ∙ ap (map lex_of) e) (k o.ms (map lex_of vs) o.shows o.tokens))

  -- the byte makes a separator with what the state has read
  alone : {s₀ : State} (s : Sep) (d q p : ℕ) (us : List Token) → c ≡ d → is_plain d ≡ true
      → ((ms : List Mark) (ys : List Lex) → Tokens ms ys → Tokens (pre s₀ (char d ∷ ms)) (sep s ∷ ys)) → and_then (ok (at q (sep s) ∷ [])) (run idle p cs) ≡ ok us
      → Outer s₀ (c ∷ cs) (map lex_of us)
  alone {s₀} s d q p us e hd k h =
      emitted (λ xs. Outer s₀ (c ∷ cs) xs) (at q (sep s) ∷ []) p us h (λ ms ys sh t. rw e (record { ms = char d ∷ ms; shows = visible hd sh; tokens = k ms ys t }))

  -- the byte is seen, or passed over
  seen : {s s' : State} {xs : List Lex} (d : ℕ) → c ≡ d → is_plain d ≡ true → ((ms : List Mark) → pre s' ms ≡ pre s (char d ∷ ms)) → Outer s' cs xs → Outer s (c ∷ cs) xs
  seen {xs = xs} d e h k o = rw e (record { ms = char d ∷ o.ms; shows = visible h o.shows; tokens = subst (λ z. Tokens z xs) (k o.ms) o.tokens })

  passed : {s : State} {xs : List Lex} → is_effector c ≡ true → Outer s cs xs → Outer s (c ∷ cs) xs
  passed y o = record { ms = o.ms; shows = effector y o.shows; tokens = o.tokens }

  idle_sound : (p : ℕ) (us : List Token) → run idle p (c ∷ cs) ≡ ok us → Outer idle (c ∷ cs) (map lex_of us)
  idle_sound p us h =
      by_bool (is_word_char c)
      (λ y. seen c refl (rw y) (λ ms. refl) (ih (in_word p (c ∷ [])) (suc p) us (refl, words_end [] c y (λ cs h. h)) (rw y at h)))
      (λ n0. by_bool (eqb c 43)
      (λ y. seen 43 (eqb-true c 43 y) refl (λ ms. refl) (ih (in_plus p [] p) (suc p) us (λ cs h. h) (rw (n0, y) at h)))
      (λ n1. by_bool (eqb c 38)
      (λ y. seen 38 (eqb-true c 38 y) refl (λ ms. refl) (ih (one_amp p) (suc p) us tt (rw (n0, n1, y) at h)))
      (λ n2. by_bool (eqb c 45) (λ y. alone dash 45 p (suc p) us (eqb-true c 45 y) refl (λ ms ys t. separator dash refl t) (rw (n0, n1, n2, y) at h))
      (λ n3. by_bool (eqb c 44) (λ y. alone comma 44 p (suc p) us (eqb-true c 44 y) refl (λ ms ys t. separator comma refl t) (rw (n0, n1, n2, n3, y) at h))
      (λ n4. by_bool (eqb c 58) (λ y. alone colon 58 p (suc p) us (eqb-true c 58 y) refl (λ ms ys t. separator colon refl t) (rw (n0, n1, n2, n3, n4, y) at h))
      (λ n5. by_bool (eqb c 61) (λ y. alone equals 61 p (suc p) us (eqb-true c 61 y) refl (λ ms ys t. separator equals refl t) (rw (n0, n1, n2, n3, n4, n5, y) at h))
      (λ n6. by_bool (eqb c 59) (λ y. alone semi 59 p (suc p) us (eqb-true c 59 y) refl (λ ms ys t. separator semi refl t) (rw (n0, n1, n2, n3, n4, n5, n6, y) at h))
      (λ n7. by_bool (eqb c 47)
      (λ y. comment_begins (eqb-true c 47 y) (ih (slash p) (suc p) us tt (rw (n0, n1, n2, n3, n4, n5, n6, n7, y) at h)))
      (λ n8. by_bool (eqb c 34)
      (λ y. string_begins (eqb-true c 34 y) (ih (in_str p []) (suc p) us tt (rw (n0, n1, n2, n3, n4, n5, n6, n7, n8, y) at h)))
      (λ n9. by_bool (is_effector c)
      (λ y. passed y (ih idle (suc p) us tt (rw (n0, n1, n2, n3, n4, n5, n6, n7, n8, n9, y) at h)))
      (λ n10. ok≢bad (rw (n0, n1, n2, n3, n4, n5, n6, n7, n8, n9, n10) at h))))))))))))
    where
      comment_begins : {xs : List Lex} → c ≡ 47 → AtC cs xs → Outer idle (c ∷ cs) xs
      comment_begins {xs} e a =
          subst (λ z. Outer idle z xs) (sym (ap₂ (λ d l. d ∷ l) e a.is)) (record { ms = remark ∷ a.more.ms; shows = comment' a.more.rest a.more.shows; tokens = comment' a.more.tokens })

      string_begins : {xs : List Lex} → c ≡ 34 → InS [] cs xs → Outer idle (c ∷ cs) xs
      string_begins {xs} e a =
          subst (λ z. Outer idle (z ∷ cs) xs) (sym e)
          (record { ms = quoted a.v ∷ a.ms; shows = string a.rest a.shows; tokens = subst (λ z. Tokens (quoted a.v ∷ a.ms) z) (sym a.are) (string a.few a.tokens) })

  -- a byte that ends what was read
  end_sound : (s : State) (p : ℕ) (us : List Token) → Fit s → step s p c ≡ end s p c → is_effector c ≡ false → goes_on s c ≡ false → run s p (c ∷ cs) ≡ ok us
      → Outer s (c ∷ cs) (map lex_of us)
  end_sound s p us f e he hg h =
      then_inv (flush s) (run idle p (c ∷ cs)) us (sym (ended p c cs s e) ∙ h)
      (λ ts vs a b r.
      let o : Outer idle (c ∷ cs) (map lex_of vs) = idle_sound p vs b in
      record {
        ms = o.ms;
        shows = o.shows;
        tokens = subst (λ z. Tokens (pre s o.ms) z) (sym (lexes_append ts vs) ∙ ap (map lex_of) r)
            (flush_sound s o.ms (map lex_of vs) ts f (shows_next (goes_on s) c he hg o.shows) o.tokens a);
      })

  word_sound : (q : ℕ) (w : List ℕ) (p : ℕ) (us : List Token) → Fit (in_word q w) → run (in_word q w) p (c ∷ cs) ≡ ok us → Outer (in_word q w) (c ∷ cs) (map lex_of us)
  word_sound q w p us f h =
      by_bool (is_word_char c)
      (λ y. seen c refl (rw y) (λ ms. refl) (ih (in_word q (c ∷ w)) (suc p) us (refl, words_end w c y f.1) (rw y at h)))
      (λ n0. by_bool (eqb c 43)
      (λ y. seen 43 (eqb-true c 43 y) refl (λ ms. refl) (ih (in_plus q w p) (suc p) us f.1 (rw (n0, y) at h)))
      (λ n1. by_bool (is_effector c)
      (λ y. passed y (ih (in_word q w) (suc p) us f (rw (n0, n1, y) at h)))
      (λ n2. end_sound (in_word q w) p us f (step_w_end q w p c n0 n1 n2) n2 (rw (n0, n1)) h)))

  -- the second of two `+`
  plus_plus : (q : ℕ) (w : List ℕ) (r p : ℕ) (us : List Token) → Goes w → and_then (and_then (word_tokens q w) (ok (at r (sep plusplus) ∷ []))) (run idle p cs) ≡ ok us
      → Outer (in_plus q w r) (43 ∷ cs) (map lex_of us)
  plus_plus q [] r p us f h =
      emitted (λ xs. Outer (in_plus q [] r) (43 ∷ cs) xs) (at r (sep plusplus) ∷ []) p us h
      (λ ms ys sh t. record { ms = char 43 ∷ ms; shows = visible refl sh; tokens = separator plusplus refl t })
  plus_plus q (d ∷ w) r p us f h =
      then_inv (word_token q (reverse (d ∷ w))) (and_then (ok (at r (sep plusplus) ∷ [])) (run idle p cs)) us
      (sym (then_assoc (word_token q (reverse (d ∷ w))) (ok (at r (sep plusplus) ∷ [])) (run idle p cs)) ∙ h)
      (λ ts vs a b e.
      subst (λ z. Outer (in_plus q (d ∷ w) r) (43 ∷ cs) z) (sym (lexes_append ts vs) ∙ ap (map lex_of) e)
      (emitted (λ xs. Outer (in_plus q (d ∷ w) r) (43 ∷ cs) (map lex_of ts ++ xs)) (at r (sep plusplus) ∷ []) p vs b
      (λ ms ys sh t. record {
        ms = char 43 ∷ ms;
        shows = visible refl sh;
        tokens = flush_word q (d ∷ w) [] (char 43 ∷ char 43 ∷ ms) (sep plusplus ∷ ys) ts (some_aux w d []) (f [] refl)
            (plus (chars_are false (reverse (d ∷ w) ++ (43 ∷ [])) (subst (λ z. word_chars false z ≡ true) (sym (aux_append (d ∷ w) [] (43 ∷ []))) (f (43 ∷ []) refl))).1) (separator plusplus refl t) a;
      })))

  plus_sound : (q : ℕ) (w : List ℕ) (r p : ℕ) (us : List Token) → Goes w → run (in_plus q w r) p (c ∷ cs) ≡ ok us → Outer (in_plus q w r) (c ∷ cs) (map lex_of us)
  plus_sound q w r p us f h =
      by_bool (is_word_char c)
      (λ y. seen c refl (rw y) (λ ms. refl) (ih (in_word q (c ∷ 43 ∷ w)) (suc p) us (refl, plus_end w c y f) (rw y at h)))
      (λ n0. by_bool (eqb c 43)
      (λ y. rw (eqb-true c 43 y) (plus_plus q w r (suc p) us f (rw (n0, y) at h)))
      (λ n1. by_bool (is_effector c)
      (λ y. passed y (ih (in_plus q w r) (suc p) us f (rw (n0, n1, y) at h)))
      (λ n2. end_sound (in_plus q w r) p us f (step_p_end q w r p c n0 n1 n2) n2 (rw (n0, n1)) h)))

  amp_sound : (q p : ℕ) (us : List Token) → run (one_amp q) p (c ∷ cs) ≡ ok us → Outer (one_amp q) (c ∷ cs) (map lex_of us)
  amp_sound q p us h =
      by_bool (eqb c 38)
      (λ y. seen 38 (eqb-true c 38 y) refl (λ ms. refl) (ih (two_amp q) (suc p) us tt (rw y at h)))
      (λ n0. by_bool (eqb c 45) (λ y. alone amp_ 45 q (suc p) us (eqb-true c 45 y) refl (λ ms ys t. separator amp_ refl t) (rw (n0, y) at h))
      (λ n1. by_bool (is_effector c)
      (λ y. passed y (ih (one_amp q) (suc p) us tt (rw (n0, n1, y) at h)))
      (λ n2. end_sound (one_amp q) p us tt (rw (n0, n1, n2)) n2 (rw (n0, n1)) h)))

  amps_sound : (q p : ℕ) (us : List Token) → run (two_amp q) p (c ∷ cs) ≡ ok us → Outer (two_amp q) (c ∷ cs) (map lex_of us)
  amps_sound q p us h =
      by_bool (eqb c 45) (λ y. alone ampamp_ 45 q (suc p) us (eqb-true c 45 y) refl (λ ms ys t. separator ampamp_ refl t) (rw y at h))
      (λ n1. by_bool (is_effector c)
      (λ y. passed y (ih (two_amp q) (suc p) us tt (rw (n1, y) at h)))
      (λ n2. end_sound (two_amp q) p us tt (rw (n1, n2)) n2 (rw n1) h))

  slash_sound : (q p : ℕ) (us : List Token) → run (slash q) p (c ∷ cs) ≡ ok us → AtC (c ∷ cs) (map lex_of us)
  slash_sound q p us h =
      by_bool (eqb c 42)
      (λ y. record { v = cs; is = ap (λ z. z ∷ cs) (eqb-true c 42 y); more = ih (comment q) (suc p) us tt (rw y at h) })
      (λ n. ok≢bad (sym (ended p c cs (slash q) (rw n)) ∙ h))

  comment_sound : (q p : ℕ) (us : List Token) → run (comment q) p (c ∷ cs) ≡ ok us → InC (c ∷ cs) (map lex_of us)
  comment_sound q p us h =
      by_bool (eqb c 42)
      (λ y. rw (eqb-true c 42 y) (ih (star q) (suc p) us tt (rw y at h)))
      (λ n.
      let o : InC cs (map lex_of us) = ih (comment q) (suc p) us tt (rw n at h) in
      record { u = o.u; ms = o.ms; rest = inside (rw n) o.rest; shows = o.shows; tokens = o.tokens })

  star_sound : (q p : ℕ) (us : List Token) → run (star q) p (c ∷ cs) ≡ ok us → InC (42 ∷ c ∷ cs) (map lex_of us)
  star_sound q p us h =
      by_bool (eqb c 47)
      (λ y.
      let o : Outer idle cs (map lex_of us) = ih idle (suc p) us tt (rw y at h) in
      rw (eqb-true c 47 y) (record { u = cs; ms = o.ms; rest = close; shows = o.shows; tokens = o.tokens }))
      (λ n. by_bool (eqb c 42)
      (λ y.
      let o : InC (42 ∷ cs) (map lex_of us) = ih (star q) (suc p) us tt (rw (n, y) at h) in
      rw (eqb-true c 42 y) (record { u = o.u; ms = o.ms; rest = inside refl o.rest; shows = o.shows; tokens = o.tokens }))
      (λ m.
      let o : InC cs (map lex_of us) = ih (comment q) (suc p) us tt (rw (n, m) at h) in
      record { u = o.u; ms = o.ms; rest = inside n (inside (rw m) o.rest); shows = o.shows; tokens = o.tokens }))

  str_sound : (q : ℕ) (w : List ℕ) (p : ℕ) (us : List Token) → run (in_str q w) p (c ∷ cs) ≡ ok us → InS w (c ∷ cs) (map lex_of us)
  str_sound q w p us h =
      by_bool (eqb c 34)
      (λ y. rw (eqb-true c 34 y) (ih (quote q w) (suc p) us tt (rw y at h)))
      (λ n.
      let o : InS (c ∷ w) cs (map lex_of us) = ih (in_str q (c ∷ w)) (suc p) us tt (rw n at h) in
      record { v = c ∷ o.v; u = o.u; ms = o.ms; ys = o.ys; rest = inside n o.rest; shows = o.shows; tokens = o.tokens; few = o.few; are = o.are })

  quote_sound : (q : ℕ) (w : List ℕ) (p : ℕ) (us : List Token) → run (quote q w) p (c ∷ cs) ≡ ok us → InS w (34 ∷ c ∷ cs) (map lex_of us)
  quote_sound q w p us h =
      by_bool (eqb c 34)
      (λ y.
      let o : InS (c ∷ w) cs (map lex_of us) = ih (in_str q (c ∷ w)) (suc p) us tt (rw y at h) in
      let e : c ≡ 34 = eqb-true c 34 y in
      record {
        v = c ∷ o.v;
        u = o.u;
        ms = o.ms;
        ys = o.ys;
        rest = subst (λ z. Quoted (34 ∷ z ∷ cs) (z ∷ o.v) o.u) (sym e) (mark o.rest);
        shows = o.shows;
        tokens = o.tokens;
        few = o.few;
        are = o.are;
      })
      (λ n.
      then_inv (flush (quote q w)) (run idle p (c ∷ cs)) us (sym (ended p c cs (quote q w) (rw n)) ∙ h)
      (λ ts vs a b r.
      let o : Outer idle (c ∷ cs) (map lex_of vs) = idle_sound p vs b in
      cond_ok (leb (length (reverse w)) 80) (at q (str (reverse w)) ∷ []) 15 q ts a
      (λ y e.
      record {
        v = [];
        u = c ∷ cs;
        ms = o.ms;
        ys = map lex_of vs;
        rest = close n;
        shows = o.shows;
        tokens = o.tokens;
        few = leb-true (length (reverse w)) 80 y;
        are = ap (map lex_of) (sym r) ∙ ap (λ z. map lex_of (z ++ vs)) (sym e);
      })))

  byte_sound : (s : State) (p : ℕ) (us : List Token) → Fit s → run s p (c ∷ cs) ≡ ok us → Claim s (c ∷ cs) (map lex_of us)
  byte_sound idle p us f h = idle_sound p us h
  byte_sound (in_word q w) p us f h = word_sound q w p us f h
  byte_sound (in_plus q w r) p us f h = plus_sound q w r p us f h
  byte_sound (one_amp q) p us f h = amp_sound q p us h
  byte_sound (two_amp q) p us f h = amps_sound q p us h
  byte_sound (slash q) p us f h = slash_sound q p us h
  byte_sound (comment q) p us f h = comment_sound q p us h
  byte_sound (star q) p us f h = star_sound q p us h
  byte_sound (in_str q w) p us f h = str_sound q w p us h
  byte_sound (quote q w) p us f h = quote_sound q w p us h

outer_nil : (s : State) (us : List Token) → Fit s → flush s ≡ ok us → Outer s [] (map lex_of us)
outer_nil s us f h = record { ms = []; shows = done; tokens = subst (λ z. Tokens (pre s []) z) (append-nil (map lex_of us)) (flush_sound s [] [] us f refl done h) }

nil_sound : (s : State) (us : List Token) → Fit s → flush s ≡ ok us → Claim s [] (map lex_of us)
nil_sound idle us f h = outer_nil idle us f h
nil_sound (in_word q w) us f h = outer_nil (in_word q w) us f h
nil_sound (in_plus q w r) us f h = outer_nil (in_plus q w r) us f h
nil_sound (one_amp q) us f h = outer_nil (one_amp q) us f h
nil_sound (two_amp q) us f h = outer_nil (two_amp q) us f h
nil_sound (slash q) us f h = ok≢bad h
nil_sound (comment q) us f h = ok≢bad h
nil_sound (star q) us f h = ok≢bad h
nil_sound (in_str q w) us f h = ok≢bad h
nil_sound (quote q w) us f h =
    cond_ok (leb (length (reverse w)) 80) (at q (str (reverse w)) ∷ []) 15 q us h
    (λ y e. record { v = []; u = []; ms = []; ys = []; rest = close refl; shows = done; tokens = done; few = leb-true (length (reverse w)) 80 y; are = ap (map lex_of) (sym e) })

run_sound : (cs : List ℕ) (s : State) (p : ℕ) (us : List Token) → Fit s → run s p cs ≡ ok us → Claim s cs (map lex_of us)
run_sound [] s p us f h = nil_sound s us f h
run_sound (c ∷ cs) s p us f h = byte_sound c cs (run_sound cs) s p us f h

pub spells_sound : (cs : List ℕ) (ts : List Token) → scan cs ≡ ok ts → Spells cs (map lex_of ts)
spells_sound cs ts h =
    let r = scan_read cs ts h in
    let o : Outer idle cs (map lex_of ts) = run_sound cs idle 0 ts tt r.runs in
    record { few = r.few; permitted = r.permitted; marks = o.ms; seen = o.shows; cut = o.tokens }
