-- A text that spells tokens is scanned to them: format effectors leave every outer state, and each token's bytes end in `idle`.
use Prim.Native.Nat.{ℕ, suc, ◌≤◌}
use mathlib.Core.Path.{◌≡◌, refl, sym, ap, ap₂, ◌∙◌, subst}
use mathlib.Core.Bool.{Bool, true, false, ◌&&◌, ◌||◌, not, false≢true}
use mathlib.Core.List.{List, [], ◌∷◌, ◌++◌, map, reverse, reverse_aux}
use native.Mathlib.Omega.{arith}
use lib.Dec.{eqb}
use lib.ListN.{length}
use borrow.Author.Tests.{eqb-true, eqb-false, leb-true, le-leb}
use Rattle.laws.specs.Cases.{by_bool, or_false, conjuncts}
use Rattle.laws.specs.Lists.{all}
use Rattle.rules.specs.Characters.{between, is_word_char, is_effector}
use Rattle.rules.specs.Printing.{sep_text}
use Rattle.rules.specs.Refusals.{Res, ok}
use Rattle.rules.specs.Tokens.{lex_of, Sep, ampamp_, ampamp, amp_, amp, plusplus, dash, comma, colon, equals, semi, Lex, word, str, sep, Token, at, State, idle, in_word, in_plus, one_amp, two_amp, comment, star, in_str, quote, word_chars, word_most, word_token, str_token, flush, and_then, stay, emit, end, step, next, run, scan}
use Rattle.rules.specs.Units.{run_of}
use Rattle.rules.proofs.RoundTrip.{none_off}
use Rattle.rules.proofs.ScanBack.{ended, step_w_end, step_p_end, then_assoc, then_nil}
use Rattle.grammar.specs.Grammar.{in_words, double, Mark, char, remark, quoted, begins, Comment, close, inside, Quoted, mark, is_plain, Shows, done, effector, visible, comment as comment', string, next_is, longer, Ends, other, plus, Tokens, separator, letters, Spells}
use Rattle.grammar.proofs.WordExact.{are_chars, one_plus}
use Rattle.grammar.proofs.TextSound.{goes_on}

-- ---- format effectors are passed over

eff_cases : (P : ℕ → Type 0) (d : ℕ) → is_effector d ≡ true → P 9 → P 10 → P 11 → P 12 → P 13 → P 32 → P d
eff_cases P d h p9 p10 p11 p12 p13 p32 =
    by_bool (between 9 13 d)
    (λ y.
    by_bool (eqb d 9) (λ e. subst P (sym (eqb-true d 9 e)) p9)
    (λ n1. by_bool (eqb d 10) (λ e. subst P (sym (eqb-true d 10 e)) p10)
    (λ n2. by_bool (eqb d 11) (λ e. subst P (sym (eqb-true d 11 e)) p11)
    (λ n3. by_bool (eqb d 12) (λ e. subst P (sym (eqb-true d 12 e)) p12)
    (λ n4. by_bool (eqb d 13) (λ e. subst P (sym (eqb-true d 13 e)) p13)
    (λ n5.
    let lo : 9 ≤ d = leb-true 9 d (search conjuncts) in
    let hi : d ≤ 13 = leb-true d 13 (search conjuncts) in
    absurd (omega (arith, eqb-false d 9 n1, eqb-false d 10 n2, eqb-false d 11 n3, eqb-false d 12 n4, eqb-false d 13 n5))))))))
    (λ n. subst P (sym (eqb-true d 32 (rw n at h))) p32)

plain_not : (c : ℕ) → is_plain c ≡ true → is_effector c ≡ false
plain_not c h =
    by_bool (is_effector c)
    (λ y. absurd (eff_cases (λ d. is_plain d ≡ true → ⊥) c y (λ k. false≢true k) (λ k. false≢true k) (λ k. false≢true k) (λ k. false≢true k) (λ k. false≢true k) (λ k. false≢true k) h))
    (λ y. y)

-- the states outside comments and strings: those that have read something, and `idle`
data Busy : State → Type 0 where
  some_word : {q : ℕ} {w : List ℕ} → Busy (in_word q w)
  some_plus : {q : ℕ} {w : List ℕ} {r : ℕ} → Busy (in_plus q w r)
  some_amp : {q : ℕ} → Busy (one_amp q)
  some_amps : {q : ℕ} → Busy (two_amp q)

data Outer : State → Type 0 where
  resting : Outer idle
  reading : {s : State} → Busy s → Outer s

stays : (s : State) → Outer s → (p d : ℕ) → is_effector d ≡ true → step s p d ≡ stay s
stays s resting p d h = eff_cases (λ d. step idle p d ≡ stay idle) d h refl refl refl refl refl refl
stays s (reading some_word) p d h = eff_cases (λ d. step s p d ≡ stay s) d h refl refl refl refl refl refl
stays s (reading some_plus) p d h = eff_cases (λ d. step s p d ≡ stay s) d h refl refl refl refl refl refl
stays s (reading some_amp) p d h = eff_cases (λ d. step s p d ≡ stay s) d h refl refl refl refl refl refl
stays s (reading some_amps) p d h = eff_cases (λ d. step s p d ≡ stay s) d h refl refl refl refl refl refl

passes : (s : State) → Outer s → (p d : ℕ) (t : List ℕ) → is_effector d ≡ true → run s p (d ∷ t) ≡ run s (suc p) t
passes s o p d t h = ap (λ x. next x (λ s'. run s' (suc p) t)) (stays s o p d h)

-- the next visible byte, at whatever place
record Skip (c : ℕ) (ms : List Mark) (p : ℕ) (t : List ℕ) : Type 0 where
  q : ℕ
  u : List ℕ
  shows : Shows u ms
  runs : (s : State) → Outer s → run s p t ≡ next (step s q c) (λ s'. run s' (suc q) u)

skip : {c : ℕ} {ms : List Mark} {t : List ℕ} (p : ℕ) → Shows t (char c ∷ ms) → Skip c ms p t
skip {c} {ms} p (effector {c = d} {t = t} h s) =
    let o : Skip c ms (suc p) t = skip (suc p) s in
    record { q = o.q; u = o.u; shows = o.shows; runs = λ s' k. passes s' k p d t h ∙ o.runs s' k }
skip p (visible {t = t} h s) = record { q = p; u = t; shows = s; runs = λ s' k. refl }

-- from a state, at p before t, what r has is read, and the marks ms are still to come
record Took (s : State) (p : ℕ) (t : List ℕ) (r : Res (List Token)) (ms : List Mark) : Type 0 where
  q : ℕ
  u : List ℕ
  shows : Shows u ms
  runs : run s p t ≡ and_then r (run idle q u)

-- the next visible byte only changes the state; or it is the last of what is read
goes : {s s' : State} {c p : ℕ} {t : List ℕ} {ns ms : List Mark} {r : Res (List Token)} (x : Skip c ns p t) → Outer s → step s x.q c ≡ stay s'
    → Took s' (suc x.q) x.u r ms → Took s p t r ms
goes x k e o =
    record { q = o.q; u = o.u; shows = o.shows; runs = x.runs _ k ∙ ap (λ z. next z (λ s'. run s' (suc x.q) x.u)) e ∙ o.runs }

gives : {s : State} {c p : ℕ} {t : List ℕ} {ms : List Mark} {r : Res (List Token)} (x : Skip c ms p t) → Outer s → step s x.q c ≡ emit r idle → Took s p t r ms
gives x k e = record { q = suc x.q; u = x.u; shows = x.shows; runs = x.runs _ k ∙ ap (λ z. next z (λ s'. run s' (suc x.q) x.u)) e }

step_ends : (s : State) → Busy s → (p c : ℕ) → is_effector c ≡ false → goes_on s c ≡ false → step s p c ≡ end s p c
step_ends s (some_word {q = q} {w = w}) p c he hg = let n = or_false (is_word_char c) (eqb c 43) hg in step_w_end q w p c n.0 n.1 he
step_ends s (some_plus {q = q} {w = w} {r = r}) p c he hg = let n = or_false (is_word_char c) (eqb c 43) hg in step_p_end q w r p c n.0 n.1 he
step_ends s some_amp p c he hg = let n = or_false (eqb c 38) (eqb c 45) hg in rw (n.0, n.1, he)
step_ends s some_amps p c he hg = rw (hg, he)

strange : (s : State) → Busy s → (goes_on s 47 ≡ false) × (goes_on s 34 ≡ false)
strange s some_word = (refl, refl)
strange s some_plus = (refl, refl)
strange s some_amp = (refl, refl)
strange s some_amps = (refl, refl)

-- nothing goes on with what was read
settle : {t : List ℕ} {ms : List Mark} (s : State) → Busy s → (p : ℕ) → Shows t ms → next_is (goes_on s) ms ≡ false → Took s p t (flush s) ms
settle s b p done n = record { q = p; u = []; shows = done; runs = then_nil (flush s) }
settle {ms = ms} s b p (effector {c = d} {t = t} h sh) n =
    let o : Took s (suc p) t (flush s) ms = settle s b (suc p) sh n in
    record { q = o.q; u = o.u; shows = o.shows; runs = passes s (reading b) p d t h ∙ o.runs }
settle s b p (visible {c = c} {t = t} h sh) n =
    record { q = p; u = c ∷ t; shows = visible h sh; runs = ended p c t s (step_ends s b p c (plain_not c h) n) }
settle s b p (comment' {t = t} k sh) n =
    record { q = p; u = 47 ∷ 42 ∷ t; shows = comment' k sh; runs = ended p 47 (42 ∷ t) s (step_ends s b p 47 refl (strange s b).0) }
settle s b p (string {t = t} k sh) n =
    record { q = p; u = 34 ∷ t; shows = string k sh; runs = ended p 34 t s (step_ends s b p 34 refl (strange s b).1) }

-- ---- comments and strings

record Leads (s : State) (p : ℕ) (t u : List ℕ) : Type 0 where
  q : ℕ
  runs : run s p t ≡ run idle q u

mutual
  comment_run : {t u : List ℕ} (k : Comment t u) (r p : ℕ) → Leads (comment r) p t u
  comment_run close r p = record { q = suc (suc p); runs = refl }
  comment_run (inside {c = c} {t = t} {u = u} h k) r p =
      by_bool (eqb c 42)
      (λ y. let o : Leads (star r) (suc p) t u = star_run k r (suc p) (rw y at h) in record { q = o.q; runs = rw y o.runs })
      (λ y. let o : Leads (comment r) (suc p) t u = comment_run k r (suc p) in record { q = o.q; runs = rw y o.runs })

  star_run : {t u : List ℕ} (k : Comment t u) (r p : ℕ) → begins 47 t ≡ false → Leads (star r) p t u
  star_run close r p n = record { q = suc (suc p); runs = refl }
  star_run (inside {c = c} {t = t} {u = u} h k) r p n =
      by_bool (eqb c 42)
      (λ y. let o : Leads (star r) (suc p) t u = star_run k r (suc p) (rw y at h) in record { q = o.q; runs = rw (n, y) o.runs })
      (λ y. let o : Leads (comment r) (suc p) t u = comment_run k r (suc p) in record { q = o.q; runs = rw (n, y) o.runs })

quote_end : (u : List ℕ) (r p : ℕ) (w : List ℕ) → begins 34 u ≡ false → run (quote r w) p u ≡ and_then (str_token r (reverse w)) (run idle p u)
quote_end [] r p w h = then_nil (str_token r (reverse w))
quote_end (c ∷ u) r p w h = ended p c u (quote r w) (rw h)

record Reaches (s : State) (p : ℕ) (t : List ℕ) (a : Res (List Token)) (u : List ℕ) : Type 0 where
  q : ℕ
  runs : run s p t ≡ and_then a (run idle q u)

string_run : {t v u : List ℕ} → Quoted t v u → (r p : ℕ) (w : List ℕ) → Reaches (in_str r w) p t (str_token r (reverse_aux w v)) u
string_run (close {t = u} h) r p w = record { q = suc p; runs = quote_end u r (suc p) w h }
string_run (mark {t = t} {w = v} {u = u} k) r p w =
    let o : Reaches (in_str r (34 ∷ w)) (suc (suc p)) t (str_token r (reverse_aux (34 ∷ w) v)) u = string_run k r (suc (suc p)) (34 ∷ w) in
    record { q = o.q; runs = o.runs }
string_run (inside {c = c} {t = t} {w = v} {u = u} n k) r p w =
    let o : Reaches (in_str r (c ∷ w)) (suc p) t (str_token r (reverse_aux (c ∷ w) v)) u = string_run k r (suc p) (c ∷ w) in
    record { q = o.q; runs = rw n o.runs }

nil_run : {t : List ℕ} (p : ℕ) → Shows t [] → run idle p t ≡ ok []
nil_run p done = refl
nil_run p (effector {c = d} {t = t} h s) = passes idle resting p d t h ∙ nil_run (suc p) s

record Past (p : ℕ) (t : List ℕ) (ms : List Mark) : Type 0 where
  q : ℕ
  u : List ℕ
  shows : Shows u ms
  runs : run idle p t ≡ run idle q u

to_comment : {t : List ℕ} {ms : List Mark} (p : ℕ) → Shows t (remark ∷ ms) → Past p t ms
to_comment {ms = ms} p (effector {c = d} {t = t} h s) =
    let o : Past (suc p) t ms = to_comment (suc p) s in
    record { q = o.q; u = o.u; shows = o.shows; runs = passes idle resting p d t h ∙ o.runs }
to_comment p (comment' {t = t} {u = u} k s) =
    let o : Leads (comment p) (suc (suc p)) t u = comment_run k p (suc (suc p)) in
    record { q = o.q; u = u; shows = s; runs = o.runs }

record TookOne (p : ℕ) (t : List ℕ) (x : ℕ → Res (List Token)) (ms : List Mark) : Type 0 where
  r : ℕ
  took : Took idle p t (x r) ms

to_string : {t w : List ℕ} {ms : List Mark} (p : ℕ) → Shows t (quoted w ∷ ms) → TookOne p t (λ r. str_token r w) ms
to_string {w = w} {ms = ms} p (effector {c = d} {t = t} h s) =
    let o : TookOne (suc p) t (λ r. str_token r w) ms = to_string (suc p) s in
    let k : Took idle (suc p) t (str_token o.r w) ms = o.took in
    record { r = o.r; took = record { q = k.q; u = k.u; shows = k.shows; runs = passes idle resting p d t h ∙ k.runs } }
to_string p (string {t = t} {w = w} {u = u} k s) =
    let o : Reaches (in_str p []) (suc p) t (str_token p w) u = string_run k p (suc p) [] in
    record { r = p; took = record { q = o.q; u = u; shows = s; runs = o.runs } }

-- ---- separators

module _ (ms : List Mark) where
  lone : {t : List ℕ} (p c : ℕ) (s : Sep) → ((q : ℕ) → step idle q c ≡ emit (ok (at q (sep s) ∷ [])) idle) → Shows t (char c ∷ ms) → TookOne p t (λ r. ok (at r (sep s) ∷ [])) ms
  lone p c s e sh = let x = skip p sh in record { r = x.q; took = gives x resting (e x.q) }

  sep_run : {t : List ℕ} (s : Sep) (p : ℕ) → longer s ms ≡ false → Shows t (map char (sep_text s) ++ ms) → TookOne p t (λ r. ok (at r (sep s) ∷ [])) ms
  sep_run ampamp_ p n sh =
      let a = skip p sh in
      let b = skip (suc a.q) a.shows in
      let c = skip (suc b.q) b.shows in
      record { r = a.q; took = goes a resting refl (goes b (reading some_amp) refl (gives c (reading some_amps) refl)) }
  sep_run ampamp p n sh =
      let a = skip p sh in
      let b = skip (suc a.q) a.shows in
      record { r = a.q; took = goes a resting refl (goes b (reading some_amp) refl (settle (two_amp a.q) some_amps (suc b.q) b.shows n)) }
  sep_run amp_ p n sh =
      let a = skip p sh in
      let b = skip (suc a.q) a.shows in
      record { r = a.q; took = goes a resting refl (gives b (reading some_amp) refl) }
  sep_run amp p n sh = let a = skip p sh in record { r = a.q; took = goes a resting refl (settle (one_amp a.q) some_amp (suc a.q) a.shows n) }
  sep_run plusplus p n sh =
      let a = skip p sh in
      let b = skip (suc a.q) a.shows in
      record { r = a.q; took = goes a resting refl (gives b (reading some_plus) refl) }
  sep_run dash p n sh = lone p 45 dash (λ q. refl) sh
  sep_run comma p n sh = lone p 44 comma (λ q. refl) sh
  sep_run colon p n sh = lone p 58 colon (λ q. refl) sh
  sep_run equals p n sh = lone p 61 equals (λ q. refl) sh
  sep_run semi p n sh = lone p 59 semi (λ q. refl) sh

-- ---- words

data EndsAt (b : Bool) (w : List ℕ) : List Mark → Type 0 where
  other' : {ms : List Mark} → next_is (λ c. is_word_char c || eqb c 43) ms ≡ false → EndsAt b w ms
  plus' : {ms : List Mark} → word_chars b (w ++ (43 ∷ [])) ≡ true → EndsAt b w (char 43 ∷ char 43 ∷ ms)

ends_on : (b : Bool) (c : ℕ) (w : List ℕ) {ms : List Mark} → EndsAt b (c ∷ w) ms → EndsAt (not (is_word_char c)) w ms
ends_on b c w (other' n) = other' n
ends_on b c w (plus' k) = plus' (search conjuncts)

-- `++` ends a word, and is read as it would be without the word
word_plus : {t : List ℕ} {ms : List Mark} (q a : ℕ) (acc : List ℕ) (p : ℕ) → Shows t (char 43 ∷ char 43 ∷ ms)
    → run (in_word q (a ∷ acc)) p t ≡ and_then (word_token q (reverse (a ∷ acc))) (run idle p t)
word_plus {t} {ms} q a acc p sh =
    let x : Skip 43 (char 43 ∷ ms) p t = skip p sh in
    let y : Skip 43 ms (suc x.q) x.u = skip (suc x.q) x.shows in
    let pp : Res (List Token) = ok (at x.q (sep plusplus) ∷ []) in
    let r : Res (List Token) = run idle (suc y.q) y.u in
    let free : run idle p t ≡ and_then pp r = x.runs idle resting ∙ y.runs (in_plus x.q [] x.q) (reading some_plus) in
    x.runs (in_word q (a ∷ acc)) (reading some_word) ∙ y.runs (in_plus q (a ∷ acc) x.q) (reading some_plus) ∙ then_assoc (word_token q (reverse (a ∷ acc))) pp r
    ∙ ap (and_then (word_token q (reverse (a ∷ acc)))) (sym free)

last_word : {t : List ℕ} {ms : List Mark} (q a : ℕ) (acc : List ℕ) (p : ℕ) → Shows t ms → EndsAt false [] ms → Took (in_word q (a ∷ acc)) p t (word_token q (reverse (a ∷ acc))) ms
last_word q a acc p sh (other' n) = settle (in_word q (a ∷ acc)) some_word p sh n
last_word {t} q a acc p sh (plus' k) = record { q = p; u = t; shows = sh; runs = word_plus q a acc p sh }

last_plus_lem : {t : List ℕ} {ms : List Mark} (q : ℕ) (acc : List ℕ) (r p : ℕ) → Shows t ms → EndsAt true [] ms → Took (in_plus q acc r) p t (word_token q (reverse_aux acc (43 ∷ []))) ms
last_plus_lem q acc r p sh (other' n) = settle (in_plus q acc r) some_plus p sh n
last_plus_lem q acc r p sh (plus' k) = absurd (false≢true k)

mutual
  word_walk : (w : List ℕ) {t : List ℕ} {ms : List Mark} (q a : ℕ) (acc : List ℕ) (p : ℕ) → Shows t (map char w ++ ms) → word_chars false w ≡ true → EndsAt false w ms
      → Took (in_word q (a ∷ acc)) p t (word_token q (reverse_aux acc (a ∷ w))) ms
  word_walk [] q a acc p sh h e = last_word q a acc p sh e
  word_walk (c ∷ w) {t} {ms} q a acc p sh h e =
      let x : Skip c (map char w ++ ms) p t = skip p sh in
      by_bool (is_word_char c)
      (λ y. goes x (reading some_word) (rw y) (word_walk w q c (a ∷ acc) (suc x.q) x.shows (rw y at h) (subst (λ z. EndsAt (not z) w ms) y (ends_on false c w e))))
      (λ y.
      let h' : (eqb c 43 && true) && word_chars true w ≡ true = rw y at h in
      let z : eqb c 43 ≡ true = search conjuncts in
      goes x (reading some_word) (rw (y, z)) (subst (λ d. Took (in_plus q (a ∷ acc) x.q) (suc x.q) x.u (word_token q (reverse_aux acc (a ∷ d ∷ w))) ms) (sym (eqb-true c 43 z))
      (plus_walk w q (a ∷ acc) x.q (suc x.q) x.shows (search conjuncts) (subst (λ z. EndsAt (not z) w ms) y (ends_on false c w e)))))

  plus_walk : (w : List ℕ) {t : List ℕ} {ms : List Mark} (q : ℕ) (acc : List ℕ) (r p : ℕ) → Shows t (map char w ++ ms) → word_chars true w ≡ true → EndsAt true w ms
      → Took (in_plus q acc r) p t (word_token q (reverse_aux acc (43 ∷ w))) ms
  plus_walk [] q acc r p sh h e = last_plus_lem q acc r p sh e
  plus_walk (c ∷ w) {t} {ms} q acc r p sh h e =
      let x : Skip c (map char w ++ ms) p t = skip p sh in
      by_bool (is_word_char c)
      (λ y. goes x (reading some_plus) (rw y) (word_walk w q c (43 ∷ acc) (suc x.q) x.shows (rw y at h) (subst (λ z. EndsAt (not z) w ms) y (ends_on true c w e))))
      (λ y.
      let h' : (eqb c 43 && false) && word_chars true w ≡ true = rw y at h in
      absurd (false≢true (search conjuncts)))

word_run_lem : {t : List ℕ} {ms : List Mark} (w : List ℕ) (p : ℕ) → run_of in_words w ≡ true → double w ≡ false → Ends w ms → Shows t (map char w ++ ms) → TookOne p t (λ r. word_token r w) ms
word_run_lem [] p n d e sh = absurd (false≢true n)
word_run_lem {t} {ms} (c ∷ w) p n d e sh =
    let h : word_chars false (c ∷ w) ≡ true = are_chars false (c ∷ w) n d (λ z. absurd (false≢true z)) in
    let x : Skip c (map char w ++ ms) p t = skip p sh in
    let e' : EndsAt (not (is_word_char c)) w ms = ends_on false c w (weaken n e) in
    by_bool (is_word_char c)
    (λ y. record { r = x.q; took = goes x resting (rw y) (word_walk w x.q c [] (suc x.q) x.shows (rw y at h) (subst (λ z. EndsAt (not z) w ms) y e')) })
    (λ y.
    let h' : (eqb c 43 && true) && word_chars true w ≡ true = rw y at h in
    let z : eqb c 43 ≡ true = search conjuncts in
    record {
      r = x.q;
      took = goes x resting (rw (y, z)) (subst (λ d. Took (in_plus x.q [] x.q) (suc x.q) x.u (word_token x.q (d ∷ w)) ms) (sym (eqb-true c 43 z))
          (plus_walk w x.q [] x.q (suc x.q) x.shows (search conjuncts) (subst (λ z. EndsAt (not z) w ms) y e')));
    })
  where
    weaken : {v : List ℕ} {ms : List Mark} → all in_words v ≡ true → Ends v ms → EndsAt false v ms
    weaken h (other n) = other' n
    weaken {v} h (plus k) = plus' (one_plus v h k)

-- ---- the whole

record Reads (p : ℕ) (t : List ℕ) (xs : List Lex) : Type 0 where
  us : List Token
  got : run idle p t ≡ ok us
  are : map lex_of us ≡ xs

finish : {ms : List Mark} {xs : List Lex} (x : Lex) (k p : ℕ) (t : List ℕ) (a : Res (List Token)) → a ≡ ok (at k x ∷ []) → Took idle p t a ms
    → ((q : ℕ) (u : List ℕ) → Shows u ms → Reads q u xs) → Reads p t (x ∷ xs)
finish x k p t a e o f =
    let r : Reads o.q o.u _ = f o.q o.u o.shows in
    record { us = at k x ∷ r.us; got = o.runs ∙ ap₂ and_then e r.got; are = ap (λ l. x ∷ l) r.are }

tokens_complete : {ns : List Mark} {xs : List Lex} → Tokens ns xs → (p : ℕ) (t : List ℕ) → Shows t ns → Reads p t xs
tokens_complete done p t sh = record { us = []; got = nil_run p sh; are = refl }
tokens_complete (comment' {ms = ms} {xs = xs} k) p t sh =
    let o : Past p t ms = to_comment p sh in
    let r : Reads o.q o.u xs = tokens_complete k o.q o.u o.shows in
    record { us = r.us; got = o.runs ∙ r.got; are = r.are }
tokens_complete (string {w = w} {ms = ms} few k) p t sh =
    let o : TookOne p t (λ r. str_token r w) ms = to_string p sh in
    let e : str_token o.r w ≡ ok (at o.r (str w) ∷ []) = rw (le-leb (length w) 80 few) in
    finish (str w) o.r p t (str_token o.r w) e o.took (λ q u s. tokens_complete k q u s)
tokens_complete (separator s {ms = ms} n k) p t sh =
    let o : TookOne p t (λ r. ok (at r (sep s) ∷ [])) ms = sep_run ms s p n sh in
    finish (sep s) o.r p t (ok (at o.r (sep s) ∷ [])) refl o.took (λ q u s. tokens_complete k q u s)
tokens_complete (letters w {ms = ms} n h few e k) p t sh =
    let o : TookOne p t (λ r. word_token r w) ms = word_run_lem w p n h e sh in
    let q : word_token o.r w ≡ ok (at o.r (word w) ∷ []) = rw (le-leb (length w) (word_most w) few) in
    finish (word w) o.r p t (word_token o.r w) q o.took (λ q u s. tokens_complete k q u s)

pub record Scanned (cs : List ℕ) (xs : List Lex) : Type 0 where
  pub tokens : List Token
  pub got : scan cs ≡ ok tokens
  pub are : map lex_of tokens ≡ xs

pub spells_complete : (cs : List ℕ) (xs : List Lex) → Spells cs xs → Scanned cs xs
unfolding scan
spells_complete cs xs s =
    let r : Reads 0 cs xs = tokens_complete s.cut 0 cs s.seen in
    record { tokens = r.us; got = rw (le-leb (length cs) 1024 s.few, scan) (rw (none_off cs 0 s.permitted) r.got); are = r.are }
