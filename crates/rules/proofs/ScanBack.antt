-- Scanning the text of a token list gives the list back, where neighbours are told apart: the automaton from `idle` over one token's text emits it and is idle.
use Prim.Native.Nat.{ℕ, suc, ◌+◌}
use mathlib.Core.Path.{◌≡◌, refl, sym, ap, ◌∙◌}
use mathlib.Core.Bool.{Bool, true, false, cond, ◌&&◌, not, false≢true}
use mathlib.Core.List.{List, [], ◌∷◌, ◌++◌, append-nil, append_assoc, reverse, reverse_aux}
use native.Mathlib.Nat.{add-zero}
use native.Mathlib.Numerals.{add-one, add-two, add-three}
use native.Mathlib.Omega.{arith}
use lib.Dec.{leb, eqb}
use lib.ListN.{length, length-append}
use borrow.Author.Tests.{eqb-true, not-true}
use Rattle.laws.specs.Cases.{by_bool, and_l, and_r, conjuncts}
use Rattle.laws.specs.Lists.{all}
use Rattle.rules.specs.Characters.{is_word_char, is_effector, is_permitted}
use Rattle.rules.specs.Printing.{doubled, lex_text, render}
use Rattle.rules.specs.Refusals.{Res, ok, bad}
use Rattle.rules.specs.Tokens.{ampamp_, ampamp, amp_, amp, plusplus, dash, comma, colon, equals, semi, Lex, word, str, sep, Token, at, State, idle, in_word, in_plus, one_amp, two_amp, in_str, quote, word_chars, word_most, word_token, str_token, flush, and_then, Step, stay, emit, fresh, after, end, step, next, run}

-- ---- the text of tokens

abbrev pub place_all : ℕ → List Lex → List Token
place_all p [] = []
place_all p (x ∷ xs) = at p x ∷ place_all (p + length (lex_text x)) xs

-- ---- laws of the automaton

pub then_assoc : (a b c : Res (List Token)) → and_then (and_then a b) c ≡ and_then a (and_then b c)
then_assoc (bad n p) b c = refl
then_assoc (ok ts) (bad n p) c = refl
then_assoc (ok ts) (ok us) (bad n p) = refl
then_assoc (ok ts) (ok us) (ok vs) = ap (λ l. ok l) (append_assoc ts us vs)

pub next_after : (f : Res (List Token)) (s : Step) (k : State → Res (List Token)) → next (after f s) k ≡ and_then f (next s k)
next_after f (stay s) k = refl
next_after f (emit r s) k = then_assoc f r (k s)

-- ---- a word

abbrev pub starts_plus : List ℕ → Bool
starts_plus [] = false
starts_plus (c ∷ cs) = eqb c 43

-- what may follow a word; b: it ends in `+`
abbrev pub ends_word : Bool → List ℕ → Bool
ends_word b [] = true
ends_word b (c ∷ cs) = not (is_word_char c) && cond (eqb c 43) (not b && starts_plus cs) (not (is_effector c))

abbrev pub last_plus : Bool → List ℕ → Bool
last_plus b [] = b
last_plus b (c ∷ cs) = last_plus (not (is_word_char c)) cs

pub then_nil : (a : Res (List Token)) → a ≡ and_then a (ok [])
then_nil (ok ts) = ap (λ l. ok l) (sym (append-nil ts))
then_nil (bad n p) = refl

-- a byte that ends what a state has read
module _ (p c : ℕ) (cs : List ℕ) where
  pub ended : (s : State) → step s p c ≡ end s p c → run s p (c ∷ cs) ≡ and_then (flush s) (run idle p (c ∷ cs))
  ended s e = ap (λ x. next x (λ s'. run s' (suc p) cs)) e ∙ next_after (flush s) (fresh p c) (λ s'. run s' (suc p) cs)

pub step_w_end : (q : ℕ) (w : List ℕ) (p c : ℕ) → is_word_char c ≡ false → eqb c 43 ≡ false → is_effector c ≡ false → step (in_word q w) p c ≡ end (in_word q w) p c
step_w_end q w p c n1 n2 n3 = rw (n1, n2, n3)

pub step_p_end : (q : ℕ) (w : List ℕ) (r p c : ℕ) → is_word_char c ≡ false → eqb c 43 ≡ false → is_effector c ≡ false
    → step (in_plus q w r) p c ≡ end (in_plus q w r) p c
step_p_end q w r p c n1 n2 n3 = rw (n1, n2, n3)

pub settle_w : (q a : ℕ) (acc : List ℕ) (p : ℕ) (rest : List ℕ) → ends_word false rest ≡ true
    → run (in_word q (a ∷ acc)) p rest ≡ and_then (word_token q (reverse_aux acc (a ∷ []))) (run idle p rest)
settle_w q a acc p [] h = then_nil (word_token q (reverse_aux acc (a ∷ [])))
settle_w q a acc p (c ∷ []) h =
    let nw : is_word_char c ≡ false = not-true (is_word_char c) (search conjuncts) in
    by_bool (eqb c 43)
    (λ e. absurd (false≢true (rw (nw, e) at h)))
    (λ e. ended p c [] (in_word q (a ∷ acc)) (step_w_end q (a ∷ acc) p c nw e (not-true (is_effector c) (rw (nw, e) at h))))
settle_w q a acc p (c ∷ d ∷ cs) h =
    let nw : is_word_char c ≡ false = not-true (is_word_char c) (search conjuncts) in
    by_bool (eqb c 43)
    (λ e.
    let e2 : eqb d 43 ≡ true = rw (nw, e) at h in
    rw (eqb-true c 43 e, eqb-true d 43 e2)
    (then_assoc (word_token q (reverse_aux acc (a ∷ []))) (ok (at p (sep plusplus) ∷ [])) (run idle (suc (suc p)) cs)))
    (λ e. ended p c (d ∷ cs) (in_word q (a ∷ acc)) (step_w_end q (a ∷ acc) p c nw e (not-true (is_effector c) (rw (nw, e) at h))))

pub settle_p : (q : ℕ) (acc : List ℕ) (r p : ℕ) (rest : List ℕ) → ends_word true rest ≡ true
    → run (in_plus q acc r) p rest ≡ and_then (word_token q (reverse_aux acc (43 ∷ []))) (run idle p rest)
settle_p q acc r p [] h = then_nil (word_token q (reverse_aux acc (43 ∷ [])))
settle_p q acc r p (c ∷ cs) h =
    let nw : is_word_char c ≡ false = not-true (is_word_char c) (search conjuncts) in
    by_bool (eqb c 43)
    (λ e. absurd (false≢true (rw (nw, e) at h)))
    (λ e. ended p c cs (in_plus q acc r) (step_p_end q acc r p c nw e (not-true (is_effector c) (rw (nw, e) at h))))

module _ (q : ℕ) (rest : List ℕ) (e : ℕ) where
  mutual
    pub word_run : (cs : List ℕ) (a : ℕ) (acc : List ℕ) (p : ℕ) → e ≡ p + length cs → word_chars false cs ≡ true → ends_word (last_plus false cs) rest ≡ true
        → run (in_word q (a ∷ acc)) p (cs ++ rest) ≡ and_then (word_token q (reverse_aux acc (a ∷ cs))) (run idle e rest)
    word_run [] a acc p pe h hr = rw (pe, add-zero) (settle_w q a acc p rest hr)
    word_run (c ∷ cs) a acc p pe h hr =
        by_bool (is_word_char c)
        (λ y. rw y (word_run cs c (a ∷ acc) (suc p) (omega arith) (rw y at h) (rw y at hr)))
        (λ y.
        let h' : (eqb c 43 && true) && word_chars true cs ≡ true = rw y at h in
        rw (eqb-true c 43 (search conjuncts))
        (plus_run cs (a ∷ acc) p (suc p) (omega arith) (search conjuncts) (rw y at hr)))

    pub plus_run : (cs : List ℕ) (acc : List ℕ) (r p : ℕ) → e ≡ p + length cs → word_chars true cs ≡ true → ends_word (last_plus true cs) rest ≡ true
        → run (in_plus q acc r) p (cs ++ rest) ≡ and_then (word_token q (reverse_aux acc (43 ∷ cs))) (run idle e rest)
    plus_run [] acc r p pe h hr = rw (pe, add-zero) (settle_p q acc r p rest hr)
    plus_run (c ∷ cs) acc r p pe h hr =
        by_bool (is_word_char c)
        (λ y. rw y (word_run cs c (43 ∷ acc) (suc p) (omega arith) (rw y at h) (rw y at hr)))
        (λ y.
        let h' : (eqb c 43 && false) && word_chars true cs ≡ true = rw y at h in
        absurd (false≢true (search conjuncts)))

-- ---- a string

abbrev pub ends_str : List ℕ → Bool
ends_str [] = true
ends_str (c ∷ cs) = not (eqb c 34)

pub str_run : (q e : ℕ) (rest : List ℕ) (w acc : List ℕ) (p : ℕ) → e ≡ p + (length (doubled w) + 1) → ends_str rest ≡ true
    → run (in_str q acc) p (doubled w ++ (34 ∷ []) ++ rest) ≡ and_then (str_token q (reverse_aux acc w)) (run idle e rest)
str_run q e [] [] acc p pe h = then_nil (str_token q (reverse acc))
str_run q e (c ∷ cs) [] acc p pe h =
    let pe' : e ≡ suc p = omega arith in
    rw pe' (ended (suc p) c cs (quote q acc) (rw (not-true (eqb c 34) h)))
str_run q e rest (c ∷ w) acc p pe h =
    by_bool (eqb c 34)
    (λ y.
    let pe' : e ≡ p + (length (34 ∷ 34 ∷ doubled w) + 1) = rw (y, doubled) at pe in
    rw (eqb-true c 34 y) (str_run q e rest w (34 ∷ acc) (suc (suc p)) (omega arith) h))
    (λ y.
    let pe' : e ≡ p + (length (c ∷ doubled w) + 1) = rw (y, doubled) at pe in
    rw (y, doubled) (rw y (str_run q e rest w (c ∷ acc) (suc p) (omega arith) h)))

-- ---- a token, and what may follow it

abbrev pub ok_lex : Lex → Bool
ok_lex (word []) = false
ok_lex (word (c ∷ cs)) = word_chars false (c ∷ cs) && leb (length (c ∷ cs)) (word_most (c ∷ cs))
ok_lex (str w) = leb (length w) 80 && all is_permitted w
ok_lex (sep s) = true

abbrev pub follows : (ℕ → Bool) → List ℕ → Bool
follows f [] = true
follows f (c ∷ cs) = f c

abbrev pub parts : Lex → List ℕ → Bool
parts (word w) rest = ends_word (last_plus false w) rest
parts (str w) rest = ends_str rest
parts (sep ampamp_) rest = true
parts (sep ampamp) rest = follows (λ c. not (eqb c 45) && not (is_effector c)) rest
parts (sep amp_) rest = true
parts (sep amp) rest = follows (λ c. not (eqb c 38) && not (eqb c 45) && not (is_effector c)) rest
parts (sep plusplus) rest = true
parts (sep dash) rest = true
parts (sep comma) rest = true
parts (sep colon) rest = true
parts (sep equals) rest = true
parts (sep semi) rest = true

abbrev pub separated : List Lex → Bool
separated [] = true
separated (x ∷ xs) = ok_lex x && parts x (render xs) && separated xs

pub settle_a : (q p : ℕ) (rest : List ℕ) → parts (sep amp) rest ≡ true → run (one_amp q) p rest ≡ and_then (ok (at q (sep amp) ∷ [])) (run idle p rest)
settle_a q p [] h = refl
settle_a q p (c ∷ cs) h =
    let one : eqb c 38 ≡ false = search conjuncts in
    let two : eqb c 45 ≡ false = search conjuncts in
    let seen : is_effector c ≡ false = search conjuncts in
    ended p c cs (one_amp q) (rw (one, two, seen))

pub settle_aa : (q p : ℕ) (rest : List ℕ) → parts (sep ampamp) rest ≡ true
    → run (two_amp q) p rest ≡ and_then (ok (at q (sep ampamp) ∷ [])) (run idle p rest)
settle_aa q p [] h = refl
settle_aa q p (c ∷ cs) h =
    let two : eqb c 45 ≡ false = search conjuncts in
    let seen : is_effector c ≡ false = search conjuncts in
    ended p c cs (two_amp q) (rw (two, seen))

pub one_token : (x : Lex) (p : ℕ) (rest : List ℕ) → ok_lex x ≡ true → parts x rest ≡ true
    → run idle p (lex_text x ++ rest) ≡ and_then (ok (at p x ∷ [])) (run idle (p + length (lex_text x)) rest)
one_token (word []) p rest h hr = absurd (false≢true h)
one_token (word (c ∷ cs)) p rest h hr =
    let hl : leb (length (c ∷ cs)) (word_most (c ∷ cs)) ≡ true = search conjuncts in
    let hc : word_chars false (c ∷ cs) ≡ true = search conjuncts in
    let tok : word_token p (c ∷ cs) ≡ ok (at p (word (c ∷ cs)) ∷ []) = rw hl in
    rw (← tok)
    (by_bool (is_word_char c)
    (λ y. rw y (word_run p rest (p + suc (length cs)) cs c [] (suc p) (omega arith) (rw y at hc) (rw y at hr)))
    (λ y.
    let h' : (eqb c 43 && true) && word_chars true cs ≡ true = rw y at hc in
    let c43 : c ≡ 43 = eqb-true c 43 (and_l (eqb c 43) true (and_l (eqb c 43 && true) (word_chars true cs) h')) in
    rw c43 (plus_run p rest (p + suc (length cs)) cs [] p (suc p) (omega arith) (and_r (eqb c 43 && true) (word_chars true cs) h') (rw y at hr))))
one_token (str w) p rest h hr =
    let tok : str_token p w ≡ ok (at p (str w) ∷ []) = rw (and_l (leb (length w) 80) (all is_permitted w) h) in
    rw (← tok, length-append) (str_run p (p + (suc (length (doubled w)) + 1)) rest w [] (suc p) (omega arith) hr)
one_token (sep ampamp_) p rest h hr = rw add-three
one_token (sep ampamp) p rest h hr = rw add-two (settle_aa p (suc (suc p)) rest hr)
one_token (sep amp_) p rest h hr = rw add-two
one_token (sep amp) p rest h hr = rw add-one (settle_a p (suc p) rest hr)
one_token (sep plusplus) p rest h hr = rw add-two
one_token (sep dash) p rest h hr = rw add-one
one_token (sep comma) p rest h hr = rw add-one
one_token (sep colon) p rest h hr = rw add-one
one_token (sep equals) p rest h hr = rw add-one
one_token (sep semi) p rest h hr = rw add-one

pub scan_render : (xs : List Lex) (p : ℕ) → separated xs ≡ true → run idle p (render xs) ≡ ok (place_all p xs)
scan_render [] p h = refl
scan_render (x ∷ xs) p h =
    one_token x p (render xs) (search conjuncts) (search conjuncts) ∙ rw (scan_render xs (p + length (lex_text x)) (search conjuncts))
