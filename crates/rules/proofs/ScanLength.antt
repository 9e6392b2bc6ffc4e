-- The tokens that a scan gives are no longer, written out, than the bytes scanned: each step of the automaton owes at most one byte more.
use Prim.Native.Nat.{ℕ, suc, ◌+◌, ◌≤◌}
use mathlib.Core.Path.{◌≡◌, refl, ◌∙◌}
use mathlib.Core.List.{List, [], ◌∷◌, ◌++◌, reverse, reverse_aux}
use native.Mathlib.Omega.{arith}
use lib.Dec.{leb, eqb}
use lib.ListN.{length, length-append, length-reverse}
use Rattle.laws.specs.Cases.{by_bool, cond_both, cond_by, Always}
use Rattle.rules.specs.Characters.{is_word_char, is_effector}
use Rattle.rules.specs.Printing.{doubled, lex_text}
use Rattle.rules.specs.Refusals.{Res, ok, bad}
use Rattle.rules.specs.Tokens.{lex_of, plusplus, sep, Token, at, State, idle, in_word, in_plus, one_amp, two_amp, slash, comment, star, in_str, quote, word_most, word_tokens, flush, and_then, Step, stay, emit, fresh, after, end, step, next, run}
use Rattle.rules.proofs.ResultLaws.{ok_inj, ok≢bad}

abbrev pub text_len : List Token → ℕ
text_len [] = 0
text_len (t ∷ ts) = length (lex_text (lex_of t)) + text_len ts

pub text_len_append : (ts us : List Token) → text_len (ts ++ us) ≡ text_len ts + text_len us
text_len_append [] us = omega arith
text_len_append (t ∷ ts) us = rw (text_len_append ts us) (omega arith)

-- what a state has read of what it may yet give
abbrev pub pend : State → ℕ
pend idle = 0
pend (in_word q w) = length w
pend (in_plus q w r) = suc (length w)
pend (one_amp q) = 1
pend (two_amp q) = 2
pend (slash q) = 0
pend (comment q) = 0
pend (star q) = 0
pend (in_str q w) = suc (length (doubled w))
pend (quote q w) = suc (suc (length (doubled w)))

abbrev pub BoundR : ℕ → ℕ → Res (List Token) → Type 0
BoundR n m (ok ts) = text_len ts + m ≤ n
BoundR n m (bad x p) = Always

abbrev pub Bound : ℕ → Step → Type 0
Bound n (stay s) = pend s ≤ n
Bound n (emit r s) = BoundR n (pend s) r

pub doubled_aux : (a b : List ℕ) → length (doubled (reverse_aux a b)) ≡ length (doubled a) + length (doubled b)
doubled_aux [] b = omega arith
doubled_aux (x ∷ a) b =
    doubled_aux a (x ∷ b)
    ∙ by_bool (eqb x 34) (λ y. rw (y, doubled) (omega arith)) (λ y. rw (y, doubled) (omega arith))

pub flush_bound : (s : State) → BoundR (pend s) 0 (flush s)
flush_bound idle = omega arith
flush_bound (in_word q w) = cond_both (BoundR (length w) 0) (leb (length (reverse w)) (word_most (reverse w))) (rw length-reverse (omega arith)) tt
flush_bound (in_plus q w r) =
    cond_both (BoundR (suc (length w)) 0) (leb (length (reverse (43 ∷ w))) (word_most (reverse (43 ∷ w)))) (omega (arith, length-reverse (43 ∷ w))) tt
flush_bound (one_amp q) = omega arith
flush_bound (two_amp q) = omega arith
flush_bound (slash q) = tt
flush_bound (comment q) = tt
flush_bound (star q) = tt
flush_bound (in_str q w) = tt
flush_bound (quote q w) =
    cond_both (BoundR (suc (suc (length (doubled w)))) 0) (leb (length (reverse w)) 80)
    (omega (arith, doubled_aux w [], length-append (34 ∷ doubled (reverse w)) (34 ∷ []))) tt

pub fresh_bound : (p c : ℕ) → Bound 1 (fresh p c)
fresh_bound p c =
    cond_both (Bound 1) (is_word_char c) (omega arith)
    (cond_both (Bound 1) (eqb c 43) (omega arith)
    (cond_both (Bound 1) (eqb c 38) (omega arith)
    (cond_both (Bound 1) (eqb c 45) (omega arith)
    (cond_both (Bound 1) (eqb c 44) (omega arith)
    (cond_both (Bound 1) (eqb c 58) (omega arith)
    (cond_both (Bound 1) (eqb c 61) (omega arith)
    (cond_both (Bound 1) (eqb c 59) (omega arith)
    (cond_both (Bound 1) (eqb c 47) (omega arith)
    (cond_both (Bound 1) (eqb c 34) (omega arith)
    (cond_both (Bound 1) (is_effector c) (omega arith) tt))))))))))

pub then_bound : (m n k : ℕ) (f r : Res (List Token)) → BoundR m 0 f → BoundR n k r → BoundR (m + n) k (and_then f r)
then_bound m n k (bad x p) r hf hr = tt
then_bound m n k (ok ts) (bad x p) hf hr = tt
then_bound m n k (ok ts) (ok us) hf hr = rw (text_len_append ts us) (omega arith)

pub after_bound : (m n : ℕ) (f : Res (List Token)) (s : Step) → BoundR m 0 f → Bound n s → Bound (m + n) (after f s)
after_bound m n (bad x p) (stay s) hf hs = tt
after_bound m n (ok ts) (stay s) hf hs = omega arith
after_bound m n f (emit r s) hf hs = then_bound m n (pend s) f r hf hs

pub end_bound_lem : (s : State) (p c : ℕ) → Bound (pend s + 1) (end s p c)
end_bound_lem s p c = after_bound (pend s) 1 (flush s) (fresh p c) (flush_bound s) (fresh_bound p c)

pub tokens_bound : (q : ℕ) (w : List ℕ) → BoundR (length w) 0 (word_tokens q w)
tokens_bound q [] = omega arith
tokens_bound q (c ∷ w) =
    cond_both (BoundR (suc (length w)) 0) (leb (length (reverse (c ∷ w))) (word_most (reverse (c ∷ w)))) (omega (arith, length-reverse (c ∷ w))) tt

pub step_bound : (s : State) (p c : ℕ) → Bound (pend s + 1) (step s p c)
step_bound idle p c = fresh_bound p c
step_bound (in_word q w) p c =
    cond_both (Bound (length w + 1)) (is_word_char c) (omega arith)
    (cond_both (Bound (length w + 1)) (eqb c 43) (omega arith)
    (cond_both (Bound (length w + 1)) (is_effector c) (omega arith) (end_bound_lem (in_word q w) p c)))
step_bound (in_plus q w r) p c =
    let B : Step → Type 0 = Bound (suc (length w) + 1) in
    let two : suc (length w) + 1 ≡ length w + 2 = omega arith in
    cond_both B (is_word_char c) (omega arith)
    (cond_both B (eqb c 43) (rw two (then_bound (length w) 2 0 (word_tokens q w) (ok (at r (sep plusplus) ∷ [])) (tokens_bound q w) (omega arith)))
    (cond_both B (is_effector c) (omega arith) (end_bound_lem (in_plus q w r) p c)))
step_bound (one_amp q) p c =
    cond_both (Bound 2) (eqb c 38) (omega arith)
    (cond_both (Bound 2) (eqb c 45) (omega arith) (cond_both (Bound 2) (is_effector c) (omega arith) (end_bound_lem (one_amp q) p c)))
step_bound (two_amp q) p c = cond_both (Bound 3) (eqb c 45) (omega arith) (cond_both (Bound 3) (is_effector c) (omega arith) (end_bound_lem (two_amp q) p c))
step_bound (slash q) p c = cond_both (Bound 1) (eqb c 42) (omega arith) (end_bound_lem (slash q) p c)
step_bound (comment q) p c = cond_both (Bound 1) (eqb c 42) (omega arith) (omega arith)
step_bound (star q) p c = cond_both (Bound 1) (eqb c 47) (omega arith) (cond_both (Bound 1) (eqb c 42) (omega arith) (omega arith))
step_bound (in_str q w) p c =
    cond_by (Bound (pend (in_str q w) + 1)) (eqb c 34) (λ y. omega arith) (λ y. rw (y, doubled) (omega arith))
step_bound (quote q w) p c =
    cond_by (Bound (pend (quote q w) + 1)) (eqb c 34) (λ y. rw (y, doubled) (omega arith)) (λ y. end_bound_lem (quote q w) p c)

pub next_bound : (n m : ℕ) (st : Step) (k : State → Res (List Token)) (ts : List Token) → Bound n st → next st k ≡ ok ts
    → ((s : State) (us : List Token) → k s ≡ ok us → text_len us ≤ pend s + m) → text_len ts ≤ n + m
next_bound n m (stay s) k ts b h r = omega (arith, r s ts h)
next_bound n m (emit (bad x p) s) k ts b h r = ok≢bad h
next_bound n m (emit (ok us) s) k ts b h r = go (k s) refl
  where
    go : (v : Res (List Token)) → k s ≡ v → text_len ts ≤ n + m
    go (bad x p) e = ok≢bad (rw e at h)
    go (ok vs) e =
        let q : us ++ vs ≡ ts = ok_inj (rw e at h) in
        rw (← q) (omega (arith, text_len_append us vs, r s vs e))

pub run_length_lem : (cs : List ℕ) (s : State) (p : ℕ) (ts : List Token) → run s p cs ≡ ok ts → text_len ts ≤ pend s + length cs
run_length_lem [] s p ts h = omega (arith, rw h at (flush_bound s))
run_length_lem (c ∷ cs) s p ts h =
    omega (arith, next_bound (pend s + 1) (length cs) (step s p c) (λ s'. run s' (suc p) cs) ts (step_bound s p c) h (λ s' us e. run_length_lem cs s' (suc p) us e))
