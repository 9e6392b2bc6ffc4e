-- A word's characters: the scan's test says what the grammar's two tests say, by induction along the word.
use Prim.Native.Nat.{ℕ}
use mathlib.Core.Path.{◌≡◌, refl, sym, ap, ◌∙◌}
use mathlib.Core.Bool.{Bool, true, false, ◌&&◌, not, false≢true}
use mathlib.Core.List.{List, [], ◌∷◌, ◌++◌}
use lib.Dec.{eqb}
use borrow.Author.Tests.{eqb-true, not-true}
use Rattle.laws.specs.Cases.{by_bool, and_l, and_r, or_true, or_false, conjuncts}
use Rattle.laws.specs.Lists.{all, all_append}
use Rattle.rules.specs.Characters.{is_word_char}
use Rattle.rules.specs.Tokens.{word_chars}
use Rattle.grammar.specs.Grammar.{in_words, begins, double}

no_plus : (c : ℕ) → is_word_char c ≡ true → eqb c 43 ≡ false
no_plus c y = by_bool (eqb c 43) (λ z. absurd (false≢true (ap is_word_char (sym (eqb-true c 43 z)) ∙ y))) (λ z. z)

-- b: a `+` stands before
pub chars_are : (b : Bool) (w : List ℕ) → word_chars b w ≡ true → (all in_words w ≡ true) × (double w ≡ false) × (b ≡ true → begins 43 w ≡ false)
chars_are b [] h = (refl, refl, λ z. refl)
chars_are b (c ∷ w) h =
    by_bool (is_word_char c)
    (λ y.
    let ih : (all in_words w ≡ true) × (double w ≡ false) × (false ≡ true → begins 43 w ≡ false) = chars_are false w (rw y at h) in
    (rw y ih.0, rw (no_plus c y) ih.1, λ z. no_plus c y))
    (λ y.
    let h' : (eqb c 43 && not b) && word_chars true w ≡ true = rw y at h in
    let k : eqb c 43 && not b ≡ true = and_l (eqb c 43 && not b) (word_chars true w) h' in
    let e : eqb c 43 ≡ true = and_l (eqb c 43) (not b) k in
    let nb : b ≡ false = not-true b (search conjuncts) in
    let ih : (all in_words w ≡ true) × (double w ≡ false) × (true ≡ true → begins 43 w ≡ false) = chars_are true w (search conjuncts) in
    (rw (e, or_true (is_word_char c)) ih.0, rw (e, ih.2 refl) ih.1, λ z. absurd (false≢true (sym nb ∙ z))))

pub are_chars : (b : Bool) (w : List ℕ) → all in_words w ≡ true → double w ≡ false → (b ≡ true → begins 43 w ≡ false) → word_chars b w ≡ true
are_chars b [] h d k = refl
are_chars b (c ∷ w) h d k =
    let hw : all in_words w ≡ true = and_r (in_words c) (all in_words w) h in
    let d2 : (eqb c 43 && begins 43 w ≡ false) × (double w ≡ false) = or_false (eqb c 43 && begins 43 w) (double w) d in
    by_bool (is_word_char c)
    (λ y. rw y (are_chars false w hw d2.1 (λ z. absurd (false≢true z))))
    (λ y.
    let e : eqb c 43 ≡ true = rw y at (and_l (in_words c) (all in_words w) h) in
    let nb : b ≡ false = by_bool b (λ z. absurd (false≢true (sym (k z) ∙ e))) (λ z. z) in
    rw (y, e, nb) (are_chars true w hw d2.1 (λ z. rw e at d2.0)))

pub one_plus : (w : List ℕ) → all in_words w ≡ true → double (w ++ (43 ∷ [])) ≡ false → word_chars false (w ++ (43 ∷ [])) ≡ true
one_plus w h d = are_chars false (w ++ (43 ∷ [])) (all_append in_words w (43 ∷ []) h refl) d (λ z. absurd (false≢true z))
