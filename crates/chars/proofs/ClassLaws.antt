-- Each test on a byte that the rules make is a test on its class: computed for the bytes below 128, and above none passes.
use mathlib.Core.Path.{◌≡◌, refl, sym, ap, ◌∙◌}
use mathlib.Core.Bool.{Bool, true, false, not, not-not, beq}
use Prim.Native.Nat.{ℕ, ◌≤◌, ◌<◌}
use native.Mathlib.Omega.{arith}
use lib.Dec.{eqb, ltb}
use lib.ListN.{get_or}
use borrow.Author.Tests.{eq-eqb, le-leb, lt-leb, ne_eqb, ltb-true, ltb-false}
use Rattle.laws.specs.Cases.{by_bool, beq_same}
use Rattle.laws.specs.Ranges.{alike, in_range, equal_in_range}
use Rattle.rules.specs.Characters.{byte, is_word_char, is_effector, is_permitted}
use Rattle.rules.specs.Tokens.{dash, comma, colon, equals, semi, sep_code}
use denote.Enum.Bare.{sameb, tag_one}
use denote.Enum.Declared.{tag_of}
use Rattle.chars.specs.contracts.Class.{the_type}
use Rattle.chars.specs.declared.Class.{Class}
use Rattle.chars.specs.declared.Class.TheVariants.{NotPermitted, Word, Plus, Ampersand, Effector, Dash, Comma, Colon, Equals, Semicolon, Slash, Mark, Other}
use Rattle.chars.specs.Classes.{class_of, number, table, no_class, word_class, plus_class, amp_class, effector_class, slash_class, mark_class}

-- ---- the table

-- each entry is its byte's class: computed
pub entry : (b : ℕ) → b < 128 → number (get_or table b NotPermitted) ≡ class_of b
unfolding table class_of
entry b h = equal_in_range (λ b. number (get_or table b NotPermitted)) class_of 0 128 refl b (omega arith) h

-- ---- bytes above the table

module _ (c : ℕ) (h : 128 ≤ c) where
  word_high : is_word_char c ≡ false
  word_high =
      simp (
        le-leb 65 c (omega arith),
        lt-leb c 90 (omega arith),
        le-leb 97 c (omega arith),
        lt-leb c 122 (omega arith),
        le-leb 48 c (omega arith),
        lt-leb c 57 (omega arith),
        ne_eqb c 35 (λ e. omega arith),
        ne_eqb c 37 (λ e. omega arith),
        ne_eqb c 46 (λ e. omega arith),
        ne_eqb c 39 (λ e. omega arith),
        ne_eqb c 42 (λ e. omega arith),
      )

  effector_high : is_effector c ≡ false
  effector_high = simp (le-leb 9 c (omega arith), lt-leb c 13 (omega arith), ne_eqb c 32 (λ e. omega arith))

  permitted_high : is_permitted c ≡ false
  permitted_high = simp (le-leb 9 c (omega arith), lt-leb c 13 (omega arith), le-leb 32 c (omega arith), lt-leb c 126 (omega arith))

  pub high : no_class ≡ class_of c
  unfolding class_of
  high =
      simp (
        word_high,
        effector_high,
        permitted_high,
        ne_eqb c 43 (λ e. omega arith),
        ne_eqb c 38 (λ e. omega arith),
        ne_eqb c 45 (λ e. omega arith),
        ne_eqb c 44 (λ e. omega arith),
        ne_eqb c 58 (λ e. omega arith),
        ne_eqb c 61 (λ e. omega arith),
        ne_eqb c 59 (λ e. omega arith),
        ne_eqb c 47 (λ e. omega arith),
        ne_eqb c 34 (λ e. omega arith),
      )

-- ---- tests on bytes and tests on classes

-- two tests that agree on the bytes below 128, by computing, and above
agree : (f g : ℕ → Bool) → alike (λ k. beq (f k) (g k)) 0 128 ≡ true → ((c : ℕ) → 128 ≤ c → f c ≡ g c) → (c : ℕ) → f c ≡ g c
agree f g t h c =
    by_bool (ltb c 128)
    (λ y. beq_same (f c) (g c) (in_range (λ k. beq (f k) (g k)) 0 128 t c (omega arith) (ltb-true c 128 y)))
    (λ y. h c (ltb-false c 128 y))

pub is_word : (c : ℕ) → is_word_char c ≡ eqb (class_of c) word_class
unfolding class_of
is_word = agree is_word_char (λ c. eqb (class_of c) word_class) refl (λ c h. word_high c h ∙ ap (λ k. eqb k word_class) (high c h))

pub is_effector_lem : (c : ℕ) → is_effector c ≡ eqb (class_of c) effector_class
unfolding class_of
is_effector_lem = agree is_effector (λ c. eqb (class_of c) effector_class) refl (λ c h. effector_high c h ∙ ap (λ k. eqb k effector_class) (high c h))

-- a class that was told, tested for format effectors
module _ (c : ℕ) {k : ℕ} (e : k ≡ class_of c) where
  pub effector_yes : k ≡ effector_class → is_effector c ≡ true
  effector_yes t = is_effector_lem c ∙ rw (← e) (eq-eqb k effector_class t)

  pub effector_no : (k ≡ effector_class → ⊥) → is_effector c ≡ false
  effector_no n = is_effector_lem c ∙ rw (← e) (ne_eqb k effector_class n)

pub is_permitted_lem : (c : ℕ) → is_permitted c ≡ not (eqb (class_of c) no_class)
unfolding class_of
is_permitted_lem = agree is_permitted (λ c. not (eqb (class_of c) no_class)) refl (λ c h. permitted_high c h ∙ ap (λ k. not (eqb k no_class)) (high c h))

pub few : (c : ℕ) → ltb (class_of c) 13 ≡ true
unfolding class_of
few = agree (λ c. ltb (class_of c) 13) (λ c. true) refl (λ c h. ap (λ k. ltb k 13) (sym (high c h)))

-- a class of one byte
only : (b k : ℕ) → alike (λ c. beq (eqb c b) (eqb (class_of c) k)) 0 128 ≡ true → b < 128 → eqb 0 k ≡ false → (c : ℕ) → eqb c b ≡ eqb (class_of c) k
only b k t l n = agree (λ c. eqb c b) (λ c. eqb (class_of c) k) t (λ c h. ne_eqb c b (λ e. omega arith) ∙ sym n ∙ ap (λ x. eqb x k) (high c h))

pub is_plus : (c : ℕ) → eqb c (byte "+") ≡ eqb (class_of c) plus_class
unfolding class_of
is_plus = only (byte "+") plus_class refl (omega arith) refl

pub is_amp : (c : ℕ) → eqb c (byte "&") ≡ eqb (class_of c) amp_class
unfolding class_of
is_amp = only (byte "&") amp_class refl (omega arith) refl

pub is_dash : (c : ℕ) → eqb c (byte "-") ≡ eqb (class_of c) (sep_code dash)
unfolding class_of
is_dash = only (byte "-") (sep_code dash) refl (omega arith) refl

pub is_comma : (c : ℕ) → eqb c (byte ",") ≡ eqb (class_of c) (sep_code comma)
unfolding class_of
is_comma = only (byte ",") (sep_code comma) refl (omega arith) refl

pub is_colon : (c : ℕ) → eqb c (byte ":") ≡ eqb (class_of c) (sep_code colon)
unfolding class_of
is_colon = only (byte ":") (sep_code colon) refl (omega arith) refl

pub is_equals : (c : ℕ) → eqb c (byte "=") ≡ eqb (class_of c) (sep_code equals)
unfolding class_of
is_equals = only (byte "=") (sep_code equals) refl (omega arith) refl

pub is_semi : (c : ℕ) → eqb c (byte ";") ≡ eqb (class_of c) (sep_code semi)
unfolding class_of
is_semi = only (byte ";") (sep_code semi) refl (omega arith) refl

pub is_slash : (c : ℕ) → eqb c (byte "/") ≡ eqb (class_of c) slash_class
unfolding class_of
is_slash = only (byte "/") slash_class refl (omega arith) refl

pub is_mark : (c : ℕ) → eqb c (byte "\"") ≡ eqb (class_of c) mark_class
unfolding class_of
is_mark = only (byte "\"") mark_class refl (omega arith) refl

-- ---- tests on classes are tests on their numbers

tag_is : (k : Class) → tag_of the_type k ≡ number k
tag_is NotPermitted = refl
tag_is Word = refl
tag_is Plus = refl
tag_is Ampersand = refl
tag_is Effector = refl
tag_is Dash = refl
tag_is Comma = refl
tag_is Colon = refl
tag_is Equals = refl
tag_is Semicolon = refl
tag_is Slash = refl
tag_is Mark = refl
tag_is Other = refl

-- what `==` on classes says
pub same_is : (k j : Class) → sameb the_type k j ≡ eqb (number k) (number j)
same_is k j = rw (tag_is k, tag_is j)

pub same_class : {k j : Class} → number k ≡ number j → k ≡ j
same_class {k} {j} e = tag_one the_type tt k j (tag_is k ∙ e ∙ sym (tag_is j))

-- a test that tells two classes apart tells their numbers apart
pub other_class_of : {k j : Class} → (k ≡ j → ⊥) → number k ≡ number j → ⊥
other_class_of n e = n (same_class e)

pub told_off : (c : ℕ) (k : Class) → number k ≡ class_of c → sameb the_type k NotPermitted ≡ not (is_permitted c)
told_off c k e = rw (same_is k NotPermitted, e, is_permitted_lem c, not-not)
