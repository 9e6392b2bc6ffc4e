-- Document 02, M-100: "For every run of keys it must do what a plain list of bytes with these rules does", refusals included.
use Prim.Native.Nat.{ℕ, ◌-◌, ◌≤◌}
use mathlib.Core.Path.{◌≡◌, refl, sym, ap, ap₂, ◌∙◌}
use mathlib.Core.Bool.{true}
use mathlib.Core.List.{List, [], ◌∷◌, ◌++◌}
use native.Mathlib.Numerals.{add-one}
use native.Mathlib.Omega.{arith}
use lib.Dec.{eqb, ltb, leb}
use lib.ListN.{length, take, length-set}
use lib.Seq.{length-take-le, take-take, take-suc-set}
use borrow.Author.Tests.{le-leb, ltb-true}
use Rattle.laws.specs.Cases.{pick, by_bool}
use Rattle.rules.specs.declared.Keeper.{Keeper}
use Rattle.rules.specs.Refusals.{Res, ok, bad, ◌>>=◌, map_r, guard, no_key, most_text}
use Rattle.rules.specs.Answers.{answered}
use Rattle.rules.specs.Keeping.{ready, backspace, cancel, but_last, press, Possible, held, counted, stored, pressing, kept, after_key, flag, line_press, line_answer, line_after, line_answers, keeper_after, keeper_answers}

-- a key to a line that is l, and to a keeper whose line goes on at n: the same
abbrev on_line : ℕ → List ℕ → Res (List ℕ)
on_line c l =
    pick (eqb c backspace) (ok (but_last l)) (pick (eqb c cancel) (ok []) (guard (ltb (length l) most_text) no_key most_text >>= λ _. ok (l ++ c ∷ [])))

abbrev on_keeper : Keeper → ℕ → ℕ → Res Keeper
on_keeper k c n =
    pick (eqb c backspace) (ok (counted k (n - 1))) (pick (eqb c cancel) (ok (counted k 0)) (guard (ltb n most_text) no_key most_text >>= λ _. ok (stored k n c)))

abbrev IsPossible : Res Keeper → Type 0
IsPossible (ok k) = Possible k
IsPossible (bad n p) = Unit {0}

module _ (k : Keeper) (h : Possible k) (c : ℕ) where
  same : (n : ℕ) → n ≤ most_text → on_line c (take n k.bytes) ≡ map_r held (on_keeper k c n)
  same n m =
      let e : length (take n k.bytes) ≡ n = length-take-le n k.bytes (omega (arith, h.whole)) in
      by_bool (eqb c 8)
      (λ y. rw (y, e) (ap ok (take-take (n - 1) n k.bytes (omega arith))))
      (λ y. by_bool (eqb c 24)
      (λ z. rw (y, z))
      (λ z. by_bool (ltb n 1024)
      (λ w. rw (y, z, e, w, add-one n) (ap ok (sym (take-suc-set k.bytes n c (omega (arith, h.whole, ltb-true n 1024 w))))))
      (λ w. rw (y, z, e, w))))

  stays : (n : ℕ) → n ≤ most_text → IsPossible (on_keeper k c n)
  stays n m =
      by_bool (eqb c 8)
      (λ y. rw y (record { whole = h.whole; most = omega arith }))
      (λ y. by_bool (eqb c 24)
      (λ z. rw (y, z) (record { whole = h.whole; most = omega arith }))
      (λ z. by_bool (ltb n 1024)
      (λ w. rw (y, z, w) (record { whole = length-set k.bytes n c ∙ h.whole; most = omega (arith, ltb-true n 1024 w) }))
      (λ w. rw (y, z, w) tt)))

  pub press_held : press (held k) c ≡ map_r held (pressing k c)
  unfolding press pressing
  press_held =
      let g : leb k.count 1024 ≡ true = le-leb k.count 1024 h.most in
      by_bool (ready (held k)) (λ y. rw (g, y) (same 0 (omega arith))) (λ y. rw (g, y) (same k.count h.most))

  possible_pressing : IsPossible (pressing k c)
  unfolding pressing
  possible_pressing =
      let g : leb k.count 1024 ≡ true = le-leb k.count 1024 h.most in
      by_bool (ready (held k)) (λ y. rw (g, y) (stays 0 (omega arith))) (λ y. rw (g, y) (stays k.count h.most))

kept_possible : (r : Res Keeper) (k : Keeper) → IsPossible r → Possible k → Possible (kept r k)
kept_possible (ok n) k p h = p
kept_possible (bad n p) k q h = h

kept_held : (r : Res Keeper) (k : Keeper) → kept (map_r held r) (held k) ≡ held (kept r k)
kept_held (ok n) k = refl
kept_held (bad n p) k = refl

answer_held : (r : Res Keeper) → answered (map_r (λ l. flag (ready l)) (map_r held r)) ≡ answered (map_r (λ n. flag (ready (held n))) r)
answer_held (ok n) = refl
answer_held (bad n p) = refl

module _ (k : Keeper) (c : ℕ) (h : Possible k) where
  -- one key
  pub key_possible : Possible (after_key k c).keeper
  unfolding after_key
  key_possible = kept_possible (pressing k c) k (possible_pressing k h c) h

  pub key_line : held (after_key k c).keeper ≡ line_press (held k) c
  unfolding after_key
  key_line = rw (press_held k h c) (sym (kept_held (pressing k c) k))

  pub key_answer : (after_key k c).answer ≡ line_answer (held k) c
  unfolding after_key
  key_answer = rw (press_held k h c) (sym (answer_held (pressing k c)))

-- every run of keys, to any keeper that is possible
pub after_keys : (cs : List ℕ) (k : Keeper) → Possible k → held (keeper_after k cs) ≡ line_after (held k) cs
after_keys [] k h = refl
after_keys (c ∷ cs) k h =
    after_keys cs (after_key k c).keeper (key_possible k c h) ∙ ap (λ l. line_after l cs) (key_line k c h)

pub answers_keys : (cs : List ℕ) (k : Keeper) → Possible k → keeper_answers k cs ≡ line_answers (held k) cs
answers_keys [] k h = refl
answers_keys (c ∷ cs) k h =
    ap₂ (λ a l. a ∷ l) (key_answer k c h) (answers_keys cs (after_key k c).keeper (key_possible k c h) ∙ ap (λ l. line_answers l cs) (key_line k c h))

-- from a fresh keeper, whatever its bytes are
pub fresh_keys : (k : Keeper) (cs : List ℕ) → length k.bytes ≡ most_text → k.count ≡ 0
    → (held (keeper_after k cs) ≡ line_after [] cs) × (keeper_answers k cs ≡ line_answers [] cs)
fresh_keys k cs w z =
    let h : Possible k = record { whole = w; most = omega arith } in
    let e : held k ≡ [] = rw z in
    (after_keys cs k h ∙ ap (λ l. line_after l cs) e, answers_keys cs k h ∙ ap (λ l. line_answers l cs) e)
