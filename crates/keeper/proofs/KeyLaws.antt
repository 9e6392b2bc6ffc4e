-- One key: each way through the code gives what the rules give.
use Prim.Native.Nat.{ℕ, ◌-◌, ◌≤◌, ◌<◌}
use mathlib.Core.Path.{◌≡◌, sym, ap, ◌∙◌}
use mathlib.Core.Bool.{Bool}
use borrow.Author.Tests.{eq-eqb, ne_eqb, lt-ltb, le-ltb, le-leb, lt-leb}
use Rattle.laws.specs.Cases.{pick}
use Rattle.rules.specs.declared.Keeper.{Keeper}
use Rattle.rules.specs.declared.Pressed.{Pressed}
use Rattle.rules.specs.Refusals.{ok, bad, no_key, most_text}
use Rattle.rules.specs.Keeping.{ready, held, counted, stored, pressing, settled, after_key}

-- a count that passes 1,024
pub key_over : (k : Keeper) (c : ℕ) {r : Pressed} → most_text < k.count → r ≡ settled (bad no_key most_text) k → r ≡ after_key k c
unfolding after_key pressing
key_over k c h q = rw (lt-leb k.count 1024 h) q

-- CAN
pub key_cancel : (k : Keeper) (c : ℕ) {r : Pressed} → k.count ≤ most_text → c ≡ 24 → r ≡ settled (ok (counted k 0)) k → r ≡ after_key k c
unfolding after_key pressing
key_cancel k c h j q = rw (le-leb k.count 1024 h, j) q

-- the key finds n bytes of the line
module _ (k : Keeper) (c : ℕ) {b : Bool} {n : ℕ} (h : k.count ≤ most_text) (e : b ≡ ready (held k)) (f : n ≡ pick b 0 k.count) where
  at : pick (ready (held k)) 0 k.count ≡ n
  at = sym (f ∙ ap (λ t. pick t 0 k.count) e)

  -- BS
  pub key_back : {m : ℕ} {r : Pressed} → c ≡ 8 → m ≡ n - 1 → r ≡ settled (ok (counted k m)) k → r ≡ after_key k c
  unfolding after_key pressing
  key_back i g q = rw (le-leb k.count 1024 h, eq-eqb c 8 i, at, ← g) q

  -- a key to be held, and no room
  pub key_full : {r : Pressed} → (c ≡ 8 → ⊥) → (c ≡ 24 → ⊥) → most_text ≤ n → r ≡ settled (bad no_key most_text) k → r ≡ after_key k c
  unfolding after_key pressing
  key_full i j g q = rw (le-leb k.count 1024 h, ne_eqb c 8 i, ne_eqb c 24 j, at, le-ltb n 1024 g) q

  -- a key to be held
  pub key_held : {r : Pressed} → (c ≡ 8 → ⊥) → (c ≡ 24 → ⊥) → n < most_text → r ≡ settled (ok (stored k n c)) k → r ≡ after_key k c
  unfolding after_key pressing
  key_held i j g q = rw (le-leb k.count 1024 h, ne_eqb c 8 i, ne_eqb c 24 j, at, lt-ltb n 1024 g) q
