-- Writing piece by piece: a loop that copies has its beginning over the start of the buffer, and a field's content stands behind its header.
use Prim.Native.Nat.{ℕ, ◌+◌, ◌≤◌, ◌<◌}
use mathlib.Core.Path.{◌≡◌, refl, ap, ◌∙◌}
use mathlib.Core.List.{List, ◌∷◌, map}
use native.Mathlib.Omega.{arith}
use lib.ListN.{length, get_or, take, set, length-take}
use Rattle.laws.specs.Lists.{get_d_map_lt}
use Rattle.laws.specs.Over.{over, part, back, back_over, over_take, over_all, length_over}
use Rattle.rules.specs.Characters.{capital}
use Rattle.rules.specs.Records.{field, field_bytes}
use Rattle.fields.specs.Units.{two_bytes}

-- the first i bytes of s are copied
pub record Copying (s old o : List ℕ) (i : ℕ) : Type 0 where
  pub inside : i ≤ length s
  pub room : length s ≤ length old
  pub is : o ≡ over (take i s) old

pub copying_none : (s old : List ℕ) → length s ≤ length old → Copying s old old 0
copying_none s old h = record { inside = omega arith; room = h; is = refl }

module _ {s old o : List ℕ} {i : ℕ} (w : Copying s old o i) where
  pub copying_long : length o ≡ length old
  copying_long = ap length w.is ∙ length_over (take i s) old (simp length-take (omega arith))

  pub copying_more : {b : ℕ} → i < length s → b ≡ get_or s i 0 → Copying s old (set o i b) (i + 1)
  copying_more h e = record { inside = omega arith; room = w.room; is = rw (e, w.is) (over_take s old i h w.room) }

  pub copying_all : length s ≤ i → o ≡ over s old
  copying_all h = w.is ∙ over_all s old i h

pub capital_at : (s : List ℕ) (i : ℕ) {b : ℕ} → b ≡ capital (get_or s i 0) → i < length s → b ≡ get_or (map capital s) i 0
capital_at s i e h = e ∙ rw (get_d_map_lt capital s i 0 0 h)

-- n is the length of s: the header, and s behind it
pub content_behind : (t n : ℕ) (s old : List ℕ) {xs ys : List ℕ} → n ≡ length s → xs ≡ over (t ∷ two_bytes n) old → ys ≡ over s (part xs 3) → back xs 3 ys ≡ over (field_bytes (field t s)) old
content_behind t n s old {xs} e q p = let z : xs ≡ over (t ∷ two_bytes (length s)) old = rw e at q in back_over (t ∷ two_bytes (length s)) s old z refl p
