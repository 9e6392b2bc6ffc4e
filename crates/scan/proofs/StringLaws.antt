-- A string: the bytes stored are the bytes that the automaton has gathered, a doubled mark once.
use mir.Syntax.{w64}
use mir.Val.{Fits}
use Prim.Native.Nat.{◌*◌, ◌^◌, ℕ, ◌+◌, ◌<◌, ◌≤◌}
use mathlib.Core.Path.{◌≡◌, refl, sym, ◌∙◌}
use mathlib.Core.Bool.{false}
use mathlib.Core.List.{List, [], ◌∷◌, reverse, reverse-reverse}
use native.Mathlib.Omega.{arith}
use lib.Dec.{eqb}
use lib.ListN.{length, get_or, take, set, length-set}
use borrow.Author.Tests.{ne_eqb}
use Rattle.rules.specs.Characters.{byte}
use Rattle.rules.specs.Refusals.{bad, unclosed}
use Rattle.rules.specs.Tokens.{in_str, quote}
use Rattle.scan.specs.Along.{run_at, Ends}
use Rattle.scan.proofs.RunLaws.{run_end, stayed, stayed_next, settle, inside, stored}

-- the loop's invariant: the first n bytes of out are what the automaton has gathered of the content
pub record Stringing (s : List ℕ) (i₀ : ℕ) (old out : List ℕ) (n i : ℕ) : Type 0 where
  pub reads : (q : ℕ) → run_at (in_str q []) s i₀ ≡ run_at (in_str q (reverse (take n out))) s i
  pub fits : n + i₀ ≤ i
  pub room : length s ≤ length old + i₀
  pub long : length out ≡ length old

pub string_none : (s : List ℕ) (i : ℕ) (old : List ℕ) → length s ≤ length old + i → Stringing s i old old 0 i
string_none s i old r = record { reads = λ q. refl; fits = omega arith; room = r; long = refl }

module _ {s : List ℕ} {i₀ : ℕ} {old out : List ℕ} {n i : ℕ} (v : Stringing s i₀ old out n i) where
  pub string_open : length s ≤ i → (q : ℕ) → run_at (in_str q []) s i₀ ≡ bad unclosed q
  string_open h q = v.reads q ∙ run_end (in_str q (reverse (take n out))) s i h

  module _ (h : i < length s) where
    pub string_room : n < length out
    string_room = omega (arith, v.fits, v.room, v.long)

    pub string_fits : length s * 1 < 2 ^ 63 → Fits w64 (n + 1)
    string_fits g = omega (arith, v.fits)

    string_more : (b j : ℕ) → i + 1 ≤ j → ((q : ℕ) (w : List ℕ) → run_at (in_str q w) s i ≡ run_at (in_str q (b ∷ w)) s j)
        → Stringing s i₀ old (set out n b) (n + 1) j
    string_more b j k f =
        record {
          reads = λ q. v.reads q ∙ f q (reverse (take n out)) ∙ rw (stored out n b string_room);
          fits = omega (arith, v.fits);
          room = v.room;
          long = length-set out n b ∙ v.long;
        }

    pub string_byte : (get_or s i 0 ≡ byte "\"" → ⊥) → Stringing s i₀ old (set out n (get_or s i 0)) (n + 1) (i + 1)
    string_byte m =
        string_more (get_or s i 0) (i + 1) (omega arith)
        (λ q w. stayed (in_str q w) (in_str q (get_or s i 0 ∷ w)) s i h (rw (ne_eqb (get_or s i 0) (byte "\"") m)))

    module _ {b : ℕ} (t : get_or s i 0 ≡ byte "\"") (g : b ≡ get_or s (i + 1) 0) where
      mark : (q : ℕ) (w : List ℕ) → run_at (in_str q w) s i ≡ run_at (quote q w) s (i + 1)
      mark q w = stayed (in_str q w) (quote q w) s i h (rw t)

      pub string_double : b ≡ byte "\"" → Stringing s i₀ old (set out n (byte "\"")) (n + 1) (i + 2)
      string_double m =
          let y : get_or s (i + 1) 0 ≡ byte "\"" = sym g ∙ m in
          string_more (byte "\"") (i + 2) (omega arith) (λ q w. mark q w ∙ stayed_next (quote q w) (in_str q (byte "\"" ∷ w)) s i (inside s (i + 1) y) (rw y))

      pub string_stop : (b ≡ byte "\"" → ⊥) → Ends s i₀ out n (i + 1)
      string_stop m =
          let y : eqb (get_or s (i + 1) 0) (byte "\"") ≡ false = ne_eqb (get_or s (i + 1) 0) (byte "\"") (λ z. m (g ∙ z)) in
          let w = reverse (take n out) in
          record {
            reads = λ q. v.reads q ∙ mark q w ∙ settle (quote q w) s (i + 1) (λ p. rw y) ∙ rw (reverse-reverse (take n out));
            fits = omega (arith, v.fits);
            inside = omega arith;
          }
