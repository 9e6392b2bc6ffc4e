-- A word: the bytes stored are the bytes that the automaton has gathered, so each turn of the loop is one of its steps.
use mir.Syntax.{w64}
use mir.Val.{Fits}
use Prim.Native.Nat.{◌*◌, ◌^◌, ℕ, ◌+◌, ◌<◌, ◌≤◌}
use mathlib.Core.Path.{◌≡◌, refl, sym, ap, ◌∙◌}
use mathlib.Core.Bool.{Bool, true, false}
use mathlib.Core.List.{List, [], ◌∷◌, reverse, reverse-reverse}
use native.Mathlib.Omega.{arith}
use lib.Dec.{eqb, ltb}
use lib.ListN.{length, get_or, take, set, length-set, length-reverse}
use lib.Seq.{take-suc-set, length-take-le}
use borrow.Author.Tests.{ne_eqb, eqb-true, ltb-true, ltb-false}
use Rattle.laws.specs.Cases.{by_bool}
use Rattle.rules.specs.Characters.{byte, is_word_char, is_effector}
use Rattle.rules.specs.Refusals.{Res, ok}
use Rattle.rules.specs.Tokens.{plusplus, sep, Token, at, idle, in_word, in_plus, word_token, word_tokens, and_then}
use Rattle.rules.proofs.ScanBack.{then_assoc, then_nil}
use denote.Enum.Bare.{sameb, same_true, same_false}
use Rattle.chars.specs.contracts.Class.{the_type}
use Rattle.chars.specs.declared.Class.{Class}
use Rattle.chars.specs.declared.Class.TheVariants.{Word, Plus, Effector}
use Rattle.chars.specs.Classes.{class_of, number, word_class, plus_class}
use Rattle.chars.proofs.ClassLaws.{other_class_of, effector_yes, effector_no, is_word, is_plus}
use Rattle.scan.specs.Along.{run_at, Skipped, IsWord}
use Rattle.scan.proofs.RunLaws.{run_end, run_step, stayed, settle, inside, stored}
use Rattle.scan.proofs.SkipLaws.{skips_word, skips_plus}

-- the word before a `++` has a byte
tokens_some : (q : ℕ) (w : List ℕ) → 1 ≤ length w → word_tokens q w ≡ word_token q (reverse w)
tokens_some q [] h = absurd (omega arith)
tokens_some q (c ∷ w) h = refl

-- one `+` that no other follows is a byte of the word
pub plus_word : (q : ℕ) (w : List ℕ) (r : ℕ) (s : List ℕ) (j : ℕ) → (get_or s j 0 ≡ byte "+" → ⊥) → is_effector (get_or s j 0) ≡ false
    → run_at (in_plus q w r) s j ≡ run_at (in_word q (byte "+" ∷ w)) s j
plus_word q w r s j m n =
    let c = get_or s j 0 in
    by_bool (ltb j (length s))
    (λ y.
    let h = ltb-true j (length s) y in
    by_bool (is_word_char c)
    (λ u. rw (run_step (in_plus q w r) s j h, run_step (in_word q (byte "+" ∷ w)) s j h, u))
    (λ u. rw (run_step (in_plus q w r) s j h, run_step (in_word q (byte "+" ∷ w)) s j h, u, ne_eqb c (byte "+") m, n)))
    (λ y.
    let h = ltb-false j (length s) y in
    rw (run_end (in_plus q w r) s j h, run_end (in_word q (byte "+" ∷ w)) s j h))

-- the loop's invariant: the first n bytes of out are what the automaton has gathered of the word; the bytes behind them are free
pub record Wording (s : List ℕ) (i₀ first : ℕ) (old out : List ℕ) (n i : ℕ) : Type 0 where
  pub reads : (q : ℕ) → run_at (in_word q (first ∷ [])) s i₀ ≡ run_at (in_word q (reverse (take n out))) s i
  pub some : 1 ≤ n
  pub fits : n + i₀ ≤ i + 1
  pub inside : i ≤ length s
  pub past : i₀ ≤ i
  pub room : length s < length old + i₀
  pub long : length out ≡ length old

take_first : (out : List ℕ) (b : ℕ) → 0 < length out → take 1 (set out 0 b) ≡ b ∷ []
take_first out b h = take-suc-set out 0 b h

pub word_none : (s : List ℕ) (i first : ℕ) (old : List ℕ) → i ≤ length s → length s < length old + i
    → Wording s i first (set old 0 first) (set old 0 first) 1 i
word_none s i first old h r =
    let k : 0 < length old = omega arith in
    record {
      reads = λ q. rw (take_first old first k);
      some = omega arith;
      fits = omega arith;
      inside = h;
      past = omega arith;
      room = rw (length-set old 0 first) r;
      long = refl;
    }

module _ {s : List ℕ} {i₀ first : ℕ} {old out : List ℕ} {n i : ℕ} (v : Wording s i₀ first old out n i) where
  pub word_room : i < length s → n < length out
  word_room h = omega (arith, v.fits, v.room, v.long)

  pub word_fits : i < length s → length s * 1 < 2 ^ 63 → Fits w64 (n + 1)
  word_fits h g = omega (arith, v.fits)

  taken_long : length (take n out) ≡ n
  taken_long = length-take-le n out (omega (arith, v.fits, v.room, v.long, v.inside))

  -- from here on the word is one byte longer, and the automaton stands at j
  more : (b j : ℕ) → n < length out → i + 1 ≤ j → j ≤ length s
      → ((q : ℕ) (w : List ℕ) → run_at (in_word q w) s i ≡ run_at (in_word q (b ∷ w)) s j) → Wording s i₀ first old (set out n b) (n + 1) j
  more b j k h h2 f =
      record {
        reads = λ q. v.reads q ∙ f q (reverse (take n out)) ∙ rw (stored out n b k);
        some = omega arith;
        fits = omega (arith, v.fits);
        inside = h2;
        past = omega (arith, v.past);
        room = v.room;
        long = length-set out n b ∙ v.long;
      }

  -- here the word ends
  ends : ((q : ℕ) (w : List ℕ) → 1 ≤ length w → run_at (in_word q w) s i ≡ and_then (word_token q (reverse w)) (run_at idle s i)) → IsWord s i₀ first out n i
  ends f =
      let l : 1 ≤ length (reverse (take n out)) = rw (length-reverse (take n out), taken_long) v.some in
      record {
        reads = λ q. v.reads q ∙ f q (reverse (take n out)) l ∙ rw (reverse-reverse (take n out));
        fits = v.fits;
        past = v.past;
        inside = v.inside;
      }

  pub word_end : length s ≤ i → IsWord s i₀ first out n i
  word_end h = ends (λ q w l. rw (run_end (in_word q w) s i h, run_end idle s i h) (then_nil (word_token q (reverse w))))

  module _ (k : Class) (h : i < length s) (e : number k ≡ class_of (get_or s i 0)) where
    pub word_char : {b : Bool} → b ≡ sameb the_type k Word → b ≡ true → Wording s i₀ first old (set out n (get_or s i 0)) (n + 1) (i + 1)
    word_char d f =
        let t : k ≡ Word = same_true the_type tt k Word (sym d ∙ f) in
        more (get_or s i 0) (i + 1) (word_room h) (omega arith) (omega arith)
        (λ q w. stayed (in_word q w) (in_word q (get_or s i 0 ∷ w)) s i h (rw (is_word (get_or s i 0), ← e, t)))

    pub word_skip : {b : Bool} → b ≡ sameb the_type k Effector → b ≡ true → Wording s i₀ first old out n (i + 1)
    word_skip d f =
        let t : k ≡ Effector = same_true the_type tt k Effector (sym d ∙ f) in
        record {
          reads = λ q. v.reads q ∙ stayed (in_word q (reverse (take n out))) (in_word q (reverse (take n out))) s i h (skips_word q (reverse (take n out)) i (get_or s i 0) (effector_yes (get_or s i 0) e (ap number t)));
          some = v.some;
          fits = omega (arith, v.fits);
          inside = omega arith;
          past = omega (arith, v.past);
          room = v.room;
          long = v.long;
        }

    pub word_other : {b1 b4 b2 : Bool} → b1 ≡ sameb the_type k Word → b1 ≡ false → b4 ≡ sameb the_type k Effector → b4 ≡ false → b2 ≡ sameb the_type k Plus → b2 ≡ false → IsWord s i₀ first out n i
    word_other d1 f1 d4 f4 d2 f2 =
        let n1 : k ≡ Word → ⊥ = same_false the_type k Word (sym d1 ∙ f1) in
        let n4 : k ≡ Effector → ⊥ = same_false the_type k Effector (sym d4 ∙ f4) in
        let n2 : k ≡ Plus → ⊥ = same_false the_type k Plus (sym d2 ∙ f2) in
        let c = get_or s i 0 in
        let w1 : is_word_char c ≡ false = is_word c ∙ rw (← e) (ne_eqb (number k) word_class (other_class_of n1)) in
        let w2 : eqb c (byte "+") ≡ false = is_plus c ∙ rw (← e) (ne_eqb (number k) plus_class (other_class_of n2)) in
        let w4 : is_effector c ≡ false = effector_no c e (other_class_of n4) in
        ends (λ q w l. settle (in_word q w) s i (λ p. rw (w1, w2, w4)))

    -- a `+`, and what stands behind it
    module _ {f : Bool} {j b : ℕ} (d : f ≡ sameb the_type k Plus) (u : f ≡ true) (z : Skipped s (i + 1) j) (g : b ≡ get_or s j 0) where
      t : k ≡ Plus
      t = same_true the_type tt k Plus (sym d ∙ u)

      plus : get_or s i 0 ≡ byte "+"
      plus = eqb-true (get_or s i 0) (byte "+") (is_plus (get_or s i 0) ∙ rw (← e, t))

      to : (q : ℕ) (w : List ℕ) → run_at (in_word q w) s i ≡ run_at (in_plus q w i) s j
      to q w = stayed (in_word q w) (in_plus q w i) s i h (rw plus) ∙ z.reads (in_plus q w i) (skips_plus q w i)

      pub word_plus : (b ≡ byte "+" → ⊥) → Wording s i₀ first old (set out n (byte "+")) (n + 1) j
      word_plus m =
          more (byte "+") j (word_room h) z.past z.inside (λ q w. to q w ∙ plus_word q w i s j (λ y. m (g ∙ y)) z.stops)

      pub word_double : b ≡ byte "+" → IsWord s i₀ first out n i
      word_double m =
          let y : get_or s j 0 ≡ byte "+" = sym g ∙ m in
          let k : j < length s = inside s j y in
          let pp : Res (List Token) = ok (at i (sep plusplus) ∷ []) in
          let two : (q : ℕ) (w : List ℕ) → run_at (in_plus q w i) s j ≡ and_then (and_then (word_tokens q w) pp) (run_at idle s (j + 1))
          = λ q w. run_step (in_plus q w i) s j k ∙ rw y in
          let here : run_at idle s i ≡ and_then pp (run_at idle s (j + 1))
          = stayed idle (in_plus i [] i) s i h (rw plus) ∙ z.reads (in_plus i [] i) (skips_plus i [] i) ∙ two i [] in
          ends (λ q w l. to q w ∙ two q w ∙ rw (tokens_some q w l, here) (then_assoc (word_token q (reverse w)) pp (run_at idle s (j + 1))))

pub word_kept : {s : List ℕ} {i₀ first : ℕ} (old : List ℕ) (b : ℕ) {out : List ℕ} {n i : ℕ} → Wording s i₀ first (set old 0 b) out n i → length out ≡ length old
word_kept old b v = v.long ∙ length-set old 0 b
