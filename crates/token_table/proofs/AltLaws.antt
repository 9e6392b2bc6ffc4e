-- `alternating` is the verdict of the rule `alternate`, since a token's kind says whether it is a unit or a joining separator; and its steps.
use Prim.Native.Nat.{ℕ, ◌+◌, ◌≤◌, ◌<◌}
use mathlib.Core.Path.{◌≡◌, refl, sym, ◌∙◌}
use mathlib.Core.Bool.{Bool, true, false, cond, not}
use mathlib.Core.List.{List, [], ◌∷◌}
use mathlib.Core.Option.{none, some}
use native.Mathlib.Omega.{arith}
use borrow.Author.Tests.{eqb-true, ltb-true, ltb-false, le-leb, lt-leb}
use lib.Dec.{leb, ltb, eqb}
use lib.ListN.{length, get_or, drop, drop_of_length-le}
use Rattle.laws.specs.Cases.{by_bool}
use Rattle.laws.specs.Ranges.{in_range}
use Rattle.rules.specs.Groups.{join, alternate, Want, unit_after, joiner, is_unit, joiner_of}
use Rattle.rules.specs.Refusals.{Res, ok, bad, map_r, wrong_shape}
use Rattle.rules.specs.Tokens.{Sep, amp, dash, sep_code}
use Rattle.token_table.specs.Table.{kind_in, place_in, content_in, lex_of_kind, sep_of, tokens_in, Verdict, verdict, fits_kind, Alternates, word_kind}
use Rattle.token_table.specs.declared.Token.{Token as Entry}
use Rattle.rules.specs.declared.Refusal.{Refusal}
use Rattle.rules.specs.Reasons.{refusal}
use Rattle.std.proofs.Common.{Ok, Err}
use Rattle.token_table.proofs.KindLaws.{no_token, next_token}

pub verdict_map : {A B : Type 0} (f : A → B) (r : Res A) → verdict (map_r f r) ≡ verdict r
verdict_map f (ok a) = refl
verdict_map f (bad n p) = refl

-- what a verdict tells of the result that it stands for
pub verdict_bad : {A C : Type 0} (r : Res A) (x : Refusal) → verdict r ≡ Err x → ((n p : ℕ) → r ≡ bad n p → x ≡ refusal n p → C) → C
verdict_bad (ok a) x h k = absurd cc
verdict_bad (bad n p) x h k = k n p refl cc

pub verdict_ok : {A C : Type 0} (r : Res A) → verdict r ≡ Ok tt → ((a : A) → r ≡ ok a → C) → C
verdict_ok (ok a) h k = k a refl
verdict_ok (bad n p) h k = absurd cc

-- a separator's kind is its code
pub sep_code_lem : (k : ℕ) → k < word_kind → sep_code (sep_of k) ≡ k
sep_code_lem k h = eqb-true (sep_code (sep_of k)) k (in_range (λ k. eqb (sep_code (sep_of k)) k) 0 10 refl k (omega arith) h)

module _ (k : ℕ) (w : List ℕ) where
  pub unit_kind : is_unit (lex_of_kind k w) ≡ leb word_kind k
  unfolding lex_of_kind
  unit_kind =
      by_bool (ltb k 10)
      (λ y. rw (y, lt-leb word_kind k (ltb-true k 10 y)))
      (λ y. by_bool (eqb k 10) (λ z. rw (y, z, le-leb word_kind k (ltb-false k 10 y))) (λ z. rw (y, z, le-leb word_kind k (ltb-false k 10 y))))

  pub joiner_kind : joiner_of (lex_of_kind k w) ≡ cond (leb k (sep_code dash)) (some (sep_of k)) none
  unfolding lex_of_kind
  joiner_kind =
      by_bool (ltb k 10)
      (λ y. rw (y, sep_code_lem k (ltb-true k 10 y)))
      (λ y. by_bool (eqb k 10)
      (λ z. rw (y, z, lt-leb k (sep_code dash) (omega (arith, ltb-false k 10 y)))) (λ z. rw (y, z, lt-leb k (sep_code dash) (omega (arith, ltb-false k 10 y)))))

  pub joiner_yes : leb k (sep_code dash) ≡ true → joiner_of (lex_of_kind k w) ≡ some (sep_of k)
  joiner_yes y = rw (joiner_kind, y)

  pub joiner_none : leb k (sep_code dash) ≡ false → joiner_of (lex_of_kind k w) ≡ none
  joiner_none y = rw (joiner_kind, y)

-- what is wanted next, by the flag
abbrev pub wanted : Bool → Sep → ℕ → Want
wanted true s q = unit_after s q
wanted false s q = joiner

-- the rule's verdict, on kinds and places alone
unfoldable pub alternating : Bool → List Entry → ℕ → Verdict
alternating true [] e = Err (refusal wrong_shape e)
alternating false [] e = Ok tt
alternating u (t ∷ ts) e = let more = alternating (not u) ts e in cond (fits_kind u (kind_in t)) more (Err (refusal wrong_shape (place_in t)))

pub alt_is : (ts : List Entry) (u : Bool) (s : Sep) (q : ℕ) (cs : List ℕ) (e : ℕ) → alternating u ts e ≡ verdict (alternate (wanted u s q) (tokens_in cs ts) e)
unfolding alternating
alt_is [] true s q cs e = refl
alt_is [] false s q cs e = refl
alt_is (t ∷ ts) true s q cs e =
    let k = kind_in t in let w = content_in cs t in
    by_bool (leb word_kind k)
    (λ y. rw (y, unit_kind k w ∙ y, alternate) (alt_is ts false s q cs e ∙ sym (verdict_map (λ js. join s q (place_in t) (lex_of_kind k w) ∷ js) (alternate joiner (tokens_in cs ts) e))))
    (λ y. rw (y, unit_kind k w ∙ y, alternate))
alt_is (t ∷ ts) false s q cs e =
    let k = kind_in t in let w = content_in cs t in
    by_bool (leb k (sep_code dash))
    (λ y. rw (y, joiner_yes k w y, alternate) (alt_is ts true (sep_of k) (place_in t) cs e))
    (λ y. rw (y, joiner_none k w y, alternate))

-- the turns of `alternates`
module _ (ts : List Entry) (e i : ℕ) (u : Bool) where
  pub alt_more : {f : Bool} {k : ℕ} {r : Verdict} → r ≡ alternating u (drop i ts) e → i < length ts → k ≡ kind_in (get_or ts i no_token) → f ≡ fits_kind u k → f ≡ true → r ≡ alternating (not u) (drop (i + 1) ts) e
  unfolding alternating
  alt_more q h z g y = q ∙ rw (next_token ts i h, ← z, ← g, y)

  pub alt_stop : {f : Bool} {k p : ℕ} → alternating true ts e ≡ alternating u (drop i ts) e → i < length ts → k ≡ kind_in (get_or ts i no_token) → f ≡ fits_kind u k → f ≡ false
      → p ≡ place_in (get_or ts i no_token) → Alternates ts e (Err (refusal wrong_shape p))
  unfolding alternating
  alt_stop q h z g y v cs = rw v (sym (q ∙ rw (next_token ts i h, ← z, ← g, y)) ∙ alt_is ts true amp 0 cs e)

  pub alt_short : alternating true ts e ≡ alternating u (drop i ts) e → length ts ≤ i → u ≡ true → Alternates ts e (Err (refusal wrong_shape e))
  unfolding alternating
  alt_short q h y cs = sym (q ∙ rw (drop_of_length-le ts h, y)) ∙ alt_is ts true amp 0 cs e

  pub alt_fine : alternating true ts e ≡ alternating u (drop i ts) e → length ts ≤ i → u ≡ false → Alternates ts e (Ok tt)
  unfolding alternating
  alt_fine q h y cs = sym (q ∙ rw (drop_of_length-le ts h, y)) ∙ alt_is ts true amp 0 cs e
