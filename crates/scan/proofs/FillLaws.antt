-- The table and the contents, a token at a time: what is stored behind the tokens so far leaves these as they are, and is the token that was read.
use Prim.Native.Nat.{ℕ, ◌+◌, ◌-◌, ◌*◌, ◌<◌, ◌≤◌}
use mathlib.Core.Path.{◌≡◌, refl, sym, ap, ap₂, ◌∙◌}
use mathlib.Core.List.{List, [], ◌∷◌, ◌++◌, map-append, append-nil}
use native.Mathlib.Numerals.{add-one}
use native.Mathlib.Omega.{arith}
use mir.Syntax.{w64}
use mir.Val.{Fits}
use lib.ListN.{length, take, drop, set, length-set, length-append, length-take, length-drop}
use lib.Seq.{length-take-le, take-suc-set, take-append-le, drop_at}
use Rattle.laws.specs.Over.{part, back, length_part}
use Rattle.rules.specs.Refusals.{Res, ok, bad, most_text}
use Rattle.rules.specs.Tokens.{Token, at, idle, and_then, run}
use Rattle.rules.proofs.ScanBack.{then_assoc}
use Rattle.rules.specs.declared.Refusal.{Refusal}
use Rattle.token_table.specs.declared.Token.{Token as Entry}
use Rattle.token_table.specs.Table.{number, content_in, from_in, size_in, lex_of_kind, token_in, tokens_in, Within}
use Rattle.token_table.proofs.WithinLaws.{within_more, kept}
use Rattle.scan.specs.Along.{run_at, RefusedBy, Passes}
use Rattle.scan.proofs.RunLaws.{run_end}
use Rattle.scan.specs.Scanned.{IsOne}
use Rattle.scan.specs.declared.Cursor.{Cursor}
use Rattle.scan.specs.declared.Scanned.{Scanned}
use Rattle.scan.specs.Filled.{Holds, IsFilled}
use Rattle.scan.specs.declared.Filled.{Filled}
use Rattle.std.proofs.Common.{Result, Ok, Err}
use Rattle.std.specs.Result.{IsErrAnd}

-- ---- what a callee left at the start of `&mut contents[k..]`

lent : (c ys : List ℕ) (k n : ℕ) → k ≤ length c → n ≤ length ys → take n (drop k (back c k ys)) ≡ take n ys
lent c ys k n h g =
    rw (drop_at (take k c) (ys ++ drop (length c - k) (drop k c)) k (length-take-le k c h)) (take-append-le n ys (drop (length c - k) (drop k c)) g)

back_long : (c : List ℕ) (k : ℕ) (ys : List ℕ) → k ≤ length c → length ys ≡ length (part c k) → length (back c k ys) ≡ length c
back_long c k ys h l = simp (length-append, length-take, length-drop) (omega (arith, length_part c k))

-- ---- the loop

-- its invariant: t tokens with k bytes of content were read up to place i, and the rest of the text gives the rest of the tokens
pub record Filling (s : List ℕ) (toks₀ : List Entry) (c₀ : List ℕ) (toks : List Entry) (c : List ℕ) (i t k : ℕ) : Type 0 where
  pub reads : run_at idle s 0 ≡ and_then (ok (tokens_in c (take t toks))) (run_at idle s i)
  pub within : Within k (take t toks)
  pub few : t ≤ i
  pub used : k ≤ i
  pub inside : i ≤ length s
  pub long : length toks ≡ length toks₀
  pub wide : length c ≡ length c₀

then_none : (r : Res (List Token)) → r ≡ and_then (ok []) r
then_none (ok ts) = refl
then_none (bad n p) = refl

pub fill_none : (s : List ℕ) (toks : List Entry) (c : List ℕ) → Filling s toks c toks c 0 0 0
fill_none s toks c =
    record {
      reads = then_none (run_at idle s 0);
      within = tt;
      few = omega arith;
      used = omega arith;
      inside = omega arith;
      long = refl;
      wide = refl;
    }

-- what is passed over gives no token
pub fill_gap : {s : List ℕ} {toks₀ : List Entry} {c₀ : List ℕ} {toks : List Entry} {c : List ℕ} {i t k a : ℕ} → Filling s toks₀ c₀ toks c i t k → Passes s i a → Filling s toks₀ c₀ toks c a t k
fill_gap v b =
    record {
      reads = v.reads ∙ rw b.reads;
      within = v.within;
      few = omega (arith, v.few, b.past);
      used = omega (arith, v.used, b.past);
      inside = b.inside;
      long = v.long;
      wide = v.wide;
    }

module _ {s : List ℕ} {toks₀ : List Entry} {c₀ : List ℕ} {toks : List Entry} {c : List ℕ} {i t k : ℕ} (v : Filling s toks₀ c₀ toks c i t k) (short : length s ≤ most_text) (room : length s ≤ length toks₀)
    (space : length s ≤ length c₀) where
  pub fill_room : length s ≤ length (part c k) + i
  fill_room = omega (arith, length_part c k, v.used, v.wide, v.inside)

  -- so far the contents take no more than there is
  pub fill_inside : k ≤ length c
  fill_inside = omega (arith, v.used, v.inside, v.wide)

  pub fill_from : k < 65536
  fill_from = omega (arith, v.used, v.inside)

  pub fill_scaled : Fits w64 (t * 8)
  fill_scaled = omega (arith, v.few, v.inside)

  pub fill_next : Fits w64 (t + 1)
  fill_next = omega (arith, v.few, v.inside)

  pub fill_bad : (e : Refusal) → RefusedBy (run_at idle s i) e → RefusedBy (run idle 0 s) e
  unfolding run_at
  fill_bad e w = v.reads ∙ rw w

  pub fill_err : (ts : List Entry) (cs : List ℕ) (r : Result Filled Refusal) (e : Refusal) → IsErrAnd r (λ x. x ≡ e) → RefusedBy (run_at idle s i) e → IsFilled (run idle 0 s) ts cs r
  fill_err ts cs (Ok f) e h w = absurd h
  fill_err ts cs (Err x) e h w = rw h (fill_bad e w)

  pub fill_end : i ≡ length s → Holds (run idle 0 s) toks c t k
  unfolding run_at
  fill_end e =
      record {
        is = v.reads ∙ rw (run_end idle s i (omega arith)) (ap (λ l. ok l) (append-nil (tokens_in c (take t toks))));
        within = v.within;
        table = omega (arith, v.few, v.inside, v.long);
        bytes = fill_inside;
      }

  module _ (ys : List ℕ) where
    module _ (r : Scanned) (token : IsOne (run_at idle s i) s i ys r) where
      pub fill_place : i < 65536
      fill_place = omega (arith, token.past, token.inside)

      pub fill_size : Scanned.len r < 65536
      fill_size = omega (arith, token.fits, token.inside)

      pub fill_slot : t < length toks
      fill_slot = omega (arith, v.few, token.past, token.inside, v.long)

      pub fill_sum : Fits w64 (k + Scanned.len r)
      fill_sum = omega (arith, fill_from, fill_size)

      pub fill_less : length s - Cursor.at (Scanned.next r) < length s - i
      fill_less = omega (arith, token.past, token.inside)

      pub fill_more : (x : Entry) → length ys ≡ length (part c k) → x ≡ record { kind = Scanned.kind r; place = i; start = k; len = Scanned.len r }
          → Filling s toks₀ c₀ (set toks t x) (back c k ys) (Cursor.at (Scanned.next r)) (t + 1) (k + Scanned.len r)
      unfolding content_in
      fill_more x l q =
          let w = token in
          let n = Scanned.len r in
          let kind = number (Scanned.kind r) in
          let hn : n ≤ length ys = omega (arith, length_part c k, w.fits, w.inside, v.used, v.wide) in
          let c' : List ℕ = back c k ys in
          let ts : List Entry = take t toks in
          let grown : take (t + 1) (set toks t x) ≡ ts ++ (x ∷ []) = rw (add-one t) (take-suc-set toks t x fill_slot) in
          let its : token_in c' x ≡ at i (lex_of_kind kind (take n ys))
          = rw q (ap (λ z. at i (lex_of_kind kind z)) (lent c ys k n fill_inside hn)) in
          let all : tokens_in c' (take (t + 1) (set toks t x)) ≡ tokens_in c ts ++ (at i (lex_of_kind kind (take n ys)) ∷ [])
          = ap (λ z. tokens_in c' z) grown ∙ map-append (token_in c') ts (x ∷ [])
          ∙ ap₂ (λ a b. a ++ (b ∷ [])) (kept ts k c (ys ++ drop (length c - k) (drop k c)) v.within fill_inside) its in
          let ends : from_in x + size_in x ≤ k + n = rw q (omega arith) in
          record {
            reads = v.reads ∙ rw (w.reads, all) (sym (then_assoc (ok (tokens_in c ts)) (ok (at i (lex_of_kind kind (take n ys)) ∷ [])) (run_at idle s (Cursor.at (Scanned.next r)))));
            within = rw grown (within_more ts k (k + n) x v.within (omega arith) ends);
            few = omega (arith, v.few, w.past);
            used = omega (arith, v.used, w.fits);
            inside = w.inside;
            long = length-set toks t x ∙ v.long;
            wide = back_long c k ys fill_inside l ∙ v.wide;
          }

  pub fill_wide : (ys : List ℕ) → length ys ≡ length (part c k) → length (back c k ys) ≡ length c₀
  fill_wide ys l = back_long c k ys fill_inside l ∙ v.wide
