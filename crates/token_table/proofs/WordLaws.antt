-- The pieces of a code or a name that is not refused are the contents of every other token; and sizes that are capped at each turn are capped at the end.
use Prim.Native.Nat.{ℕ, zero, suc, ◌+◌, ◌≤◌, ◌<◌}
use mathlib.Core.Path.{◌≡◌, refl, sym, ap₂, ◌∙◌}
use mathlib.Core.Bool.{Bool, true, false, cond}
use mathlib.Core.List.{List, [], ◌∷◌, map}
use mathlib.Core.Option.{some}
use native.Mathlib.Omega.{arith}
use borrow.Author.Tests.{leb-true, leb-false, le-leb, lt-leb}
use lib.Dec.{leb, ltb, eqb}
use lib.ListN.{length, get_or, drop, length-append}
use lib.Seq.{drop-drop}
use Rattle.std.proofs.Common.{Some, None, Iter, Bor}
use Rattle.std.proofs.lemmas.List.{nil_from_length}
use Rattle.std.specs.Iterator.{YieldsThen}
use Rattle.std.specs.Slice.Iter.{iter_rest, iter_steps}
use Rattle.laws.specs.Cases.{by_bool, by_option, none≢some, cond_some}
use Rattle.token_table.proofs.KindLaws.{no_token, next_token}
use Rattle.rules.specs.Commands.{is_sep, piece, pieces}
use Rattle.rules.specs.Records.{field, field_bytes, bytes_of}
use Rattle.rules.specs.Refusals.{ok}
use Rattle.rules.specs.Tokens.{dash}
use Rattle.rules.proofs.ResultLaws.{ok_inj, ok≢bad, map_ok}
use Rattle.token_table.specs.declared.Token.{Token as Entry}
use Rattle.token_table.specs.Table.{kind_in, content_in, lex_of_kind, tokens_in}
use Rattle.token_table.specs.Parts.{words_in, words_size, capped}

-- ---- pieces

piece_word : (f : List ℕ → Bool) (k : ℕ) (c w : List ℕ) → piece f (lex_of_kind k c) ≡ some w → c ≡ w
unfolding lex_of_kind
piece_word f k c w h =
    by_bool (ltb k 10)
    (λ y. none≢some (rw y at h))
    (λ y. by_bool (eqb k 10) (λ z. cond_some (f c) c w (rw (y, z) at h) (λ t e. e)) (λ z. none≢some (rw (y, z) at h)))

pub pieces_words : (cs : List ℕ) (ts : List Entry) (want : Bool) (nr : ℕ) (f g : List ℕ → Bool) (left e : ℕ) (ws : List (List ℕ))
    → pieces nr f g left want (tokens_in cs ts) e ≡ ok ws → ws ≡ words_in want cs ts
unfolding words_in
pieces_words cs [] true nr f g left e ws h = ok≢bad h
pieces_words cs [] false nr f g left e ws h = sym (ok_inj h)
pieces_words cs (t ∷ ts) true nr f g left e ws h =
    by_option (piece f (lex_of_kind (kind_in t) (content_in cs t)))
    (λ z. ok≢bad (rw (z, pieces) at h))
    (λ w z. map_ok (λ ws. w ∷ ws) (pieces nr g g left false (tokens_in cs ts) e) ws (rw (z, pieces) at h)
    (λ ws' a r. sym r ∙ ap₂ (λ x xs. x ∷ xs) (sym (piece_word f (kind_in t) (content_in cs t) w z)) (pieces_words cs ts false nr g g left e ws' a)))
pieces_words cs (t ∷ ts) false nr f g zero e ws h = ok≢bad h
pieces_words cs (t ∷ ts) false nr f g (suc left) e ws h =
    by_bool (is_sep dash (lex_of_kind (kind_in t) (content_in cs t)))
    (λ y. pieces_words cs ts true nr g g left e ws (rw (y, pieces) at h))
    (λ y. ok≢bad (rw (y, pieces) at h))

-- ---- the words from an index on

words_behind : (cs : List ℕ) (us : List Entry) → words_in false cs us ≡ words_in true cs (drop 1 us)
unfolding words_in
words_behind cs [] = refl
words_behind cs (u ∷ us) = refl

pub words_next : (cs : List ℕ) (ts : List Entry) (i : ℕ) → i < length ts → words_in true cs (drop i ts) ≡ content_in cs (get_or ts i no_token) ∷ words_in true cs (drop (i + 2) ts)
unfolding words_in
words_next cs ts i h =
    let two : i + 1 + 1 ≡ i + 2 = omega arith in
    rw (next_token ts i h, words_behind cs (drop (i + 1) ts), drop-drop 1 (i + 1) ts, two)

-- ---- a step over every other entry: the words from here on are the entry that came and the words behind it

module _ (cs : List ℕ) (s t : Iter Entry) where
  pub words_more : (f : Bool) (g : ℕ) (x : Bor Entry) (n : ℕ) (xs : List (Bor Entry)) → g ≡ 1 → n ≡ cond f 0 g → YieldsThen iter_steps s xs (Some x) t → length xs ≡ n
      → words_in f cs (iter_rest s) ≡ content_in cs x.now ∷ words_in false cs (iter_rest t)
  unfolding words_in
  words_more true g x n [] e q (u, y, r) l = rw (y, r)
  words_more false g x n [] e q (u, y, r) l = absurd (omega arith)
  words_more true g x n (a ∷ xs) e q y l = absurd (omega arith)
  words_more false g x n (a ∷ []) e q (u, (j, p, y), r) l = rw (p, y, r)
  words_more false g x n (a ∷ b ∷ xs) e q y l = absurd (omega arith)

  pub words_done : (f : Bool) (g n : ℕ) (xs : List (Bor Entry)) → g ≡ 1 → n ≡ cond f 0 g → YieldsThen iter_steps s xs None t → length xs ≤ n → words_in f cs (iter_rest s) ≡ []
  unfolding words_in
  words_done f g n [] e q (u, y, r) l = rw (y, nil_from_length (iter_rest u) r.0)
  words_done true g n (a ∷ xs) e q y l = absurd (omega arith)
  words_done false g n (a ∷ []) e q (u, (j, p, y), r) l = rw (p, y, nil_from_length (iter_rest u) r.0)
  words_done false g n (a ∷ b ∷ xs) e q y l = absurd (omega arith)

-- ---- sizes

pub words_bytes : (t : ℕ) (ws : List (List ℕ)) → length (bytes_of (map (λ w. field t w) ws)) ≡ words_size ws
unfolding words_size
words_bytes t [] = refl
words_bytes t (w ∷ ws) = rw (length-append (field_bytes (field t w)) (bytes_of (map (λ w. field t w) ws)), words_bytes t ws) (omega arith)

pub cap_cap : (a b : ℕ) → capped (capped a + b) ≡ capped (a + b)
unfolding capped
cap_cap a b =
    by_bool (leb a 4294967295)
    (λ y. rw y)
    (λ y.
    let h = leb-false a 4294967295 y in
    by_bool (leb (4294967295 + b) 4294967295)
    (λ z. let g = leb-true (4294967295 + b) 4294967295 z in rw (y, z, lt-leb (a + b) 4294967295 (omega arith)) (omega arith))
    (λ z. rw (y, z, lt-leb (a + b) 4294967295 (omega arith))))

pub cap_most : (a : ℕ) {r : ℕ} → r ≡ capped a → r ≤ 4294967295
unfolding capped
cap_most a q = by_bool (leb a 4294967295) (λ y. rw (q, y) (leb-true a 4294967295 y)) (λ y. rw (q, y) (omega arith))

pub cap_small : (a : ℕ) → a ≤ 4294967295 → capped a ≡ a
unfolding capped
cap_small a h = rw (le-leb a 4294967295 h)

-- the turns of `pieces_len`
module _ (cs : List ℕ) (size : ℕ) where
  pub size_more : {n z : ℕ} {r : ℕ} (c : List ℕ) (ws vs : List (List ℕ)) → r ≡ capped (size + words_size ws) → ws ≡ c ∷ vs → n ≡ length c → z ≡ capped (size + 3 + n) → r ≡ capped (z + words_size vs)
  unfolding words_size
  size_more {n} {z} c ws vs q e p y =
      let w = words_size vs in
      let g : size + (3 + n + w) ≡ size + 3 + n + w = omega arith in
      q ∙ rw (e, ← p, y, cap_cap (size + 3 + n) w, g)

  pub size_end : {r : ℕ} (ws : List (List ℕ)) → r ≡ capped (size + words_size ws) → ws ≡ [] → size ≤ 4294967295 → size ≡ r
  unfolding words_size
  size_end ws q e g = sym (q ∙ rw e (let z : size + 0 ≡ size = omega arith in rw z (cap_small size g)))
