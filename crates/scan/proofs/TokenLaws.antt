-- Tokens: what the automaton does over each stretch, from its first byte on, is one token and the rest of the text; the limits are those of the rules.
use Prim.Native.Nat.{ℕ, ◌+◌, ◌<◌, ◌≤◌}
use mathlib.Core.Path.{◌≡◌, refl, sym, ap, ◌∙◌, subst}
use mathlib.Core.Bool.{true, false, cond}
use mathlib.Core.List.{List, [], ◌∷◌}
use native.Mathlib.Omega.{arith}
use lib.Dec.{eqb, leb}
use lib.ListN.{length, get_or, take}
use lib.Seq.{length-take-le, get_or-take}
use borrow.Author.Tests.{eq-eqb, ne_eqb, eqb-true, le-leb, lt-leb}
use Rattle.laws.specs.Cases.{cond_both}
use Rattle.rules.specs.Characters.{byte}
use Rattle.rules.specs.Refusals.{Res, ok, bad, unclosed, no_token, too_many, most_word, most_prefixed, most_string}
use Rattle.rules.specs.Tokens.{Sep, dash, comma, colon, equals, semi, word, sep, sep_code, Token, at, idle, in_word, in_plus, one_amp, slash, in_str, word_most, word_token, Step, stay, emit, fresh, one_sep, and_then}
use Rattle.chars.specs.declared.Class.{Class}
use Rattle.chars.specs.declared.Class.TheVariants.{NotPermitted, Word, Plus, Ampersand, Effector, Dash, Comma, Colon, Equals, Semicolon, Slash, Mark, Other}
use Rattle.chars.specs.Classes.{class_of, number, word_class, plus_class, amp_class, effector_class, slash_class, mark_class}
use Rattle.chars.proofs.ClassLaws.{is_word, is_effector_lem, is_plus, is_amp, is_dash, is_comma, is_colon, is_equals, is_semi, is_slash, is_mark}
use Rattle.token_table.specs.Table.{lex_of_kind, string_kind}
use Rattle.scan.specs.Along.{run_at, Skipped, IsWord, Ends, IsString, IsAmp, Begins}
use Rattle.std.proofs.Common.{Option, None, Result, Ok, Err}
use Rattle.rules.specs.declared.Reason.{Reason}
use Rattle.token_table.specs.declared.Kind.{Kind}
use Rattle.token_table.specs.declared.Kind.TheVariants.{PlusPlus, Dash as DashKind, Comma as CommaKind, Colon as ColonKind, Equals as EqualsKind, Semicolon as SemicolonKind, Word as WordKind, String as StringKind}
use Rattle.token_table.specs.Table.{number as kind_number}
use Rattle.scan.specs.declared.Content.{Content}
use Rattle.scan.proofs.RunLaws.{run_step, stayed, inside}
use Rattle.scan.proofs.SkipLaws.{skips_plus}
use Rattle.scan.proofs.WordLaws.{plus_word}
use Rattle.scan.specs.Scanned.{IsScanned, IsOne, IsToken, IsSep}
use Rattle.scan.specs.declared.Scanned.{Scanned}

-- a token of a kind, its content of n bytes, up to e
abbrev pub scanned : Kind → ℕ → ℕ → Scanned
scanned k n e = record { kind = k; len = n; next = record { at = e } }

-- the same promise for what gives the same
again_all : {x y : Res (List Token)} (s : List ℕ) (i : ℕ) (out : List ℕ) (r : Result Scanned Reason) → y ≡ x → IsScanned x s i out r → IsScanned y s i out r
again_all s i out (Ok r) q t = record { reads = q ∙ t.reads; few = t.few; fits = t.fits; past = t.past; inside = t.inside }
again_all s i out (Err r) q t = q ∙ t

-- a token at the place i, up to e
its_token : {x : Res (List Token)} {s out : List ℕ} {k i n e : ℕ} → x ≡ and_then (ok (at i (lex_of_kind k (take n out)) ∷ [])) (run_at idle s e) → k ≤ string_kind → n + i ≤ e → i < e
    → e ≤ length s → IsToken x s i out k n e
its_token r f h p b = record { reads = r; few = f; fits = h; past = p; inside = b }

-- ---- words

module _ (q : ℕ) (w : List ℕ) where
  short_word : length w ≤ word_most w → word_token q w ≡ ok (at q (word w) ∷ [])
  short_word h = rw (le-leb (length w) (word_most w) h)

  long_word : word_most w < length w → word_token q w ≡ bad too_many q
  long_word h = rw (lt-leb (length w) (word_most w) h)

at_most : (w : List ℕ) → word_most w ≤ most_prefixed
at_most w = cond_both (λ m. m ≤ most_prefixed) (eqb (get_or w 1 0) (byte "'")) (omega arith) (omega arith)

at_least : (w : List ℕ) → most_word ≤ word_most w
at_least w = cond_both (λ m. most_word ≤ m) (eqb (get_or w 1 0) (byte "'")) (omega arith) (omega arith)

module _ {s : List ℕ} {i first : ℕ} {out : List ℕ} {n e : ℕ} (v : IsWord s i first out n e) (old : List ℕ) (q : ℕ) (h : q < i) (hi : i ≤ length s) (room : length s < length old + i)
    (long : length out ≡ length old) where
  its_length : length (take n out) ≡ n
  its_length = length-take-le n out (omega (arith, v.fits, v.inside))

  accepted : length (take n out) ≤ word_most (take n out) → IsOne (run_at (in_word q (first ∷ [])) s i) s q out (scanned WordKind n e)
  unfolding lex_of_kind
  accepted g = its_token (v.reads q ∙ rw (short_word q (take n out) g)) (omega arith) (omega (arith, v.fits)) (omega (arith, v.past)) v.inside

  pub word_short : n ≤ most_word → IsOne (run_at (in_word q (first ∷ [])) s i) s q out (scanned WordKind n e)
  word_short g = accepted (omega (arith, its_length, at_least (take n out)))

  pub word_long : most_prefixed < n → run_at (in_word q (first ∷ [])) s i ≡ bad too_many q
  word_long g = v.reads q ∙ rw (long_word q (take n out) (omega (arith, its_length, at_most (take n out))))

  module _ (g : most_word < n) where
    pub second_inside : 1 < length out
    second_inside = omega (arith, v.fits, v.inside)

    second : get_or (take n out) 1 0 ≡ get_or out 1 0
    second = get_or-take n out 1 0 (omega arith)

    pub word_prefixed : n ≤ most_prefixed → get_or out 1 0 ≡ byte "'" → IsOne (run_at (in_word q (first ∷ [])) s i) s q out (scanned WordKind n e)
    word_prefixed l t =
        let m : word_most (take n out) ≡ most_prefixed = rw (second, eq-eqb (get_or out 1 0) (byte "'") t) in
        accepted (omega (arith, its_length))

    pub word_over : (get_or out 1 0 ≡ byte "'" → ⊥) → run_at (in_word q (first ∷ [])) s i ≡ bad too_many q
    word_over t =
        let m : word_most (take n out) ≡ most_word = rw (second, ne_eqb (get_or out 1 0) (byte "'") t) in
        v.reads q ∙ rw (long_word q (take n out) (omega (arith, its_length)))

-- ---- a `+`

module _ (s : List ℕ) (i : ℕ) {j b : ℕ} (y : get_or s i 0 ≡ byte "+") (z : Skipped s (i + 1) j) (g : b ≡ get_or s j 0) where
  begun : run_at idle s i ≡ run_at (in_plus i [] i) s j
  begun = stayed idle (in_plus i [] i) s i (inside s i y) (rw y) ∙ z.reads (in_plus i [] i) (skips_plus i [] i)

  pub plus_double : b ≡ byte "+" → (out : List ℕ) → IsOne (run_at idle s i) s i out (scanned PlusPlus 0 (j + 1))
  unfolding lex_of_kind
  plus_double t out =
      let u : get_or s j 0 ≡ byte "+" = sym g ∙ t in
      let k : j < length s = inside s j u in
      its_token (begun ∙ run_step (in_plus i [] i) s j k ∙ rw u) (omega arith) (omega (arith, z.past)) (omega (arith, z.past)) (omega arith)

  pub plus_one : (b ≡ byte "+" → ⊥) → (out : List ℕ) (r : Result Scanned Reason) → IsScanned (run_at (in_word i (get_or s i 0 ∷ [])) s j) s i out r → IsScanned (run_at idle s i) s i out r
  plus_one m out r t = again_all s i out r (begun ∙ plus_word i [] i s j (λ u. m (g ∙ u)) z.stops ∙ rw y) t

-- ---- strings

module _ (s : List ℕ) (i : ℕ) (y : get_or s i 0 ≡ byte "\"") where
  opened : run_at idle s i ≡ run_at (in_str i []) s (i + 1)
  opened = stayed idle (in_str i []) s i (inside s i y) (rw y)

  pub string_never : (out : List ℕ) {r : Option Content} → IsString s (i + 1) out r → r ≡ None → run_at idle s i ≡ bad unclosed i
  string_never out w z = opened ∙ subst (IsString s (i + 1) out) z w i

  module _ (old out : List ℕ) {n e : ℕ} (v : Ends s (i + 1) out n e) (room : length s ≤ length old + i) (long : length out ≡ length old) where
    size : length (take n out) ≡ n
    size = length-take-le n out (omega (arith, v.fits, v.inside))

    pub string_fine : n ≤ most_string → IsOne (run_at idle s i) s i out (scanned StringKind n e)
    unfolding lex_of_kind
    string_fine h =
        let l : leb (length (take n out)) most_string ≡ true = le-leb (length (take n out)) most_string (omega (arith, size)) in
        its_token (opened ∙ v.reads i ∙ rw l) (omega arith) (omega (arith, v.fits)) (omega (arith, v.fits)) v.inside

    pub string_over : most_string < n → run_at idle s i ≡ bad too_many i
    string_over h =
        let l : leb (length (take n out)) most_string ≡ false = lt-leb (length (take n out)) most_string (omega (arith, size)) in
        opened ∙ v.reads i ∙ rw l

-- ---- `&`

pub amp_token : (s : List ℕ) (i : ℕ) (k : Kind) {e : ℕ} → get_or s i 0 ≡ byte "&" → IsAmp s (i + 1) (kind_number k) e → IsSep (run_at idle s i) s i (scanned k 0 e)
amp_token s i k y v out =
    its_token (stayed idle (one_amp i) s i (inside s i y) (rw y) ∙ v.reads i (take 0 out)) v.few (omega (arith, v.past)) (omega (arith, v.past)) v.inside

-- ---- the byte that begins a token

-- what begins with the byte c at place p, by its class
abbrev by_class : ℕ → ℕ → ℕ → Step
by_class p c k =
    cond (eqb k word_class) (stay (in_word p (c ∷ [])))
    (cond (eqb k plus_class) (stay (in_plus p [] p))
    (cond (eqb k amp_class) (stay (one_amp p))
    (cond (eqb k (sep_code dash)) (one_sep p dash)
    (cond (eqb k (sep_code comma)) (one_sep p comma)
    (cond (eqb k (sep_code colon)) (one_sep p colon)
    (cond (eqb k (sep_code equals)) (one_sep p equals)
    (cond (eqb k (sep_code semi)) (one_sep p semi)
    (cond (eqb k slash_class) (stay (slash p))
    (cond (eqb k mark_class) (stay (in_str p []))
    (cond (eqb k effector_class) (stay idle) (emit (bad no_token p) idle)))))))))))

fresh_is : (p c : ℕ) → fresh p c ≡ by_class p c (class_of c)
fresh_is p c =
    rw (is_word c, is_plus c, is_amp c, is_dash c, is_comma c, is_colon c, is_equals c, is_semi c, is_slash c, is_mark c, is_effector_lem c)

module _ {s : List ℕ} {i : ℕ} {c : Class} (v : Begins s i (number c)) where
  begins : (k : Class) → c ≡ k → fresh i (get_or s i 0) ≡ by_class i (get_or s i 0) (number k)
  begins k t = fresh_is i (get_or s i 0) ∙ rw (← v.class, t)

  pub starts_plus_lem : c ≡ Plus → get_or s i 0 ≡ byte "+"
  starts_plus_lem t = eqb-true (get_or s i 0) (byte "+") (is_plus (get_or s i 0) ∙ rw (← v.class, t))

  pub starts_amp : c ≡ Ampersand → get_or s i 0 ≡ byte "&"
  starts_amp t = eqb-true (get_or s i 0) (byte "&") (is_amp (get_or s i 0) ∙ rw (← v.class, t))

  pub starts_string : c ≡ Mark → get_or s i 0 ≡ byte "\""
  starts_string t = eqb-true (get_or s i 0) (byte "\"") (is_mark (get_or s i 0) ∙ rw (← v.class, t))

  pub starts_word : c ≡ Word → (out : List ℕ) (r : Result Scanned Reason) → IsScanned (run_at (in_word i (get_or s i 0 ∷ [])) s (i + 1)) s i out r → IsScanned (run_at idle s i) s i out r
  starts_word t out r w = again_all s i out r (stayed idle (in_word i (get_or s i 0 ∷ [])) s i v.inside (begins Word t)) w

  starts_no : (k : Class) → c ≡ k → by_class i (get_or s i 0) (number k) ≡ emit (bad no_token i) idle → run_at idle s i ≡ bad no_token i
  starts_no k t e = run_step idle s i v.inside ∙ rw (begins k t, e)

  -- a byte of another class
  pub starts_none : (k : Class) → c ≡ k → (k ≡ Word → ⊥) → (k ≡ Dash → ⊥) → (k ≡ Comma → ⊥) → (k ≡ Colon → ⊥) → (k ≡ Equals → ⊥) → (k ≡ Semicolon → ⊥) → (k ≡ Mark → ⊥) → (k ≡ Ampersand → ⊥) → (k ≡ Plus → ⊥)
      → run_at idle s i ≡ bad no_token i
  starts_none NotPermitted t w d m n e z q a p = starts_no NotPermitted t refl
  starts_none Other t w d m n e z q a p = starts_no Other t refl
  starts_none Effector t w d m n e z q a p = absurd (v.solid (ap number t))
  starts_none Slash t w d m n e z q a p = absurd (v.plain (ap number t))
  starts_none Word t w d m n e z q a p = absurd (w refl)
  starts_none Dash t w d m n e z q a p = absurd (d refl)
  starts_none Comma t w d m n e z q a p = absurd (m refl)
  starts_none Colon t w d m n e z q a p = absurd (n refl)
  starts_none Equals t w d m n e z q a p = absurd (e refl)
  starts_none Semicolon t w d m n e z q a p = absurd (z refl)
  starts_none Mark t w d m n e z q a p = absurd (q refl)
  starts_none Ampersand t w d m n e z q a p = absurd (a refl)
  starts_none Plus t w d m n e z q a p = absurd (p refl)

  -- a separator of one byte
  separator : (out : List ℕ) (k : Class) (j : Kind) (l : Sep) → c ≡ k → kind_number j ≤ string_kind → lex_of_kind (kind_number j) (take 0 out) ≡ sep l → by_class i (get_or s i 0) (number k) ≡ one_sep i l
      → IsOne (run_at idle s i) s i out (scanned j 0 (i + 1))
  separator out k j l t f e b =
      its_token (run_step idle s i v.inside ∙ rw (begins k t, b, e)) f (omega arith) (omega arith) (omega (arith, v.inside))

  pub starts_dash : (out : List ℕ) → c ≡ Dash → IsOne (run_at idle s i) s i out (scanned DashKind 0 (i + 1))
  unfolding lex_of_kind
  starts_dash out t = separator out Dash DashKind dash t (omega arith) refl refl

  pub starts_comma : (out : List ℕ) → c ≡ Comma → IsOne (run_at idle s i) s i out (scanned CommaKind 0 (i + 1))
  unfolding lex_of_kind
  starts_comma out t = separator out Comma CommaKind comma t (omega arith) refl refl

  pub starts_colon : (out : List ℕ) → c ≡ Colon → IsOne (run_at idle s i) s i out (scanned ColonKind 0 (i + 1))
  unfolding lex_of_kind
  starts_colon out t = separator out Colon ColonKind colon t (omega arith) refl refl

  pub starts_equals : (out : List ℕ) → c ≡ Equals → IsOne (run_at idle s i) s i out (scanned EqualsKind 0 (i + 1))
  unfolding lex_of_kind
  starts_equals out t = separator out Equals EqualsKind equals t (omega arith) refl refl

  pub starts_semicolon : (out : List ℕ) → c ≡ Semicolon → IsOne (run_at idle s i) s i out (scanned SemicolonKind 0 (i + 1))
  unfolding lex_of_kind
  starts_semicolon out t = separator out Semicolon SemicolonKind semi t (omega arith) refl refl
