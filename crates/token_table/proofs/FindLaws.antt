-- Where the first separator of a kind stands, there the rules cut: a token is that separator exactly if its kind is the separator's number.
use Prim.Native.Nat.{ℕ, ◌+◌, ◌-◌, ◌*◌, ◌^◌, ◌≤◌, ◌<◌}
use mathlib.Core.Path.{◌≡◌, refl, sym, ap, ◌∙◌}
use mathlib.Core.Bool.{Bool, cond}
use mathlib.Core.List.{List, [], ◌∷◌}
use native.Mathlib.Nat.{add-zero}
use native.Mathlib.Omega.{arith}
use borrow.Author.Tests.{ne_eqb, ltb-true, ltb-false, le-leb, lt-leb}
use mir.Syntax.{w64}
use mir.Val.{Fits}
use lib.Dec.{ltb, eqb}
use lib.ListN.{length, get_or, take, drop, length-drop, drop_of_length-le}
use lib.Seq.{drop-drop, length-take-le, take_all}
use Rattle.laws.specs.Cases.{by_bool, eqb_sym}
use Rattle.token_table.proofs.KindLaws.{no_token, next_token, same_is}
use Rattle.token_table.specs.declared.Kind.{Kind}
use Rattle.token_table.specs.contracts.Kind.{the_type}
use denote.Enum.Bare.{sameb}
use Rattle.std.proofs.Common.{Option, Some, None}
use Rattle.std.proofs.lemmas.List.Recursion.{is_position_or_len}
use Rattle.std.specs.Option.{unwrap_or}
use Rattle.std.specs.List.{position_or_len, slice_range}
use Rattle.rules.specs.Commands.{is_sep, first, Seg, seg, split, Cut, cut, uncut, cons_cut, cut_at, is_cut}
use Rattle.rules.specs.Tokens.{Sep, ampamp_, ampamp, amp_, amp, plusplus, dash, comma, colon, equals, semi, sep_code, Token}
use Rattle.token_table.specs.declared.Token.{Token as Entry}
use Rattle.token_table.specs.Table.{number, kind_in, place_in, content_in, lex_of_kind, token_in, tokens_in, word_kind}
use Rattle.token_table.proofs.AltLaws.{sep_code_lem}
use Rattle.token_table.specs.Parts.{before, place_or, parts_from}

-- ---- a separator by its kind

sep_small : (s : Sep) → sep_code s < word_kind
sep_small ampamp_ = omega arith
sep_small ampamp = omega arith
sep_small amp_ = omega arith
sep_small amp = omega arith
sep_small plusplus = omega arith
sep_small dash = omega arith
sep_small comma = omega arith
sep_small colon = omega arith
sep_small equals = omega arith
sep_small semi = omega arith

pub sep_kind_lem : (s : Sep) (k : ℕ) (w : List ℕ) → is_sep s (lex_of_kind k w) ≡ eqb k (sep_code s)
unfolding lex_of_kind
sep_kind_lem s k w =
    by_bool (ltb k 10)
    (λ y. rw (y, sep_code_lem k (ltb-true k 10 y)) (eqb_sym (sep_code s) k))
    (λ y.
    let l = ltb-false k 10 y in
    let z = sep_small s in
    let n : k ≡ sep_code s → ⊥ = λ e. absurd (omega arith) in
    by_bool (eqb k 10) (λ x. rw (y, x, ne_eqb k (sep_code s) n)) (λ x. rw (y, x, ne_eqb k (sep_code s) n)))

-- ---- what `find` does

pub before_inside : (k : ℕ) (ts : List Entry) → before k ts ≤ length ts
unfolding before
before_inside k [] = omega arith
before_inside k (t ∷ ts) = by_bool (eqb (kind_in t) k) (λ y. rw y (omega arith)) (λ y. rw y (omega (arith, before_inside k ts)))

-- the first entry of a kind stands where `==` on kinds finds it
abbrev pub is_wanted : Kind → Entry → Bool
is_wanted k t = sameb the_type (Entry.kind t) k

none : (k : Kind) → before (number k) [] ≡ 0
unfolding before
none k = refl

wanted : (k : Kind) (t : Entry) (ts : List Entry) → before (number k) (t ∷ ts) ≡ cond (is_wanted k t) 0 (1 + before (number k) ts)
unfolding before
wanted k t ts = rw (same_is (Entry.kind t) k) (ap (cond (eqb (number (Entry.kind t)) (number k)) 0) (omega arith))

before_is : (k : Kind) (ts : List Entry) → before (number k) ts ≡ position_or_len (is_wanted k) ts
before_is k ts = is_position_or_len (before (number k)) (is_wanted k) (none k) (wanted k) ts

found_or : (i n : ℕ) → i ≤ n → unwrap_or (cond (ltb i n) (Some i) None) n ≡ i
found_or i n h = by_bool (ltb i n) (λ y. rw y) (λ y. rw y (omega (arith, ltb-false i n y)))

module _ (ts : List Entry) (from : ℕ) (k : Kind) where
  pub find_in : (us : List Entry) {r : Option ℕ} {i : ℕ} → us ≡ slice_range ts from (length ts)
      → r ≡ cond (ltb (position_or_len (is_wanted k) us) (length us)) (Some (position_or_len (is_wanted k) us)) None
      → i ≡ unwrap_or r (length us) → from + i ≡ from + before (number k) (drop from ts)
  find_in us {r} {i} u q e =
      let d : us ≡ drop from ts = u ∙ take_all (length ts - from) (drop from ts) (omega (arith, length-drop from ts)) in
      let f : unwrap_or r (length us) ≡ before (number k) us = rw (q, ← before_is k us) (found_or (before (number k) us) (length us) (before_inside (number k) us)) in
      ap (λ n. from + n) (e ∙ f ∙ ap (before (number k)) d)

  pub find_past : length ts ≤ from → from ≡ from + before (number k) (drop from ts)
  unfolding before
  find_past h = rw (drop_of_length-le ts h) (sym (add-zero from))

-- ---- what is found

pub first_place : (cs : List ℕ) (ts : List Entry) (e : ℕ) → first (tokens_in cs ts) e ≡ place_or ts e
first_place cs [] e = refl
first_place cs (t ∷ ts) e = refl

pub place_in_lem : (ts : List Entry) (i e : ℕ) → i < length ts → place_or (drop i ts) e ≡ place_in (get_or ts i no_token)
place_in_lem ts i e h = rw (next_token ts i h)

pub place_end : (ts : List Entry) (i e : ℕ) → length ts ≤ i → place_or (drop i ts) e ≡ e
place_end ts i e h = rw (drop_of_length-le ts h)

-- ---- cut at the first separator

-- behind the separator that the first of these tokens is
abbrev pub cut_behind : List Token → List ℕ → List Entry → Cut
cut_behind a cs [] = uncut
cut_behind a cs (t ∷ us) = cut a (place_in t) (tokens_in cs us)

cons_behind : (x : Token) (a : List Token) (cs : List ℕ) (us : List Entry) → cons_cut x (cut_behind a cs us) ≡ cut_behind (x ∷ a) cs us
cons_behind x a cs [] = refl
cons_behind x a cs (u ∷ us) = refl

module _ (s : Sep) (cs : List ℕ) where
  cut_first : (ts : List Entry) → cut_at s (tokens_in cs ts) ≡ cut_behind (tokens_in cs (take (before (sep_code s) ts) ts)) cs (drop (before (sep_code s) ts) ts)
  unfolding before
  cut_first [] = refl
  cut_first (t ∷ ts) =
      by_bool (eqb (kind_in t) (sep_code s))
      (λ y. rw (y, sep_kind_lem s (kind_in t) (content_in cs t) ∙ y, cut_at))
      (λ y. rw (y, sep_kind_lem s (kind_in t) (content_in cs t) ∙ y, cut_at, cut_first ts)
      (cons_behind (token_in cs t) (tokens_in cs (take (before (sep_code s) ts) ts)) cs (drop (before (sep_code s) ts) ts)))

  -- with k the index found: cut there
  pub cut_at_lem : (ts : List Entry) {k : ℕ} → k ≡ 0 + before (sep_code s) (drop 0 ts) → k < length ts
      → cut_at s (tokens_in cs ts) ≡ cut (tokens_in cs (take k ts)) (place_in (get_or ts k no_token)) (tokens_in cs (drop (k + 1) ts))
  cut_at_lem ts {k} e h =
      let z : before (sep_code s) ts ≡ k = omega arith in
      cut_first ts ∙ rw (z, next_token ts k h)

  pub cut_none : (ts : List Entry) {k : ℕ} → k ≡ 0 + before (sep_code s) (drop 0 ts) → length ts ≤ k → cut_at s (tokens_in cs ts) ≡ uncut
  cut_none ts {k} e h =
      let z : before (sep_code s) ts ≡ k = omega arith in
      cut_first ts ∙ rw (z, drop_of_length-le ts h)

  pub is_cut_lem : (ts : List Entry) {k : ℕ} → k ≡ 0 + before (sep_code s) (drop 0 ts) → is_cut (cut_at s (tokens_in cs ts)) ≡ ltb k (length ts)
  is_cut_lem ts {k} e =
      by_bool (ltb k (length ts))
      (λ y. rw (y, cut_at_lem ts e (ltb-true k (length ts) y)))
      (λ y. rw (y, cut_none ts e (ltb-false k (length ts) y)))

-- ---- split at each separator

-- the parts behind the separator that the first of these tokens is
abbrev split_behind : Sep → ℕ → List ℕ → List Entry → List Seg
split_behind s e cs [] = []
split_behind s e cs (t ∷ ts) = split s e (tokens_in cs ts)

module _ (s : Sep) (e : ℕ) (cs : List ℕ) where
  split_first : (ts : List Entry) → let k = before (sep_code s) ts in split s e (tokens_in cs ts) ≡ seg (tokens_in cs (take k ts)) (place_or (drop k ts) e) ∷ split_behind s e cs (drop k ts)
  unfolding before
  split_first [] = refl
  split_first (t ∷ ts) =
      by_bool (eqb (kind_in t) (sep_code s))
      (λ y. rw (y, sep_kind_lem s (kind_in t) (content_in cs t) ∙ y, split))
      (λ y. rw (y, sep_kind_lem s (kind_in t) (content_in cs t) ∙ y, split, split_first ts))

  pub parts_all : (ts : List Entry) → parts_from s e cs ts 0 ≡ split s e (tokens_in cs ts)
  unfolding parts_from
  parts_all ts = rw (le-leb 0 (length ts) (omega arith))

  pub parts_end : (ts : List Entry) (i : ℕ) → length ts < i → parts_from s e cs ts i ≡ []
  unfolding parts_from
  parts_end ts i h = rw (lt-leb i (length ts) h)

  -- with k the index found from i on, and p the place of what stands there: one part, and those behind it
  pub parts_next : (ts : List Entry) (i : ℕ) {k p : ℕ} → i ≤ length ts → k ≡ i + before (sep_code s) (drop i ts) → p ≡ place_or (drop k ts) e
      → parts_from s e cs ts i ≡ seg (tokens_in cs (take (k - i) (drop i ts))) p ∷ parts_from s e cs ts (k + 1)
  unfolding parts_from
  parts_next ts i {k} {p} h q z =
      let b = before (sep_code s) (drop i ts) in
      let n : k - i ≡ b = omega arith in
      let d : drop b (drop i ts) ≡ drop k ts = rw (drop-drop, q) in
      rw (le-leb i (length ts) h, n, split_first (drop i ts), d, z)
      (by_bool (ltb k (length ts))
      (λ y. let l = ltb-true k (length ts) y in rw (le-leb (k + 1) (length ts) (omega arith), next_token ts k l))
      (λ y. let l = ltb-false k (length ts) y in rw (lt-leb (k + 1) (length ts) (omega arith), drop_of_length-le ts l)))

-- the index found from i on: it stands behind i, inside the table or at its end, and the search goes on behind it
module _ (ts : List Entry) (i j : ℕ) {k : ℕ} (q : k ≡ i + before j (drop i ts)) where
  pub found_past : i ≤ k
  found_past = omega arith

  module _ (h : i ≤ length ts) where
    pub found_inside : k ≤ length ts
    found_inside = omega (arith, before_inside j (drop i ts), length-drop i ts)

    pub found_next : length ts * 8 < 2 ^ 63 → Fits w64 (k + 1)
    found_next g = omega (arith, found_inside)

    pub found_less : length ts + 1 - (k + 1) < length ts + 1 - i
    found_less = omega (arith, found_inside)

-- a part up to an index inside has that length
pub taken : (k : ℕ) (ts : List Entry) → k ≤ length ts → k ≡ length (take k ts)
taken k ts h = sym (length-take-le k ts h)
