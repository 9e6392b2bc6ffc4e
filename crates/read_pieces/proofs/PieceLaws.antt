-- The loop over pieces: at every turn the rest of the tokens has the verdict of the whole, by the rule's own clauses.
use Prim.Native.Nat.{ℕ, zero, suc, ◌+◌, ◌-◌, ◌≤◌, ◌<◌}
use mathlib.Core.Path.{◌≡◌, refl, sym, ap, ◌∙◌, subst}
use mathlib.Core.Bool.{Bool, true, false, not, false≢true}
use mathlib.Core.List.{List, [], ◌∷◌}
use mathlib.Core.Option.{none, some}
use native.Mathlib.Omega.{arith}
use borrow.Author.Tests.{ltb-true, ltb-false, ne_eqb, eqb-true}
use lib.Dec.{ltb, eqb}
use lib.ListN.{length, get_or, drop, drop_of_length-le}
use Rattle.laws.specs.Cases.{by_bool, eqb_sym}
use Rattle.laws.specs.Lists.{all_at}
use Rattle.rules.specs.Characters.{is_digit}
use Rattle.rules.specs.Commands.{is_index_number, is_sep, piece, pieces}
use Rattle.rules.specs.Refusals.{bad}
use Rattle.rules.specs.Tokens.{dash}
use Rattle.token_table.specs.Table.{kind_in, place_in, content_in, lex_of_kind, tokens_in, Verdict}
use denote.Enum.Bare.{sameb}
use Rattle.token_table.specs.contracts.Kind.{the_type}
use Rattle.token_table.specs.declared.Kind.TheVariants.{Dash, Word}
use Rattle.token_table.specs.declared.Token.{Token as Entry}
use Rattle.rules.specs.declared.Reason.{Reason}
use Rattle.rules.proofs.ReasonBack.{reason_back}
use Rattle.rules.specs.declared.Refusal.{Refusal}
use Rattle.rules.specs.Reasons.{number, refusal}
use Rattle.std.proofs.Common.{Ok, Err}
use Rattle.token_table.proofs.AltLaws.{verdict_map, sep_code_lem}
use Rattle.token_table.proofs.KindLaws.{no_token, next_token, same_is}
use Rattle.read_pieces.specs.Pieces.{test, piece_test, dash_test, pieces_at}

pub index_some : (w : List ℕ) {r : Bool} → 0 < length w → r ≡ all_at is_digit w 0 → r ≡ is_index_number w
unfolding all_at
index_some [] h e = absurd (omega arith)
index_some (c ∷ w) h e = e

module _ (x : Bool) (cs : List ℕ) (t : Entry) where
  pub piece_word : {b r : Bool} → b ≡ sameb the_type (Entry.kind t) Word → b ≡ true → r ≡ test x (content_in cs t) → r ≡ piece_test x cs t
  unfolding piece_test
  piece_word e g q = rw (q, ← same_is (Entry.kind t) Word, ← e, g)

  pub piece_other : {b : Bool} → b ≡ sameb the_type (Entry.kind t) Word → b ≡ false → b ≡ piece_test x cs t
  unfolding piece_test
  piece_other e g = rw (g, ← same_is (Entry.kind t) Word, ← e, g)

pub dash_none : (left : ℕ) (t : Entry) → (0 < left → ⊥) → ltb 0 left ≡ dash_test left t
unfolding dash_test
dash_none zero t h = refl
dash_none (suc n) t h = absurd (h (omega arith))

pub dash_some : (left : ℕ) (t : Entry) {b : Bool} → 0 < left → b ≡ sameb the_type (Entry.kind t) Dash → b ≡ dash_test left t
unfolding dash_test
dash_some zero t h e = absurd (omega arith)
dash_some (suc n) t h e = e ∙ same_is (Entry.kind t) Dash

piece_yes : (x : Bool) (cs : List ℕ) (t : Entry) → piece_test x cs t ≡ true → piece (test x) (lex_of_kind (kind_in t) (content_in cs t)) ≡ some (content_in cs t)
unfolding piece_test lex_of_kind
piece_yes x cs t h =
    by_bool (eqb (kind_in t) 10)
    (λ y. let z : test x (content_in cs t) ≡ true = rw y at h in rw (eqb-true (kind_in t) 10 y, z))
    (λ y. absurd (false≢true (rw y at h)))

piece_no : (x : Bool) (cs : List ℕ) (t : Entry) → piece_test x cs t ≡ false → piece (test x) (lex_of_kind (kind_in t) (content_in cs t)) ≡ none
unfolding piece_test lex_of_kind
piece_no x cs t h =
    by_bool (eqb (kind_in t) 10)
    (λ y. let z : test x (content_in cs t) ≡ false = rw y at h in rw (eqb-true (kind_in t) 10 y, z))
    (λ y. by_bool (ltb (kind_in t) 10) (λ l. rw l) (λ l. rw (l, y)))

dash_kind : (k : ℕ) (w : List ℕ) → is_sep dash (lex_of_kind k w) ≡ eqb k 5
unfolding lex_of_kind
dash_kind k w =
    by_bool (ltb k 10)
    (λ y. rw (y, sep_code_lem k (ltb-true k 10 y)) (eqb_sym 5 k))
    (λ y. let l = ltb-false k 10 y in let n : k ≡ 5 → ⊥ = λ e. absurd (omega arith) in
    by_bool (eqb k 10) (λ z. rw (y, z, ne_eqb k 5 n)) (λ z. rw (y, z, ne_eqb k 5 n)))

dash_yes : (left nr : ℕ) (x nm : Bool) (cs : List ℕ) (t : Entry) (ts : List Entry) (e : ℕ) → dash_test left t ≡ true
    → pieces nr (test x) (test nm) left false (tokens_in cs (t ∷ ts)) e ≡ pieces nr (test nm) (test nm) (left - 1) true (tokens_in cs ts) e
unfolding dash_test
dash_yes zero nr x nm cs t ts e h = absurd (false≢true h)
dash_yes (suc n) nr x nm cs t ts e h =
    let q : n ≡ suc n - 1 = omega arith in
    subst
    (λ m. pieces nr (test x) (test nm) (suc n) false (tokens_in cs (t ∷ ts)) e ≡ pieces nr (test nm) (test nm) m true (tokens_in cs ts) e)
    q
    (rw (dash_kind (kind_in t) (content_in cs t) ∙ h, pieces))

dash_no : (left nr : ℕ) (x nm : Bool) (cs : List ℕ) (t : Entry) (ts : List Entry) (e : ℕ) → dash_test left t ≡ false
    → pieces nr (test x) (test nm) left false (tokens_in cs (t ∷ ts)) e ≡ bad nr (place_in t)
unfolding dash_test
dash_no zero nr x nm cs t ts e h = refl
dash_no (suc n) nr x nm cs t ts e h = rw (dash_kind (kind_in t) (content_in cs t) ∙ h, pieces)

module _ (a : Reason) (nm : Bool) (cs : List ℕ) (ts : List Entry) (e i : ℕ) where
  refused : {p : ℕ} {x : Refusal} → x ≡ record { reason = a; place = p } → x ≡ refusal (number a) p
  refused {p} q = q ∙ ap (λ b. record { reason = b; place = p }) (sym (reason_back a))

  pub piece_more : (x : Bool) (left : ℕ) {m : ℕ} {f want : Bool} {r : Verdict} → r ≡ pieces_at (number a) x nm left want cs (drop i ts) e → i < length ts → want ≡ true
      → f ≡ piece_test x cs (get_or ts i no_token) → f ≡ true → m ≡ left
      → r ≡ pieces_at (number a) nm nm m (not want) cs (drop (i + 1) ts) e
  unfolding pieces_at
  piece_more x left {want = want} {r = r} q h w g y o =
      let t = get_or ts i no_token in
      subst
      (λ k. r ≡ pieces_at (number a) nm nm k (not want) cs (drop (i + 1) ts) e)
      (sym o)
      (q ∙ rw (w, next_token ts i h, piece_yes x cs t (sym g ∙ y), pieces)
      (verdict_map (λ ws. content_in cs t ∷ ws) (pieces (number a) (test nm) (test nm) left false (tokens_in cs (drop (i + 1) ts)) e)))

  pub piece_stop : (x : Bool) (left : ℕ) {f want : Bool} {p : ℕ} {r : Verdict} {z : Refusal} → r ≡ pieces_at (number a) x nm left want cs (drop i ts) e → i < length ts
      → want ≡ true → f ≡ piece_test x cs (get_or ts i no_token) → f ≡ false
      → p ≡ place_in (get_or ts i no_token) → z ≡ record { reason = a; place = p } → Err z ≡ r
  unfolding pieces_at
  piece_stop x left q h w g y v z = ap Err (refused z) ∙ sym (q ∙ rw (w, next_token ts i h, piece_no x cs (get_or ts i no_token) (sym g ∙ y), pieces, ← v))

  pub dash_more : (x : Bool) (left : ℕ) {m : ℕ} {f want : Bool} {r : Verdict} → r ≡ pieces_at (number a) x nm left want cs (drop i ts) e → i < length ts → want ≡ false
      → f ≡ dash_test left (get_or ts i no_token) → f ≡ true → m ≡ left - 1
      → r ≡ pieces_at (number a) nm nm m (not want) cs (drop (i + 1) ts) e
  unfolding pieces_at
  dash_more x left q h w g y o = q ∙ rw (w, o, next_token ts i h, dash_yes left (number a) x nm cs (get_or ts i no_token) (drop (i + 1) ts) e (sym g ∙ y))

  pub dash_stop : (x : Bool) (left : ℕ) {f want : Bool} {p : ℕ} {r : Verdict} {z : Refusal} → r ≡ pieces_at (number a) x nm left want cs (drop i ts) e → i < length ts
      → want ≡ false → f ≡ dash_test left (get_or ts i no_token) → f ≡ false
      → p ≡ place_in (get_or ts i no_token) → z ≡ record { reason = a; place = p } → Err z ≡ r
  unfolding pieces_at
  dash_stop x left q h w g y v z =
      ap Err (refused z) ∙ sym (q ∙ rw (w, next_token ts i h, dash_no left (number a) x nm cs (get_or ts i no_token) (drop (i + 1) ts) e (sym g ∙ y), ← v))

  pub pieces_short : (x : Bool) (left : ℕ) {want : Bool} {r : Verdict} {z : Refusal} → r ≡ pieces_at (number a) x nm left want cs (drop i ts) e → length ts ≤ i → want ≡ true
      → z ≡ record { reason = a; place = e } → Err z ≡ r
  unfolding pieces_at
  pieces_short x left q h w z = ap Err (refused z) ∙ sym (q ∙ rw (w, drop_of_length-le ts h))

  pub pieces_fine : (x : Bool) (left : ℕ) {want : Bool} {r : Verdict} → r ≡ pieces_at (number a) x nm left want cs (drop i ts) e → length ts ≤ i → want ≡ false → Ok tt ≡ r
  unfolding pieces_at
  pieces_fine x left q h w = sym (q ∙ rw (w, drop_of_length-le ts h))

pub dash_left : (left : ℕ) (t : Entry) {f : Bool} → f ≡ dash_test left t → f ≡ true → 0 < left
unfolding dash_test
dash_left zero t g y = absurd (false≢true (sym g ∙ y))
dash_left (suc n) t g y = omega arith
