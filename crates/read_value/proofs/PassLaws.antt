-- The passes over a value are the rules' passes: where units and separators alternate, the joined units of the table are the ones that the rules read.
use Prim.Native.Nat.{ℕ, ◌+◌, ◌≤◌, ◌<◌}
use mathlib.Core.Path.{◌≡◌, refl, sym, ap, ◌∙◌}
use mathlib.Core.Bool.{Bool, true, false}
use mathlib.Core.List.{List, [], ◌∷◌, map}
use native.Mathlib.Omega.{arith}
use borrow.Author.Tests.{le-ltb, lt-leb, le-leb, ne_eqb, leb-true}
use lib.Dec.{leb, eqb}
use lib.ListN.{length, get_or, drop, drop_of_length-le}
use Rattle.laws.specs.Cases.{Always, by_bool}
use Rattle.rules.specs.Commands.{Element, sum, terms, value_count, first}
use Rattle.rules.specs.Groups.{Join, join, alternate, unit_after, joiner, read_units, elements, groups_of, collect}
use Rattle.rules.specs.Refusals.{Res, ok, bad, ◌>>=◌, map_r, guard, most_arguments, too_many_orders}
use Rattle.rules.specs.Tokens.{Lex, Sep, amp}
use Rattle.rules.specs.Units.{Base, letter, Unit, read_unit}
use Rattle.rules.proofs.ResultLaws.{by_res, ok_inj, ok≢bad, map_ok, bind_ok}
use Rattle.units.specs.Words.{Answer, refused_with, unit_under, read_as}
use Rattle.units.specs.declared.Word.{Word}
use Rattle.units.specs.declared.Word.TheVariants.{Numeral, Keyed, Identifier, Symbolic}
use Rattle.units.specs.declared.Fault.{Fault}
use Rattle.units.specs.declared.Fault.TheVariants.{Unreadable, TooBig}
use Rattle.std.proofs.Common.{Result, Ok, Err}
use Rattle.rules.specs.declared.Refusal.{Refusal}
use Rattle.rules.specs.Reasons.{refusal}
use Rattle.token_table.specs.declared.Token.{Token as Entry}
use Rattle.token_table.specs.declared.Kind.{Kind}
use Rattle.token_table.proofs.KindLaws.{next_token, other_kind}
use Rattle.units.proofs.WordLaws.{unit_is}
use Rattle.token_table.specs.Table.{number, kind_in, place_in, content_in, lex_of_kind, sep_of, tokens_in, Verdict, verdict, Alternates}
use Rattle.token_table.proofs.FindLaws.{first_place, place_in_lem}
use Rattle.token_table.proofs.AltLaws.{unit_kind, joiner_yes, joiner_none, wanted, verdict_ok, verdict_bad}
use Rattle.read_joins.specs.Joins.{or_text, unit_in, join_sep, joined, joins_in, no_token}
use Rattle.read_elements.specs.Walk.{value_answer}
use Rattle.read_elements.specs.declared.Value.{Value}
use Rattle.read_value.specs.Passes.{word_verdict, unit_verdict, or_next, units_verdict, limited, grouped_answer, Reads}

-- ---- one unit

word_verdict_lem : (p : ℕ) (w : List ℕ) (u : Answer) → verdict (read_as p w u) ≡ word_verdict p u
unfolding read_as
word_verdict_lem p w (Ok (Numeral l f v)) = refl
word_verdict_lem p w (Ok (Keyed k)) = refl
word_verdict_lem p w (Ok Identifier) = refl
word_verdict_lem p w (Ok Symbolic) = refl
word_verdict_lem p w (Err Unreadable) = refl
word_verdict_lem p w (Err TooBig) = refl

same_unit_lem : (p : ℕ) (w : List ℕ) (u : Answer) (i : Unit) → read_as p w u ≡ ok i → i ≡ or_text (read_as 0 w u)
unfolding read_as
same_unit_lem p w (Ok (Numeral l f v)) i h = sym (ok_inj h)
same_unit_lem p w (Ok (Keyed k)) i h = sym (ok_inj h)
same_unit_lem p w (Ok Identifier) i h = sym (ok_inj h)
same_unit_lem p w (Ok Symbolic) i h = sym (ok_inj h)
same_unit_lem p w (Err Unreadable) i h = ok≢bad h
same_unit_lem p w (Err TooBig) i h = ok≢bad h

module _ (b : Base) (cs : List ℕ) (t : Entry) where
  unit_verdict_lem : leb 10 (kind_in t) ≡ true → verdict (read_unit b (place_in t) (lex_of_kind (kind_in t) (content_in cs t))) ≡ unit_verdict (letter b) cs t
  unfolding lex_of_kind unit_verdict
  unit_verdict_lem h =
      let n = le-ltb (kind_in t) 10 (leb-true 10 (kind_in t) h) in
      by_bool (eqb (kind_in t) 10)
      (λ y. rw (n, y, ← unit_is b (place_in t) (content_in cs t)) (word_verdict_lem (place_in t) (content_in cs t) (unit_under (letter b) (content_in cs t))))
      (λ y. rw (n, y))

  pub unit_read : leb 10 (kind_in t) ≡ true → (i : Unit) → read_unit b (place_in t) (lex_of_kind (kind_in t) (content_in cs t)) ≡ ok i → i ≡ unit_in (letter b) cs t
  unfolding lex_of_kind unit_in
  unit_read h i e =
      let n = le-ltb (kind_in t) 10 (leb-true 10 (kind_in t) h) in
      by_bool (eqb (kind_in t) 10)
      (λ y. rw (n, y) (same_unit_lem (place_in t) (content_in cs t) (unit_under (letter b) (content_in cs t)) i (unit_is b (place_in t) (content_in cs t) ∙ rw (n, y) at e)))
      (λ y. rw (n, y) (sym (ok_inj (rw (n, y) at e))))

  sep_verdict : leb (kind_in t) 5 ≡ true → unit_verdict (letter b) cs t ≡ Ok tt
  unfolding unit_verdict
  sep_verdict h = let l = leb-true (kind_in t) 5 h in rw (ne_eqb (kind_in t) 10 (λ e. absurd (omega arith)))

  sep_is : leb (kind_in t) 5 ≡ true → sep_of (kind_in t) ≡ join_sep t
  sep_is h = rw h

-- ---- all units

verdict_bind : {A B : Type 0} (r : Res A) (R : Res (List B)) (f : A → B) → verdict (r >>= λ i. map_r (λ is. f i ∷ is) R) ≡ or_next (verdict r) (verdict R)
verdict_bind (ok a) (ok x) f = refl
verdict_bind (ok a) (bad n p) f = refl
verdict_bind (bad n p) R f = refl

units_verdict_lem : (b : Base) (cs : List ℕ) (ts : List Entry) (u : Bool) (s : Sep) (q e : ℕ) (js : List (Join Lex)) → alternate (wanted u s q) (tokens_in cs ts) e ≡ ok js
    → verdict (read_units b js) ≡ units_verdict (letter b) cs ts
unfolding units_verdict
units_verdict_lem b cs [] true s q e js h = ok≢bad h
units_verdict_lem b cs [] false s q e js h = rw (← ok_inj h)
units_verdict_lem b cs (t ∷ ts) true s q e js h =
    let k = kind_in t in let w = content_in cs t in
    by_bool (leb 10 k)
    (λ y. map_ok (λ js. join s q (place_in t) (lex_of_kind k w) ∷ js) (alternate joiner (tokens_in cs ts) e) js (rw (unit_kind k w ∙ y, alternate) at h)
    (λ js' h' z. rw (← z, ← unit_verdict_lem b cs t y, ← units_verdict_lem b cs ts false s q e js' h')
    (verdict_bind (read_unit b (place_in t) (lex_of_kind k w)) (read_units b js') (λ i. join s q (place_in t) i))))
    (λ y. ok≢bad (rw (unit_kind k w ∙ y, alternate) at h))
units_verdict_lem b cs (t ∷ ts) false s q e js h =
    let k = kind_in t in let w = content_in cs t in
    by_bool (leb k 5)
    (λ y. rw (sep_verdict b cs t y) (units_verdict_lem b cs ts true (sep_of k) (place_in t) e js (rw (joiner_yes k w y, alternate) at h)))
    (λ y. ok≢bad (rw (joiner_none k w y, alternate) at h))

abbrev joined_by : ℕ → List ℕ → Bool → Sep → ℕ → List Entry → List (Join Unit)
joined_by l cs true s q [] = []
joined_by l cs true s q (t ∷ ts) = join s q (place_in t) (unit_in l cs t) ∷ joined l cs ts
joined_by l cs false s q ts = joined l cs ts

joined_step : (l : ℕ) (cs : List ℕ) (t : Entry) (ts : List Entry) → joined l cs (t ∷ ts) ≡ joined_by l cs true (join_sep t) (place_in t) ts
joined_step l cs t [] = refl
joined_step l cs t (x ∷ ts) = refl

pub joins_are : (b : Base) (cs : List ℕ) (ts : List Entry) (u : Bool) (s : Sep) (q e : ℕ) (js : List (Join Lex)) (is : List (Join Unit))
    → alternate (wanted u s q) (tokens_in cs ts) e ≡ ok js
    → read_units b js ≡ ok is → is ≡ joined_by (letter b) cs u s q ts
joins_are b cs [] true s q e js is h g = ok≢bad h
joins_are b cs [] false s q e js is h g = sym (ok_inj (rw (← ok_inj h) at g))
joins_are b cs (t ∷ ts) true s q e js is h g =
    let k = kind_in t in let w = content_in cs t in
    by_bool (leb 10 k)
    (λ y. map_ok (λ js. join s q (place_in t) (lex_of_kind k w) ∷ js) (alternate joiner (tokens_in cs ts) e) js (rw (unit_kind k w ∙ y, alternate) at h)
    (λ js' h' z. bind_ok (read_unit b (place_in t) (lex_of_kind k w)) (λ i. map_r (λ is. join s q (place_in t) i ∷ is) (read_units b js')) is (rw (← z) at g)
    (λ i hi hr. map_ok (λ is. join s q (place_in t) i ∷ is) (read_units b js') is hr
    (λ is' hr' z'. rw (← z', ← joins_are b cs ts false s q e js' is' h' hr', ← unit_read b cs t y i hi)))))
    (λ y. ok≢bad (rw (unit_kind k w ∙ y, alternate) at h))
joins_are b cs (t ∷ ts) false s q e js is h g =
    let k = kind_in t in let w = content_in cs t in
    by_bool (leb k 5)
    (λ y. rw (joined_step (letter b) cs t ts, ← sep_is b cs t y) (joins_are b cs ts true (sep_of k) (place_in t) e js is (rw (joiner_yes k w y, alternate) at h) g))
    (λ y. ok≢bad (rw (joiner_none k w y, alternate) at h))

-- ---- the loop over the units

module _ (b : ℕ) (cs : List ℕ) (ts : List Entry) (i : ℕ) where
  pub units_more : {u : Always} {r : Verdict} → r ≡ units_verdict b cs (drop i ts) → i < length ts → Ok u ≡ unit_verdict b cs (get_or ts i no_token)
      → r ≡ units_verdict b cs (drop (i + 1) ts)
  unfolding units_verdict
  units_more q h e = q ∙ rw (next_token ts i h, ← e)

  pub units_stop : {x : Refusal} {r : Verdict} → r ≡ units_verdict b cs (drop i ts) → i < length ts → Err x ≡ unit_verdict b cs (get_or ts i no_token) → Err x ≡ r
  unfolding units_verdict
  units_stop q h e = sym (q ∙ rw (next_token ts i h, ← e))

  pub units_end : {r : Verdict} → r ≡ units_verdict b cs (drop i ts) → length ts ≤ i → Ok tt ≡ r
  unfolding units_verdict
  units_end q h = sym (q ∙ rw (drop_of_length-le ts h))

module _ (b : ℕ) (cs : List ℕ) (t : Entry) where
  word_at : {w : List ℕ} {u : Answer} → Entry.kind t ≡ Kind.Word → w ≡ content_in cs t → u ≡ unit_under b w → unit_verdict b cs t ≡ word_verdict (place_in t) u
  unfolding unit_verdict
  word_at h w u = let k : kind_in t ≡ 10 = ap number h in rw (k, u, w)

  pub word_fine : {w : List ℕ} {u : Word} → Entry.kind t ≡ Kind.Word → w ≡ content_in cs t → Ok u ≡ unit_under b w → Ok tt ≡ unit_verdict b cs t
  word_fine h w u = sym (word_at h w u)

  pub word_bad : {w : List ℕ} {f : Fault} {p : ℕ} {x : Refusal} → Entry.kind t ≡ Kind.Word → w ≡ content_in cs t → Err f ≡ unit_under b w → p ≡ place_in t
      → x ≡ refused_with f p → Err x ≡ unit_verdict b cs t
  word_bad h w u p x = rw (x, p) (sym (word_at h w u))

  pub word_none : (Entry.kind t ≡ Kind.Word → ⊥) → Ok tt ≡ unit_verdict b cs t
  unfolding unit_verdict
  word_none h = rw (ne_eqb (kind_in t) 10 (other_kind h))

-- ---- the whole value

count_test : (v : List Element) → leb (value_count v) most_arguments ≡ leb (sum (map terms v)) most_arguments
count_test [] = refl
count_test (e ∷ es) = refl

limit_is : (p : ℕ) (v : Res (List Element)) → limited p (value_answer v) ≡ value_answer (v >>= λ v. guard (leb (value_count v) most_arguments) too_many_orders p >>= λ _. ok v)
limit_is p (ok v) = by_bool (leb (sum (map terms v)) most_arguments) (λ y. rw (count_test v, y)) (λ y. rw (count_test v, y))
limit_is p (bad n q) = refl

pub joins_all : (l : ℕ) (cs : List ℕ) (ts : List Entry) → joined_by l cs true amp 0 ts ≡ joins_in l cs ts
unfolding joins_in
joins_all l cs [] = refl
joins_all l cs (t ∷ ts) = refl

-- from 12 on, pass by pass
module _ (b : ℕ) (cs : List ℕ) (ts : List Entry) where
  pub grouped_bad : {x : Refusal} → Err x ≡ units_verdict b cs ts → Err x ≡ grouped_answer b cs ts
  unfolding grouped_answer
  grouped_bad e = rw (← e)

  module _ {u : Always} (e : Ok u ≡ units_verdict b cs ts) where
    pub grouped_fault : {x : Refusal} → Err x ≡ value_answer (elements (groups_of (collect (joins_in b cs ts)))) → Err x ≡ grouped_answer b cs ts
    unfolding grouped_answer
    grouped_fault v = rw (← e, ← v)

    pub grouped_many : {v : Value} {p : ℕ} {x : Refusal} → Ok v ≡ value_answer (elements (groups_of (collect (joins_in b cs ts)))) → most_arguments < v.args
        → p ≡ place_in (get_or ts 0 no_token) → x ≡ refusal too_many_orders p → Err x ≡ grouped_answer b cs ts
    unfolding grouped_answer
    grouped_many {v} a h p x = rw (x, p, ← e, ← a, lt-leb v.args most_arguments h)

    pub grouped_fine : {v : Value} → Ok v ≡ value_answer (elements (groups_of (collect (joins_in b cs ts)))) → v.args ≤ most_arguments → Ok v ≡ grouped_answer b cs ts
    unfolding grouped_answer
    grouped_fine {v} a h = rw (← e, ← a, le-leb v.args most_arguments h)

pub some_token : (ts : List Entry) (e : ℕ) {u : Always} → Alternates ts e (Ok u) → 0 < length ts
some_token [] e a = let z = a [] in absurd cc
some_token (t ∷ ts) e a = omega arith

pub read_refused : (ts : List Entry) (cs : List ℕ) (l e : ℕ) {x : Refusal} → Alternates ts e (Err x) → Reads ts cs l e (Err x)
read_refused ts cs l e {x} a b m =
    verdict_bad (alternate (unit_after amp 0) (tokens_in cs ts) e) x (sym (a cs)) (λ n p h q. rw (h, q))

pub read_fine : (ts : List Entry) (cs : List ℕ) (l e : ℕ) {u : Always} {r : Result Value Refusal} → Alternates ts e (Ok u) → r ≡ grouped_answer l cs ts → Reads ts cs l e r
unfolding grouped_answer
read_fine ts cs l e {u} {r} a q b m =
    let p0 = first_place cs ts e ∙ place_in_lem ts 0 e (some_token ts e a) in
    verdict_ok (alternate (unit_after amp 0) (tokens_in cs ts) e) (sym (a cs))
    (λ js y.
    let uv = units_verdict_lem b cs ts true amp 0 e js y in
    by_res (read_units b js)
    (λ is g.
    let z : is ≡ joins_in (letter b) cs ts = joins_are b cs ts true amp 0 e js is y g ∙ joins_all (letter b) cs ts in
    rw (q, m, ← uv, y, g, z, ← p0) (limit_is (first (tokens_in cs ts) e) (elements (groups_of (collect (joins_in (letter b) cs ts))))))
    (λ n p g. rw (q, m, ← uv, y, g)))
