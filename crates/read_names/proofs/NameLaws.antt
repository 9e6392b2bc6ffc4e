-- Keys and names are worked out piece by piece, and the places of a table one behind the other.
use Prim.Native.Nat.{ℕ, suc, ◌+◌, ◌-◌, ◌≤◌, ◌<◌}
use mathlib.Core.Path.{◌≡◌, refl, sym, ap, ◌∙◌, subst}
use mathlib.Core.Bool.{Bool, true, false, ◌||◌}
use mathlib.Core.List.{List, [], ◌∷◌, ◌++◌, append_assoc}
use native.Mathlib.Numerals.{add-one}
use native.Mathlib.Omega.{arith}
use borrow.Author.Tests.{eq-eqb, eqb-true, le-leb, lt-leb, ltb-true, ltb-false}
use lib.Dec.{leb, ltb, eqb}
use lib.ListN.{length, get_or, take, drop, length-append, length-drop, drop_of_length-le}
use lib.Seq.{drop-drop, drop_at, take-append-le, take-add, take-suc, get_or-drop}
use Rattle.laws.specs.Cases.{by_bool}
use Rattle.laws.specs.Lists.{any, eq_l}
use Rattle.rules.specs.Commands.{Name, same_name}
use Rattle.rules.specs.Tokens.{comma, equals, sep_code}
use Rattle.token_table.specs.declared.Token.{Token as Entry}
use Rattle.token_table.specs.Table.{kind_in, content_in}
use Rattle.token_table.specs.Parts.{before, words_in}
use Rattle.token_table.proofs.KindLaws.{no_token}
use Rattle.token_table.proofs.WordLaws.{words_next}
use Rattle.marks.specs.Marks.{key_of, marked, added}
use Rattle.marks.specs.declared.Marks.{Marks}
use Rattle.marks.proofs.MarkLaws.{added_marked}
use Rattle.marks.proofs.MetLaws.{not_met, still_marked}
use Rattle.read_names.specs.Names.{name_key, name_in, NamesOf, none, more, Stands, Known}

-- ---- the key of a name

pub key_more : (k : ℕ) {s j : ℕ} {w : List ℕ} {ws vs : List (List ℕ)} → s ≡ name_key k ws → ws ≡ w ∷ vs → j ≡ key_of k w → s ≡ name_key j vs
unfolding name_key
key_more k q h e = q ∙ rw (h, e)

pub key_end : {s k : ℕ} {ws : List (List ℕ)} → s ≡ name_key k ws → ws ≡ [] → k ≡ s
unfolding name_key
key_end q h = sym (q ∙ rw h)

-- ---- two names

-- from index i on they are equal where the wholes are
abbrev pub Alike : List ℕ → List Entry → List Entry → ℕ → Type 0
Alike cs a b i = same_name (words_in true cs a) (words_in true cs b) ≡ same_name (words_in true cs (drop i a)) (words_in true cs (drop i b))

module _ (cs : List ℕ) (a b : List Entry) (i : ℕ) (q : Alike cs a b i) where
  pub alike_more : {t : Bool} → i < length a → i < length b → t ≡ eq_l (content_in cs (get_or a i no_token)) (content_in cs (get_or b i no_token)) → t ≡ true → Alike cs a b (i + 2)
  alike_more h k e y = q ∙ rw (words_next cs a i h, words_next cs b i k, ← e, y)

  pub alike_stop : {t : Bool} → i < length a → i < length b → t ≡ eq_l (content_in cs (get_or a i no_token)) (content_in cs (get_or b i no_token)) → t ≡ false
      → false ≡ same_name (words_in true cs a) (words_in true cs b)
  alike_stop h k e y = sym (q ∙ rw (words_next cs a i h, words_next cs b i k, ← e, y))

  pub alike_end : length a ≤ i → leb (length b) i ≡ same_name (words_in true cs a) (words_in true cs b)
  unfolding words_in
  alike_end h =
      by_bool (ltb i (length b))
      (λ y. let k = ltb-true i (length b) y in rw (lt-leb (length b) i k) (sym (q ∙ rw (drop_of_length-le a h, words_next cs b i k))))
      (λ y. let k = ltb-false i (length b) y in rw (le-leb (length b) i k) (sym (q ∙ rw (drop_of_length-le a h, drop_of_length-le b k))))

  pub alike_longer : i < length a → length b ≤ i → false ≡ same_name (words_in true cs a) (words_in true cs b)
  unfolding words_in
  alike_longer h k = sym (q ∙ rw (words_next cs a i h, drop_of_length-le b k))

-- ---- the places of a table

before_in : (k : ℕ) (p r : List Entry) → before k p < length p → before k (p ++ r) ≡ before k p
unfolding before
before_in k [] r h = absurd (omega arith)
before_in k (t ∷ p) r h =
    by_bool (eqb (kind_in t) k)
    (λ y. rw y)
    (λ y. let h' : suc (before k p) < suc (length p) = rw y at h in rw y (ap suc (before_in k p r (omega arith))))

before_past : (k : ℕ) (p : List Entry) (c : Entry) (r : List Entry) → before k p ≡ length p → kind_in c ≡ k → before k (p ++ (c ∷ r)) ≡ length p
unfolding before
before_past k [] c r h e = rw (eq-eqb (kind_in c) k e)
before_past k (t ∷ p) c r h e =
    by_bool (eqb (kind_in t) k)
    (λ y. let z : 0 ≡ suc (length p) = rw y at h in absurd (omega arith))
    (λ y. let z : suc (before k p) ≡ suc (length p) = rw y at h in rw y (ap suc (before_past k p c r (omega arith) e)))

-- a place at the front: its name is the first of the names, and the others stand behind its `,`
record PlaceHere (cs : List ℕ) (ts : List Entry) (ns : List Name) : Type 0 where
  rest : List Name
  are : ns ≡ name_in cs ts ∷ rest
  behind : NamesOf cs (drop (before (sep_code comma) ts + 1) ts) rest

place_here : (cs : List ℕ) (ts : List Entry) (ns : List Name) → NamesOf cs ts ns → 0 < length ts → PlaceHere cs ts ns
place_here cs [] ns none h = absurd (omega arith)
place_here cs ts ns (more p c {ts = us} {ns = ms} e k g m) h =
    let q : before (sep_code equals) (p ++ (c ∷ us)) ≡ before (sep_code equals) p = before_in (sep_code equals) p (c ∷ us) e in
    let n : before (sep_code comma) (p ++ (c ∷ us)) ≡ length p = before_past (sep_code comma) p c us k g in
    record {
      rest = ms;
      are = ap (λ (x : Name). x ∷ ms) (rw (q, take-append-le (before (sep_code equals) p) p (c ∷ us) (omega arith)));
      behind = rw (n, ← drop-drop 1 (length p) (p ++ (c ∷ us)), drop_at p (c ∷ us) (length p) refl) m;
    }

no_names : (cs : List ℕ) (ts : List Entry) (ns : List Name) → NamesOf cs ts ns → length ts ≡ 0 → ns ≡ []
no_names cs [] ns none h = refl
no_names cs ts ns (more p c {ts = us} e k g m) h = absurd (omega (arith, length-append p (c ∷ us)))

-- up to index i no place has the name
pub record Walked (cs : List ℕ) (ts : List Entry) (nm : Name) (ns : List Name) (i : ℕ) : Type 0 where
  pub left : List Name
  pub are : NamesOf cs (drop i ts) left
  pub same : any (same_name nm) ns ≡ any (same_name nm) left

-- the same, whatever names stand in the table
abbrev pub Walking : List ℕ → List Entry → Name → ℕ → Type 0
Walking cs ts nm i = (ns : List Name) → NamesOf cs ts ns → Walked cs ts nm ns i

pub walk_start : (cs : List ℕ) (ts : List Entry) (nm : Name) → Walking cs ts nm 0
walk_start cs ts nm ns m = record { left = ns; are = m; same = refl }

module _ {cs : List ℕ} {ts : List Entry} {nm : Name} {ns : List Name} {i : ℕ} (w : Walked cs ts nm ns i) where
  here : i < length ts → PlaceHere cs (drop i ts) w.left
  here h = place_here cs (drop i ts) w.left w.are (omega (arith, length-drop i ts))

  -- whether the place at i has the name decides of it and those behind it
  turn : {q : ℕ} {t : Bool} (h : i < length ts) → q ≡ i + before (sep_code equals) (drop i ts) → t ≡ same_name nm (words_in true cs (take (q - i) (drop i ts)))
      → any (same_name nm) ns ≡ t || any (same_name nm) (here h).rest
  turn {q} {t} h e s =
      let n : q - i ≡ before (sep_code equals) (drop i ts) = omega arith in
      let z : t ≡ same_name nm (name_in cs (drop i ts)) = s ∙ ap (λ (x : ℕ). same_name nm (words_in true cs (take x (drop i ts)))) n in
      w.same ∙ ap (any (same_name nm)) (here h).are ∙ ap (λ (b : Bool). b || any (same_name nm) (here h).rest) (sym z)

module _ (cs : List ℕ) (ts : List Entry) (nm : Name) (i : ℕ) (w : Walking cs ts nm i) where
  module _ {q : ℕ} {t : Bool} (h : i < length ts) (e : q ≡ i + before (sep_code equals) (drop i ts)) (s : t ≡ same_name nm (words_in true cs (take (q - i) (drop i ts)))) where
    pub walk_found : t ≡ true → Stands cs ts nm true
    walk_found y ns m = sym (turn (w ns m) h e s ∙ rw y)

    pub walk_more : {k : ℕ} → t ≡ false → k ≡ i + before (sep_code comma) (drop i ts) → Walking cs ts nm (k + 1)
    walk_more {k} y z ns m =
        let p = here (w ns m) h in
        let n : i + (before (sep_code comma) (drop i ts) + 1) ≡ k + 1 = omega arith in
        record {
          left = p.rest;
          are = subst (λ (l : List Entry). NamesOf cs l p.rest) (drop-drop (before (sep_code comma) (drop i ts) + 1) i ts ∙ ap (λ (x : ℕ). drop x ts) n) p.behind;
          same = turn (w ns m) h e s ∙ rw y;
        }

  pub walk_end : length ts ≤ i → Stands cs ts nm false
  walk_end h ns m = let v = w ns m in sym (v.same ∙ rw (no_names cs (drop i ts) v.left v.are (omega (arith, length-drop i ts))))

-- ---- marks

module _ {cs : List ℕ} {ts : List Entry} {m : Marks} {ns : List Name} (v : Known cs ts m ns) (nm : Name) where
  -- the name is looked for among the places where its key is marked
  pub tell_looked : {r : Bool} → Stands cs ts nm r → r ≡ any (same_name nm) ns
  tell_looked s = s v.names v.are ∙ sym (v.same nm)

  pub tell_new : {k : ℕ} {t : Bool} → k ≡ name_key 0 nm → t ≡ marked m k → t ≡ false → t ≡ any (same_name nm) ns
  tell_new e q y = y ∙ sym (not_met (name_key 0) m nm ns v.marks (rw (← e) (sym q ∙ y)))

-- ---- one place more is known

names_snoc : {cs : List ℕ} {ts : List Entry} {ns : List Name} (p : List Entry) (c : Entry) → before (sep_code equals) p < length p → before (sep_code comma) p ≡ length p
    → kind_in c ≡ sep_code comma → NamesOf cs ts ns → NamesOf cs (ts ++ (p ++ (c ∷ []))) (ns ++ (name_in cs p ∷ []))
names_snoc p c e k g none = more p c e k g none
names_snoc {cs} p c e k g (more o d {ts = ts} {ns = ns} e' k' g' m) =
    subst (λ (l : List Entry). NamesOf cs l (name_in cs o ∷ (ns ++ (name_in cs p ∷ [])))) (sym (append_assoc o (d ∷ ts) (p ++ (c ∷ []))))
    (more o d e' k' g' (names_snoc p c e k g m))

any_snoc : (f : Name → Bool) (xs : List Name) (y : Name) → any f (xs ++ (y ∷ [])) ≡ f y || any f xs
any_snoc f [] y = refl
any_snoc f (x ∷ xs) y =
    by_bool (f x)
    (λ h. by_bool (f y) (λ k. rw (h, k)) (λ k. rw (h, k)))
    (λ h. rw h (any_snoc f xs y))

pub known_none : (cs : List ℕ) (m : Marks) → Known cs [] m []
known_none cs m = record { names = []; are = none; same = λ nm. refl; marks = refl }

pub known_more : {cs : List ℕ} {ts : List Entry} {m : Marks} {ns : List Name} (p : List Entry) (c : Entry) → before (sep_code equals) p < length p → before (sep_code comma) p ≡ length p
    → kind_in c ≡ sep_code comma → Known cs ts m ns → Known cs (ts ++ (p ++ (c ∷ []))) (added m (name_key 0 (name_in cs p))) (name_in cs p ∷ ns)
known_more {cs} {ts} {m} {ns} p c e k g v =
    let x : Name = name_in cs p in
    record {
      names = v.names ++ (x ∷ []);
      are = names_snoc p c e k g v.are;
      same = λ nm. ap (λ (b : Bool). same_name nm x || b) (v.same nm) ∙ sym (any_snoc (same_name nm) v.names x);
      marks = rw (added_marked m (name_key 0 x), still_marked (name_key 0) m (name_key 0 x) ns v.marks);
    }

-- ---- the next place of a table

before_part : (k : ℕ) (xs : List Entry) → before k (take (before k xs) xs) ≡ length (take (before k xs) xs)
unfolding before
before_part k [] = refl
before_part k (x ∷ xs) = by_bool (eqb (kind_in x) k) (λ y. rw y) (λ y. rw y (rw y (ap suc (before_part k xs))))

before_kind : (k : ℕ) (xs : List Entry) → before k xs < length xs → kind_in (get_or xs (before k xs) no_token) ≡ k
unfolding before
before_kind k [] h = absurd (omega arith)
before_kind k (x ∷ xs) h =
    by_bool (eqb (kind_in x) k)
    (λ y. rw y (eqb-true (kind_in x) k y))
    (λ y. let h' : suc (before k xs) < suc (length xs) = rw y at h in rw y (before_kind k xs (omega arith)))

-- the place that begins at i and ends with the `,` at j
pub known_next : {cs : List ℕ} (ts : List Entry) (i : ℕ) {j : ℕ} {m : Marks} {ns : List Name} → i ≤ length ts → j ≡ i + before (sep_code comma) (drop i ts) → j < length ts
    → (let ps = take (j - i) (drop i ts) in before (sep_code equals) ps < length ps → Known cs (take i ts) m ns
    → Known cs (take (j + 1) ts) (added m (name_key 0 (name_in cs ps))) (name_in cs ps ∷ ns))
known_next {cs} ts i {j} {m} {ns} h q l e v =
    let b : ℕ = before (sep_code comma) (drop i ts) in
    let n : b ≡ j - i = omega arith in
    let ps : List Entry = take (j - i) (drop i ts) in
    let c : Entry = get_or ts j no_token in
    let whole : before (sep_code comma) ps ≡ length ps = subst (λ (x : ℕ). before (sep_code comma) (take x (drop i ts)) ≡ length (take x (drop i ts))) n (before_part (sep_code comma) (drop i ts)) in
    let there : get_or (drop i ts) b no_token ≡ c = get_or-drop i ts b no_token ∙ ap (λ (x : ℕ). get_or ts x no_token) (sym q) in
    let kind : kind_in c ≡ sep_code comma = subst (λ (x : Entry). kind_in x ≡ sep_code comma) there (before_kind (sep_code comma) (drop i ts) (omega (arith, length-drop i ts))) in
    let up : i + (j - i) ≡ j = omega arith in
    let split : take (j + 1) ts ≡ take i ts ++ (ps ++ (c ∷ []))
    = rw (add-one j, take-suc ts j no_token l) (ap (λ (l : List Entry). l ++ (c ∷ [])) (ap (λ (x : ℕ). take x ts) (sym up) ∙ take-add i (j - i) ts) ∙ append_assoc (take i ts) ps (c ∷ [])) in
    subst (λ (l : List Entry). Known cs l (added m (name_key 0 (name_in cs ps))) (name_in cs ps ∷ ns)) (sym split) (known_more ps c e whole kind v)
