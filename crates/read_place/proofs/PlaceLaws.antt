-- A place in code is the rule's place: the tokens before and behind `=` are parts of the table, and the bytes of its fields add up.
use Prim.Native.Nat.{ℕ, zero, suc, ◌+◌, ◌-◌, ◌≤◌, ◌<◌}
use mathlib.Core.Path.{◌≡◌, refl, sym, ap, ◌∙◌, subst}
use mathlib.Core.Bool.{Bool, true, false, not, beq, false≢true}
use mathlib.Core.List.{List, [], ◌∷◌, ◌++◌, map}
use native.Mathlib.Omega.{arith}
use lib.Dec.{ltb}
use borrow.Author.Tests.{ltb-true, ltb-false, le-ltb, lt-ltb}
use mir.Syntax.{w32}
use mir.Val.{Fits}
use lib.ListN.{length, get_or, take, drop, length-append, length-drop}
use lib.Seq.{take-nil, take_all}
use Rattle.rules.proofs.ReadSteps.{named_read, place_read as place_read_lem, value_read_lem}
use Rattle.laws.specs.Lists.{any, is_nil}
use Rattle.rules.specs.Commands.{Name, same_name, Element, Place, place, place_name, sum, terms, value_count, first, seg, cut_at, is_cut, pieces, is_piece}
use Rattle.rules.specs.Groups.{read_value}
use Rattle.rules.specs.Reading.{Placed, placed, unplaced, read_position, read_named, read_place}
use Rattle.rules.specs.Records.{Field, field, bytes_of, many, element_fields}
use Rattle.rules.specs.Refusals.{ok, bad}
use Rattle.rules.specs.Tokens.{equals, sep_code}
use Rattle.rules.specs.Units.{Base, plain, r_d, letter, is_identifier}
use Rattle.rules.proofs.FieldLaws.{bytes_append}
use Rattle.rules.proofs.ReadSound.{value_some}
use Rattle.rules.proofs.ResultLaws.{by_res, ok≢bad}
use Rattle.token_table.specs.Table.{place_in, tokens_in}
use Rattle.token_table.proofs.AltLaws.{verdict_ok, verdict_bad}
use Rattle.std.proofs.Common.{Result, Ok, Err}
use Rattle.rules.specs.declared.Refusal.{Refusal}
use Rattle.rules.specs.Reasons.{refusal}
use Rattle.laws.specs.Cases.{Always, by_bool}
use Rattle.token_table.specs.declared.Token.{Token as Entry}
use Rattle.token_table.specs.Parts.{before, place_or, words_in, words_size, capped}
use Rattle.token_table.proofs.FindLaws.{first_place, cut_at_lem, cut_none, is_cut_lem}
use Rattle.token_table.proofs.WordLaws.{pieces_words, words_bytes, cap_cap}
use Rattle.marks.specs.declared.Marks.{Marks}
use Rattle.read_names.specs.Names.{name_key, name_in, Known, IsTwice}
use Rattle.read_pieces.specs.Pieces.{pieces_at}
use Rattle.read_elements.specs.Walk.{value_answer}
use Rattle.read_elements.specs.declared.Value.{Value}
use Rattle.read_value.specs.Passes.{Faultless, Reads}
use Rattle.value_fields.specs.Measure.{ValueLen}
use Rattle.read_place.specs.Places.{no_token, value_size, place_size, value_read, place_read, Sized, cut_in, ReadsNamed, KnownIf}
use Rattle.read_place.specs.declared.PlaceRead.{PlaceRead}

-- ---- the value

pub cap_right : (h n : ℕ) → capped (h + capped n) ≡ capped (h + n)
cap_right h n =
    let a : h + capped n ≡ capped n + h = omega arith in
    let b : n + h ≡ h + n = omega arith in
    rw (a, cap_cap n h, b)

-- the bytes of a value, capped at each step
pub sized : (ts : List Entry) (cs : List ℕ) (l h : ℕ) {n m r : ℕ} → ValueLen ts cs l n → m ≡ capped n → r ≡ capped (h + m) → Sized ts cs l h r
sized ts cs l h {n} {m} {r} w q z b g e v y = rw (z, q, w b e v g y) (cap_right h (value_size v))

-- a value that is read: its tokens and its number of arguments
record HasRead (ts : List Entry) (cs : List ℕ) (b : Base) (e a : ℕ) : Type 0 where
  v : List Element
  is : read_value b (tokens_in cs ts) e ≡ ok v
  some : 0 < length ts
  args : a ≡ value_count v
  few : a ≤ 4096

some_token : (b : Base) (ts : List Entry) (cs : List ℕ) (e : ℕ) (v : List Element) → read_value b (tokens_in cs ts) e ≡ ok v → 0 < length ts
some_token b [] cs e v h = ok≢bad h
some_token b (t ∷ ts) cs e v h = omega arith

count_is : (v : List Element) → is_nil v ≡ false → sum (map terms v) ≡ value_count v
count_is [] h = absurd (false≢true (sym h))
count_is (x ∷ v) h = refl

fine_is : (ts : List Entry) (cs : List ℕ) (l : ℕ) (b : Base) (h k e a : ℕ) {p z : ℕ} → HasRead ts cs b e a → l ≡ letter b → p ≡ place_in (get_or ts 0 no_token) → Sized ts cs l h z
    → Ok (record { args = a; at = p; bytes = z; key = k }) ≡ value_read h k (place_or ts e) (read_value b (tokens_in cs ts) e)
fine_is [] cs l b h k e a g m q w = absurd (omega (arith, g.some))
fine_is (t ∷ ts) cs l b h k e a g m q w = rw (g.is, w b m e g.v g.is, q, g.args)

module _ (ts : List Entry) (cs : List ℕ) (b : Base) (e l : ℕ) (own : l ≡ letter b) where
  module _ {u : Value} (reads : Reads ts cs l e (Ok u)) where
    has_read : HasRead ts cs b e u.args
    has_read =
        by_res (read_value b (tokens_in cs ts) e)
        (λ v y.
        let z : Ok u ≡ value_answer (ok v) = reads b own ∙ ap value_answer y in
        let q : u ≡ record { count = length v; args = sum (map terms v) } = cc in
        let s : u.args ≡ sum (map terms v) = ap (λ (x : Value). x.args) q in
        let n : u.args ≡ value_count v = s ∙ count_is v (value_some b (tokens_in cs ts) e v y) in
        record { v = v; is = y; some = some_token b ts cs e v y; args = n; few = omega (arith, (value_read_lem b (tokens_in cs ts) e v y).few) })
        (λ n p y. let z : Ok u ≡ value_answer (bad n p) = reads b own ∙ ap value_answer y in absurd cc)

    pub args_fit : Fits w32 u.args
    args_fit = omega (arith, has_read)

    pub tokens_some : 0 < length ts
    tokens_some = has_read.some

    pub faultless : Faultless ts cs l
    faultless = record { base = b; own = own; end = e; es = has_read.v; is = has_read.is }

    pub value_fine : (h key : ℕ) {p z : ℕ} → p ≡ place_in (get_or ts 0 no_token) → Sized ts cs l h z
        → Ok (record { args = u.args; at = p; bytes = z; key = key }) ≡ value_read h key (place_or ts e) (read_value b (tokens_in cs ts) e)
    value_fine h key q w = fine_is ts cs l b h key e u.args has_read own q w

  pub value_wrong : (h key : ℕ) {x : Refusal} → Reads ts cs l e (Err x) → Err x ≡ value_read h key (place_or ts e) (read_value b (tokens_in cs ts) e)
  value_wrong h key {x} reads =
      by_res (read_value b (tokens_in cs ts) e)
      (λ v y. let w : Err x ≡ value_answer (ok v) = reads b own ∙ ap value_answer y in absurd cc)
      (λ m o y.
      let w : Err x ≡ value_answer (bad m o) = reads b own ∙ ap value_answer y in
      let i : x ≡ refusal m o = cc in
      rw (y, i))

-- ---- the bytes of a place's fields

pub bytes_length : (xs ys : List Field) → length (bytes_of (xs ++ ys)) ≡ length (bytes_of xs) + length (bytes_of ys)
bytes_length xs ys = rw (bytes_append xs ys) (length-append (bytes_of xs) (bytes_of ys))

pub place_size_lem : (b : Base) (nm : List (List ℕ)) (v : List Element) → place_size (place b nm v) ≡ 4 + words_size nm + value_size v
place_size_lem b nm v = rw (bytes_length (map (λ w. field 4 w) nm) (many element_fields v), words_bytes 4 nm) (omega arith)

-- ---- by position

pub position_none : (ts : List Entry) (cs : List ℕ) (b : Base) (e : ℕ) → length ts ≡ 0 → Ok (record { args = 1; at = e; bytes = 4; key = 0 }) ≡ place_read (read_position b (tokens_in cs ts) e)
unfolding capped name_key
position_none [] cs b e h = refl
position_none (t ∷ ts) cs b e h = absurd (omega arith)

no_words : (n : ℕ) → 4 + words_size [] + n ≡ 4 + n
unfolding words_size
no_words n = omega arith

pub position_some : (ts : List Entry) (cs : List ℕ) (b : Base) (e : ℕ) {r : Result PlaceRead Refusal} → (length ts ≡ 0 → ⊥) → r ≡ value_read 4 0 (place_or ts e) (read_value b (tokens_in cs ts) e)
    → r ≡ place_read (read_position b (tokens_in cs ts) e)
unfolding name_key
position_some [] cs b e h q = absurd (h refl)
position_some (t ∷ ts) cs b e h q =
    q ∙ by_res (read_value b (tokens_in cs (t ∷ ts)) e)
    (λ v y. rw (y, place_size_lem b [] v, no_words (value_size v)))
    (λ n p y. rw y)

-- ---- by name

-- the name's first token is the place's
name_first : (cs : List ℕ) (ts : List Entry) (q o e : ℕ) (ws : Name) → pieces 10 is_identifier is_piece 3 true (tokens_in cs (take q ts)) o ≡ ok ws
    → place_or ts e ≡ first (tokens_in cs (take q ts)) (place_in (get_or ts q no_token))
name_first cs [] q o e ws a = ok≢bad (rw (take-nil q) at a)
name_first cs (t ∷ ts) zero o e ws a = ok≢bad a
name_first cs (t ∷ ts) (suc q) o e ws a = refl

module _ (us ts : List Entry) (cs : List ℕ) (b : Base) (q : ℕ) (m : Marks) (e : ℕ) (ns : List Name) where
  pub named_wrong : {o : ℕ} {x : Refusal} → o ≡ place_in (get_or ts q no_token) → Err x ≡ pieces_at 10 false true 3 true cs (take q ts) o
      → Err x ≡ place_read (read_named b ns (cut_in cs ts q) e)
  unfolding pieces_at
  named_wrong {o} {x} i j =
      verdict_bad (pieces 10 is_identifier is_piece 3 true (tokens_in cs (take q ts)) o) x (sym j)
      (λ n p a y.
      let z : pieces 10 is_identifier is_piece 3 true (tokens_in cs (take q ts)) (place_in (get_or ts q no_token)) ≡ bad n p = rw (← i) a in
      rw (y, z))

  module _ {o k : ℕ} {d : Always} {t : Bool} (w : Known cs us m ns) (i : o ≡ place_in (get_or ts q no_token)) (j : Ok d ≡ pieces_at 10 false true 3 true cs (take q ts) o)
      (c : k ≡ name_key 0 (words_in true cs (take q ts))) (u : IsTwice cs us m k (words_in true cs (take q ts)) t) where
    -- the name that is read, its key, and whether it is one of the known
    record Named : Type 0 where
      ws : Name
      is : pieces 10 is_identifier is_piece 3 true (tokens_in cs (take q ts)) (place_in (get_or ts q no_token)) ≡ ok ws
      words : ws ≡ words_in true cs (take q ts)
      key : name_key 0 ws ≡ k
      twice : any (same_name ws) ns ≡ t
      begins : place_or ts e ≡ first (tokens_in cs (take q ts)) (place_in (get_or ts q no_token))

    named : Named
    unfolding pieces_at
    named =
        let nm = tokens_in cs (take q ts) in
        verdict_ok (pieces 10 is_identifier is_piece 3 true nm o) (sym j)
        (λ ws a.
        let x : ws ≡ words_in true cs (take q ts) = pieces_words cs (take q ts) true 10 is_identifier is_piece 3 o ws a in
        record {
          ws = ws;
          is = rw (← i) a;
          words = x;
          key = ap (name_key 0) x ∙ sym c;
          twice = ap (λ (y : Name). any (same_name y) ns) x ∙ sym (u ns w c);
          begins = name_first cs ts q o e ws a;
        })

    pub named_twice : {x : Refusal} → t ≡ true → x ≡ refusal 21 (place_or ts e) → Err x ≡ place_read (read_named b ns (cut_in cs ts q) e)
    named_twice y g =
        let met : any (same_name named.ws) ns ≡ true = named.twice ∙ y in
        rw g (rw (named.is, met) (ap (λ (l : ℕ). Err (refusal 21 l)) named.begins))

    pub named_fine : {s h : ℕ} {r : Result PlaceRead Refusal} → t ≡ false → s ≡ capped (words_size (words_in true cs (take q ts))) → h ≡ capped (4 + s)
        → (let xs = take (length ts - (q + 1)) (drop (q + 1) ts) in r ≡ value_read h k (place_or xs e) (read_value b (tokens_in cs xs) e))
        → r ≡ place_read (read_named b ns (cut_in cs ts q) e)
    named_fine {s} {h} {r} f d z g =
        let xs = drop (q + 1) ts in
        let ws = named.ws in
        let room : h ≡ capped (4 + words_size ws) = rw (z, d, named.words) (cap_right 4 (words_size (words_in true cs (take q ts)))) in
        let new : any (same_name ws) ns ≡ false = named.twice ∙ f in
        let all : take (length ts - (q + 1)) xs ≡ xs = take_all (length ts - (q + 1)) xs (omega (arith, length-drop (q + 1) ts)) in
        (rw all at g) ∙ by_res (read_value b (tokens_in cs xs) e)
        (λ v y. rw (named.is, new, y, first_place cs xs e, place_size_lem b ws v, room, cap_cap (4 + words_size ws) (value_size v), named.key))
        (λ n p y. rw (named.is, new, y))

-- ---- a place

-- what is not told apart is alike
pub alike : (a b : Bool) → not (beq a b) ≡ false → a ≡ b
alike true true h = refl
alike true false h = absurd (false≢true (sym h))
alike false true h = absurd (false≢true (sym h))
alike false false h = refl

module _ (us ts : List Entry) (cs : List ℕ) (bs : List Base) (k : Bool) (n : ℕ) (m : Marks) (e : ℕ) (ns : List Name) where
  pub place_many : {x : Refusal} → 32 ≤ n → x ≡ refusal 15 (place_or ts e) → Err x ≡ place_read (read_place k bs n ns (seg (tokens_in cs ts) e))
  place_many h g = rw g (rw (le-ltb n 32 h, first_place cs ts e))

  pub place_differs : {q : ℕ} {x : Refusal} → n < 32 → q ≡ 0 + before 8 (drop 0 ts) → (ltb q (length ts) ≡ k → ⊥) → x ≡ refusal 9 (place_or ts e)
      → Err x ≡ place_read (read_place k bs n ns (seg (tokens_in cs ts) e))
  place_differs {q} h f d g =
      by_bool k
      (λ z. by_bool (ltb q (length ts))
      (λ l. absurd (d (l ∙ sym z)))
      (λ l. rw g (rw (lt-ltb n 32 h, is_cut_lem equals cs ts f, l, z, first_place cs ts e))))
      (λ z. by_bool (ltb q (length ts))
      (λ l. rw g (rw (lt-ltb n 32 h, is_cut_lem equals cs ts f, l, z, first_place cs ts e)))
      (λ l. absurd (d (l ∙ sym z))))

  pub place_named : {q : ℕ} {r : Result PlaceRead Refusal} → KnownIf k cs us m ns → n < 32 → q ≡ 0 + before 8 (drop 0 ts) → ltb q (length ts) ≡ k → q < length ts
      → ReadsNamed (get_or bs n (plain r_d)) cs us ts q m e r → r ≡ place_read (read_place k bs n ns (seg (tokens_in cs ts) e))
  place_named {q} w h f d i g =
      let z : k ≡ true = sym d ∙ lt-ltb q (length ts) i in
      g ns (subst (λ (b : Bool). KnownIf b cs us m ns) z w) ∙ rw (lt-ltb n 32 h, z, cut_at_lem equals cs ts f i)

  pub place_position : {q : ℕ} {r : Result PlaceRead Refusal} → n < 32 → q ≡ 0 + before 8 (drop 0 ts) → ltb q (length ts) ≡ k → ltb q (length ts) ≡ false
      → r ≡ place_read (read_position (get_or bs n (plain r_d)) (tokens_in cs ts) e) → r ≡ place_read (read_place k bs n ns (seg (tokens_in cs ts) e))
  place_position {q} h f d l g =
      let z : k ≡ false = sym d ∙ l in
      let i : length ts ≤ q = ltb-false q (length ts) l in
      g ∙ rw (lt-ltb n 32 h, z, cut_none equals cs ts f i)

agreed : (b : Bool) → beq true b ≡ true → b ≡ true
agreed true h = refl
agreed false h = absurd (false≢true h)

-- a named place that is read has its `=` among its tokens, and its name before it
pub record NameRead (ts : List Entry) (cs : List ℕ) (x : Place) : Type 0 where
  pub inside : before (sep_code equals) ts < length ts
  pub is : place_name x ≡ name_in cs ts

pub name_read : (ts : List Entry) (cs : List ℕ) (bs : List Base) (n e : ℕ) (ns : List Name) (p : ℕ) (x : Place) → read_place true bs n ns (seg (tokens_in cs ts) e) ≡ ok (placed p x)
    → NameRead ts cs x
name_read ts cs bs n e ns p x h =
    let q : ℕ = before (sep_code equals) ts in
    let f : q ≡ 0 + before (sep_code equals) (drop 0 ts) = omega arith in
    let b : Base = get_or bs n (plain r_d) in
    let r = place_read_lem true bs n ns (tokens_in cs ts) e (placed p x) h in
    let l : q < length ts = ltb-true q (length ts) (sym (is_cut_lem equals cs ts f) ∙ agreed (is_cut (cut_at equals (tokens_in cs ts))) r.agrees) in
    let o : ℕ = place_in (get_or ts q no_token) in
    let m = named_read b ns (tokens_in cs (take q ts)) o (tokens_in cs (drop (q + 1) ts)) e (placed p x) (rw (cut_at_lem equals cs ts f l) at r.read) in
    let w : place_name x ≡ m.name = ap (λ (t : Placed). place_name (unplaced t)) (sym m.is) in
    record { inside = l; is = w ∙ pieces_words cs (take q ts) true 10 is_identifier is_piece 3 o m.name m.pieced }
