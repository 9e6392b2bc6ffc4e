-- The tokens of a value, read under its place's base, give the value back, pass by pass. Places do not matter, so they are any supply ps.
use Prim.Native.Nat.{ℕ, suc, ◌+◌, ◌≤◌, ◌*◌, ◌/◌, ◌%◌, ◌^◌}
use mathlib.Core.Path.{◌≡◌, refl, sym, ap, ap₂, ◌∙◌}
use mathlib.Core.Bool.{Bool, true, false, cond, ◌&&◌, not, false≢true}
use mathlib.Core.List.{List, [], ◌∷◌, ◌++◌, append-nil}
use native.Mathlib.Omega.{arith}
use lib.Dec.{leb, eqb}
use lib.ListN.{length, drop, get_or}
use borrow.Author.Tests.{eqb-true, not-true, eq-eqb, le-leb}
use mathlib.Core.Option.{some, Option}
use Rattle.rules.specs.Records.{unit_of, unit_field, field_bytes}
use Rattle.laws.specs.Cases.{by_bool, and_l, and_r, some_inj, conjuncts}
use Rattle.laws.specs.Lists.{all, is_nil, all_append, eq_l_is}
use Rattle.rules.specs.Commands.{is_sep, Element, single, range, leading, last_unit, value_count}
use Rattle.rules.specs.Groups.{Join, join, unit_after, joiner, is_joiner, is_unit, alternate, read_units, Group, group, begins, Collected, collected, collect_one, collect, arg, full_arg, increment, upper, first_arg, later_arg, later, later_elements, elements, read_value}
use Rattle.rules.specs.Printing.{same_unit, same_units, unit_lex, Link, link, first_unit, dash_links, inc_links, tail_links, is_short, later_links, rest_links, links_lex, value_lex}
use Rattle.rules.specs.Refusals.{ok}
use Rattle.rules.specs.Tokens.{Sep, ampamp_, ampamp, amp_, amp, plusplus, dash, Lex, word, str, sep, Token, at, sep_code}
use Rattle.rules.specs.Units.{Radix, r_d, r_h, r_o, r_b, Base, Unit, num, keyed, identifier, symbolic, text, same_radix, plain, read_unit}
use Rattle.rules.specs.WellFormed.{wf_unit, wf_range, wf_element, wf_value}
use Rattle.rules.proofs.ReadSteps.{sep_same, Tail, alone, up_to, up_by, tail_lead}
use Rattle.rules.proofs.ResultLaws.{ok≢bad}
use Rattle.rules.proofs.UnitBack.{item_back, base_back}

-- ---- places: any supply

abbrev pub hd : List ℕ → ℕ
hd [] = 0
hd (p ∷ ps) = p

abbrev pub tl : List ℕ → List ℕ
tl [] = []
tl (p ∷ ps) = ps

abbrev pub toks : List ℕ → List Lex → List Token
toks ps [] = []
toks ps (x ∷ xs) = at (hd ps) x ∷ toks (tl ps) xs

abbrev pub mk : List ℕ → List Link → List (Join Unit)
mk ps [] = []
mk ps (link s i ∷ ls) = join s (hd ps) (hd (tl ps)) i ∷ mk (tl (tl ps)) ls

abbrev pub past : List Link → List ℕ → List ℕ
past [] ps = ps
past (l ∷ ls) ps = past ls (tl (tl ps))

mk_append : (ps : List ℕ) (xs ys : List Link) → mk ps (xs ++ ys) ≡ mk ps xs ++ mk (past xs ps) ys
mk_append ps [] ys = refl
mk_append ps (link s i ∷ xs) ys = ap (λ r. join s (hd ps) (hd (tl ps)) i ∷ r) (mk_append (tl (tl ps)) xs ys)

abbrev pub link_ok : Base → Link → Bool
link_ok b (link s i) = is_joiner s && wf_unit b i

abbrev pub no_sep : Sep → Lex → Bool
no_sep s x = not (is_sep s x)

-- ---- alternation and units

pub unit_is : (b : Base) (i : Unit) → is_unit (unit_lex b i) ≡ true
unit_is b (num r f v) = refl
unit_is b (keyed w) = refl
unit_is b (identifier w) = refl
unit_is b (symbolic w) = refl
unit_is b (text w) = refl

-- separators and units by turns, as links
pub data Linked (U : Lex → Unit → Type 0) : List Lex → List Link → Type 0 where
  nil : Linked U [] []
  cons : {s : Sep} {x : Lex} {i : Unit} {xs : List Lex} {ls : List Link} → is_joiner s ≡ true → U x i → Linked U xs ls → Linked U (sep s ∷ x ∷ xs) (link s i ∷ ls)

pub linked_map : {U W : Lex → Unit → Type 0} {xs : List Lex} {ls : List Link} → ((x : Lex) (i : Unit) → U x i → W x i) → Linked U xs ls → Linked W xs ls
linked_map f nil = nil
linked_map f (cons {x = x} {i = i} h u l) = cons h (f x i u) (linked_map f l)

-- read under the base, wherever it stands
abbrev pub Reads : Base → Lex → Unit → Type 0
Reads b x i = (p : ℕ) → read_unit b p x ≡ ok i

pub reads_unit : (b : Base) (x : Lex) (i : Unit) → Reads b x i → is_unit x ≡ true
reads_unit b (word w) i h = refl
reads_unit b (str w) i h = refl
reads_unit b (sep s) i h = ok≢bad (h 0)

unit_free : (s : Sep) (x : Lex) → is_unit x ≡ true → no_sep s x ≡ true
unit_free s (word w) h = refl
unit_free s (str w) h = refl
unit_free s (sep t) h = absurd (false≢true h)

pub joiner_free : (s t : Sep) → is_joiner s ≡ false → is_joiner t ≡ true → no_sep s (sep t) ≡ true
joiner_free s t h k = by_bool (eqb (sep_code s) (sep_code t)) (λ y. absurd (false≢true (sym h ∙ ap is_joiner (sep_same s t y) ∙ k))) (λ y. rw y)

linked_free : (b : Base) {xs : List Lex} {ls : List Link} (s : Sep) → is_joiner s ≡ false → Linked (Reads b) xs ls → all (no_sep s) xs ≡ true
linked_free b s h nil = refl
linked_free b s h (cons {s = t} {x = x} {i = i} f u l) = rw (joiner_free s t h f, unit_free s x (reads_unit b x i u)) (linked_free b s h l)

pub linked_of : (b : Base) (ls : List Link) → all (link_ok b) ls ≡ true → Linked (Reads b) (links_lex b ls) ls
linked_of b [] h = nil
linked_of b (link s i ∷ ls) h = cons {s = s} {i = i} (search conjuncts) (λ p. item_back b i p (search conjuncts)) (linked_of b ls (search conjuncts))

record Alternates (b : Base) (ts : List Token) (e : ℕ) (is : List (Join Unit)) : Type 0 where
  js : List (Join Lex)
  turns : alternate joiner ts e ≡ ok js
  units : read_units b js ≡ ok is

-- a joining separator, and the unit behind it
joined_turn : (s : Sep) (x : Lex) (p q : ℕ) (ts : List Token) (e : ℕ) {js : List (Join Lex)} → is_joiner s ≡ true → is_unit x ≡ true → alternate joiner ts e ≡ ok js
    → alternate joiner (at p (sep s) ∷ at q x ∷ ts) e ≡ ok (join s p q x ∷ js)
joined_turn s x p q ts e h u k =
    let after : alternate (unit_after s p) (at q x ∷ ts) e ≡ ok (join s p q x ∷ _) = rw (u, alternate) (rw k) in
    rw (h, alternate) after

alternates : {b : Base} {xs : List Lex} {ls : List Link} (ps : List ℕ) (e : ℕ) → Linked (Reads b) xs ls → Alternates b (toks ps xs) e (mk ps ls)
alternates ps e nil = record { js = []; turns = refl; units = refl }
alternates {b} ps e (cons {s = s} {x = x} {i = i} {xs = ys} h u l) =
    let o = alternates (tl (tl ps)) e l in
    record {
      js = join s (hd ps) (hd (tl ps)) x ∷ o.js;
      turns = joined_turn s x (hd ps) (hd (tl ps)) (toks (tl (tl ps)) ys) e h (reads_unit b x i u) o.turns;
      units = rw (u (hd (tl ps)), o.units);
    }

-- ---- collecting elements

abbrev pub inner : Link → Bool
inner (link s i) = not (begins s)

abbrev pub prepend : List (Join Unit) → Collected → Collected
prepend xs (collected pre gs) = collected (xs ++ pre) gs

pub prepend_nil : (c : Collected) → c ≡ prepend [] c
prepend_nil (collected pre gs) = refl

pub prepend_cons : (j : Join Unit) (xs : List (Join Unit)) (c : Collected) → collect_one false j (prepend xs c) ≡ prepend (j ∷ xs) c
prepend_cons j xs (collected pre gs) = refl

pub collects : (ls : List Link) (ps : List ℕ) (js : List (Join Unit)) → all inner ls ≡ true → collect (mk ps ls ++ js) ≡ prepend (mk ps ls) (collect js)
collects [] ps js h = prepend_nil (collect js)
collects (link s i ∷ ls) ps js h =
    let nb : begins s ≡ false = not-true (begins s) (search conjuncts) in
    rw (nb, collects ls (tl (tl ps)) js (search conjuncts))
    (prepend_cons (join s (hd ps) (hd (tl ps)) i) (mk (tl (tl ps)) ls) (collect js))

-- ---- an argument

abbrev pub no_dash : List (Join Unit) → Bool
no_dash [] = true
no_dash (join s q p i ∷ js) = not (eqb (sep_code s) 5)

pub full_back : (l : List Unit) (u : Unit) (ps : List ℕ) (js : List (Join Unit)) → no_dash js ≡ true
    → full_arg (first_unit l u) (mk ps (dash_links l u) ++ js) ≡ arg l u js
full_back [] u ps [] h = refl
full_back [] u ps (join s q p i ∷ js) h = rw (not-true (eqb (sep_code s) 5) h, full_arg)
full_back (i ∷ l) u ps js h = rw (full_back l u (tl (tl ps)) js h)

-- ---- an element's end

pub same_radix_lem : (r : Radix) → same_radix r r ≡ true
same_radix_lem r_d = refl
same_radix_lem r_h = refl
same_radix_lem r_o = refl
same_radix_lem r_b = refl

-- what the separator before a range's upper end is
pub record Through (s : Sep) (code : ℕ) : Type 0 where
  pub joins : is_joiner s ≡ true
  pub goes_on : begins s ≡ false
  pub no_dash_lem : eqb (sep_code s) (sep_code dash) ≡ false
  pub no_plus : eqb (sep_code s) (sep_code plusplus) ≡ false
  pub fits : eqb (sep_code s) code ≡ true

pub through : (l : List Unit) → Through (cond (is_nil l) ampamp ampamp_) (cond (is_nil l) 1 0)
through [] = record { joins = refl; goes_on = refl; no_dash_lem = refl; no_plus = refl; fits = refl }
through (i ∷ l) = record { joins = refl; goes_on = refl; no_dash_lem = refl; no_plus = refl; fits = refl }

module _ {l : List Unit} where
  pub tail_read : {u : Unit} {ls : List Link} {e : Element} → Tail l u ls e → (ps : List ℕ) → upper l u (mk ps ls) ≡ ok e
  tail_read alone ps = refl
  tail_read (up_to {r = r} {lo = lo} {up = up} h) ps = rw ((through l).fits, upper) (rw (same_radix_lem r) (rw (le-leb lo up h)))
  tail_read (up_by {r = r} {lo = lo} {up = up} {inc = inc} h k) ps =
      rw ((through l).fits, upper) (rw (same_radix_lem r) (rw (le-leb lo up h) (rw (same_radix_lem r, le-leb 1 inc k, increment))))

  tail_inner : {u : Unit} {ls : List Link} {e : Element} → Tail l u ls e → all inner ls ≡ true
  tail_inner alone = refl
  tail_inner (up_to h) = rw (through l).goes_on
  tail_inner (up_by h k) = rw (through l).goes_on

  tail_ends : {u : Unit} {ls : List Link} {e : Element} → Tail l u ls e → (ps : List ℕ) → no_dash (mk ps ls) ≡ true
  tail_ends alone ps = refl
  tail_ends (up_to h) ps = rw (through l).no_dash_lem
  tail_ends (up_by h k) ps = rw (through l).no_dash_lem

  arg_read : {u : Unit} {ls : List Link} {e : Element} (ps : List ℕ) → Tail l u ls e
      → full_arg (first_unit l u) (mk ps (dash_links l u ++ ls)) ≡ arg l u (mk (past (dash_links l u) ps) ls)
  arg_read {u} {ls} ps t =
      let qs : List ℕ = past (dash_links l u) ps in
      rw (mk_append ps (dash_links l u) ls) (full_back l u ps (mk qs ls) (tail_ends t qs))

-- an element's links as the printer writes them
pub tail_of : (b : Base) (e : Element) → wf_range b e ≡ true → Tail (leading e) (last_unit e) (tail_links e) e
tail_of b (single l u) h = alone
tail_of b (range l r lo up inc) h =
    let hle : lo ≤ up = search conjuncts in
    by_bool (eqb inc 1) (λ y. rw (y, eqb-true inc 1 y) (up_to hle)) (λ y. rw y (up_by {inc = inc} hle (search conjuncts)))

-- ---- the leading units are compared

-- the unit of a field's bytes
abbrev pub field_unit : List ℕ → Option Unit
field_unit w = unit_of (get_or w 0 0) (drop 3 w)

pub field_unit_lem : (i : Unit) → field_unit (field_bytes (unit_field i)) ≡ some i
field_unit_lem (num r f v) =
    let q : v / 2 ^ 24 * 2 ^ 24 + v / 2 ^ 16 % 256 * 2 ^ 16 + v / 256 % 256 * 256 + v % 256 ≡ v = omega arith in
    rw (base_back (plain r), q)
field_unit_lem (keyed w) = refl
field_unit_lem (identifier w) = refl
field_unit_lem (symbolic w) = refl
field_unit_lem (text w) = refl

pub same_item : (a b : Unit) → same_unit a b ≡ true → a ≡ b
same_item a b h =
    some_inj (sym (field_unit_lem a) ∙ ap field_unit (eq_l_is (field_bytes (unit_field a)) (field_bytes (unit_field b)) h) ∙ field_unit_lem b)

pub same_items : (a b : List Unit) → same_units a b ≡ true → a ≡ b
same_items [] [] h = refl
same_items [] (y ∷ ys) h = absurd (false≢true h)
same_items (x ∷ xs) [] h = absurd (false≢true h)
same_items (x ∷ xs) (y ∷ ys) h =
    ap₂ (λ a l. a ∷ l) (same_item x y (search conjuncts)) (same_items xs ys (search conjuncts))

-- ---- groups

open_group : (s : Sep) (q p : ℕ) (i : Unit) (ls : List Link) (ps : List ℕ) (js : List (Join Unit)) (gs : List Group)
    → begins s ≡ true → all inner ls ≡ true → collect js ≡ collected [] gs
    → collect (join s q p i ∷ (mk ps ls ++ js)) ≡ collected [] (group s q p i (mk ps ls) ∷ gs)
open_group s q p i ls ps js gs hb hi hc = rw (hb, collects ls ps js hi, hc, append-nil (mk ps ls))

inner_full : {l : List Unit} {u : Unit} {ls : List Link} {e : Element} → Tail l u ls e → all inner (dash_links l u ++ ls) ≡ true
inner_full {l} {u} {ls} t = all_append inner (dash_links l u) ls (dashes l) (tail_inner t)
  where
    dashes : (l : List Unit) → all inner (dash_links l u) ≡ true
    dashes [] = refl
    dashes (i ∷ l) = dashes l

-- the links of the elements behind one with leading units l
pub data Laters : List Unit → List Link → List Element → Type 0 where
  no_laters : {l : List Unit} → Laters l [] []
  in_full : {l m : List Unit} {u : Unit} {ls ks : List Link} {e : Element} {es : List Element} → length m ≡ length l → Tail m u ls e → Laters m ks es
      → Laters l (link amp (first_unit m u) ∷ ((dash_links m u ++ ls) ++ ks)) (e ∷ es)
  in_short : {l : List Unit} {u : Unit} {ls ks : List Link} {e : Element} {es : List Element} → is_nil l ≡ false → Tail l u ls e → Laters l ks es
      → Laters l (link amp_ u ∷ (ls ++ ks)) (e ∷ es)

-- their joins make groups, and those the elements
record Made (n : ℕ) (l : List Unit) (es : List Element) (js : List (Join Unit)) : Type 0 where
  gs : List Group
  groups : collect js ≡ collected [] gs
  made : later_elements n l gs ≡ ok es

one_more : {n : ℕ} {l m : List Unit} {e : Element} {es : List Element} (s : Sep) (i : Unit) (t ks : List Link) (ps : List ℕ) → begins s ≡ true → all inner t ≡ true → n ≤ 64
    → leading e ≡ m → later l (group s (hd ps) (hd (tl ps)) i (mk (tl (tl ps)) t)) ≡ ok e → Made (suc n) m es (mk (past t (tl (tl ps))) ks)
    → Made n l (e ∷ es) (mk ps (link s i ∷ (t ++ ks)))
one_more {n} s i t ks ps hb hi hn hm h o =
    let qs : List ℕ = tl (tl ps) in
    rw (mk_append qs t ks) (record {
      gs = group s (hd ps) (hd (tl ps)) i (mk qs t) ∷ o.gs;
      groups = open_group s (hd ps) (hd (tl ps)) i t qs (mk (past t qs) ks) o.gs hb hi o.groups;
      made = rw (le-leb n 64 hn, later_elements) (rw (h, hm, o.made));
    })

laters_made : {l : List Unit} {ls : List Link} {es : List Element} (n : ℕ) (ps : List ℕ) → Laters l ls es → n + length es ≤ 65 → Made n l es (mk ps ls)
laters_made n ps no_laters h = record { gs = []; groups = refl; made = refl }
laters_made {l} n ps (in_full {m = m} {u = u} {ls = ls} {ks = ks} {e = e} q t r) h =
    let qs : List ℕ = tl (tl ps) in
    let T : List Link = dash_links m u ++ ls in
    let here : later_arg l (hd (tl ps)) (full_arg (first_unit m u) (mk qs T)) ≡ ok e =
    rw (arg_read qs t) (rw (eq-eqb (length m) (length l) q, later_arg) (tail_read t (past (dash_links m u) qs))) in
    one_more amp (first_unit m u) T ks ps refl (inner_full t) (omega arith) (tail_lead t) here (laters_made (suc n) (past T qs) r (omega arith))
laters_made n ps (in_short {u = u} {ls = ls} {ks = ks} z t r) h =
    let qs : List ℕ = tl (tl ps) in
    one_more amp_ u ls ks ps refl (tail_inner t) (omega arith) (tail_lead t) (rw (z, later) (tail_read t qs)) (laters_made (suc n) (past ls qs) r (omega arith))

-- tokens of a value: a unit and links, free of the separators that do not join units, and read
pub record ValueTokens (b : Base) (xs : List Lex) (v : List Element) : Type 0 where
  pub x : Lex
  pub ys : List Lex
  pub is : xs ≡ x ∷ ys
  pub free : (s : Sep) → is_joiner s ≡ false → all (no_sep s) xs ≡ true
  pub reads : (ps : List ℕ) (end : ℕ) → read_value b (toks ps xs) end ≡ ok v

links_read : (b : Base) {l : List Unit} {u : Unit} {ls ks : List Link} {e : Element} {es : List Element} {xs : List Lex} (x : Lex) (ps : List ℕ) (end : ℕ)
    → length l ≤ 3 → Tail l u ls e → Laters l ks es → length (e ∷ es) ≤ 64 → value_count (e ∷ es) ≤ 4096
    → Reads b x (first_unit l u) → Linked (Reads b) xs ((dash_links l u ++ ls) ++ ks) → read_value b (toks ps (x ∷ xs)) end ≡ ok (e ∷ es)
links_read b {l} {u} {ls} {ks} {e} {es} {xs} x ps end h3 t r h64 hc v k =
    let qs : List ℕ = tl ps in
    let i : Unit = first_unit l u in
    let T : List Link = dash_links l u ++ ls in
    let o : Alternates b (toks qs xs) end (mk qs (T ++ ks)) = alternates qs end k in
    let m : Made 2 l es (mk (past T qs) ks) = laters_made 2 (past T qs) r (omega arith) in
    let turned : alternate (unit_after amp 0) (toks ps (x ∷ xs)) end ≡ ok (join amp 0 (hd ps) x ∷ o.js) = rw (reads_unit b x i v, alternate) (rw o.turns) in
    let units : read_units b (join amp 0 (hd ps) x ∷ o.js) ≡ ok (join amp 0 (hd ps) i ∷ mk qs (T ++ ks)) = rw (v (hd ps), o.units) in
    let grouped : collect (join amp 0 (hd ps) i ∷ mk qs (T ++ ks)) ≡ collected [] (group amp 0 (hd ps) i (mk qs T) ∷ m.gs) =
    rw (mk_append qs T ks) (open_group amp 0 (hd ps) i T qs (mk (past T qs) ks) m.gs refl (inner_full t) m.groups) in
    let made' : elements (group amp 0 (hd ps) i (mk qs T) ∷ m.gs) ≡ ok (e ∷ es) =
    rw (arg_read qs t) (rw (le-leb (length l) 3 h3, first_arg) (rw (tail_read t (past (dash_links l u) qs), tail_lead t, m.made))) in
    rw (turned, units, grouped, made') (rw (le-leb (value_count (e ∷ es)) 4096 hc))

pub value_tokens : {b : Base} {l : List Unit} {u : Unit} {ls ks : List Link} {e : Element} {es : List Element} {xs : List Lex} (x : Lex)
    → length l ≤ 3 → Tail l u ls e → Laters l ks es → length (e ∷ es) ≤ 64 → value_count (e ∷ es) ≤ 4096
    → Reads b x (first_unit l u) → Linked (Reads b) xs ((dash_links l u ++ ls) ++ ks) → ValueTokens b (x ∷ xs) (e ∷ es)
value_tokens {b} {xs = xs} x h3 t r h64 hc v k =
    record {
      x = x;
      ys = xs;
      is = refl;
      free = λ s h. rw (unit_free s x (reads_unit b x _ v)) (linked_free b s h k);
      reads = λ ps end. links_read b x ps end h3 t r h64 hc v k;
    }

-- what a well-formed element has
module _ (b : Base) (n : ℕ) (e : Element) (h : wf_element b n e ≡ true) where
  pub ok_length : length (leading e) ≡ n
  ok_length = search conjuncts

  pub ok_lead : all (wf_unit b) (leading e) ≡ true
  ok_lead = search conjuncts

  pub ok_last : wf_unit b (last_unit e) ≡ true
  ok_last = search conjuncts

  pub ok_range : wf_range b e ≡ true
  ok_range = search conjuncts

-- the elements' links as the printer writes them
laters_of : (b : Base) (e₀ : Element) (es : List Element) → all (wf_element b (length (leading e₀))) es ≡ true → Laters (leading e₀) (rest_links e₀ es) es
laters_of b e₀ [] h = no_laters
laters_of b e₀ (e ∷ es) h =
    let k : ℕ = length (leading e₀) in
    let ho : wf_element b k e ≡ true = and_l (wf_element b k e) (all (wf_element b k) es) h in
    let t : Tail (leading e) (last_unit e) (tail_links e) e = tail_of b e (ok_range b k e ho) in
    let r : Laters (leading e) (rest_links e es) es = laters_of b e es (rw (ok_length b k e ho) (search conjuncts)) in
    by_bool (is_short e₀ e)
    (λ y.
    let same : leading e₀ ≡ leading e = same_items (leading e₀) (leading e) (search conjuncts) in
    let some' : is_nil (leading e) ≡ false = search conjuncts in
    rw (y, same) (in_short some' t r))
    (λ y. rw y (in_full (ok_length b k e ho) t r))

-- ---- every link's unit is well formed

pub and_both : (a c : Bool) → a ≡ true → c ≡ true → a && c ≡ true
and_both a c h k = rw (h, k)

pub first_ok : (b : Base) (l : List Unit) (u : Unit) → all (wf_unit b) l ≡ true → wf_unit b u ≡ true → wf_unit b (first_unit l u) ≡ true
first_ok b [] u h k = k
first_ok b (i ∷ l) u h k = and_l (wf_unit b i) (all (wf_unit b) l) h

pub dash_ok : (b : Base) (l : List Unit) (u : Unit) → all (wf_unit b) l ≡ true → wf_unit b u ≡ true → all (link_ok b) (dash_links l u) ≡ true
dash_ok b [] u h k = refl
dash_ok b (i ∷ l) u h k =
    let hl : all (wf_unit b) l ≡ true = and_r (wf_unit b i) (all (wf_unit b) l) h in
    rw (first_ok b l u hl k, dash_ok b l u hl k)

pub inc_ok : (b : Base) (r : Radix) (inc : ℕ) (t : Bool) → wf_unit b (num r 0 inc) ≡ true → all (link_ok b) (inc_links r inc t) ≡ true
inc_ok b r inc true h = refl
inc_ok b r inc false h = rw h

pub tail_ok : (b : Base) (e : Element) → wf_range b e ≡ true → all (link_ok b) (tail_links e) ≡ true
tail_ok b (single l u) h = refl
tail_ok b (range l r lo up inc) h =
    let wu : wf_unit b (num r 0 up) ≡ true = search conjuncts in
    rw ((through l).joins, wu) (inc_ok b r inc (eqb inc 1) (search conjuncts))

pub inner_ok : (b : Base) (n : ℕ) (e : Element) → wf_element b n e ≡ true → all (link_ok b) (dash_links (leading e) (last_unit e) ++ tail_links e) ≡ true
inner_ok b n e h =
    all_append (link_ok b) (dash_links (leading e) (last_unit e)) (tail_links e) (dash_ok b (leading e) (last_unit e) (ok_lead b n e h) (ok_last b n e h))
    (tail_ok b e (ok_range b n e h))

pub later_ok : (b : Base) (n : ℕ) (e : Element) (t : Bool) → wf_element b n e ≡ true → all (link_ok b) (later_links t e) ≡ true
later_ok b n e true h = rw (ok_last b n e h, tail_ok b e (ok_range b n e h))
later_ok b n e false h = rw (first_ok b (leading e) (last_unit e) (ok_lead b n e h) (ok_last b n e h), inner_ok b n e h)

pub rest_ok : (b : Base) (n : ℕ) (e₀ : Element) (es : List Element) → all (wf_element b n) es ≡ true → all (link_ok b) (rest_links e₀ es) ≡ true
rest_ok b n e₀ [] h = refl
rest_ok b n e₀ (e ∷ es) h =
    all_append (link_ok b) (later_links (is_short e₀ e) e) (rest_links e es) (later_ok b n e (is_short e₀ e) (search conjuncts))
    (rest_ok b n e es (search conjuncts))

-- ---- a value

module _ (b : Base) (e : Element) (es : List Element) (h : wf_value b (e ∷ es) ≡ true) where
  pub v_lead : leb (length (leading e)) 3 ≡ true
  v_lead = search conjuncts

  pub v_all : all (wf_element b (length (leading e))) (e ∷ es) ≡ true
  v_all = search conjuncts

  pub v_few : leb (length (e ∷ es)) 64 ≡ true
  v_few = search conjuncts

  pub v_count : leb (value_count (e ∷ es)) 4096 ≡ true
  v_count = search conjuncts

  pub v_elem : wf_element b (length (leading e)) e ≡ true
  v_elem = and_l (wf_element b (length (leading e)) e) (all (wf_element b (length (leading e))) es) v_all

  pub v_rest : all (wf_element b (length (leading e))) es ≡ true
  v_rest = and_r (wf_element b (length (leading e)) e) (all (wf_element b (length (leading e))) es) v_all

pub value_back : (b : Base) (e : Element) (es : List Element) → wf_value b (e ∷ es) ≡ true → ValueTokens b (value_lex b (e ∷ es)) (e ∷ es)
value_back b e es h =
    let ho : wf_element b (length (leading e)) e ≡ true = v_elem b e es h in
    let i : Unit = first_unit (leading e) (last_unit e) in
    let hi : wf_unit b i ≡ true = first_ok b (leading e) (last_unit e) (ok_lead b _ e ho) (ok_last b _ e ho) in
    let hs : all (wf_element b (length (leading e))) es ≡ true = v_rest b e es h in
    let t : List Link = dash_links (leading e) (last_unit e) ++ tail_links e in
    value_tokens (unit_lex b i) (search conjuncts) (tail_of b e (ok_range b _ e ho)) (laters_of b e es hs) (search conjuncts) (search conjuncts) (λ p. item_back b i p hi)
    (linked_of b (t ++ rest_links e es) (all_append (link_ok b) t (rest_links e es) (inner_ok b _ e ho) (rest_ok b _ e es hs)))
