-- A command's tokens, read, give the command back: joined lists split where they were joined, since no separator of a level stands inside a piece of it.
use Prim.Native.Nat.{ℕ, zero, suc, ◌+◌, ◌*◌, ◌≤◌, ◌<◌}
use mathlib.Core.Path.{◌≡◌, refl, sym, ap, ap₂, ◌∙◌, subst}
use mathlib.Core.Bool.{Bool, true, false, false≢true, beq}
use mathlib.Core.List.{List, [], ◌∷◌, ◌++◌, map, append-nil, append_assoc}
use native.Mathlib.Nat.{add-zero, not-suc-le-zero, le_of_suc-le-suc, mul-pos, mul-one, mul-le-mul_left}
use native.Mathlib.Omega.{arith}
use lib.ListN.{length, get_or, length-append, length-map}
use borrow.Author.Tests.{not-true, eq-eqb, le-leb, lt-ltb}
use Rattle.laws.specs.Cases.{and_l, and_r, Always, conjuncts}
use Rattle.laws.specs.Lists.{all, all_append}
use Rattle.rules.specs.Commands.{Name, Element, Place, place, Block, block, Command, command, place_count, mult, is_sep, Seg, seg, first, split, cut, uncut, cut_at, pieces, is_piece, is_cut, place_base, place_name, places_of, all_places}
use Rattle.rules.specs.Groups.{is_joiner, read_value}
use Rattle.rules.specs.Orders.{block_count}
use Rattle.rules.specs.Printing.{value_lex, more_lex, joined_lex, word_lex, place_lex, block_lex, command_lex}
use Rattle.rules.specs.Reading.{Placed, placed, unplaced, read_position, read_of_kind, read_place, read_places, kind_of, PlacedBlock, placed_block, read_blocks, running, running_blocks, block_of, read_cut}
use Rattle.rules.specs.Records.{bases_of, all_bases}
use Rattle.rules.specs.Refusals.{ok}
use Rattle.rules.specs.Tokens.{Sep, dash, comma, colon, equals, semi, Lex, sep, sep_code}
use Rattle.rules.specs.Units.{r_d, Base, plain, is_identifier}
use Rattle.rules.specs.WellFormed.{wf_pieces, wf_place, wf_block, well_formed}
use Rattle.rules.proofs.Counts.{count_pos}
use Rattle.rules.proofs.Names.{free_of, fresh, fresh_names, block_places, block_names}
use Rattle.rules.proofs.ValueBack.{hd, tl, toks, no_sep, joiner_free, ValueTokens, value_back}

abbrev pub past_l : List Lex → List ℕ → List ℕ
past_l [] ps = ps
past_l (x ∷ xs) ps = past_l xs (tl ps)

-- ---- pieces

module _ (nr : ℕ) (g : List ℕ → Bool) (e : ℕ) where
  pub pieces_more : (ws : List (List ℕ)) (left : ℕ) (ps : List ℕ) → all g ws ≡ true → length ws ≤ left
      → pieces nr g g left false (toks ps (more_lex dash (map word_lex ws))) e ≡ ok ws
  pieces_more [] left ps h hl = refl
  pieces_more (w ∷ ws) zero ps h hl = absurd (not-suc-le-zero hl)
  pieces_more (w ∷ ws) (suc left) ps h hl =
      rw (and_l (g w) (all g ws) h, pieces) (rw (pieces_more ws left (tl (tl ps)) (and_r (g w) (all g ws) h) (le_of_suc-le-suc hl)))

  pub pieces_back : (f : List ℕ → Bool) (w : List ℕ) (ws : List (List ℕ)) (left : ℕ) (ps : List ℕ) → f w ≡ true → all g ws ≡ true → length ws ≤ left
      → pieces nr f g left true (toks ps (joined_lex dash (map word_lex (w ∷ ws)))) e ≡ ok (w ∷ ws)
  pieces_back f w ws left ps hf h hl = rw (hf, pieces) (rw (pieces_more ws left (tl ps) h hl))

-- ---- splitting

pub self : (s : Sep) → is_sep s (sep s) ≡ true
self s = eq-eqb (sep_code s) (sep_code s) refl

module _ (s : Sep) (e : ℕ) where
  pub split_none : (xs : List Lex) (ps : List ℕ) → all (no_sep s) xs ≡ true → split s e (toks ps xs) ≡ seg (toks ps xs) e ∷ []
  split_none [] ps h = refl
  split_none (x ∷ xs) ps h =
      rw (not-true (is_sep s x) (search conjuncts), split) (rw (split_none xs (tl ps) (search conjuncts)))

  pub split_at : (xs ys : List Lex) (ps : List ℕ) → all (no_sep s) xs ≡ true
      → split s e (toks ps (xs ++ sep s ∷ ys)) ≡ seg (toks ps xs) (hd (past_l xs ps)) ∷ split s e (toks (tl (past_l xs ps)) ys)
  split_at [] ys ps h = rw (self s, split)
  split_at (x ∷ xs) ys ps h =
      rw (not-true (is_sep s x) (search conjuncts), split) (rw (split_at xs ys (tl ps) (search conjuncts)))

  pub cut_none : (xs : List Lex) (ps : List ℕ) → all (no_sep s) xs ≡ true → cut_at s (toks ps xs) ≡ uncut
  cut_none [] ps h = refl
  cut_none (x ∷ xs) ps h =
      rw (not-true (is_sep s x) (search conjuncts), cut_at) (rw (cut_none xs (tl ps) (search conjuncts)))

  pub cut_at_lem : (xs ys : List Lex) (ps : List ℕ) → all (no_sep s) xs ≡ true
      → cut_at s (toks ps (xs ++ sep s ∷ ys)) ≡ cut (toks ps xs) (hd (past_l xs ps)) (toks (tl (past_l xs ps)) ys)
  cut_at_lem [] ys ps h = rw (self s, cut_at)
  cut_at_lem (x ∷ xs) ys ps h =
      rw (not-true (is_sep s x) (search conjuncts), cut_at) (rw (cut_at_lem xs ys (tl ps) (search conjuncts)))

-- ---- a place: tokens from which it is read, wherever they stand

abbrev pub pieces_lex : List (List ℕ) → List Lex
pieces_lex ws = joined_lex dash (map word_lex ws)

pieces_free : (s : Sep) → is_joiner s ≡ false → (ws : List (List ℕ)) → all (no_sep s) (more_lex dash (map word_lex ws)) ≡ true
pieces_free s h [] = refl
pieces_free s h (w ∷ ws) = rw (joiner_free s dash h refl) (pieces_free s h ws)

pub record PlaceTokens (k : Bool) (xs : List Lex) (p : Place) : Type 0 where
  pub free : (s : Sep) → is_joiner s ≡ false → no_sep s (sep equals) ≡ true → all (no_sep s) xs ≡ true
  pub kind : (ps : List ℕ) → is_cut (cut_at equals (toks ps xs)) ≡ k
  pub spot : List ℕ → ℕ → ℕ
  pub reads : (ps : List ℕ) (e : ℕ) (ns : List Name) → free_of k ns (place_name p) ≡ true → read_of_kind k (place_base p) ns (toks ps xs) e ≡ ok (placed (spot ps e) p)

pub no_tokens : (b : Base) → PlaceTokens false [] (place b [] [])
no_tokens b = record { free = λ s h he. refl; kind = λ ps. refl; spot = λ ps e. e; reads = λ ps e ns f. refl }

pub position_tokens : {b : Base} {xs : List Lex} {v : List Element} → ValueTokens b xs v → PlaceTokens false xs (place b [] v)
position_tokens {b} {xs} {v} t =
    record {
      free = λ s h he. t.free s h;
      kind = λ ps. rw (cut_none equals 0 xs ps (t.free equals refl));
      spot = λ ps e. hd ps;
      reads = λ ps e ns f. subst (λ z. read_position b (toks ps z) e ≡ ok (placed (hd ps) (place b [] v))) (sym t.is)
          (rw (subst (λ z. read_value b (toks ps z) e ≡ ok v) t.is (t.reads ps e)));
    }

pub named_tokens : {b : Base} {xs : List Lex} {v : List Element} (w : List ℕ) (ws : List (List ℕ)) → is_identifier w ≡ true → all is_piece ws ≡ true → length ws ≤ 3
    → ValueTokens b xs v → PlaceTokens true (pieces_lex (w ∷ ws) ++ (sep equals ∷ xs)) (place b (w ∷ ws) v)
named_tokens {b} {xs} {v} w ws hw hs hl t =
    let N : List Lex = pieces_lex (w ∷ ws) in
    record {
      free = λ s h he. all_append (no_sep s) N (sep equals ∷ xs) (pieces_free s h ws) (rw he (t.free s h));
      kind = λ ps. rw (cut_at_lem equals 0 N xs ps (pieces_free equals refl ws));
      spot = λ ps e. first (toks (tl (past_l N ps)) xs) e;
      reads = λ ps e ns f. rw (cut_at_lem equals 0 N xs ps (pieces_free equals refl ws))
          (rw (pieces_back 10 is_piece (hd (past_l N ps)) is_identifier w ws 3 ps hw hs hl, f, t.reads (tl (past_l N ps)) e));
    }

-- what well-formed pieces have
module _ (g : List ℕ → Bool) (most : ℕ) (w : List ℕ) (ws : List (List ℕ)) (h : wf_pieces g most (w ∷ ws) ≡ true) where
  pub w_first : is_identifier w ≡ true
  w_first = search conjuncts

  pub w_more : all g ws ≡ true
  w_more = search conjuncts

  pub w_most : length ws ≤ most
  w_most = search conjuncts

pub place_back : (k : Bool) (p : Place) → wf_place k p ≡ true → PlaceTokens k (place_lex p) p
place_back true (place b [] v) h = absurd (false≢true h)
place_back true (place b (w ∷ ws) []) h =
    absurd (false≢true (search conjuncts))
place_back true (place b (w ∷ ws) (x ∷ v)) h =
    let hw : wf_pieces is_piece 3 (w ∷ ws) ≡ true = search conjuncts in
    rw (append_assoc (pieces_lex (w ∷ ws)) (sep equals ∷ []) (value_lex b (x ∷ v)))
    (named_tokens w ws (w_first is_piece 3 w ws hw) (w_more is_piece 3 w ws hw) (w_most is_piece 3 w ws hw) (value_back b x v (search conjuncts)))
place_back false (place b (w ∷ ws) v) h = absurd (false≢true h)
place_back false (place b [] []) h = no_tokens b
place_back false (place b [] (x ∷ v)) h = position_tokens (value_back b x v h)

-- ---- the places of a block

abbrev pub Along : List Base → ℕ → List Base → Type 0
Along bs n [] = Always
Along bs n (q ∷ qs) = (get_or bs n (plain r_d) ≡ q) × Along bs (suc n) qs

pub record PlacesBack (k : Bool) (bs : List Base) (n : ℕ) (ns : List Name) (ss : List Seg) (pl : List Place) : Type 0 where
  pub xs : List Placed
  pub got : read_places k bs n ns ss ≡ ok xs
  pub are : map unplaced xs ≡ pl

pub data PlacesTokens (k : Bool) : List Lex → List Place → Type 0 where
  last : {xs : List Lex} {p : Place} → PlaceTokens k xs p → PlacesTokens k xs (p ∷ [])
  next : {xs ys : List Lex} {p : Place} {ps : List Place} → PlaceTokens k xs p → PlacesTokens k ys ps → PlacesTokens k (xs ++ (sep comma ∷ ys)) (p ∷ ps)

beq_refl : (k : Bool) → beq k k ≡ true
beq_refl true = refl
beq_refl false = refl

place_read : {k : Bool} {xs : List Lex} {p : Place} (bs : List Base) (n : ℕ) (ns : List Name) (ps : List ℕ) (e : ℕ) (t : PlaceTokens k xs p) → n < 32
    → get_or bs n (plain r_d) ≡ place_base p → free_of k ns (place_name p) ≡ true → read_place k bs n ns (seg (toks ps xs) e) ≡ ok (placed (t.spot ps e) p)
place_read {k} bs n ns ps e t hn hb hf = rw (lt-ltb n 32 hn, t.kind ps, beq_refl k, hb) (t.reads ps e ns hf)

places_read_lem : (k : Bool) {xs : List Lex} {pl : List Place} (bs : List Base) (n : ℕ) (ns : List Name) (ps : List ℕ) (e : ℕ) → PlacesTokens k xs pl → n + length pl ≤ 32
    → Along bs n (map place_base pl) → fresh k ns (map place_name pl) ≡ true → PlacesBack k bs n ns (split comma e (toks ps xs)) pl
places_read_lem k bs n ns ps e (last {xs = xs} {p = p} t) hn ha hf =
    record {
      xs = placed (t.spot ps e) p ∷ [];
      got = rw (split_none comma e xs ps (t.free comma refl refl), place_read bs n ns ps e t (omega arith) ha.0 (search conjuncts));
      are = refl;
    }
places_read_lem k bs n ns ps e (next {xs = xs} {ys = ys} {p = p} {ps = pl} t m) hn ha hf =
    let e' : ℕ = hd (past_l xs ps) in
    let ps' : List ℕ = tl (past_l xs ps) in
    let ih : PlacesBack k bs (suc n) (place_name p ∷ ns) (split comma e (toks ps' ys)) pl =
    places_read_lem k bs (suc n) (place_name p ∷ ns) ps' e m (omega arith) ha.1 (search conjuncts) in
    record {
      xs = placed (t.spot ps e') p ∷ ih.xs;
      got = rw (split_at comma e xs ys ps (t.free comma refl refl), place_read bs n ns ps e' t (omega arith) ha.0 (search conjuncts), ih.got);
      are = ap (λ l. p ∷ l) ih.are;
    }

places_free : {k : Bool} {xs : List Lex} {pl : List Place} (s : Sep) → is_joiner s ≡ false → no_sep s (sep equals) ≡ true → no_sep s (sep comma) ≡ true → PlacesTokens k xs pl
    → all (no_sep s) xs ≡ true
places_free s h he hc (last t) = t.free s h he
places_free s h he hc (next {xs = xs} {ys = ys} t m) = all_append (no_sep s) xs (sep comma ∷ ys) (t.free s h he) (rw hc (places_free s h he hc m))

places_kind : {k : Bool} {xs : List Lex} {pl : List Place} (ps : List ℕ) (e : ℕ) → PlacesTokens k xs pl → kind_of (split comma e (toks ps xs)) ≡ k
places_kind ps e (last {xs = xs} t) = rw (split_none comma e xs ps (t.free comma refl refl)) (t.kind ps)
places_kind ps e (next {xs = xs} {ys = ys} t m) = rw (split_at comma e xs ys ps (t.free comma refl refl)) (t.kind ps)

pub places_back : (k : Bool) (p : Place) (pl : List Place) → all (wf_place k) (p ∷ pl) ≡ true → PlacesTokens k (block_lex (block k (p ∷ pl))) (p ∷ pl)
places_back k p [] h = rw (append-nil (place_lex p)) (last (place_back k p (search conjuncts)))
places_back k p (q ∷ pl) h =
    next (place_back k p (search conjuncts)) (places_back k q pl (search conjuncts))

-- ---- blocks

pub along_split : (bs : List Base) (n : ℕ) (xs ys : List Base) → Along bs n (xs ++ ys) → Along bs n xs × Along bs (n + length xs) ys
along_split bs n [] ys h = (tt, rw add-zero h)
along_split bs n (x ∷ xs) ys h =
    let ih : Along bs (suc n) xs × Along bs (suc n + length xs) ys = along_split bs (suc n) xs ys h.1 in
    let q : n + suc (length xs) ≡ suc n + length xs = omega arith in
    ((h.0, ih.0), rw q ih.1)

pub data BlocksTokens : List Lex → List Block → Type 0 where
  no_blocks : BlocksTokens [] []
  a_block : {k : Bool} {xs ys : List Lex} {pl : List Place} {bl : List Block} → PlacesTokens k xs pl → fresh k [] (map place_name pl) ≡ true → BlocksTokens ys bl
      → BlocksTokens (sep colon ∷ (xs ++ ys)) (block k pl ∷ bl)

blocks_free : {xs : List Lex} {bl : List Block} → BlocksTokens xs bl → all (no_sep semi) xs ≡ true
blocks_free no_blocks = refl
blocks_free (a_block {xs = xs} {ys = ys} t f m) = all_append (no_sep semi) xs ys (places_free semi refl refl refl t) (blocks_free m)

-- behind tokens zs without `:`
record BlocksBack (bs : List Base) (m n : ℕ) (zs ys : List Lex) (ps : List ℕ) (e : ℕ) (bl : List Block) : Type 0 where
  stop : ℕ
  ss : List Seg
  splits : split colon e (toks ps (zs ++ ys)) ≡ seg (toks ps zs) stop ∷ ss
  xs : List PlacedBlock
  got : (q : ℕ) → read_blocks bs m n q ss ≡ ok xs
  are : map block_of xs ≡ bl

blocks_read_lem : {ys : List Lex} {bl : List Block} (bs : List Base) (m n : ℕ) (zs : List Lex) (ps : List ℕ) (e : ℕ) → BlocksTokens ys bl → all (no_sep colon) zs ≡ true
    → m + length bl ≤ 8 → n + length (all_places bl) ≤ 32 → Along bs n (bases_of bl) → BlocksBack bs m n zs ys ps e bl
blocks_read_lem bs m n zs ps e no_blocks hz hm hn ha =
    record { stop = e; ss = []; splits = rw (append-nil zs) (split_none colon e zs ps hz); xs = []; got = λ q. refl; are = refl }
blocks_read_lem bs m n zs ps e (a_block {k = k} {xs = xs} {ys = ys} {pl = pl} {bl = bl} t f r) hz hm hn ha =
    let ps' : List ℕ = tl (past_l zs ps) in
    let la : length (pl ++ all_places bl) ≡ length pl + length (all_places bl) = length-append pl (all_places bl) in
    let hs : Along bs n (map place_base pl) × Along bs (n + length (map place_base pl)) (bases_of bl) = along_split bs n (map place_base pl) (bases_of bl) ha in
    let ih : BlocksBack bs (suc m) (n + length pl) xs ys ps' e bl =
    blocks_read_lem bs (suc m) (n + length pl) xs ps' e r (places_free colon refl refl refl t) (omega arith) (omega arith) (rw length-map at hs.1) in
    let o : PlacesBack k bs n [] (split comma ih.stop (toks ps' xs)) pl = places_read_lem k bs n [] ps' ih.stop t (omega arith) hs.0 f in
    let many : length o.xs ≡ length pl = sym (length-map o.xs unplaced) ∙ ap length o.are in
    record {
      stop = hd (past_l zs ps);
      ss = seg (toks ps' xs) ih.stop ∷ ih.ss;
      splits = split_at colon e zs (xs ++ ys) ps hz ∙ ap (λ l. seg (toks ps zs) (hd (past_l zs ps)) ∷ l) ih.splits;
      xs = placed_block k o.xs ∷ ih.xs;
      got = λ q. rw (lt-ltb m 8 (omega arith), places_kind ps' ih.stop t, o.got, many, ih.got ih.stop);
      are = ap₂ (λ y l. block k y ∷ l) o.are ih.are;
    }

pub blocks_back : (bs : List Block) → all wf_block bs ≡ true → BlocksTokens (more_lex colon (map block_lex bs)) bs
blocks_back [] h = no_blocks
blocks_back (block k [] ∷ bs) h = absurd (false≢true h)
blocks_back (block k (p ∷ pl) ∷ bs) h =
    let hb : wf_block (block k (p ∷ pl)) ≡ true = search conjuncts in
    a_block (places_back k p pl (block_places k (p ∷ pl) hb)) (fresh_names k (map place_name (p ∷ pl)) (block_names k (p ∷ pl) hb)) (blocks_back bs (search conjuncts))

-- ---- the running product

pub mult_pos : (qs : List Place) → 0 < mult (map place_count qs)
mult_pos [] = omega arith
mult_pos (place b nm v ∷ qs) = mul-pos (count_pos v) (mult_pos qs)

pub mult_append : (xs ys : List Place) → mult (map place_count (xs ++ ys)) ≡ mult (map place_count xs) * mult (map place_count ys)
mult_append [] ys = omega arith
mult_append (x ∷ xs) ys = rw (mult_append xs ys) (omega arith)

-- the orders of the blocks together are those of all places
block_count_lem : (b : Block) → block_count b ≡ mult (map place_count (places_of b))
block_count_lem (block k ps) = refl

pub count_all : (bs : List Block) → mult (map block_count bs) ≡ mult (map place_count (all_places bs))
count_all [] = refl
count_all (b ∷ bs) = ap₂ (λ x y. x * y) (block_count_lem b) (count_all bs) ∙ sym (mult_append (places_of b) (all_places bs))

pub running_ok : (m : ℕ) (ps : List Placed) → m * mult (map place_count (map unplaced ps)) ≤ 65535 → running m ps ≡ ok (m * mult (map place_count (map unplaced ps)))
running_ok m [] h = rw mul-one
running_ok m (placed p x ∷ ps) h =
    let c : ℕ = place_count x in
    let r : ℕ = mult (map place_count (map unplaced ps)) in
    let assoc : m * (c * r) ≡ m * c * r = omega arith in
    let le : m * c ≤ 65535 = omega (arith, mul-le-mul_left (m * c) (mult_pos (map unplaced ps))) in
    rw (le-leb (m * c) 65535 le, running) (rw assoc (running_ok (m * c) ps (omega arith)))

pub running_b_ok : (m : ℕ) (xs : List PlacedBlock) → m * mult (map place_count (all_places (map block_of xs))) ≤ 65535
    → running_blocks m xs ≡ ok (m * mult (map place_count (all_places (map block_of xs))))
running_b_ok m [] h = rw mul-one
running_b_ok m (placed_block k ps ∷ xs) h =
    let a : ℕ = mult (map place_count (map unplaced ps)) in
    let r : ℕ = mult (map place_count (all_places (map block_of xs))) in
    let t : mult (map place_count (map unplaced ps ++ all_places (map block_of xs))) ≡ a * r = mult_append (map unplaced ps) (all_places (map block_of xs)) in
    let assoc : m * (a * r) ≡ m * a * r = omega arith in
    let h' : m * a * r ≤ 65535 = rw (t, assoc) at h in
    let le : m * a ≤ 65535 = omega (arith, mul-le-mul_left (m * a) (mult_pos (all_places (map block_of xs)))) in
    rw (running_ok m ps le, t, assoc) (running_b_ok (m * a) xs h')

-- ---- the command

-- what a well-formed command has
module _ (c : List (List ℕ)) (bs : List Block) (h : well_formed (command c bs) ≡ true) where
  pub c_code : wf_pieces is_identifier 2 c ≡ true
  c_code = search conjuncts

  pub c_few : length bs ≤ 8
  c_few = search conjuncts

  pub c_blocks : all wf_block bs ≡ true
  c_blocks = search conjuncts

  pub c_places : length (all_places bs) ≤ 32
  c_places = search conjuncts

  pub c_count : mult (map place_count (all_places bs)) ≤ 65535
  c_count = search conjuncts

-- tokens of a code and of blocks are read to the command
pub tokens_read : {ys : List Lex} {bl : List Block} (base : List Base) (n : ℕ) (w : List ℕ) (ws : List (List ℕ)) (ps : List ℕ) → is_identifier w ≡ true → all is_identifier ws ≡ true
    → length ws ≤ 2 → BlocksTokens ys bl → length bl ≤ 8 → length (all_places bl) ≤ 32 → mult (map place_count (all_places bl)) ≤ 65535 → Along base 0 (bases_of bl)
    → read_cut base n (cut_at semi (toks ps (pieces_lex (w ∷ ws) ++ ys ++ (sep semi ∷ [])))) ≡ ok (command (w ∷ ws) bl)
tokens_read {ys} {bl} base n w ws ps hw hs hl t hm hn hc ha =
    let N : List Lex = pieces_lex (w ∷ ws) in
    let free : all (no_sep semi) (N ++ ys) ≡ true = all_append (no_sep semi) N ys (pieces_free semi refl ws) (blocks_free t) in
    let q : ℕ = hd (past_l (N ++ ys) ps) in
    let o : BlocksBack base 0 0 N ys ps q bl = blocks_read_lem base 0 0 N ps q t (pieces_free colon refl ws) (omega arith) (omega arith) ha in
    let fits : 1 * mult (map place_count (all_places (map block_of o.xs))) ≤ 65535 = rw o.are (omega arith) in
    rw (cut_at_lem semi 0 (N ++ ys) [] ps free, o.splits)
    (rw (pieces_back 8 is_identifier o.stop is_identifier w ws 2 ps hw hs hl, o.got o.stop, running_b_ok 1 o.xs fits, o.are))

pub tokens_back : (base : List Base) (n : ℕ) (c : Command) (ps : List ℕ) → well_formed c ≡ true → Along base 0 (all_bases c) → read_cut base n (cut_at semi (toks ps (command_lex c))) ≡ ok c
tokens_back base n (command [] bs) ps h ha = absurd (false≢true h)
tokens_back base n (command (w ∷ ws) bs) ps h ha =
    let hc : wf_pieces is_identifier 2 (w ∷ ws) ≡ true = c_code (w ∷ ws) bs h in
    tokens_read base n w ws ps (w_first is_identifier 2 w ws hc) (w_more is_identifier 2 w ws hc) (w_most is_identifier 2 w ws hc) (blocks_back bs (c_blocks (w ∷ ws) bs h))
    (c_few (w ∷ ws) bs h) (c_places (w ∷ ws) bs h) (c_count (w ∷ ws) bs h) ha
