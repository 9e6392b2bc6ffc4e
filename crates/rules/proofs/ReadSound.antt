-- A command that the reader accepts is well formed: each step that succeeds has passed the test that well-formedness asks.
use Prim.Native.Nat.{ℕ, suc, ◌+◌, ◌*◌, ◌≤◌}
use mathlib.Core.Path.{◌≡◌, refl, sym, ap, ◌∙◌, subst}
use mathlib.Core.Bool.{Bool, true, false, ◌&&◌, ◌||◌, not}
use mathlib.Core.List.{List, [], ◌∷◌, map}
use native.Mathlib.Nat.{mul-one}
use native.Mathlib.Omega.{arith}
use lib.Dec.{leb, eqb}
use lib.ListN.{length, length-append, length-map}
use borrow.Author.Tests.{leb-true, le-leb}
use Rattle.laws.specs.Cases.{by_bool, and_l, and_r, conjuncts}
use Rattle.laws.specs.Lists.{all, any, is_nil, nil_map}
use Rattle.rules.specs.Characters.{is_alnum, is_digit}
use Rattle.rules.specs.Commands.{Name, Element, Place, place_name, Command, place_count, mult, Seg, seg, split, Cut, cut, uncut, cut_at, is_piece, places_of, all_places}
use Rattle.rules.specs.Groups.{read_value}
use Rattle.rules.specs.Reading.{Placed, placed, unplaced, read_places, kind_of, PlacedBlock, placed_block, read_block, block_size, read_blocks, running, running_blocks, block_of, read_segs, read_cut, read}
use Rattle.rules.specs.Refusals.{ok}
use Rattle.rules.specs.Tokens.{Sep, comma, colon, equals, semi, word, Token}
use Rattle.rules.specs.Units.{Base, is_identifier}
use Rattle.rules.specs.WellFormed.{well_formed, names_differ, wf_block, wf_place, wf_pieces, short}
use Rattle.rules.proofs.CommandBack.{mult_append}
use Rattle.rules.proofs.Names.{free_of, fresh, names_fresh, block_of_lem}
use Rattle.rules.proofs.ReadSteps.{Splits, last_seg, end_seg, in_seg, splits, Cuts, no_cut, cut_here, cut_later, cuts, ValueParts, value_parts, value_parts_lem, MoreRead, pieces_end, dashed, PiecesRead, pieced, pieces_read, KindRead, omitted, positional, named, place_read, places_read_lem, block_read, blocks_read_lem, segs_read, command_read_lem}
use Rattle.rules.proofs.ResultLaws.{ok_inj, ok≢bad, bind_ok}
use Rattle.rules.proofs.ScanBack.{ok_lex}
use Rattle.rules.proofs.ScanSound.{scan_ok}
use Rattle.rules.proofs.UnitBack.{ident_alnum, no_mark}
use Rattle.rules.proofs.UnitSound.{plain_short}
use Rattle.rules.proofs.ValueSound.{ok_token, value_wf}

-- ---- cutting keeps the tokens

abbrev pub ok_seg : Seg → Bool
ok_seg (seg ts e) = all ok_token ts

abbrev pub ok_cut : Cut → Bool
ok_cut (cut a p b) = all ok_token a && all ok_token b
ok_cut uncut = true

pub splits_ok : {s : Sep} {e : ℕ} {ts : List Token} {ss : List Seg} → Splits s e ts ss → all ok_token ts ≡ true → (all ok_seg ss ≡ true) × (is_nil ss ≡ false)
splits_ok last_seg h = (refl, refl)
splits_ok (end_seg r) h = ((splits_ok r h).0, refl)
splits_ok (in_seg {t = t} {ts = ts} r) h = (rw (and_l (ok_token t) (all ok_token ts) h) (splits_ok r (and_r (ok_token t) (all ok_token ts) h)).0, refl)

pub split_ok : (s : Sep) (e : ℕ) (ts : List Token) → all ok_token ts ≡ true → (all ok_seg (split s e ts) ≡ true) × (is_nil (split s e ts) ≡ false)
split_ok s e ts h = splits_ok (splits s e ts) h

cuts_ok : {s : Sep} {ts : List Token} {c : Cut} → Cuts s ts c → all ok_token ts ≡ true → ok_cut c ≡ true
cuts_ok no_cut h = refl
cuts_ok cut_here h = h
cuts_ok (cut_later {t = t} {ts = ts} r) h = rw (and_l (ok_token t) (all ok_token ts) h) (cuts_ok r (and_r (ok_token t) (all ok_token ts) h))

pub cut_ok : (s : Sep) (ts : List Token) → all ok_token ts ≡ true → ok_cut (cut_at s ts) ≡ true
cut_ok s ts h = cuts_ok (cuts s ts) h

-- ---- pieces

pub piece_plain : (w : List ℕ) → is_piece w ≡ true → any (λ c. eqb c 39) w ≡ false
piece_plain w h =
    by_bool (is_identifier w)
    (λ y. no_mark is_alnum refl w (ident_alnum w y))
    (λ y. no_mark is_digit refl w (and_r (not (is_nil w)) (all is_digit w) (rw y at h)))

pub piece_short : (w : List ℕ) → is_piece w ≡ true → ok_lex (word w) ≡ true → short w ≡ true
piece_short w h k = le-leb (length w) 32 (plain_short w k (piece_plain w h))

pub record More (g : List ℕ → Bool) (left : ℕ) (ws : List (List ℕ)) : Type 0 where
  pub good : all g ws ≡ true
  pub most : length ws ≤ left
  pub shorts : all short ws ≡ true

module _ {g : List ℕ → Bool} (plain-g : (w : List ℕ) → g w ≡ true → is_piece w ≡ true) where
  pub more_wf : {left : ℕ} {ts : List Token} {ws : List (List ℕ)} → MoreRead g left ts ws → all ok_token ts ≡ true → More g left ws
  more_wf pieces_end h = record { good = refl; most = omega arith; shorts = refl }
  more_wf (dashed {w = w} {ts = ts} k m) h =
      let r = more_wf m (search conjuncts) in
      record { good = rw (k, r.good); most = omega (arith, r.most); shorts = rw (piece_short w (plain-g w k) (search conjuncts), r.shorts) }

  pub pieces_wf : {left : ℕ} {ts : List Token} {ws : List (List ℕ)} → PiecesRead is_identifier g left ts ws → all ok_token ts ≡ true → wf_pieces g left ws ≡ true
  pieces_wf {left} (pieced {w = w} {ts = ts} {ws = ws} k m) h =
      let r = more_wf m (search conjuncts) in
      rw (k, r.good, le-leb (length ws) left r.most, piece_short w (rw k) (search conjuncts), r.shorts)

-- ---- a value that is read is not empty

pub value_some : (b : Base) (ts : List Token) (e : ℕ) (v : List Element) → read_value b ts e ≡ ok v → is_nil v ≡ false
value_some b ts e v h = not_nil (value_parts_lem b ts e v h)
  where
    not_nil : {us : List Token} {w : List Element} → ValueParts b us w → is_nil w ≡ false
    not_nil (value_parts u j o f hl d m hc) = refl

-- ---- places

pub kind_wf : {b : Base} {ns : List Name} {k : Bool} {ts : List Token} {e : ℕ} {x : Placed} → KindRead b ns k ts e x → all ok_token ts ≡ true → wf_place k (unplaced x) ≡ true
kind_wf omitted h = refl
kind_wf {b} (positional {t = t} {ts = ts} {e = e} {v = v} c) h = value_wf b (value_parts_lem b (t ∷ ts) e v c) h
kind_wf {b} (named {ts = ts} {nm = nm} {us = us} {q = q} {e = e} i n) h =
    let o : all ok_token nm && all ok_token us ≡ true = subst (λ z. ok_cut z ≡ true) i (cut_ok equals ts h) in
    rw (← n.is) (rw (
      pieces_wf (λ w h. h) (pieces_read 10 q is_piece is_identifier 3 nm n.name n.pieced) (search conjuncts),
      value_some b us e n.v n.value,
      value_wf b (value_parts_lem b us e n.v n.value) (search conjuncts),
    ))

pub kind_free : {b : Base} {ns : List Name} {k : Bool} {ts : List Token} {e : ℕ} {x : Placed} → KindRead b ns k ts e x → free_of k ns (place_name (unplaced x)) ≡ true
kind_free omitted = refl
kind_free (positional c) = refl
kind_free (named i n) = rw (← n.is) n.free

pub record PlacesWf (k : Bool) (n : ℕ) (ss : List Seg) (xs : List Placed) : Type 0 where
  pub fine : all (wf_place k) (map unplaced xs) ≡ true
  pub same : length xs ≡ length ss
  pub fit : n ≤ 32 → n + length xs ≤ 32

pub places_wf : (k : Bool) (bs : List Base) (n : ℕ) (ns : List Name) (ss : List Seg) (xs : List Placed) → all ok_seg ss ≡ true → read_places k bs n ns ss ≡ ok xs → PlacesWf k n ss xs
places_wf k bs n ns [] xs h q = rw (← (ok_inj q)) (record { fine = refl; same = refl; fit = λ z. omega arith })
places_wf k bs n ns (seg ts e ∷ ss) xs h q =
    let r = places_read_lem k bs n ns (seg ts e) ss xs q in
    let p = place_read k bs n ns ts e r.x r.here in
    let w : wf_place k (unplaced r.x) ≡ true = kind_wf p.how (search conjuncts) in
    let ih : PlacesWf k (suc n) ss r.more = places_wf k bs (suc n) _ ss r.more (search conjuncts) r.behind in
    rw (← r.is) (record { fine = rw (w, ih.fine); same = ap suc ih.same; fit = λ z. omega (arith, ih.fit p.few) })

-- ---- names are new

pub places_fresh : (k : Bool) (bs : List Base) (n : ℕ) (ns : List Name) (ss : List Seg) (xs : List Placed) → read_places k bs n ns ss ≡ ok xs
    → fresh k ns (map place_name (map unplaced xs)) ≡ true
places_fresh k bs n ns [] xs q = rw (← (ok_inj q))
places_fresh k bs n ns (seg ts e ∷ ss) xs q =
    let r = places_read_lem k bs n ns (seg ts e) ss xs q in
    let f : free_of k ns (place_name (unplaced r.x)) ≡ true = kind_free (place_read k bs n ns ts e r.x r.here).how in
    rw (← r.is) (rw f (places_fresh k bs (suc n) (place_name (unplaced r.x) ∷ ns) ss r.more r.behind))

-- ---- blocks

pub some_length : {A B : Type 0} (xs : List A) (ys : List B) → length xs ≡ length ys → is_nil ys ≡ false → is_nil xs ≡ false
some_length [] [] h k = k
some_length [] (y ∷ ys) h k = absurd (omega arith)
some_length (x ∷ xs) ys h k = refl

pub record BlockWf (n : ℕ) (x : PlacedBlock) : Type 0 where
  pub fine : wf_block (block_of x) ≡ true
  pub fit : n ≤ 32 → n + block_size x ≤ 32
  pub same : block_size x ≡ length (places_of (block_of x))

pub block_wf : (bs : List Base) (n : ℕ) (ss : List Seg) (x : PlacedBlock) → all ok_seg ss ≡ true → is_nil ss ≡ false → read_block bs n ss ≡ ok x → BlockWf n x
block_wf bs n ss x h hn q =
    let r = block_read bs n ss x q in
    let k : Bool = kind_of ss in
    let ps : List Place = map unplaced r.xs in
    let p : PlacesWf k n ss r.xs = places_wf k bs n [] ss r.xs h r.places in
    let some' : is_nil ps ≡ false = nil_map unplaced r.xs ∙ some_length r.xs ss p.same hn in
    let once : not k || names_differ (map place_name ps) ≡ true = names_fresh k (map place_name ps) (places_fresh k bs n [] ss r.xs r.places) in
    rw (← r.is) (record { fine = block_of_lem k ps some' p.fine once; fit = p.fit; same = sym (length-map r.xs unplaced) })

pub record BlocksWf (m n : ℕ) (xs : List PlacedBlock) : Type 0 where
  pub fine : all wf_block (map block_of xs) ≡ true
  pub few : m ≤ 8 → m + length xs ≤ 8
  pub fit : n ≤ 32 → n + length (all_places (map block_of xs)) ≤ 32

pub blocks_wf : (bs : List Base) (m n q : ℕ) (ss : List Seg) (xs : List PlacedBlock) → all ok_seg ss ≡ true → read_blocks bs m n q ss ≡ ok xs → BlocksWf m n xs
blocks_wf bs m n q [] xs h k = rw (← (ok_inj k)) (record { fine = refl; few = λ z. omega arith; fit = λ z. omega arith })
blocks_wf bs m n q (seg ts e ∷ ss) xs h k =
    let r = blocks_read_lem bs m n q ts e ss xs k in
    let sp : (all ok_seg (split comma e ts) ≡ true) × (is_nil (split comma e ts) ≡ false) = split_ok comma e ts (search conjuncts) in
    let b : BlockWf n r.x = block_wf bs n (split comma e ts) r.x sp.0 sp.1 r.here in
    let ih : BlocksWf (suc m) (n + block_size r.x) r.more = blocks_wf bs (suc m) _ e ss r.more (search conjuncts) r.behind in
    rw (← r.is) (record {
      fine = rw (b.fine, ih.fine);
      few = λ z. omega (arith, ih.few r.few);
      fit = λ z. omega (arith, ih.fit (b.fit z), b.same, length-append (places_of (block_of r.x)) (all_places (map block_of r.more)));
    })

-- ---- the running product

pub running_is : (m : ℕ) (ps : List Placed) (r : ℕ) → m ≤ 65535 → running m ps ≡ ok r → (r ≡ m * mult (map place_count (map unplaced ps))) × (r ≤ 65535)
running_is m [] r hm h = rw (← (ok_inj h)) (sym (mul-one m), hm)
running_is m (placed p x ∷ ps) r hm h =
    by_bool (leb (m * place_count x) 65535)
    (λ y.
    let ih : (r ≡ m * place_count x * mult (map place_count (map unplaced ps))) × (r ≤ 65535) =
    running_is (m * place_count x) ps r (leb-true (m * place_count x) 65535 y) (rw (y, running) at h) in
    (ih.0 ∙ omega arith, ih.1))
    (λ y. ok≢bad (rw (y, running) at h))

pub running_b_is : (m : ℕ) (xs : List PlacedBlock) (r : ℕ) → m ≤ 65535 → running_blocks m xs ≡ ok r → (r ≡ m * mult (map place_count (all_places (map block_of xs)))) × (r ≤ 65535)
running_b_is m [] r hm h = rw (← (ok_inj h)) (sym (mul-one m), hm)
running_b_is m (placed_block k ps ∷ xs) r hm h =
    bind_ok (running m ps) (λ m'. running_blocks m' xs) r h
    (λ m' a h'.
    let p : (m' ≡ m * mult (map place_count (map unplaced ps))) × (m' ≤ 65535) = running_is m ps m' hm a in
    let q : (r ≡ m' * mult (map place_count (all_places (map block_of xs)))) × (r ≤ 65535) = running_b_is m' xs r p.1 h' in
    (q.0 ∙ rw (p.0, mult_append (map unplaced ps) (all_places (map block_of xs))) (omega arith), q.1))

-- ---- the command

pub segs_wf : (bs : List Base) (ss : List Seg) (c : Command) → all ok_seg ss ≡ true → read_segs bs ss ≡ ok c → well_formed c ≡ true
segs_wf bs [] c h k = ok≢bad k
segs_wf bs (seg ts e ∷ ss) c h k =
    let r = segs_read bs ts e ss c k in
    let ps : List Place = all_places (map block_of r.xs) in
    let w : wf_pieces is_identifier 2 r.code ≡ true =
    pieces_wf (λ w h. rw h) (pieces_read 8 e is_identifier is_identifier 2 ts r.code r.pieced) (search conjuncts) in
    let b : BlocksWf 0 0 r.xs = blocks_wf bs 0 0 e ss r.xs (search conjuncts) r.blocks in
    let p : (r.orders ≡ 1 * mult (map place_count ps)) × (r.orders ≤ 65535) = running_b_is 1 r.xs r.orders (omega arith) r.counted in
    rw (← r.is) (rw (
      w,
      le-leb (length (map block_of r.xs)) 8 (rw length-map (omega (arith, b.few (omega arith)))),
      b.fine,
      le-leb (length ps) 32 (omega (arith, b.fit (omega arith))),
      le-leb (mult (map place_count ps)) 65535 (omega (arith, p.0, p.1)),
    ))

pub cut_wf : (bs : List Base) (n : ℕ) (t : Cut) (c : Command) → ok_cut t ≡ true → read_cut bs n t ≡ ok c → well_formed c ≡ true
cut_wf bs n uncut c h k = ok≢bad k
cut_wf bs n (cut ts p []) c h k = segs_wf bs (split colon p ts) c (split_ok colon p ts (search conjuncts)).0 k
cut_wf bs n (cut ts p (u ∷ us)) c h k = ok≢bad k

-- a command that is read is well formed
pub read_wf : (ls cs : List ℕ) (c : Command) → read ls cs ≡ ok c → well_formed c ≡ true
read_wf ls cs c h =
    let r = command_read_lem ls cs c h in
    cut_wf r.bs (length cs) (cut_at semi r.ts) c (cut_ok semi r.ts (scan_ok cs r.ts r.tokens)) r.cut
