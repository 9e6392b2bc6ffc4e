-- Tokens to a command, both ways: phrases are split exactly at the separators that do not stand inside them.
use Rattle.laws.specs.Cases.{Always, conjuncts}
use Prim.Native.Nat.{ℕ, suc, ◌+◌, ◌*◌, ◌≤◌, ◌<◌}
use mathlib.Core.Path.{◌≡◌, refl, sym, ap, ap₂, ◌∙◌, subst}
use mathlib.Core.Bool.{Bool, true, false, not, false≢true}
use mathlib.Core.List.{List, [], ◌∷◌, ◌++◌, map, append-nil, append_assoc}
use native.Mathlib.Nat.{add-zero}
use native.Mathlib.Omega.{arith}
use lib.Dec.{ltb}
use lib.ListN.{length, get_or, length-append, length-map}
use borrow.Author.Tests.{ltb-true}
use Rattle.laws.specs.Cases.{by_bool, by_option}
use Rattle.laws.specs.Lists.{all, any, is_nil}
use Rattle.rules.specs.Commands.{Name, Place, Block, block, Command, command, place_count, mult, Seg, seg, split, Cut, cut, uncut, cut_at, is_piece, place_base, place_name, same_name, places_of, all_places}
use Rattle.rules.specs.Printing.{more_lex, word_lex}
use Rattle.rules.specs.Reading.{Placed, unplaced, read_place, read_places, kind_of, PlacedBlock, read_block, block_size, read_blocks, block_of, read_segs, read_cut, read_letters}
use Rattle.rules.specs.Records.{bases_of}
use Rattle.rules.specs.Refusals.{ok}
use Rattle.rules.specs.Tokens.{Sep, dash, comma, colon, equals, semi, Lex, word, sep, Token, lex_of}
use Rattle.rules.specs.Units.{r_d, Base, plain, letter, is_identifier, base_of}
use Rattle.rules.proofs.CommandBack.{Along, pieces_lex, PlaceTokens, no_tokens, position_tokens, named_tokens, PlacesTokens, BlocksTokens, no_blocks, a_block, tokens_read}
use Rattle.rules.proofs.ReadSound.{running_b_is, places_fresh}
use Rattle.rules.specs.WellFormed.{names_differ}
use Rattle.rules.proofs.Names.{name_refl, name_is, fresh, fresh_of, fresh_is, fresh_none}
use Rattle.rules.proofs.ReadSteps.{Splits, last_seg, end_seg, in_seg, splits, Cuts, no_cut, cut_here, cut_later, cuts, value_parts_lem, MoreRead, pieces_end, dashed, PiecesRead, pieced, pieces_read, KindRead, positional, place_read, places_read_lem, block_read, blocks_read_lem, segs_read}
use Rattle.rules.proofs.ResultLaws.{ok_inj, ok≢bad, map_ok}
use Rattle.rules.proofs.ValueBack.{toks}
use Rattle.grammar.specs.Grammar.{Rest, done, piece as piece', Pieces, pieces as pieces', PlaceOf, omitted, position, named, Places, last, next, Unlike, none as alone, other, NamesDiffer, more, Blocks, Under, given, past, Derives, derives}
use Rattle.grammar.proofs.UnitExact.{letter_is}
use Rattle.grammar.proofs.ValueExact.{value_sound, value_complete}

-- ======== sound

-- ---- pieces

more_sound : {g : List ℕ → Bool} {left : ℕ} {ts : List Token} {ws : List (List ℕ)} → MoreRead g left ts ws → Rest g (map lex_of ts) ws × (length ws ≤ left)
more_sound pieces_end = (done, omega arith)
more_sound (dashed h m) = let r = more_sound m in (piece' h r.0, omega (arith, r.1))

pieces_sound : {g : List ℕ → Bool} {left : ℕ} {ts : List Token} {ws : List (List ℕ)} → PiecesRead is_identifier g left ts ws → Pieces g left (map lex_of ts) ws
pieces_sound (pieced h m) = let r = more_sound m in pieces' h r.0 r.1

-- ---- cutting and splitting

abbrev CutOf : Sep → List Lex → Cut → Type 0
CutOf s xs (cut a p r) = xs ≡ map lex_of a ++ (sep s ∷ map lex_of r)
CutOf s xs uncut = Always

cuts_are : {s : Sep} {ts : List Token} {c : Cut} → Cuts s ts c → CutOf s (map lex_of ts) c
cuts_are no_cut = tt
cuts_are cut_here = refl
cuts_are (cut_later {t = t} r) = ap (λ z. lex_of t ∷ z) (cuts_are r)

cut_is : (s : Sep) (ts : List Token) → CutOf s (map lex_of ts) (cut_at s ts)
cut_is s ts = cuts_are (cuts s ts)

-- the pieces after the first, each behind its separator
abbrev tails : Sep → List Seg → List Lex
tails s [] = []
tails s (seg ts e ∷ ss) = sep s ∷ (map lex_of ts ++ tails s ss)

abbrev glue : Sep → List Seg → List Lex
glue s [] = []
glue s (seg ts e ∷ ss) = map lex_of ts ++ tails s ss

glue_sep : (s : Sep) (ss : List Seg) → is_nil ss ≡ false → tails s ss ≡ sep s ∷ glue s ss
glue_sep s [] h = absurd (false≢true (sym h))
glue_sep s (seg ts e ∷ ss) h = refl

splits_are : {s : Sep} {e : ℕ} {ts : List Token} {ss : List Seg} → Splits s e ts ss → (glue s ss ≡ map lex_of ts) × (is_nil ss ≡ false)
splits_are last_seg = (refl, refl)
splits_are {s} (end_seg {ss = ss} r) = let ih = splits_are r in (glue_sep s ss ih.1 ∙ ap (λ l. sep s ∷ l) ih.0, refl)
splits_are (in_seg {t = t} r) = (ap (λ l. lex_of t ∷ l) (splits_are r).0, refl)

split_is : (s : Sep) (e : ℕ) (ts : List Token) → (glue s (split s e ts) ≡ map lex_of ts) × (is_nil (split s e ts) ≡ false)
split_is s e ts = splits_are (splits s e ts)

-- ---- names

unlike_is : (nm : Name) (ms : List Name) → not (any (same_name nm) ms) ≡ true → Unlike nm ms
unlike_is nm [] h = alone
unlike_is nm (m ∷ ms) h =
    by_bool (same_name nm m)
    (λ y. absurd (false≢true (rw y at h)))
    (λ y. other (λ e. false≢true (sym y ∙ subst (λ z. same_name nm z ≡ true) e (name_refl nm))) (unlike_is nm ms (rw y at h)))

unlike_test : {nm : Name} {ms : List Name} → Unlike nm ms → not (any (same_name nm) ms) ≡ true
unlike_test alone = refl
unlike_test {nm = nm} (other {m = m} h u) = by_bool (same_name nm m) (λ y. absurd (h (name_is nm m y))) (λ y. rw y (unlike_test u))

differ_is : (xs : List Name) → names_differ xs ≡ true → NamesDiffer xs
differ_is [] h = alone
differ_is (x ∷ xs) h =
    more (unlike_is x xs (search conjuncts)) (differ_is xs (search conjuncts))

differ_test : {xs : List Name} → NamesDiffer xs → names_differ xs ≡ true
differ_test alone = refl
differ_test (more u d) = rw (unlike_test u) (differ_test d)

once_is : (k : Bool) (xs : List Name) → fresh k [] xs ≡ true → k ≡ true → NamesDiffer xs
once_is true xs h e = differ_is xs (fresh_is [] xs h).0
once_is false xs h e = absurd (false≢true e)

once_test : (k : Bool) (xs : List Name) → (k ≡ true → NamesDiffer xs) → fresh k [] xs ≡ true
once_test true xs f = fresh_of [] xs refl (differ_test (f refl))
once_test false xs f = fresh_none [] xs

-- ---- places

kind_sound : {b : Base} {ns : List Name} {k : Bool} {ts : List Token} {e : ℕ} {x : Placed} → KindRead b ns k ts e x → PlaceOf k (map lex_of ts) (unplaced x) × (b ≡ place_base (unplaced x))
kind_sound KindRead.omitted = (omitted, refl)
kind_sound {b} (positional {t = t} {ts = ts} {e = e} {v = v} c) = (position (value_sound (value_parts_lem b (t ∷ ts) e v c)), refl)
kind_sound {b} (KindRead.named {ts = ts} {nm = nm} {us = us} {q = q} {e = e} i n) =
    let c : map lex_of ts ≡ map lex_of nm ++ (sep equals ∷ map lex_of us) = subst (λ z. CutOf equals (map lex_of ts) z) i (cut_is equals ts) in
    rw (c, ← n.is) (named (pieces_sound (pieces_read 10 q is_piece is_identifier 3 nm n.name n.pieced)) (value_sound (value_parts_lem b us e n.v n.value)), refl)

place_sound : (k : Bool) (bs : List Base) (n : ℕ) (ns : List Name) (ts : List Token) (e : ℕ) (x : Placed) → read_place k bs n ns (seg ts e) ≡ ok x
    → (PlaceOf k (map lex_of ts) (unplaced x) × (get_or bs n (plain r_d) ≡ place_base (unplaced x))) × (n < 32)
place_sound k bs n ns ts e x q = let r = place_read k bs n ns ts e x q in (kind_sound r.how, r.few)

record PlacesAre (k : Bool) (bs : List Base) (n : ℕ) (xs : List Lex) (ps : List Placed) : Type 0 where
  are : Places k xs (map unplaced ps)
  under : Along bs n (map place_base (map unplaced ps))
  fit : n + length ps ≤ 32

places_sound : (k : Bool) (bs : List Base) (n : ℕ) (ns : List Name) (s : Seg) (ss : List Seg) (ps : List Placed) → read_places k bs n ns (s ∷ ss) ≡ ok ps → PlacesAre k bs n (glue comma (s ∷ ss)) ps
places_sound k bs n ns (seg ts e) [] ps q =
    let r = places_read_lem k bs n ns (seg ts e) [] ps q in
    let p = place_sound k bs n ns ts e r.x r.here in
    rw (← r.is, ← (ok_inj r.behind), append-nil (map lex_of ts)) (record { are = last p.0.0; under = (p.0.1, tt); fit = omega (arith, p.1) })
places_sound k bs n ns (seg ts e) (s ∷ ss) ps q =
    let r = places_read_lem k bs n ns (seg ts e) (s ∷ ss) ps q in
    let p = place_sound k bs n ns ts e r.x r.here in
    let ih : PlacesAre k bs (suc n) (glue comma (s ∷ ss)) r.more = places_sound k bs (suc n) _ s ss r.more r.behind in
    rw (← r.is, glue_sep comma (s ∷ ss) refl) (record { are = next p.0.0 ih.are; under = (p.0.1, ih.under); fit = omega (arith, ih.fit) })

-- ---- blocks

along_append : (bs : List Base) (n : ℕ) (xs ys : List Base) → Along bs n xs → Along bs (n + length xs) ys → Along bs n (xs ++ ys)
along_append bs n [] ys h k = rw add-zero at k
along_append bs n (x ∷ xs) ys h k =
    let q : n + suc (length xs) ≡ suc n + length xs = omega arith in
    (h.0, along_append bs (suc n) xs ys h.1 (subst (λ m. Along bs m ys) q k))

record BlockIs (bs : List Base) (n : ℕ) (xs : List Lex) (x : PlacedBlock) : Type 0 where
  k : Bool
  ps : List Place
  is : block_of x ≡ block k ps
  are : Places k xs ps
  once : k ≡ true → NamesDiffer (map place_name ps)
  under : Along bs n (map place_base ps)
  many : block_size x ≡ length ps
  fit : n + length ps ≤ 32

block_sound : (bs : List Base) (n : ℕ) (ss : List Seg) (x : PlacedBlock) → is_nil ss ≡ false → read_block bs n ss ≡ ok x → BlockIs bs n (glue comma ss) x
block_sound bs n [] x h q = absurd (false≢true (sym h))
block_sound bs n (s ∷ ss) x h q =
    let r = block_read bs n (s ∷ ss) x q in
    let k : Bool = kind_of (s ∷ ss) in
    let p : PlacesAre k bs n (glue comma (s ∷ ss)) r.xs = places_sound k bs n [] s ss r.xs r.places in
    rw (← r.is) (record {
      k = k;
      ps = map unplaced r.xs;
      is = refl;
      are = p.are;
      once = once_is k (map place_name (map unplaced r.xs)) (places_fresh k bs n [] (s ∷ ss) r.xs r.places);
      under = p.under;
      many = sym (length-map r.xs unplaced);
      fit = rw length-map p.fit;
    })

record BlocksAre (bs : List Base) (m n : ℕ) (xs : List Lex) (bl : List Block) : Type 0 where
  are : Blocks xs bl
  under : Along bs n (bases_of bl)
  few : m ≤ 8 → m + length bl ≤ 8
  fit : n ≤ 32 → n + length (all_places bl) ≤ 32

blocks_sound : (bs : List Base) (m n q : ℕ) (ss : List Seg) (xs : List PlacedBlock) → read_blocks bs m n q ss ≡ ok xs → BlocksAre bs m n (tails colon ss) (map block_of xs)
blocks_sound bs m n q [] xs k = rw (← (ok_inj k)) (record { are = done; under = tt; few = λ z. omega arith; fit = λ z. omega arith })
blocks_sound bs m n q (seg ts e ∷ ss) xs k =
    let r = blocks_read_lem bs m n q ts e ss xs k in
    let sp : (glue comma (split comma e ts) ≡ map lex_of ts) × (is_nil (split comma e ts) ≡ false) = split_is comma e ts in
    let b : BlockIs bs n (map lex_of ts) r.x = subst (λ z. BlockIs bs n z r.x) sp.0 (block_sound bs n (split comma e ts) r.x sp.1 r.here) in
    let bl : List Block = map block_of r.more in
    let ih : BlocksAre bs (suc m) (n + block_size r.x) (tails colon ss) bl = blocks_sound bs (suc m) (n + block_size r.x) e ss r.more r.behind in
    let u : Along bs (n + length (map place_base b.ps)) (bases_of bl) = subst (λ z. Along bs (n + z) (bases_of bl)) (b.many ∙ sym (length-map b.ps place_base)) ih.under in
    rw (← r.is, b.is) (record {
      are = next b.are b.once ih.are;
      under = along_append bs n (map place_base b.ps) (bases_of bl) b.under u;
      few = λ z. omega (arith, ih.few r.few);
      fit = λ z. omega (arith, ih.fit (omega (arith, b.fit, b.many)), b.many, length-append b.ps (all_places bl));
    })

-- ---- the letters

bases_append : (xs ys : List Place) → map place_base (xs ++ ys) ≡ map place_base xs ++ map place_base ys
bases_append [] ys = refl
bases_append (x ∷ xs) ys = ap (λ l. place_base x ∷ l) (bases_append xs ys)

all_bases_lem : (bl : List Block) → bases_of bl ≡ map place_base (all_places bl)
all_bases_lem [] = refl
all_bases_lem (b ∷ bl) = ap (λ l. map place_base (places_of b) ++ l) (all_bases_lem bl) ∙ sym (bases_append (places_of b) (all_places bl))

along_down : (b : Base) (bs : List Base) (n : ℕ) (qs : List Base) → Along (b ∷ bs) (suc n) qs → Along bs n qs
along_down b bs n [] h = tt
along_down b bs n (q ∷ qs) h = (h.0, along_down b bs (suc n) qs h.1)

along_up : (b : Base) (bs : List Base) (n : ℕ) (qs : List Base) → Along bs n qs → Along (b ∷ bs) (suc n) qs
along_up b bs n [] h = tt
along_up b bs n (q ∷ qs) h = (h.0, along_up b bs (suc n) qs h.1)

along_none : (n m : ℕ) (qs : List Base) → Along [] n qs → Along [] m qs
along_none n m [] h = tt
along_none n m (q ∷ qs) h = (h.0, along_none (suc n) (suc m) qs h.1)

along_under : (bs qs : List Base) → Along bs 0 qs → Under bs qs
along_under bs [] h = done
along_under [] (q ∷ qs) h = rw (← h.0) (past (along_under [] qs (along_none 1 0 qs h.1)))
along_under (b ∷ bs) (q ∷ qs) h = rw (← h.0) (given (along_under bs qs (along_down b bs 0 qs h.1)))

under_along : {bs qs : List Base} → Under bs qs → Along bs 0 qs
under_along done = tt
under_along (given {b = b} {bs = bs} {qs = qs} u) = (refl, along_up b bs 0 qs (under_along u))
under_along (past {qs = qs} u) = (refl, along_none 0 1 qs (under_along u))

-- ---- the command

segs_sound : (bs : List Base) (ss : List Seg) (c : Command) → read_segs bs ss ≡ ok c → Derives bs (glue colon ss ++ (sep semi ∷ [])) c
segs_sound bs [] c k = ok≢bad k
segs_sound bs (seg ts e ∷ ss) c k =
    let r = segs_read bs ts e ss c k in
    let bl : List Block = map block_of r.xs in
    let b : BlocksAre bs 0 0 (tails colon ss) bl = blocks_sound bs 0 0 e ss r.xs r.blocks in
    let p : (r.orders ≡ 1 * mult (map place_count (all_places bl))) × (r.orders ≤ 65535) = running_b_is 1 r.xs r.orders (omega arith) r.counted in
    rw (← r.is, append_assoc (map lex_of ts) (tails colon ss) (sep semi ∷ []))
    (derives (pieces_sound (pieces_read 8 e is_identifier is_identifier 2 ts r.code r.pieced)) b.are (omega (arith, b.few (omega arith))) (omega (arith, b.fit (omega arith)))
    (omega (arith, p.0, p.1)) (along_under bs (map place_base (all_places bl)) (subst (λ z. Along bs 0 z) (all_bases_lem bl) b.under)))

cut_sound : (bs : List Base) (n : ℕ) (t : Cut) (c : Command) (xs : List Lex) → CutOf semi xs t → read_cut bs n t ≡ ok c → Derives bs xs c
cut_sound bs n uncut c xs h k = ok≢bad k
cut_sound bs n (cut ts p []) c xs h k =
    subst (λ z. Derives bs z c) (ap (λ z. z ++ (sep semi ∷ [])) (split_is colon p ts).0 ∙ sym h) (segs_sound bs (split colon p ts) c k)
cut_sound bs n (cut ts p (u ∷ us)) c xs h k = ok≢bad k

pub derives_sound : (bs : List Base) (n : ℕ) (ts : List Token) (c : Command) → read_cut bs n (cut_at semi ts) ≡ ok c → Derives bs (map lex_of ts) c
derives_sound bs n ts c k = cut_sound bs n (cut_at semi ts) c (map lex_of ts) (cut_is semi ts) k

pub bases_sound : (i : ℕ) (ls : List ℕ) (bs : List Base) → read_letters i ls ≡ ok bs → (map letter bs ≡ ls) × (i ≤ 32 → i + length ls ≤ 32)
bases_sound i [] bs h = rw (← (ok_inj h)) (refl, λ z. omega arith)
bases_sound i (l ∷ ls) bs h =
    by_bool (ltb i 32)
    (λ y.
    by_option (base_of l)
    (λ z. ok≢bad (rw z at (rw (y, read_letters) at h)))
    (λ b z.
    map_ok (λ bs. b ∷ bs) (read_letters (suc i) ls) bs (rw z at (rw (y, read_letters) at h))
    (λ bs' a r.
    let ih : (map letter bs' ≡ ls) × (suc i ≤ 32 → suc i + length ls ≤ 32) = bases_sound (suc i) ls bs' a in
    rw (← r) (ap₂ (λ c l. c ∷ l) (sym (letter_is l b z)) ih.0, λ z. omega (arith, ih.1 (ltb-true i 32 y))))))
    (λ y. ok≢bad (rw (y, read_letters) at h))

-- ======== complete

rest_complete : {g : List ℕ → Bool} {xs : List Lex} {ws : List (List ℕ)} → Rest g xs ws → (xs ≡ more_lex dash (map word_lex ws)) × (all g ws ≡ true)
rest_complete done = (refl, refl)
rest_complete (piece' {w = w} h r) = let ih = rest_complete r in (ap (λ l. sep dash ∷ word w ∷ l) ih.0, rw h ih.1)

place_complete : {k : Bool} {xs : List Lex} {p : Place} → PlaceOf k xs p → PlaceTokens k xs p
place_complete (omitted {b = b}) = no_tokens b
place_complete (position v) = position_tokens (value_complete v)
place_complete (named (pieces' {w = w} {ws = ws} h r l) v) = let o = rest_complete r in rw o.0 (named_tokens w ws h o.1 l (value_complete v))

places_complete : {k : Bool} {xs : List Lex} {pl : List Place} → Places k xs pl → PlacesTokens k xs pl
places_complete (last p) = PlacesTokens.last (place_complete p)
places_complete (next p m) = PlacesTokens.next (place_complete p) (places_complete m)

blocks_complete : {xs : List Lex} {bl : List Block} → Blocks xs bl → BlocksTokens xs bl
blocks_complete done = no_blocks
blocks_complete (next {k = k} {ps = pl} p o m) = a_block (places_complete p) (once_test k (map place_name pl) o) (blocks_complete m)

pub derives_complete : (bs : List Base) (n : ℕ) (xs : List Lex) (c : Command) (ps : List ℕ) → Derives bs xs c → read_cut bs n (cut_at semi (toks ps xs)) ≡ ok c
derives_complete bs n xs c ps (derives {xs = cs} {ys = ys} {bs = bl} (pieces' {w = w} {xs = zs} {ws = ws} h r l) d hm hn hc hu) =
    let o = rest_complete r in
    let a : Along bs 0 (bases_of bl) = subst (λ z. Along bs 0 z) (sym (all_bases_lem bl)) (under_along hu) in
    rw o.0 (subst (λ z. read_cut bs n (cut_at semi (toks ps z)) ≡ ok (command (w ∷ ws) bl)) (append_assoc (pieces_lex (w ∷ ws)) ys (sep semi ∷ []))
    (tokens_read bs n w ws ps h o.1 l (blocks_complete d) hm hn hc a))
