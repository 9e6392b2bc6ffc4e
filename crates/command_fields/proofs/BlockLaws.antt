-- Places behind places and blocks behind blocks: each turn writes the next part of the table that the rules read, and what is left is read behind it.
use Prim.Native.Nat.{ℕ, suc, ◌+◌, ◌-◌, ◌^◌, ◌≤◌, ◌<◌}
use mathlib.Core.Path.{◌≡◌, refl, sym, ap, ◌∙◌, subst}
use mathlib.Core.Bool.{Bool, true, cond}
use mathlib.Core.List.{List, [], ◌∷◌, ◌++◌, map}
use native.Mathlib.Numerals.{add-one}
use native.Mathlib.Omega.{arith}
use borrow.Author.Tests.{ltb-true, ltb-false}
use mir.Syntax.{w64}
use mir.Val.{Fits}
use lib.Dec.{ltb}
use lib.ListN.{length, get_or, take, drop, length-append, length-drop}
use Rattle.rules.proofs.ReadSteps.{places_read_lem, place_read, block_read, blocks_read_lem, segs_read}
use Rattle.laws.specs.Cases.{by_bool}
use Rattle.laws.specs.Over.{over, part, back, length_part}
use Rattle.rules.specs.Characters.{byte}
use Rattle.rules.specs.Commands.{Name, place_name, Command, seg, split, cut, cut_at}
use Rattle.rules.specs.Orders.{count}
use Rattle.rules.specs.Reading.{kind_of, placed_block, Placed, unplaced, PlacedBlock, block_of, block_size, read_place, read_places, read_block, read_blocks, read_segs, read_cut}
use Rattle.rules.specs.Records.{Field, field, field_bytes, bytes_of, many, place_fields, block_fields, head_bytes, head_size, body_bytes}
use Rattle.rules.specs.Refusals.{ok}
use Rattle.rules.specs.Tokens.{comma, colon, semi}
use Rattle.rules.specs.Units.{is_identifier}
use Rattle.rules.proofs.FieldLaws.{bytes_append}
use Rattle.rules.proofs.ResultLaws.{ok_inj, ok≢bad}
use Rattle.token_table.specs.Table.{place_in, tokens_in}
use Rattle.read_bases.specs.Bases.{bases_in}
use Rattle.token_table.specs.declared.Token.{Token as Entry}
use Rattle.token_table.proofs.KindLaws.{no_token}
use Rattle.token_table.specs.Parts.{before, place_or, parts_from, words_in, words_size}
use Rattle.token_table.proofs.FindLaws.{parts_all, parts_next, parts_end, cut_at_lem, cut_none}
use Rattle.token_table.proofs.WordLaws.{pieces_words, words_bytes}
use Rattle.read_command.specs.Blocks.{HasKind}
use Rattle.command_fields.specs.Recorder.{word_bytes, place_bytes, places_bytes, block_bytes, blocks_bytes, Wrote, PlaceFits, PutPlace, PlacesFit, PutPlaces, BlockFits, PutBlock, BlocksFit, PutBlocks, SegmentsFit, PutSegments, CommandFits, PutCommand}
use Rattle.command_fields.proofs.WritingLaws.{Writing, writing_none, writing_more, writing_all, writing_room, writing_long}
use Rattle.command_fields.proofs.PlaceLaws.{Pieces, pieces_wrote, wrote_inside, chained, room_behind}

-- ---- the loop over places

-- with the place e for the separator behind them: the places from index i on are left
pub record PlacesLeft (ts : List Entry) (cs ls : List ℕ) (k : Bool) (n₀ : ℕ) (old : List ℕ) (e : ℕ) (xs : List Placed) (i n z : ℕ) (o : List ℕ) : Type 0 where
  names : List Name
  rest : List Placed
  is : read_places k (bases_in ls) n names (parts_from comma e cs ts i) ≡ ok rest
  at : Writing (places_bytes xs) (places_bytes rest) old z o
  count : n + length rest ≡ n₀ + length xs

abbrev pub Placing : List Entry → List ℕ → List ℕ → Bool → ℕ → List ℕ → ℕ → ℕ → ℕ → List ℕ → Type 0
Placing ts cs ls k n₀ old i n z o =
    (e : ℕ) (xs : List Placed) → read_places k (bases_in ls) n₀ [] (split comma e (tokens_in cs ts)) ≡ ok xs → PlacesLeft ts cs ls k n₀ old e xs i n z o

pub placing_none : (ts : List Entry) (cs ls : List ℕ) (k : Bool) (n₀ : ℕ) (old : List ℕ) → Placing ts cs ls k n₀ old 0 n₀ 0 old
placing_none ts cs ls k n₀ old e xs h = record { names = []; rest = xs; is = rw (parts_all comma e cs ts) h; at = writing_none (places_bytes xs) old; count = refl }

module _ (ts : List Entry) (cs ls : List ℕ) (k : Bool) (n₀ : ℕ) (old : List ℕ) (i n z : ℕ) (o : List ℕ) where
  -- the next place, between i and j, and what is left behind it
  record NextPlace (j e : ℕ) (xs : List Placed) : Type 0 where
    names : List Name
    x : Placed
    more : List Placed
    here : read_place k (bases_in ls) n names (seg (tokens_in cs (take (j - i) (drop i ts))) (place_or (drop j ts) e)) ≡ ok x
    behind : read_places k (bases_in ls) (n + 1) (place_name (unplaced x) ∷ names) (parts_from comma e cs ts (j + 1)) ≡ ok more
    at : Writing (places_bytes xs) (place_bytes x ++ places_bytes more) old z o
    count : n + 1 + length more ≡ n₀ + length xs
    few : n < 32

  next_place : {j : ℕ} (e : ℕ) (xs : List Placed) → i ≤ length ts → j ≡ i + before 6 (drop i ts) → PlacesLeft ts cs ls k n₀ old e xs i n z o → NextPlace j e xs
  next_place {j} e xs h f w =
      let s = tokens_in cs (take (j - i) (drop i ts)) in
      let p = place_or (drop j ts) e in
      let r = places_read_lem k (bases_in ls) n w.names (seg s p) (parts_from comma e cs ts (j + 1)) w.rest (rw (parts_next comma e cs ts i h f refl) at w.is) in
      record {
        names = w.names;
        x = r.x;
        more = r.more;
        here = r.here;
        behind = rw (add-one n) r.behind;
        at = subst (λ (l : List ℕ). Writing (places_bytes xs) l old z o) (sym (ap places_bytes r.is) ∙ bytes_append (place_fields (unplaced r.x)) (many place_fields (map unplaced r.more))) w.at;
        count = omega (arith, w.count, ap length r.is);
        few = (place_read k (bases_in ls) n w.names s p r.x r.here).few;
      }

  module _ (v : Placing ts cs ls k n₀ old i n z o) where
    module _ {j : ℕ} (w : PlacesFit ts cs ls k n₀ (length old)) (h : i ≤ length ts) (f : j ≡ i + before 6 (drop i ts)) where
      now' : NextPlace j w.end w.xs
      now' = next_place w.end w.xs h f (v w.end w.xs w.is)

      pub placing_next : Fits w64 (n + 1)
      placing_next = omega (arith, now'.few)

      pub placing_room : z ≤ length o
      placing_room = omega (arith, writing_room _ now'.at w.fits, writing_long _ now'.at w.fits)

      pub placing_fits : PlaceFits (take (j - i) (drop i ts)) cs ls k n (length (part o z))
      placing_fits =
          let x = place_bytes now'.x in
          let m = places_bytes now'.more in
          record {
            end = place_or (drop j ts) w.end;
            names = now'.names;
            x = now'.x;
            is = now'.here;
            fits = omega (arith, writing_room (x ++ m) now'.at w.fits, writing_long (x ++ m) now'.at w.fits, length-append x m, length_part o z);
          }

      pub placing_sum : {r : ℕ} {ys : List ℕ} → PutPlace (take (j - i) (drop i ts)) cs ls k n r (part o z) ys → length old < 2 ^ 64 → Fits w64 (z + r)
      placing_sum p g =
          let x = place_bytes now'.x in
          let m = places_bytes now'.more in
          omega (arith, (p now'.names (place_or (drop j ts) w.end) now'.x now'.here).0, writing_room (x ++ m) now'.at w.fits, length-append x m)

    pub placing_long : PlacesFit ts cs ls k n₀ (length old) → length o ≡ length old
    placing_long w = let l = v w.end w.xs w.is in writing_long (places_bytes l.rest) l.at w.fits

    pub placing_more : {j r : ℕ} {ys : List ℕ} → i ≤ length ts → j ≡ i + before 6 (drop i ts) → PutPlace (take (j - i) (drop i ts)) cs ls k n r (part o z) ys
        → Placing ts cs ls k n₀ old (j + 1) (n + 1) (z + r) (back o z ys)
    placing_more {j} h f p e xs g =
        let q = next_place e xs h f (v e xs g) in
        record { names = place_name (unplaced q.x) ∷ q.names; rest = q.more; is = q.behind; at = writing_more (place_bytes q.x) (places_bytes q.more) q.at (p q.names (place_or (drop j ts) e) q.x q.here); count = q.count }

    pub placing_all : length ts < i → PutPlaces ts cs ls k n₀ z n old o
    placing_all h e xs g =
        let l = v e xs g in
        let r : l.rest ≡ [] = sym (ok_inj (sym (rw (parts_end comma e cs ts i h)) ∙ l.is)) in
        (omega (arith, l.count, ap length r), writing_all (subst (λ (m : List Placed). Writing (places_bytes xs) (places_bytes m) old z o) r l.at))

-- ---- a block

-- a block that is read: its kind, its places
record BlockIs (ts : List Entry) (cs ls : List ℕ) (k : Bool) (n e : ℕ) (b : PlacedBlock) : Type 0 where
  xs : List Placed
  places : read_places k (bases_in ls) n [] (split comma e (tokens_in cs ts)) ≡ ok xs
  many' : block_size b ≡ length xs
  bytes : block_bytes b ≡ field_bytes (field 2 (cond k (byte "N") (byte "P") ∷ [])) ++ places_bytes xs

module _ (ts : List Entry) (cs ls : List ℕ) (n : ℕ) {k : Bool} (g : HasKind ts k) where
  block_is : (e : ℕ) (b : PlacedBlock) → read_block (bases_in ls) n (split comma e (tokens_in cs ts)) ≡ ok b → BlockIs ts cs ls k n e b
  block_is e b h =
      let ss = split comma e (tokens_in cs ts) in
      let r = block_read (bases_in ls) n ss b h in
      let own : block_bytes b ≡ block_bytes (placed_block (kind_of ss) r.xs) = ap block_bytes (sym r.is) in
      record { xs = r.xs; places = rw (g cs e) r.places; many' = ap block_size (sym r.is); bytes = own ∙ rw (g cs e) }

  pub block_room : (room : ℕ) → BlockFits ts cs ls n room → 4 ≤ room
  block_room room w =
      let i = block_is w.end w.b w.is in
      omega (arith, ap length i.bytes, w.fits, length-append (field_bytes (field 2 (cond k (byte "N") (byte "P") ∷ []))) (places_bytes i.xs))

  module _ (old : List ℕ) {xs : List ℕ} {b p : ℕ} (own : b ≡ cond k (byte "N") (byte "P")) (v : Wrote (field_bytes (field 2 (b ∷ []))) p old xs) where
    kind : Wrote (field_bytes (field 2 (cond k (byte "N") (byte "P") ∷ []))) p old xs
    kind = (v.0, v.1 ∙ ap (λ (l : ℕ). over (field_bytes (field 2 (l ∷ []))) old) own)

    pub block_places : BlockFits ts cs ls n (length old) → PlacesFit ts cs ls k n (length (part xs p))
    block_places w =
        let i = block_is w.end w.b w.is in
        record {
          end = w.end;
          xs = i.xs;
          is = i.places;
          fits = room_behind (field_bytes (field 2 (cond k (byte "N") (byte "P") ∷ []))) (places_bytes i.xs) old kind (omega (arith, ap length i.bytes, w.fits));
        }

    pub block_put : {r m : ℕ} {ys : List ℕ} → PutPlaces ts cs ls k n r m (part xs p) ys → PutBlock ts cs ls n (p + r) m old (back xs p ys)
    block_put w e b h =
        let i = block_is e b h in
        let z = w e i.xs i.places in
        (omega (arith, z.0, i.many'), rw i.bytes (chained (field_bytes (field 2 (cond k (byte "N") (byte "P") ∷ []))) (places_bytes i.xs) old kind z.1))

-- ---- the loop over blocks

pub record BlocksLeft (ts : List Entry) (cs ls old : List ℕ) (e : ℕ) (bs : List PlacedBlock) (i n z : ℕ) (o : List ℕ) : Type 0 where
  m : ℕ
  q : ℕ
  rest : List PlacedBlock
  is : read_blocks (bases_in ls) m n q (parts_from colon e cs ts i) ≡ ok rest
  at : Writing (blocks_bytes bs) (blocks_bytes rest) old z o

-- with the place e for the separator behind them and q for the first `:`: the blocks from index i on are left
abbrev pub Blocking : List Entry → List ℕ → List ℕ → ℕ → List ℕ → ℕ → ℕ → ℕ → List ℕ → Type 0
Blocking ts cs ls i₀ old i n z o =
    (e q : ℕ) (bs : List PlacedBlock) → read_blocks (bases_in ls) 0 0 q (parts_from colon e cs ts i₀) ≡ ok bs → BlocksLeft ts cs ls old e bs i n z o

pub blocking_none : (ts : List Entry) (cs ls : List ℕ) (i : ℕ) (old : List ℕ) → Blocking ts cs ls i old i 0 0 old
blocking_none ts cs ls i old e q bs h = record { m = 0; q = q; rest = bs; is = h; at = writing_none (blocks_bytes bs) old }

module _ (ts : List Entry) (cs ls : List ℕ) (i₀ : ℕ) (old : List ℕ) (i n z : ℕ) (o : List ℕ) where
  record NextBlock (j e : ℕ) (bs : List PlacedBlock) : Type 0 where
    m : ℕ
    b : PlacedBlock
    more : List PlacedBlock
    here : read_block (bases_in ls) n (split comma (place_or (drop j ts) e) (tokens_in cs (take (j - i) (drop i ts)))) ≡ ok b
    behind : read_blocks (bases_in ls) m (n + block_size b) (place_or (drop j ts) e) (parts_from colon e cs ts (j + 1)) ≡ ok more
    at : Writing (blocks_bytes bs) (block_bytes b ++ blocks_bytes more) old z o

  next_block_lem : {j : ℕ} (e : ℕ) (bs : List PlacedBlock) → i ≤ length ts → j ≡ i + before 7 (drop i ts) → BlocksLeft ts cs ls old e bs i n z o → NextBlock j e bs
  next_block_lem {j} e bs h f w =
      let s = tokens_in cs (take (j - i) (drop i ts)) in
      let r = blocks_read_lem (bases_in ls) w.m n w.q s (place_or (drop j ts) e) (parts_from colon e cs ts (j + 1)) w.rest (rw (parts_next colon e cs ts i h f refl) at w.is) in
      record {
        m = suc w.m;
        b = r.x;
        more = r.more;
        here = r.here;
        behind = r.behind;
        at = subst (λ (l : List ℕ). Writing (blocks_bytes bs) l old z o) (sym (ap blocks_bytes r.is) ∙ bytes_append (block_fields (block_of r.x)) (many block_fields (map block_of r.more))) w.at;
      }

  module _ (v : Blocking ts cs ls i₀ old i n z o) where
    module _ {j : ℕ} (w : BlocksFit ts cs ls i₀ (length old)) (h : i ≤ length ts) (f : j ≡ i + before 7 (drop i ts)) where
      here' : NextBlock j w.end w.bs
      here' = next_block_lem w.end w.bs h f (v w.end w.q w.bs w.is)

      pub blocking_room : z ≤ length o
      blocking_room = omega (arith, writing_room _ here'.at w.fits, writing_long _ here'.at w.fits)

      pub blocking_fits : BlockFits (take (j - i) (drop i ts)) cs ls n (length (part o z))
      blocking_fits =
          let x = block_bytes here'.b in
          let m = blocks_bytes here'.more in
          record {
            end = place_or (drop j ts) w.end;
            b = here'.b;
            is = here'.here;
            fits = omega (arith, writing_room (x ++ m) here'.at w.fits, writing_long (x ++ m) here'.at w.fits, length-append x m, length_part o z);
          }

      pub blocking_sum : {r q : ℕ} {ys : List ℕ} → PutBlock (take (j - i) (drop i ts)) cs ls n r q (part o z) ys → length old < 2 ^ 64 → Fits w64 (z + r)
      blocking_sum p g =
          let x = block_bytes here'.b in
          let m = blocks_bytes here'.more in
          omega (arith, (p (place_or (drop j ts) w.end) here'.b here'.here).1.0, writing_room (x ++ m) here'.at w.fits, length-append x m)

    pub blocking_long : BlocksFit ts cs ls i₀ (length old) → length o ≡ length old
    blocking_long w = let l = v w.end w.q w.bs w.is in writing_long (blocks_bytes l.rest) l.at w.fits

    pub blocking_more : {j r m : ℕ} {ys : List ℕ} → i ≤ length ts → j ≡ i + before 7 (drop i ts) → PutBlock (take (j - i) (drop i ts)) cs ls n r m (part o z) ys
        → Blocking ts cs ls i₀ old (j + 1) m (z + r) (back o z ys)
    blocking_more {j} h f p e q bs g =
        let x = next_block_lem e bs h f (v e q bs g) in
        let w = p (place_or (drop j ts) e) x.b x.here in
        record {
          m = x.m;
          q = place_or (drop j ts) e;
          rest = x.more;
          is = rw w.0 x.behind;
          at = writing_more (block_bytes x.b) (blocks_bytes x.more) x.at w.1;
        }

    pub blocking_all : length ts < i → PutBlocks ts cs ls i₀ z old o
    blocking_all h e q bs g =
        let l = v e q bs g in
        let r : l.rest ≡ [] = sym (ok_inj (sym (rw (parts_end colon e cs ts i h)) ∙ l.is)) in
        writing_all (subst (λ (m : List PlacedBlock). Writing (blocks_bytes bs) (blocks_bytes m) old z o) r l.at)

-- ---- the code and the blocks

record SegmentsAre (ts : List Entry) (cs ls : List ℕ) (k e : ℕ) (c : Command) : Type 0 where
  q : ℕ
  bs : List PlacedBlock
  blocks : read_blocks (bases_in ls) 0 0 q (parts_from colon e cs ts (k + 1)) ≡ ok bs
  bytes : body_bytes c ≡ word_bytes 1 (words_in true cs (take k ts)) ++ blocks_bytes bs

module _ (ts : List Entry) (cs ls : List ℕ) {k : ℕ} (f : k ≡ 0 + before 7 (drop 0 ts)) where
  segments_are : (e : ℕ) (c : Command) → read_segs (bases_in ls) (split colon e (tokens_in cs ts)) ≡ ok c → SegmentsAre ts cs ls k e c
  segments_are e c h =
      let z : k - 0 ≡ k = omega arith in
      let p = place_or (drop k ts) e in
      let us = tokens_in cs (take k ts) in
      let r = segs_read (bases_in ls) us p (parts_from colon e cs ts (k + 1)) c (rw (← parts_all colon e cs ts, parts_next colon e cs ts 0 (omega arith) f refl, z) at h) in
      let codes : List Field = map (λ w. field 1 w) r.code in
      let own : body_bytes c ≡ bytes_of (codes ++ many block_fields (map block_of r.xs)) = ap body_bytes (sym r.is) in
      record {
        q = p;
        bs = r.xs;
        blocks = r.blocks;
        bytes = own ∙ bytes_append codes (many block_fields (map block_of r.xs)) ∙ ap (λ (ws : List (List ℕ)). word_bytes 1 ws ++ blocks_bytes r.xs) (pieces_words cs (take k ts) true 8 is_identifier is_identifier 2 p r.code r.pieced);
      }

  module _ (room : ℕ) (w : SegmentsFit ts cs ls room) where
    are : SegmentsAre ts cs ls k w.end w.c
    are = segments_are w.end w.c w.is

    both : length (word_bytes 1 (words_in true cs (take k ts)) ++ blocks_bytes are.bs) ≤ room
    both = omega (arith, ap length are.bytes, w.fits)

    pub code_room : words_size (words_in true cs (take k ts)) ≤ room
    code_room =
        let ws = words_in true cs (take k ts) in
        omega (arith, both, length-append (word_bytes 1 ws) (blocks_bytes are.bs), words_bytes 1 ws)

  module _ (old : List ℕ) {xs : List ℕ} {p : ℕ} (v : Pieces 1 (words_in true cs (take k ts)) p old xs) where
    code : Wrote (word_bytes 1 (words_in true cs (take k ts))) p old xs
    code = pieces_wrote 1 (words_in true cs (take k ts)) old v

    pub code_past : SegmentsFit ts cs ls (length old) → p ≤ length xs
    code_past w = wrote_inside (word_bytes 1 (words_in true cs (take k ts))) old code

    pub segments_blocks : SegmentsFit ts cs ls (length old) → BlocksFit ts cs ls (k + 1) (length (part xs p))
    segments_blocks w =
        let i = are (length old) w in
        record {
          end = w.end;
          q = i.q;
          bs = i.bs;
          is = i.blocks;
          fits = room_behind (word_bytes 1 (words_in true cs (take k ts))) (blocks_bytes i.bs) old code (both (length old) w);
        }

    pub segments_put : {r : ℕ} {ys : List ℕ} → PutBlocks ts cs ls (k + 1) r (part xs p) ys → PutSegments ts cs ls (p + r) old (back xs p ys)
    segments_put w e c h =
        let i = segments_are e c h in
        rw i.bytes (chained (word_bytes 1 (words_in true cs (take k ts))) (blocks_bytes i.bs) old code (w e i.q i.bs i.blocks))

-- ---- the whole

module _ (ts : List Entry) (cs ls : List ℕ) where
  abbrev first : ℕ
  first = 0 + before 9 (drop 0 ts)

  abbrev last : ℕ
  last = length ts - 1

  -- a command that is read ends with its `;`, the first one and the last token
  whole_is : (n : ℕ) (c : Command) → read_cut (bases_in ls) n (cut_at semi (tokens_in cs ts)) ≡ ok c
      → (1 ≤ length ts) × (read_segs (bases_in ls) (split colon (place_in (get_or ts last no_token)) (tokens_in cs (take last ts))) ≡ ok c)
  whole_is n c h =
      by_bool (ltb first (length ts))
      (λ y. let l = ltb-true first (length ts) y in go l (drop (first + 1) ts) refl (rw (cut_at_lem semi cs ts refl l) at h))
      (λ y. ok≢bad (rw (cut_none semi cs ts refl (ltb-false first (length ts) y)) at h))
    where
      go : first < length ts → (us : List Entry) → drop (first + 1) ts ≡ us
          → read_cut (bases_in ls) n (cut (tokens_in cs (take first ts)) (place_in (get_or ts first no_token)) (tokens_in cs us)) ≡ ok c
          → (1 ≤ length ts) × (read_segs (bases_in ls) (split colon (place_in (get_or ts last no_token)) (tokens_in cs (take last ts))) ≡ ok c)
      go l [] e g =
          let z : first ≡ last = omega (arith, ap length e, length-drop (first + 1) ts) in
          (omega arith, subst (λ (i : ℕ). read_segs (bases_in ls) (split colon (place_in (get_or ts i no_token)) (tokens_in cs (take i ts))) ≡ ok c) z g)
      go l (u ∷ us) e g = ok≢bad g

  pub command_some : (o room : ℕ) → CommandFits ts cs ls o room → 1 ≤ length ts
  command_some o room w = (whole_is w.end w.c w.is).0

  pub command_inside : (o room : ℕ) → CommandFits ts cs ls o room → last ≤ length ts
  command_inside o room w = omega arith

  module _ (o : ℕ) (old : List ℕ) {xs : List ℕ} (w : CommandFits ts cs ls o (length old)) (v : xs ≡ over (head_bytes o) old) where
    pub command_segments : SegmentsFit (take last ts) cs ls (length (part xs head_size))
    command_segments =
        record {
          end = place_in (get_or ts last no_token);
          c = w.c;
          is = (whole_is w.end w.c w.is).1;
          fits = room_behind (head_bytes o) (body_bytes w.c) old (refl, v) w.fits;
        }

    -- the command that is read is one, so its orders are those that were given
    pub command_put : {r : ℕ} {ys : List ℕ} → PutSegments (take last ts) cs ls r (part xs head_size) ys → PutCommand ts cs ls (head_size + r) old (back xs head_size ys)
    command_put p n c h =
        let is = (whole_is n c h).1 in
        let own : o ≡ count c = w.counted ∙ ap count (ok_inj (sym (whole_is w.end w.c w.is).1 ∙ is)) in
        rw (← own) (chained (head_bytes o) (body_bytes c) old (refl, v) (p (place_in (get_or ts last no_token)) c is))
