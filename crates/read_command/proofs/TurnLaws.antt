-- The turns of the loops over places and blocks: a part of the table is read, and the tally goes on.
use Prim.Native.Nat.{ℕ, suc, ◌+◌, ◌-◌, ◌≤◌, ◌<◌}
use mathlib.Core.Path.{◌≡◌, refl, sym, ap, ◌∙◌, subst}
use mathlib.Core.Bool.{Bool, true, false}
use mathlib.Core.List.{List, [], ◌∷◌}
use native.Mathlib.Numerals.{add-one}
use native.Mathlib.Omega.{arith}
use borrow.Author.Tests.{ltb-true, le-ltb, lt-ltb}
use lib.Dec.{ltb}
use lib.ListN.{length, take, drop}
use lib.Seq.{length-take-le}
use Rattle.laws.specs.Cases.{by_bool}
use Rattle.rules.specs.Commands.{Name, Place, place_count, place_name, Seg, seg, split, first}
use Rattle.rules.specs.Reading.{Placed, placed, unplaced, PlacedBlock, placed_block, block_size, kind_of, read_place, read_places, read_block, read_blocks}
use Rattle.rules.specs.Refusals.{Res, ok, bad, ◌>>=◌, map_r}
use Rattle.rules.specs.Tokens.{comma, colon, equals}
use Rattle.rules.specs.Units.{Base}
use Rattle.rules.proofs.ResultLaws.{by_res}
use Rattle.token_table.specs.Table.{tokens_in}
use Rattle.token_table.specs.Parts.{before, place_or, parts_from, capped}
use Rattle.token_table.proofs.FindLaws.{parts_all, parts_end, parts_next, found_inside, is_cut_lem}
use Rattle.marks.specs.Marks.{added_if}
use Rattle.marks.specs.declared.Marks.{Marks}
use Rattle.read_names.specs.Names.{name_key}
use Rattle.read_names.proofs.NameLaws.{known_none, known_next}
use Rattle.read_place.specs.Places.{place_size, place_read, KnownIf, ReadsPlace}
use Rattle.read_place.proofs.PlaceLaws.{name_read}
use Rattle.read_place.specs.declared.PlaceRead.{PlaceRead}
use Rattle.rules.specs.declared.Refusal.{Refusal}
use Rattle.rules.specs.Reasons.{refusal}
use Rattle.std.proofs.Common.{Result, Ok, Err}
use Rattle.token_table.specs.declared.Token.{Token as Entry}
use Rattle.read_command.specs.Blocks.{counted, opened, tally_places, places_read, block_read, blocks_read, HasKind}
use Rattle.read_command.specs.declared.Tally.{Tally}
use Rattle.read_command.proofs.TallyLaws.{places_length}

-- ---- places

one_more : (t : Tally) (p : ℕ) (x : Place) (more : Res (List Placed)) (v : PlaceRead) → place_read (ok (placed p x)) ≡ Ok v
    → (places_read t (map_r (λ xs. placed p x ∷ xs) more) ≡ places_read (counted t v.args v.at v.bytes) more) × (name_key 0 (place_name x) ≡ v.key)
one_more t p x more v h =
    let w : record { args = place_count x; at = p; bytes = capped (place_size x); key = name_key 0 (place_name x) } ≡ v = cc in
    (go more v w, ap (λ (y : PlaceRead). y.key) w)
  where
    go : (more : Res (List Placed)) (v : PlaceRead) → record { args = place_count x; at = p; bytes = capped (place_size x); key = name_key 0 (place_name x) } ≡ v
        → places_read t (map_r (λ xs. placed p x ∷ xs) more) ≡ places_read (counted t v.args v.at v.bytes) more
    go (bad n q) v w = refl
    go (ok xs) v w = ap (λ (y : PlaceRead). places_read (counted t y.args y.at y.bytes) (ok xs)) w

one_wrong : (t : Tally) (r : Res Placed) (f : Placed → Res (List Placed)) (z : Refusal) → place_read r ≡ Err z
    → Err z ≡ places_read t (r >>= λ x. map_r (λ xs. x ∷ xs) (f x))
one_wrong t (bad n q) f z h = let e : z ≡ refusal n q = cc in rw e
one_wrong t (ok (placed q x)) f z h = absurd cc

-- a place that is not refused is among the first 32
few_places : (k : Bool) (bs : List Base) (ss : Seg) (ns : List Name) (n : ℕ) (v : PlaceRead) {x : Result PlaceRead Refusal} → x ≡ place_read (read_place k bs n ns ss)
    → x ≡ Ok v → n < 32
few_places k bs (seg ts e) ns n v q h =
    by_bool (ltb n 32)
    (λ y. ltb-true n 32 y)
    (λ y. let f : Ok v ≡ Err (refusal 15 (first ts e)) = sym h ∙ q ∙ rw y in absurd cc)

-- r is what comes of the places from index i on, behind places of the names ns, which are known where a place is to come and the block is named
pub record PlacesFrom (k : Bool) (bs : List Base) (ts : List Entry) (cs : List ℕ) (e i : ℕ) (t : Tally) (m : Marks) (r : Result Tally Refusal) : Type 0 where
  pub ns : List Name
  pub known : i ≤ length ts → KnownIf k cs (take i ts) m ns
  pub is : r ≡ places_read t (read_places k bs t.places ns (parts_from comma e cs ts i))

none_known : (k : Bool) (cs : List ℕ) (m : Marks) → KnownIf k cs [] m []
none_known true cs m = known_none cs m
none_known false cs m = tt

pub places_start : (k : Bool) (bs : List Base) (ts : List Entry) (cs : List ℕ) (e : ℕ) (t : Tally) (m : Marks)
    → PlacesFrom k bs ts cs e 0 t m (places_read t (read_places k bs t.places [] (split comma e (tokens_in cs ts))))
places_start k bs ts cs e t m =
    record {
      ns = [];
      known = λ h. none_known k cs m;
      is = ap (λ ss. places_read t (read_places k bs t.places [] ss)) (sym (parts_all comma e cs ts));
    }

-- the names with one that was read
known_with : (k : Bool) (bs : List Base) (ts : List Entry) (cs : List ℕ) (i : ℕ) {j : ℕ} (n p : ℕ) (m : Marks) (ns : List Name) (q : ℕ) (y : Place) → i ≤ length ts
    → j ≡ i + before 6 (drop i ts) → KnownIf k cs (take i ts) m ns → read_place k bs n ns (seg (tokens_in cs (take (j - i) (drop i ts))) p) ≡ ok (placed q y)
    → j + 1 ≤ length ts → KnownIf k cs (take (j + 1) ts) (added_if k m (name_key 0 (place_name y))) (place_name y ∷ ns)
known_with false bs ts cs i n p m ns q y h f v d l = tt
known_with true bs ts cs i {j} n p m ns q y h f v d l =
    let ps = take (j - i) (drop i ts) in
    let nm = name_read ps cs bs n p ns q y d in
    rw nm.is (known_next ts i h f (omega arith) nm.inside v)

module _ {k : Bool} {bs : List Base} {ts : List Entry} {cs : List ℕ} {e i : ℕ} {t : Tally} {m : Marks} {r : Result Tally Refusal} (v : PlacesFrom k bs ts cs e i t m r) (h : i ≤ length ts)
    {j p : ℕ} {x : Result PlaceRead Refusal} (f : j ≡ i + before 6 (drop i ts)) (g : p ≡ place_or (drop j ts) e)
    (n : ReadsPlace k bs t.places cs (take i ts) (take (j - i) (drop i ts)) m p x) where
  abbrev here : Res Placed
  here = read_place k bs t.places v.ns (seg (tokens_in cs (take (j - i) (drop i ts))) p)

  reads_here : x ≡ place_read here
  reads_here = n v.ns (v.known h)

  abbrev rest : ℕ → Placed → Res (List Placed)
  rest l y = read_places k bs l (place_name (unplaced y) ∷ v.ns) (parts_from comma e cs ts (j + 1))

  is_here : r ≡ places_read t (here >>= λ y. map_r (λ xs. y ∷ xs) (rest (suc t.places) y))
  is_here = v.is ∙ ap (λ ss. places_read t (read_places k bs t.places v.ns ss)) (parts_next comma e cs ts i h f g)

  pub place_few : (a : PlaceRead) → x ≡ Ok a → t.places < 32
  place_few a q = few_places k bs (seg (tokens_in cs (take (j - i) (drop i ts))) p) v.ns t.places a reads_here q

  pub places_stop : (z : Refusal) → x ≡ Err z → Err z ≡ r
  places_stop z q = one_wrong t here (rest (suc t.places)) z (sym reads_here ∙ q) ∙ sym is_here

  pub places_more : (a : PlaceRead) {s : Tally} {w : Marks} → x ≡ Ok a → s ≡ counted t a.args a.at a.bytes → w ≡ added_if k m a.key → PlacesFrom k bs ts cs e (j + 1) s w r
  places_more a {s} {w} q l d =
      by_res here
      (λ y b. go y b (ap place_read (sym b) ∙ sym reads_here ∙ q))
      (λ c b y. let z : Ok a ≡ Err (refusal c b) = sym q ∙ reads_here ∙ ap place_read y in absurd cc)
    where
      go : (y : Placed) → here ≡ ok y → place_read (ok y) ≡ Ok a → PlacesFrom k bs ts cs e (j + 1) s w r
      go (placed c y) is b =
          let one = one_more t c y (rest (t.places + 1) (placed c y)) a b in
          record {
            ns = place_name y ∷ v.ns;
            known = λ l. subst (λ (w : Marks). KnownIf k cs (take (j + 1) ts) w (place_name y ∷ v.ns)) (ap (added_if k m) one.1 ∙ sym d)
                (known_with k bs ts cs i t.places p m v.ns c y h f (v.known h) is l);
            is =
                is_here
                ∙ ap (λ (w : Res Placed). places_read t (w >>= λ y. map_r (λ xs. y ∷ xs) (rest (suc t.places) y))) is
                ∙ ap (λ (l : ℕ). places_read t (map_r (λ xs. placed c y ∷ xs) (rest l (placed c y)))) (sym (add-one t.places))
                ∙ one.0
                ∙ ap (λ (w : Tally). places_read w (rest w.places (placed c y))) (sym l);
          }

pub places_end : {k : Bool} {bs : List Base} {ts : List Entry} {cs : List ℕ} {e i : ℕ} {t : Tally} {m : Marks} {r : Result Tally Refusal} → PlacesFrom k bs ts cs e i t m r → length ts < i → Ok t ≡ r
places_end {k} {bs} {ts} {cs} {e} {i} {t} v l = sym (v.is ∙ ap (λ ss. places_read t (read_places k bs t.places v.ns ss)) (parts_end comma e cs ts i l))

-- ---- a block's kind

pub kind_is : (ts : List Entry) {k q : ℕ} → k ≡ 0 + before 6 (drop 0 ts) → q ≡ 0 + before 8 (drop 0 (take k ts)) → HasKind ts (ltb q k)
kind_is ts {k} {q} f g cs e =
    let l = found_inside ts 0 6 f (omega arith) in
    let z : k - 0 ≡ k = omega arith in
    sym (rw (← parts_all comma e cs ts, parts_next comma e cs ts 0 (omega arith) f refl, z, is_cut_lem equals cs (take k ts) g, length-take-le k ts l))

-- ---- blocks

places_block : (t : Tally) (k : Bool) (r : Res (List Placed)) → places_read (opened t) r ≡ block_read t (map_r (λ xs. placed_block k xs) r)
places_block t k (ok xs) = refl
places_block t k (bad n p) = refl

pub block_is : (bs : List Base) (ts : List Entry) (cs : List ℕ) (e : ℕ) (t : Tally) {k : Bool} {u : Tally} {r : Result Tally Refusal} → HasKind ts k → u ≡ opened t
    → r ≡ places_read u (read_places k bs u.places [] (split comma e (tokens_in cs ts))) → r ≡ block_read t (read_block bs t.places (split comma e (tokens_in cs ts)))
block_is bs ts cs e t {k} h g q =
    let ss = split comma e (tokens_in cs ts) in
    rw (q, h cs e, g) (places_block t (kind_of ss) (read_places (kind_of ss) bs t.places [] ss))

block_step : (t : Tally) (r : Res PlacedBlock) (f : ℕ → Res (List PlacedBlock)) (u : Tally) → block_read t r ≡ Ok u
    → blocks_read t (r >>= λ b. map_r (λ xs. b ∷ xs) (f (t.places + block_size b))) ≡ blocks_read u (f u.places)
block_step t (bad n p) f u h = absurd cc
block_step t (ok (placed_block k xs)) f u h =
    let e : tally_places (opened t) xs ≡ u = cc in
    go (f (t.places + length xs)) ∙ ap (λ (m : ℕ). blocks_read (tally_places (opened t) xs) (f m)) (sym (places_length (opened t) xs))
    ∙ ap (λ (v : Tally). blocks_read v (f v.places)) e
  where
    go : (r : Res (List PlacedBlock)) → blocks_read t (map_r (λ bs. placed_block k xs ∷ bs) r) ≡ blocks_read (tally_places (opened t) xs) r
    go (ok bs) = refl
    go (bad n p) = refl

block_wrong : (t : Tally) (r : Res PlacedBlock) (f : PlacedBlock → Res (List PlacedBlock)) (z : Refusal) → block_read t r ≡ Err z
    → Err z ≡ blocks_read t (r >>= λ b. map_r (λ xs. b ∷ xs) (f b))
block_wrong t (bad n q) f z h = let e : z ≡ refusal n q = cc in rw e
block_wrong t (ok (placed_block k xs)) f z h = absurd cc

module _ (bs : List Base) (ts : List Entry) (cs : List ℕ) (e i m q : ℕ) (t : Tally) where
  pub blocks_many : {r : Result Tally Refusal} {z : Refusal} → r ≡ blocks_read t (read_blocks bs m t.places q (parts_from colon e cs ts i)) → i ≤ length ts → 8 ≤ m → z ≡ refusal 15 q → Err z ≡ r
  blocks_many w h g n = ap Err n ∙ sym (w ∙ rw (parts_next colon e cs ts i h refl refl, le-ltb m 8 g))

  pub blocks_more : (u : Tally) {j p : ℕ} {x r : Result Tally Refusal} → r ≡ blocks_read t (read_blocks bs m t.places q (parts_from colon e cs ts i)) → i ≤ length ts → m < 8
      → j ≡ i + before 7 (drop i ts) → p ≡ place_or (drop j ts) e → x ≡ block_read t (read_block bs t.places (split comma p (tokens_in cs (take (j - i) (drop i ts))))) → x ≡ Ok u
      → r ≡ blocks_read u (read_blocks bs (m + 1) u.places p (parts_from colon e cs ts (j + 1)))
  blocks_more u {j} {p} w h g f o y z =
      let here = read_block bs t.places (split comma p (tokens_in cs (take (j - i) (drop i ts)))) in
      let rest : ℕ → ℕ → Res (List PlacedBlock) = λ m n. read_blocks bs m n p (parts_from colon e cs ts (j + 1)) in
      w ∙ rw (parts_next colon e cs ts i h f o, lt-ltb m 8 g)
      (ap (λ m. blocks_read t (here >>= λ b. map_r (λ xs. b ∷ xs) (rest m (t.places + block_size b)))) (sym (add-one m))
      ∙ block_step t here (rest (m + 1)) u (sym y ∙ z))

  pub blocks_stop : (v : Refusal) {j p : ℕ} {x r : Result Tally Refusal} → r ≡ blocks_read t (read_blocks bs m t.places q (parts_from colon e cs ts i)) → i ≤ length ts → m < 8
      → j ≡ i + before 7 (drop i ts) → p ≡ place_or (drop j ts) e → x ≡ block_read t (read_block bs t.places (split comma p (tokens_in cs (take (j - i) (drop i ts))))) → x ≡ Err v
      → Err v ≡ r
  blocks_stop v {j} {p} w h g f l y z =
      block_wrong t (read_block bs t.places (split comma p (tokens_in cs (take (j - i) (drop i ts))))) (λ b. read_blocks bs (suc m) (t.places + block_size b) p (parts_from colon e cs ts (j + 1))) v (sym y ∙ z)
      ∙ sym (w ∙ rw (parts_next colon e cs ts i h f l, lt-ltb m 8 g))

  pub blocks_end : {r : Result Tally Refusal} → r ≡ blocks_read t (read_blocks bs m t.places q (parts_from colon e cs ts i)) → length ts < i → Ok t ≡ r
  blocks_end w h = sym (w ∙ rw (parts_end colon e cs ts i h))
