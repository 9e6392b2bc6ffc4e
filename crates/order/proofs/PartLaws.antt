-- A record is its parts: a well-formed record's are fine, the judge's spans are theirs, and reduced at order k's positions they are the parts of order k.
use mathlib.Core.Path.{◌≡◌, refl, ap, ap₂, ◌∙◌, sym}
use mathlib.Core.Bool.{Bool, true, cond}
use mathlib.Core.List.{List, [], ◌∷◌, ◌++◌, map, map-append}
use Prim.Native.Nat.{ℕ, ◌<◌, ◌+◌, ◌*◌, suc}
use native.Mathlib.Omega.{arith}
use borrow.Author.Tests.{leb-true}
use lib.Dec.{leb}
use Rattle.laws.specs.Cases.{and_l, and_r}
use Rattle.laws.specs.Lists.{all, all_append}
use Rattle.rules.specs.Characters.{between, byte}
use Rattle.rules.specs.Commands.{Place, place, Block, block, Command, command, all_places, place_count}
use Rattle.rules.specs.Records.{Field, field, fields_of, many, place_fields, block_fields, code_tag, block_tag, name_tag, field_bytes, bytes_of, body_bytes}
use Rattle.rules.specs.WellFormed.{well_formed, wf_block, wf_place, wf_value, body_of}
use Rattle.rules.proofs.CommandBack.{c_blocks}
use Rattle.rules.proofs.DecodeEncode.{place_value_lem}
use Rattle.rules.proofs.FieldLaws.{many_append}
use Rattle.rules.proofs.Names.{block_places}
use Rattle.record_walk.specs.Fronts.{tag_of}
use Rattle.record_walk.proofs.RunLaws.{size_append}
use Rattle.record_walk.specs.Runs.{tag_in}
use Rattle.order.specs.Reduced.{Part, kept, placed, part_fields, parts_bytes, block_parts, parts_of, places_in, position_at, positions_of, reduced_place, reduce, reduced, Below}
use lib.ListN.{length, length-append, length-map}
use Rattle.record_walk.specs.Spans.{size, head_fields, arguments_of, place_spans, block_head, block_spans, spans_of}
use native.Mathlib.Nat.{mod-lt}
use Rattle.rules.specs.Refusals.{ok}
use Rattle.rules.specs.Orders.{place_at, back, block_at, order_at}
use Rattle.rules.proofs.DirectIsList.{place_pos}

-- ---- the parts' fields are the record's

placed_fields : (ps : List Place) → many part_fields (map placed ps) ≡ many place_fields ps
placed_fields [] = refl
placed_fields (p ∷ ps) = ap (λ (gs : List Field). place_fields p ++ gs) (placed_fields ps)

code_fields_lem : (c : List (List ℕ)) → many part_fields (map (λ w. kept (field code_tag w)) c) ≡ map (λ w. field code_tag w) c
code_fields_lem [] = refl
code_fields_lem (w ∷ c) = ap (λ (gs : List Field). field code_tag w ∷ gs) (code_fields_lem c)

block_fields_lem : (bs : List Block) → many part_fields (block_parts bs) ≡ many block_fields bs
block_fields_lem [] = refl
block_fields_lem (block k ps ∷ bs) =
    ap (λ (gs : List Field). field block_tag (cond k (byte "N") (byte "P") ∷ []) ∷ gs)
    (many_append part_fields (map placed ps) (block_parts bs) ∙ ap₂ (λ (x y : List Field). x ++ y) (placed_fields ps) (block_fields_lem bs))

pub parts_fields : (c : Command) → many part_fields (parts_of c) ≡ fields_of c
parts_fields (command c bs) =
    many_append part_fields (map (λ w. kept (field code_tag w)) c) (block_parts bs) ∙ ap₂ (λ (x y : List Field). x ++ y) (code_fields_lem c) (block_fields_lem bs)

-- ---- places

abbrev pub part_places : List Part → List Place
part_places [] = []
part_places (kept f ∷ ps) = part_places ps
part_places (placed p ∷ ps) = p ∷ part_places ps

places_in_lem : (ps : List Place) (xs : List Part) → part_places (map placed ps ++ xs) ≡ ps ++ part_places xs
places_in_lem [] xs = refl
places_in_lem (p ∷ ps) xs = ap (λ (l : List Place). p ∷ l) (places_in_lem ps xs)

blocks_in : (bs : List Block) → part_places (block_parts bs) ≡ all_places bs
blocks_in [] = refl
blocks_in (block k ps ∷ bs) = places_in_lem ps (block_parts bs) ∙ ap (λ (l : List Place). ps ++ l) (blocks_in bs)

code_in : (c : List (List ℕ)) (xs : List Part) → part_places (map (λ w. kept (field code_tag w)) c ++ xs) ≡ part_places xs
code_in [] xs = refl
code_in (w ∷ c) xs = code_in c xs

pub parts_in : (c : Command) → part_places (parts_of c) ≡ places_in c
parts_in (command c bs) = code_in c (block_parts bs) ∙ blocks_in bs

-- ---- a well-formed record's parts

abbrev pub fine_part : Part → Bool
fine_part (kept f) = tag_in code_tag block_tag f
fine_part (placed (place b nm v)) = wf_value b v

code_fine : (c : List (List ℕ)) → all fine_part (map (λ w. kept (field code_tag w)) c) ≡ true
code_fine [] = refl
code_fine (w ∷ c) = code_fine c

placed_fine : (k : Bool) (ps : List Place) → all (wf_place k) ps ≡ true → all fine_part (map placed ps) ≡ true
placed_fine k [] h = refl
placed_fine k (place b nm v ∷ ps) h =
    rw (place_value_lem k b nm v (and_l (wf_place k (place b nm v)) (all (wf_place k) ps) h)) (placed_fine k ps (and_r (wf_place k (place b nm v)) (all (wf_place k) ps) h))

block_fine : (bs : List Block) → all wf_block bs ≡ true → all fine_part (block_parts bs) ≡ true
block_fine [] h = refl
block_fine (block k ps ∷ bs) h =
    all_append fine_part (map placed ps) (block_parts bs)
    (placed_fine k ps (block_places k ps (and_l (wf_block (block k ps)) (all wf_block bs) h)))
    (block_fine bs (and_r (wf_block (block k ps)) (all wf_block bs) h))

pub parts_fine : (c : Command) → well_formed c ≡ true → all fine_part (parts_of c) ≡ true
parts_fine (command c bs) h = all_append fine_part (map (λ w. kept (field code_tag w)) c) (block_parts bs) (code_fine c) (block_fine bs (c_blocks c bs h))

-- no name, element or unit stands where a part begins
pub part_tag : (ps : List Part) → all fine_part ps ≡ true → tag_of (parts_bytes ps) < name_tag
part_tag [] h = omega arith
part_tag (kept (field t w) ∷ ps) h =
    let k : between code_tag block_tag t ≡ true = and_l (between code_tag block_tag t) (all fine_part ps) h in
    omega (arith, leb-true t block_tag (and_r (leb code_tag t) (leb t block_tag) k))
part_tag (placed (place b nm v) ∷ ps) h = omega arith

-- ---- the judge's spans

-- of parts that stand from a position on
abbrev pub part_spans : ℕ → List Part → List ℕ
part_spans at [] = []
part_spans at (kept f ∷ ps) = part_spans (at + length (field_bytes f)) ps
part_spans at (placed p ∷ ps) = arguments_of p ∷ (at + size (head_fields p)) ∷ (at + size (place_fields p)) ∷ part_spans (at + size (place_fields p)) ps

-- three numbers for each place
pub spans_long : (at : ℕ) (ps : List Part) → length (part_spans at ps) ≡ 3 * length (part_places ps)
spans_long at [] = refl
spans_long at (kept f ∷ ps) = spans_long (at + length (field_bytes f)) ps
spans_long at (placed p ∷ ps) = omega (arith, spans_long (at + size (place_fields p)) ps)

-- places, then others
placed_spans : (at : ℕ) (ps : List Place) (xs : List Part) → part_spans at (map placed ps ++ xs) ≡ place_spans at ps ++ part_spans (at + size (many place_fields ps)) xs
placed_spans at [] xs = ap (λ (n : ℕ). part_spans n xs) (omega arith)
placed_spans at (p ∷ ps) xs =
    let n : ℕ = at + size (place_fields p) in
    let e : n + size (many place_fields ps) ≡ at + size (many place_fields (p ∷ ps)) =
    omega (arith, size_append (place_fields p) (many place_fields ps)) in
    ap (λ (l : List ℕ). arguments_of p ∷ (at + size (head_fields p)) ∷ n ∷ l)
    (placed_spans n ps xs ∙ ap (λ (m : ℕ). place_spans n ps ++ part_spans m xs) e)

block_spans_lem : (at : ℕ) (bs : List Block) → part_spans at (block_parts bs) ≡ block_spans at bs
block_spans_lem at [] = refl
block_spans_lem at (block k ps ∷ bs) =
    let n : ℕ = at + block_head in
    let e : n + size (many place_fields ps) ≡ at + size (block_fields (block k ps)) =
    omega (arith, length-append (field_bytes (field block_tag (cond k (byte "N") (byte "P") ∷ []))) (bytes_of (many place_fields ps))) in
    placed_spans n ps (block_parts bs)
    ∙ ap (λ (l : List ℕ). place_spans n ps ++ l) (block_spans_lem (n + size (many place_fields ps)) bs ∙ ap (λ (m : ℕ). block_spans m bs) e)

code_spans : (at : ℕ) (c : List (List ℕ)) (xs : List Part)
    → part_spans at (map (λ w. kept (field code_tag w)) c ++ xs) ≡ part_spans (at + size (map (λ w. field code_tag w) c)) xs
code_spans at [] xs = ap (λ (n : ℕ). part_spans n xs) (omega arith)
code_spans at (w ∷ c) xs =
    let f : Field = field code_tag w in
    let e : at + length (field_bytes f) + size (map (λ w. field code_tag w) c) ≡ at + size (map (λ w. field code_tag w) (w ∷ c)) =
    omega (arith, length-append (field_bytes f) (bytes_of (map (λ w. field code_tag w) c))) in
    code_spans (at + length (field_bytes f)) c xs ∙ ap (λ (n : ℕ). part_spans n xs) e

pub spans_are : (c : Command) → spans_of c ≡ part_spans 0 (parts_of c)
unfolding spans_of
spans_are (command c bs) =
    let n : ℕ = size (map (λ w. field code_tag w) c) in
    let z : 0 + n ≡ n = omega arith in
    sym (code_spans 0 c (block_parts bs) ∙ ap (λ (m : ℕ). part_spans m (block_parts bs)) z ∙ block_spans_lem n bs)

-- ---- order k: both go from the last place back

-- the positions of the last places, and what is left of k before them
abbrev pub behind : List ℕ → ℕ → List ℕ
behind ns k = (back position_at ns k).0

abbrev pub left_of : List ℕ → ℕ → ℕ
left_of ns k = (back position_at ns k).1

behind_long : (ns : List ℕ) (k : ℕ) → length (behind ns k) ≡ length ns
behind_long [] k = refl
behind_long (n ∷ ns) k = ap suc (behind_long ns k)

back_append : {A : Type 0} (f : A → ℕ → A × ℕ) (xs ys : List A) (k : ℕ)
    → back f (xs ++ ys) k ≡ ((back f xs (back f ys k).1).0 ++ (back f ys k).0, (back f xs (back f ys k).1).1)
back_append f [] ys k = refl
back_append f (x ∷ xs) ys k = rw (back_append f xs ys k)

abbrev reduced_places : List Place → List ℕ → List Place
reduced_places [] ns = []
reduced_places (p ∷ ps) [] = p ∷ ps
reduced_places (p ∷ ps) (n ∷ ns) = reduced_place p n ∷ reduced_places ps ns

-- a block's places
places_back : (ps : List Place) (k : ℕ) → back place_at ps k ≡ (reduced_places ps (behind (map place_count ps) k), left_of (map place_count ps) k)
places_back [] k = refl
places_back (place b nm v ∷ ps) k = rw (places_back ps k)

reduce_placed : (ps : List Place) (xs : List Part) (ms ns : List ℕ) → length ms ≡ length ps
    → reduce (map placed ps ++ xs) (ms ++ ns) ≡ map placed (reduced_places ps ms) ++ reduce xs ns
reduce_placed [] xs [] ns h = refl
reduce_placed [] xs (m ∷ ms) ns h = absurd (omega arith)
reduce_placed (p ∷ ps) xs [] ns h = absurd (omega arith)
reduce_placed (p ∷ ps) xs (m ∷ ms) ns h = ap (λ (l : List Part). placed (reduced_place p m) ∷ l) (reduce_placed ps xs ms ns (omega arith))

blocks_back : (bs : List Block) (k : ℕ)
    → (reduce (block_parts bs) (behind (map place_count (all_places bs)) k) ≡ block_parts (back block_at bs k).0) × (left_of (map place_count (all_places bs)) k ≡ (back block_at bs k).1)
blocks_back [] k = (refl, refl)
blocks_back (block t ps ∷ bs) k =
    let f : Part = kept (field block_tag (cond t (byte "N") (byte "P") ∷ [])) in
    let ns : List ℕ = map place_count ps in
    let ms : List ℕ = map place_count (all_places bs) in
    let q : ℕ = (back block_at bs k).1 in
    let ih : (reduce (block_parts bs) (behind ms k) ≡ block_parts (back block_at bs k).0) × (left_of ms k ≡ q) = blocks_back bs k in
    let e : back position_at (map place_count (ps ++ all_places bs)) k ≡ (behind ns q ++ behind ms k, left_of ns q) =
    ap (λ (l : List ℕ). back position_at l k) (map-append place_count ps (all_places bs)) ∙ back_append position_at ns ms k
    ∙ ap (λ (j : ℕ). (behind ns j ++ behind ms k, left_of ns j)) ih.1 in
    let long : length (behind ns q) ≡ length ps = behind_long ns q ∙ length-map ps place_count in (
      ap (λ (l : List Part). f ∷ l)
          (ap (λ (x : List ℕ × ℕ). reduce (map placed ps ++ block_parts bs) x.0) e ∙ reduce_placed ps (block_parts bs) (behind ns q) (behind ms k) long
          ∙ ap₂ (λ (x y : List Part). x ++ y) (ap (λ (x : List Place × ℕ). map placed x.0) (sym (places_back ps q))) ih.0),
      ap (λ (x : List ℕ × ℕ). x.1) e ∙ ap (λ (x : List Place × ℕ). x.1) (sym (places_back ps q)),
    )

reduce_code : (c : List (List ℕ)) (xs : List Part) (ns : List ℕ)
    → reduce (map (λ w. kept (field code_tag w)) c ++ xs) ns ≡ map (λ w. kept (field code_tag w)) c ++ reduce xs ns
reduce_code [] xs ns = refl
reduce_code (w ∷ c) xs ns = ap (λ (l : List Part). kept (field code_tag w) ∷ l) (reduce_code c xs ns)

order_parts : (c : Command) (k : ℕ) → reduce (parts_of c) (behind (map place_count (places_in c)) k) ≡ parts_of (order_at c k)
order_parts (command c bs) k =
    reduce_code c (block_parts bs) (behind (map place_count (all_places bs)) k)
    ∙ ap (λ (l : List Part). map (λ w. kept (field code_tag w)) c ++ l) (blocks_back bs k).0

-- reduced at order k's positions, the record is order k's
pub reduced_order : (rec : List ℕ) (c : Command) (k : ℕ) → body_of rec ≡ ok c → reduced rec (positions_of (map place_count (places_in c)) k) ≡ body_bytes (order_at c k)
unfolding reduced positions_of
reduced_order rec c k h = rw h (ap parts_bytes (order_parts c k) ∙ ap bytes_of (parts_fields (order_at c k)))

-- and these are positions in it
pub positions_below : (ps : List Place) (k : ℕ) → Below ps (behind (map place_count ps) k)
positions_below [] k = tt
positions_below (p ∷ ps) k = (mod-lt (left_of (map place_count ps) k) (place_pos p), positions_below ps k)
