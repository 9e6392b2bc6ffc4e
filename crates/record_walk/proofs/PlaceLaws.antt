-- The places of a well-formed record stand where its spans say: by induction over blocks and places, each behind the one before it, with code pieces and blocks' own fields alone between.
use mathlib.Core.Path.{◌≡◌, refl, sym, ap, ◌∙◌, subst}
use mathlib.Core.Bool.{Bool, true, false, cond}
use mathlib.Core.List.{List, [], ◌∷◌, ◌++◌, map, append_assoc}
use Prim.Native.Nat.{ℕ, zero, suc, ◌+◌, ◌*◌, ◌≤◌, ◌<◌}
use native.Mathlib.Nat.{not-suc-le-zero, le_of_suc-le-suc}
use native.Mathlib.Omega.{arith}
use lib.ListN.{length, get_or, drop, length-append}
use lib.Seq.{drop-append_seam}
use Rattle.laws.specs.Cases.{and_l, and_r}
use Rattle.laws.specs.Lists.{all, all_append}
use Rattle.rules.specs.Characters.{between, byte}
use Rattle.rules.specs.Refusals.{ok}
use Rattle.rules.specs.Units.{Base}
use Rattle.rules.specs.Commands.{Element, leading, Place, place, place_base, place_value, Block, block, Command, command, all_places}
use Rattle.rules.specs.Records.{Field, field, code_tag, block_tag, single_tag, string_tag, bytes_of, field_bytes, many, element_fields, place_fields, block_fields}
use Rattle.rules.specs.WellFormed.{wf_block, wf_place, wf_value, wf_element, body_of}
use Rattle.rules.proofs.CommandBack.{c_blocks}
use Rattle.rules.proofs.DecodeEncode.{place_value_lem}
use Rattle.rules.proofs.EncodeDecode.{IsBody, body_is}
use Rattle.rules.proofs.FieldLaws.{bytes_append, bytes_cons}
use Rattle.rules.proofs.Names.{block_places}
use Rattle.rules.proofs.ValueBack.{v_all}
use Rattle.record_walk.specs.Fronts.{tag_of}
use Rattle.record_walk.specs.Runs.{tag_in}
use Rattle.record_walk.specs.Spans.{size, head_fields, arguments_of, place_spans, block_head, block_spans, spans_of}
use Rattle.record_walk.specs.Values.{value_bytes, Holds, Heads, PlaceAt, PlacesAt, end_before}
use Rattle.record_walk.proofs.RunLaws.{drop_behind, stands_inside, size_append}

-- ---- code pieces and blocks' own fields

heads_none : (rec : List ℕ) (q : ℕ) → Heads rec q q
heads_none rec q = record { fs = []; are = refl; ends = omega arith; bytes = refl }

-- more of them behind
heads_more : {rec : List ℕ} {at q : ℕ} (gs : List Field) (rest : List ℕ) → Heads rec at q → all (tag_in code_tag block_tag) gs ≡ true
    → drop q rec ≡ bytes_of gs ++ rest → Heads rec at (q + size gs)
heads_more {rec} {at} {q} gs rest h are e =
    let fs : List Field = h.fs in
    let behind : drop (q + size gs) rec ≡ rest = drop_behind rec q (bytes_of gs) rest e in
    let whole : bytes_of (fs ++ gs) ++ rest ≡ bytes_of fs ++ (bytes_of gs ++ rest) =
    ap (λ (l : List ℕ). l ++ rest) (bytes_append fs gs) ∙ append_assoc (bytes_of fs) (bytes_of gs) rest in
    record {
      fs = fs ++ gs;
      are = all_append (tag_in code_tag block_tag) fs gs h.are are;
      ends = omega (arith, h.ends, size_append fs gs);
      bytes = h.bytes ∙ ap (λ (l : List ℕ). bytes_of fs ++ l) e ∙ sym whole ∙ ap (λ (l : List ℕ). bytes_of (fs ++ gs) ++ l) (sym behind);
    }

-- ---- a place

-- no element and no unit stands at the front of these fields
abbrev Low : List Field → Type 0
Low fs = between single_tag string_tag (tag_of (bytes_of fs)) ≡ false

places_low : (ps : List Place) (rest : List Field) → Low rest → Low (many place_fields ps ++ rest)
places_low [] rest h = h
places_low (place b nm v ∷ ps) rest h = refl

blocks_low : (bs : List Block) → Low (many block_fields bs)
blocks_low [] = refl
blocks_low (block k ps ∷ bs) = refl

-- in a place its value stands behind its own field and its name
pub value_behind : (rec : List ℕ) (q : ℕ) (p : Place) (rest : List ℕ) → drop q rec ≡ bytes_of (place_fields p) ++ rest
    → drop q rec ≡ bytes_of (head_fields p) ++ (value_bytes (place_value p) ++ rest)
value_behind rec q (place b nm v) rest h =
    let u : List Field = head_fields (place b nm v) in
    h ∙ ap (λ (l : List ℕ). l ++ rest) (bytes_append u (many element_fields v)) ∙ append_assoc (bytes_of u) (value_bytes v) rest

-- all elements of a value have as many leading units
value_fine : (b : Base) (v : List Element) → wf_value b v ≡ true → (n : ℕ) × (all (wf_element b n) v ≡ true)
value_fine b [] h = (0, refl)
value_fine b (e ∷ es) h = (length (leading e), v_all b e es h)

place_sizes : (p : Place) → size (place_fields p) ≡ size (head_fields p) + length (value_bytes (place_value p))
place_sizes (place b nm v) = size_append (head_fields (place b nm v)) (many element_fields v)

-- the elements of its value stand there
pub place_holds : {rec : List ℕ} {at from to : ℕ} (p : Place) → PlaceAt rec at from to p → Holds rec from to (place_value p)
place_holds {rec} {at} {from} {to} p t =
    let f : (n : ℕ) × (all (wf_element (place_base p) n) (place_value p) ≡ true) = value_fine (place_base p) (place_value p) t.well in
    let u : List ℕ = bytes_of (head_fields p) in
    let rest : List ℕ = value_bytes (place_value p) ++ bytes_of t.rest in
    record {
      base = place_base p;
      lead = f.0;
      rest = t.rest;
      stands = ap (λ (n : ℕ). drop n rec) t.begins ∙ drop_behind rec t.start u rest (value_behind rec t.start p (bytes_of t.rest) t.stands);
      ends = omega (arith, t.begins, t.ends, place_sizes p);
      inside = omega (arith, t.ends, stands_inside rec t.start (bytes_of (place_fields p)) (bytes_of t.rest) t.stands t.inside);
      fine = f.1;
      low = t.low;
    }

-- ---- places and blocks

-- a place that stands at q, and no element or unit behind it
place_at : (rec : List ℕ) (at q : ℕ) (k : Bool) (p : Place) (rest : List Field) → Heads rec at q → q ≤ length rec
    → drop q rec ≡ bytes_of (place_fields p) ++ bytes_of rest → wf_place k p ≡ true → Low rest
    → PlaceAt rec at (q + size (head_fields p)) (q + size (place_fields p)) p
place_at rec at q k (place b nm v) rest h inside stands fine low = record {
  start = q;
  heads = h;
  rest = rest;
  stands = stands;
  inside = inside;
  begins = refl;
  ends = refl;
  well = place_value_lem k b nm v fine;
  low = low;
}

-- places that stand at q, and what is said of the places behind them
module _ (rec : List ℕ) (k : Bool) (rest : List Field) (low : Low rest) (row : List ℕ) (qs : List Place) where
  places_at : (ps : List Place) (at q : ℕ) → Heads rec at q → q ≤ length rec → drop q rec ≡ bytes_of (many place_fields ps) ++ bytes_of rest → all (wf_place k) ps ≡ true
      → ((n : ℕ) → Heads rec n (q + size (many place_fields ps)) → PlacesAt rec n row qs) → PlacesAt rec at (place_spans q ps ++ row) (ps ++ qs)
  places_at [] at q h inside stands fine more = let z : q ≡ q + 0 = omega arith in more at (subst (Heads rec at) z h)
  places_at (p ∷ ps) at q h inside stands fine more =
      let q' : ℕ = q + size (place_fields p) in
      let others : List Field = many place_fields ps ++ rest in
      let e : drop q rec ≡ bytes_of (place_fields p) ++ (bytes_of (many place_fields ps) ++ bytes_of rest) = stands ∙ bytes_cons place_fields p ps (bytes_of rest) in
      let e' : drop q rec ≡ bytes_of (place_fields p) ++ bytes_of others =
      e ∙ ap (λ (l : List ℕ). bytes_of (place_fields p) ++ l) (sym (bytes_append (many place_fields ps) rest)) in
      let n : q' + size (many place_fields ps) ≡ q + size (many place_fields (p ∷ ps)) = omega (arith, size_append (place_fields p) (many place_fields ps)) in (
        refl,
        place_at rec at q k p others h inside e' (and_l (wf_place k p) (all (wf_place k) ps) fine) (places_low ps rest low),
        places_at ps q' q' (heads_none rec q') (stands_inside rec q (bytes_of (place_fields p)) (bytes_of others) e' inside)
            (drop_behind rec q (bytes_of (place_fields p)) (bytes_of (many place_fields ps) ++ bytes_of rest) e)
            (and_r (wf_place k p) (all (wf_place k) ps) fine)
            (λ m g. more m (subst (Heads rec m) n g)),
      )

-- what a block begins with
abbrev kind_field : Bool → Field
kind_field k = field block_tag (cond k (byte "N") (byte "P") ∷ [])

abbrev pub kind_bytes : Bool → List ℕ
kind_bytes k = field_bytes (kind_field k)

-- blocks that stand at q, up to the record's end
blocks_at : (rec : List ℕ) (bs : List Block) (at q : ℕ) → Heads rec at q → q ≤ length rec → drop q rec ≡ bytes_of (many block_fields bs) → all wf_block bs ≡ true
    → PlacesAt rec at (block_spans q bs) (all_places bs)
blocks_at rec [] at q h inside stands fine = omega (arith, h.ends)
blocks_at rec (block k ps ∷ bs) at q h inside stands fine =
    let b : Block = block k ps in
    let q' : ℕ = q + size (block_fields b) in
    let others : List Field = many block_fields bs in
    let behind : List ℕ = bytes_of (many place_fields ps) ++ bytes_of others in
    let e : drop q rec ≡ bytes_of (block_fields b) ++ bytes_of others = stands ∙ bytes_append (block_fields b) others in
    let n : q + block_head + size (many place_fields ps) ≡ q' = omega arith in
    places_at rec k others (blocks_low bs) (block_spans q' bs) (all_places bs) ps at (q + block_head)
    (heads_more (kind_field k ∷ []) behind h refl e)
    (stands_inside rec q (kind_bytes k) behind e inside)
    (drop_behind rec q (kind_bytes k) behind e)
    (block_places k ps (and_l (wf_block b) (all wf_block bs) fine))
    (λ m g.
    blocks_at rec bs m q' (subst (Heads rec m) n g) (stands_inside rec q (bytes_of (block_fields b)) (bytes_of others) e inside)
    (drop_behind rec q (bytes_of (block_fields b)) (bytes_of others) e)
    (and_r (wf_block b) (all wf_block bs) fine))

-- ---- a command

abbrev pub code_fields : List (List ℕ) → List Field
code_fields c = map (λ w. field code_tag w) c

code_heads : (c : List (List ℕ)) → all (tag_in code_tag block_tag) (code_fields c) ≡ true
code_heads [] = refl
code_heads (w ∷ ws) = code_heads ws

-- its blocks stand behind its code
pub record Coded (rec : List ℕ) (c : List (List ℕ)) (bs : List Block) : Type 0 where
  pub bytes : rec ≡ bytes_of (code_fields c) ++ bytes_of (many block_fields bs)
  pub stands : drop (size (code_fields c)) rec ≡ bytes_of (many block_fields bs)
  pub inside : size (code_fields c) ≤ length rec

pub coded : (rec : List ℕ) (c : List (List ℕ)) (bs : List Block) → IsBody rec (command c bs) → Coded rec c bs
coded rec c bs is =
    let u : List ℕ = bytes_of (code_fields c) in
    let v : List ℕ = bytes_of (many block_fields bs) in
    let e : rec ≡ u ++ v = sym is.bytes ∙ bytes_append (code_fields c) (many block_fields bs) in
    record { bytes = e; stands = ap (drop (length u)) e ∙ drop-append_seam u v; inside = omega (arith, ap length e, length-append u v) }

abbrev pub places_in : Command → List Place
places_in (command c bs) = all_places bs

pub told_places : (rec : List ℕ) (c : Command) → body_of rec ≡ ok c → PlacesAt rec 0 (spans_of c) (places_in c)
unfolding spans_of
told_places rec (command c bs) h =
    let is : IsBody rec (command c bs) = body_is rec (command c bs) h in
    let k : Coded rec c bs = coded rec c bs is in
    let q : ℕ = size (code_fields c) in
    let z : 0 + q ≡ q = omega arith in
    blocks_at rec bs 0 q (subst (Heads rec 0) z (heads_more (code_fields c) (bytes_of (many block_fields bs)) (heads_none rec 0) (code_heads c) k.bytes))
    k.inside k.stands (c_blocks c bs is.well)

-- ---- the n-th place

pub places_long : (rec : List ℕ) (at : ℕ) (row : List ℕ) (ps : List Place) → PlacesAt rec at row ps → length row ≡ 3 * length ps
places_long rec at [] [] t = refl
places_long rec at [] (p ∷ ps) t = absurd t
places_long rec at (n ∷ []) ps t = absurd t
places_long rec at (n ∷ (from ∷ [])) ps t = absurd t
places_long rec at (n ∷ (from ∷ (to ∷ row))) [] t = absurd t
places_long rec at (n ∷ (from ∷ (to ∷ row))) (p ∷ ps) t = omega (arith, places_long rec to row ps t.2)

-- its three numbers stand at i
pub record NthPlace (rec : List ℕ) (at : ℕ) (row : List ℕ) (i : ℕ) (p : Place) : Type 0 where
  pub number : get_or row i 0 ≡ arguments_of p
  pub stands : PlaceAt rec (end_before at row i) (get_or row (i + 1) 0) (get_or row (i + 2) 0) p

end_before_lem : (at n from to : ℕ) (row : List ℕ) (i : ℕ) → end_before to row i ≡ end_before at (n ∷ from ∷ to ∷ row) (suc (suc (suc i)))
end_before_lem at n from to row zero = refl
end_before_lem at n from to row (suc i) = refl

later : (rec : List ℕ) (at m from to : ℕ) (row : List ℕ) (i : ℕ) (p : Place) → NthPlace rec to row i p → NthPlace rec at (m ∷ from ∷ to ∷ row) (suc (suc (suc i))) p
later rec at m from to row i p g =
    let one : suc (suc (suc i)) + 1 ≡ suc (suc (suc (i + 1))) = omega arith in
    let two : suc (suc (suc i)) + 2 ≡ suc (suc (suc (i + 2))) = omega arith in
    record {
      number = g.number;
      stands = rw (one, two) (subst (λ (a : ℕ). PlaceAt rec a (get_or row (i + 1) 0) (get_or row (i + 2) 0) p) (end_before_lem at m from to row i) g.stands);
    }

three_on : (rec : List ℕ) (at : ℕ) (row : List ℕ) (n : ℕ) (p : Place) → NthPlace rec at row (suc (suc (suc (3 * n)))) p → NthPlace rec at row (3 * suc n) p
three_on rec at row n p g = let e : suc (suc (suc (3 * n))) ≡ 3 * suc n = omega arith in subst (λ (i : ℕ). NthPlace rec at row i p) e g

pub nth_place : (rec : List ℕ) (n at : ℕ) (row : List ℕ) (ps : List Place) (d : Place) → PlacesAt rec at row ps → n < length ps
    → NthPlace rec at row (3 * n) (get_or ps n d)
nth_place rec n at [] [] d t h = absurd (not-suc-le-zero h)
nth_place rec n at [] (p ∷ ps) d t h = absurd t
nth_place rec n at (m ∷ []) ps d t h = absurd t
nth_place rec n at (m ∷ (from ∷ [])) ps d t h = absurd t
nth_place rec n at (m ∷ (from ∷ (to ∷ row))) [] d t h = absurd t
nth_place rec zero at (m ∷ (from ∷ (to ∷ row))) (p ∷ ps) d t h = record { number = t.0; stands = t.1 }
nth_place rec (suc n) at (m ∷ (from ∷ (to ∷ row))) (p ∷ ps) d t h =
    three_on rec at (m ∷ (from ∷ (to ∷ row))) n (get_or ps n d)
    (later rec at m from to row (3 * n) (get_or ps n d) (nth_place rec n to row ps d t.2 (le_of_suc-le-suc h)))
