-- No well-formed record is longer than 65,536 bytes: every field is short, and of the values' numbers of elements, none above 64, the product is at most
-- the number of orders, 65,535, so that at most 140 elements in all are not the first of their value.
use Prim.Native.Nat.{ℕ, suc, ◌+◌, ◌*◌, ◌-◌, ◌/◌, ◌≤◌, ◌<◌}
use mathlib.Core.Path.{◌≡◌, refl, ap, ◌∙◌}
use mathlib.Core.Bool.{Bool, true, false, cond, false≢true}
use mathlib.Core.List.{List, [], ◌∷◌, ◌++◌, map}
use native.Mathlib.Nat.{mul-le-mul_left, mul-le-mul_right}
use native.Mathlib.Omega.{arith}
use lib.Dec.{ltb}
use lib.ListN.{length, replicate}
use borrow.Author.Tests.{ltb-true, ltb-false, leb-true}
use Rattle.laws.specs.Cases.{by_bool, conjuncts}
use Rattle.laws.specs.Lists.{all}
use Rattle.rules.specs.Refusals.{most_word, most_string, more_of_code, more_of_name, most_blocks, most_places, most_leading, most_elements, most_orders}
use Rattle.rules.specs.Characters.{byte}
use Rattle.rules.specs.Units.{Base, keys, letter, Unit, num, keyed, identifier, symbolic, text, is_identifier}
use Rattle.rules.specs.Commands.{Name, Element, single, range, Place, place, Block, block, Command, command, all_places, leading, terms, sum, mult, value_count, place_count, is_piece}
use Rattle.rules.specs.WellFormed.{wf_unit, wf_element, wf_value, short, wf_pieces, wf_place, wf_block, well_formed}
use Rattle.rules.specs.Records.{field, four_bytes, unit_field, element_fields, many, place_fields, block_fields, field_bytes, body_bytes, head_size, encode}
use Rattle.rules.proofs.CommandBack.{c_code, c_few, c_blocks, c_places, c_count, w_most}
use Rattle.rules.proofs.Counts.{terms_pos}
use Rattle.rules.proofs.DecodeEncode.{place_value_lem}
use Rattle.rules.proofs.Names.{block_places}
use Rattle.rules.proofs.FieldLaws.{many_append}
use Rattle.rules.proofs.TextBound.{fl, fl_append, fl_cons, piece_fields}
use Rattle.rules.proofs.ValueBack.{ok_length, ok_lead, ok_last, v_lead, v_all, v_few}

-- ---- the most bytes

-- a field's tag and length
abbrev pub field_head : ℕ
field_head = 3

-- a code piece's field, or a name piece's
abbrev pub most_piece : ℕ
most_piece = field_head + most_word

-- a unit's field
abbrev pub most_unit : ℕ
most_unit = field_head + most_string

-- the fields of an element; a range's field is longer, but its last unit's shorter by more
abbrev pub most_element : ℕ
most_element = field_head + (most_leading + 1) * most_unit

-- the fields of a place with one element
abbrev pub most_place : ℕ
most_place = field_head + 1 + (more_of_name + 1) * most_piece + most_element

-- "65th element of a value": so many behind the first
abbrev pub more_of_value : ℕ
more_of_value = most_elements - 1

-- elements that are not the first of their value, in all: 63, 63 and 14, since 64 * 64 * 15 orders are allowed and 64 * 64 * 16 are not
abbrev pub most_later : ℕ
most_later = more_of_value + more_of_value + (most_orders / (most_elements * most_elements) - 1)

-- a record behind its head: code, blocks, places, and the elements that are not the first of their value
abbrev pub most_body : ℕ
most_body = (more_of_code + 1) * most_piece + most_blocks * (field_head + 1) + most_places * most_place + most_later * most_element

abbrev pub most_record : ℕ
most_record = head_size + most_body

-- ---- the sum from the product

-- Of factors 1 to 64, let p be the product and s the sum of what each has above 1. For a given s, p is least where as many factors as can be are 64
-- and one takes the rest, and is then the greatest of s + 1, 64 * (s + 1 - 63), 64 * 64 * (s + 1 - 2 * 63) and so on. Here: p is at least w * (s + 1 - c)
abbrev Line : ℕ → ℕ → ℕ → ℕ → Type 0
Line w c p s = w * (s + 1) ≤ p + w * c

-- the first three of these lines: more are not needed for 65,535 orders
record Spread (p s : ℕ) : Type 0 where
  flat : Line 1 0 p s
  steep : Line most_elements more_of_value p s
  steepest : Line (most_elements * most_elements) (more_of_value + more_of_value) p s

-- (64 - a) * (64 - t) is not below 0
corner : (a x t : ℕ) → a + x ≡ most_elements → t ≤ most_elements → most_elements * (a + t) ≤ a * t + most_elements * most_elements
corner a x t h k = omega (arith, ap (λ n. n * t) h, mul-le-mul_left x k)

-- one factor more keeps the next line: past its foot by its own slope, up to there by the slope of the line before and the corner
next_line : (w c d p s : ℕ) → d < most_elements → Line w c p s → Line (most_elements * w) (c + more_of_value) p s
    → Line (most_elements * w) (c + more_of_value) (suc d * p) (d + s)
next_line w c d p s hd low high =
    by_bool (ltb s (c + more_of_value))
    (λ y.
    let below : s < c + more_of_value = ltb-true s (c + more_of_value) y in
    by_bool (ltb (d + s) (c + more_of_value))
    (λ z.
    let h : d + s + 1 ≤ c + more_of_value = omega (arith, ltb-true (d + s) (c + more_of_value) z) in
    omega (arith, mul-le-mul_left (most_elements * w) h))
    (λ z.
    let t : ℕ = s + 1 - c in
    let e : s + 1 ≡ t + c = omega (arith, ltb-false (d + s) (c + more_of_value) z) in
    let q : w * (s + 1) ≡ w * (t + c) = ap (λ n. w * n) e in
    let wt : w * t ≤ p = omega arith in
    omega (arith, mul-le-mul_left w (corner (suc d) (more_of_value - d) t (omega arith) (omega arith)), mul-le-mul_left (suc d) wt)))
    (λ y.
    let h : c + most_elements ≤ s + 1 = omega (arith, ltb-false s (c + more_of_value) y) in
    let m : most_elements * w * (c + most_elements) ≤ most_elements * w * (s + 1) = mul-le-mul_left (most_elements * w) h in
    let k : most_elements * w ≤ p = omega arith in
    omega (arith, mul-le-mul_left d k))

-- the factor suc d more
spread_more : (d p s : ℕ) → d < most_elements → Spread p s → Spread (suc d * p) (d + s)
spread_more d p s hd r =
    let one : 1 ≤ p = omega (arith, r.flat) in
    record {
      flat = omega (arith, r.flat, mul-le-mul_left d one);
      steep = next_line 1 0 d p s hd r.flat r.steep;
      steepest = next_line most_elements more_of_value d p s hd r.steep r.steepest;
    }

-- a greater product
spread_up : (p q s : ℕ) → p ≤ q → Spread p s → Spread q s
spread_up p q s h r = record { flat = omega (arith, r.flat); steep = omega (arith, r.steep); steepest = omega (arith, r.steepest) }

-- ---- units, elements, values

unit_size : (b : Base) (u : Unit) → wf_unit b u ≡ true → length (field_bytes (unit_field u)) ≤ most_unit
unit_size b (num r f v) h = omega arith
unit_size b (keyed w) h = let k : length w ≤ most_word = search conjuncts in omega arith
unit_size b (identifier w) h = let k : length w ≤ most_word = search conjuncts in omega arith
unit_size b (symbolic w) h = let k : length w ≤ most_word = search conjuncts in omega arith
unit_size b (text w) h = let k : length w ≤ most_string = search conjuncts in omega arith

module _ (b : Base) where
  -- leading units, and a last one
  units_size : (l : List Unit) (u : Unit) → all (wf_unit b) l ≡ true
      → fl (map unit_field (l ++ (u ∷ []))) ≤ most_unit * length l + length (field_bytes (unit_field u))
  units_size [] u h = omega (arith, fl_cons (unit_field u) [])
  units_size (i ∷ l) u h =
      omega (
        arith,
        fl_cons (unit_field i) (map unit_field (l ++ (u ∷ []))),
        unit_size b i (search conjuncts),
        units_size l u (search conjuncts),
      )

  element_size : (n : ℕ) (e : Element) → n ≤ most_leading → wf_element b n e ≡ true → fl (element_fields e) ≤ most_element
  element_size n (single l u) k h =
      let e : Element = single l u in
      omega (
        arith,
        fl_cons (field 5 []) (map unit_field (l ++ (u ∷ []))),
        units_size l u (ok_lead b n e h),
        unit_size b u (ok_last b n e h),
        ok_length b n e h,
      )
  element_size n (range l r lo up inc) k h =
      let e : Element = range l r lo up inc in
      omega (
        arith,
        fl_cons (field 6 (four_bytes up ++ four_bytes inc)) (map unit_field (l ++ (num r 0 lo ∷ []))),
        units_size l (num r 0 lo) (ok_lead b n e h),
        ok_length b n e h,
      )

  elements_size : (n : ℕ) (es : List Element) → n ≤ most_leading → all (wf_element b n) es ≡ true
      → fl (many element_fields es) ≤ most_element * length es
  elements_size n [] k h = omega arith
  elements_size n (e ∷ es) k h =
      omega (
        arith,
        fl_append (element_fields e) (many element_fields es),
        element_size n e k (search conjuncts),
        elements_size n es k (search conjuncts),
      )

-- the number of a value's elements that are not its first
abbrev later : List Element → ℕ
later [] = 0
later (e ∷ es) = length es

value_size_lem : (b : Base) (v : List Element) → wf_value b v ≡ true → fl (many element_fields v) ≤ most_element * suc (later v)
value_size_lem b [] h = omega arith
value_size_lem b (e ∷ es) h =
    let n : ℕ = length (leading e) in
    omega (arith, elements_size b n (e ∷ es) (leb-true n most_leading (v_lead b e es h)) (v_all b e es h))

value_few : (b : Base) (v : List Element) → wf_value b v ≡ true → later v < most_elements
value_few b [] h = omega arith
value_few b (e ∷ es) h = leb-true (length (e ∷ es)) most_elements (v_few b e es h)

-- each element names a term
terms_some : (es : List Element) → length es ≤ sum (map terms es)
terms_some [] = omega arith
terms_some (e ∷ es) = omega (arith, terms_pos e, terms_some es)

value_arguments : (v : List Element) → later v < value_count v
value_arguments [] = omega arith
value_arguments (e ∷ es) = terms_some (e ∷ es)

-- ---- pieces of a code or a name

pieces_size : (t : ℕ) (ws : List (List ℕ)) → all short ws ≡ true → fl (piece_fields t ws) ≤ most_piece * length ws
pieces_size t [] h = omega arith
pieces_size t (w ∷ ws) h =
    omega (
      arith,
      fl_cons (field t w) (piece_fields t ws),
      leb-true (length w) most_word (search conjuncts),
      pieces_size t ws (search conjuncts),
    )

wf_pieces_size : (t : ℕ) (g : List ℕ → Bool) (most : ℕ) (ws : List (List ℕ)) → wf_pieces g most ws ≡ true
    → fl (piece_fields t ws) ≤ most_piece * suc most
wf_pieces_size t g most [] h = absurd (false≢true h)
wf_pieces_size t g most (w ∷ ws) h =
    let s : all short (w ∷ ws) ≡ true = search conjuncts in omega (arith, pieces_size t (w ∷ ws) s, w_most g most w ws h)

name_size : (k : Bool) (b : Base) (nm : List (List ℕ)) (v : List Element) → wf_place k (place b nm v) ≡ true
    → fl (piece_fields 4 nm) ≤ most_piece * suc more_of_name
name_size true b nm v h =
    let k : wf_pieces is_piece more_of_name nm ≡ true = search conjuncts in wf_pieces_size 4 is_piece more_of_name nm k
name_size false b [] v h = omega arith
name_size false b (w ∷ ws) v h = absurd (false≢true h)

-- ---- places, blocks, the command

place_size_lem : (k : Bool) (b : Base) (nm : List (List ℕ)) (v : List Element) → wf_place k (place b nm v) ≡ true
    → fl (place_fields (place b nm v)) ≤ most_place + most_element * later v
place_size_lem k b nm v h =
    omega (
      arith,
      fl_cons (field 3 (letter b ∷ [])) (piece_fields 4 nm ++ many element_fields v),
      fl_append (piece_fields 4 nm) (many element_fields v),
      name_size k b nm v h,
      value_size_lem b v (place_value_lem k b nm v h),
    )

-- places: so many of their elements are not the first of their value, which bounds the product of their counts from below and their bytes from above
record Held (ps : List Place) : Type 0 where
  more : ℕ
  spread : Spread (mult (map place_count ps)) more
  size : fl (many place_fields ps) ≤ most_place * length ps + most_element * more

place_held : (k : Bool) (p : Place) (ps : List Place) → wf_place k p ≡ true → Held ps → Held (p ∷ ps)
place_held k (place b nm v) ps h r =
    let m : ℕ = mult (map place_count ps) in
    let d : ℕ = later v in
    let up : suc d * m ≤ value_count v * m = mul-le-mul_right m (value_arguments v) in
    record {
      more = d + r.more;
      spread = spread_up (suc d * m) (value_count v * m) (d + r.more) up (spread_more d m r.more (value_few b v (place_value_lem k b nm v h)) r.spread);
      size = omega (arith, fl_append (place_fields (place b nm v)) (many place_fields ps), place_size_lem k b nm v h, r.size);
    }

places_held : (k : Bool) (ps rest : List Place) → all (wf_place k) ps ≡ true → Held rest → Held (ps ++ rest)
places_held k [] rest h r = r
places_held k (p ∷ ps) rest h r =
    place_held k p (ps ++ rest) (search conjuncts)
    (places_held k ps rest (search conjuncts) r)

blocks_held : (bs : List Block) → all wf_block bs ≡ true → Held (all_places bs)
blocks_held [] h = record { more = 0; spread = record { flat = omega arith; steep = omega arith; steepest = omega arith }; size = omega arith }
blocks_held (block k ps ∷ bs) h =
    places_held k ps (all_places bs) (block_places k ps (search conjuncts))
    (blocks_held bs (search conjuncts))

places_append : (ps qs : List Place) → fl (many place_fields (ps ++ qs)) ≡ fl (many place_fields ps) + fl (many place_fields qs)
places_append ps qs = ap fl (many_append place_fields ps qs) ∙ fl_append (many place_fields ps) (many place_fields qs)

-- a block adds its own field to its places
blocks_size_lem : (bs : List Block) → fl (many block_fields bs) ≡ (field_head + 1) * length bs + fl (many place_fields (all_places bs))
blocks_size_lem [] = omega arith
blocks_size_lem (block k ps ∷ bs) =
    omega (
      arith,
      fl_append (block_fields (block k ps)) (many block_fields bs),
      fl_cons (field 2 (cond k (byte "N") (byte "P") ∷ [])) (many place_fields ps),
      places_append ps (all_places bs),
      blocks_size_lem bs,
    )

-- the bytes by the limits of the parts
pub body_size : (c : Command) → well_formed c ≡ true → length (body_bytes c) ≤ most_body
body_size (command c bs) h =
    let r : Held (all_places bs) = blocks_held bs (c_blocks c bs h) in
    omega (
      arith,
      fl_append (piece_fields 1 c) (many block_fields bs),
      wf_pieces_size 1 is_identifier more_of_code c (c_code c bs h),
      blocks_size_lem bs,
      r.size,
      r.spread.steepest,
      c_few c bs h,
      c_places c bs h,
      c_count c bs h,
    )

-- with the head's at most 62,372
pub record_size : (c : Command) → well_formed c ≡ true → length (encode c) ≤ most_record
record_size c h = omega (arith, body_size c h)

-- and the number that the library's header names
pub record_bound : (c : Command) → well_formed c ≡ true → length (encode c) ≤ 65536
record_bound c h = omega (arith, record_size c h)

-- ---- a well-formed record of that length: no smaller number would do

-- the longest code piece or name piece
abbrev long_piece : List ℕ
long_piece = replicate most_word (byte "A")

-- the longest name; the i-th ends with the i-th letter
abbrev long_name : ℕ → Name
long_name i = replicate more_of_name long_piece ++ ((replicate (most_word - 1) (byte "A") ++ ((byte "A" + i) ∷ [])) ∷ [])

-- named places with so many elements of the longest strings, their names from the i-th on
abbrev long_places : ℕ → List ℕ → List Place
long_places i [] = []
long_places i (n ∷ ns) =
    let s : Unit = text (replicate most_string (byte "A")) in
    place keys (long_name i) (replicate n (single (replicate most_leading s) s)) ∷ long_places (suc i) ns

-- 8 blocks, 25 places in the first and one in each other, with 64, 64 and 15 elements and then one to a place
abbrev pub longest : Command
longest =
    command (replicate (more_of_code + 1) long_piece)
    (block true (long_places 0 (most_elements ∷ most_elements ∷ 15 ∷ replicate 22 1)) ∷ replicate 7 (block true (long_places 0 (1 ∷ []))))

pub longest_well_formed : well_formed longest ≡ true
longest_well_formed = refl

pub longest_size : length (encode longest) ≡ 62372
longest_size = refl
