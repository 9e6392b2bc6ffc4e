-- The printed text has at most seven bytes for each byte of the record behind its head: each field pays for the text of its piece, place, element or unit and for one
-- separator before it, and a range's field for its upper end and its increment.
use Prim.Native.Nat.{ℕ, zero, suc, ◌+◌, ◌*◌, ◌/◌, ◌^◌, ◌≤◌}
use mathlib.Core.Path.{◌≡◌, refl, ap, ◌∙◌}
use mathlib.Core.Bool.{Bool, true, false, cond, false≢true}
use mathlib.Core.List.{List, [], ◌∷◌, ◌++◌, map}
use native.Mathlib.Omega.{arith}
use lib.Dec.{eqb}
use lib.ListN.{length, length-append}
use borrow.Author.Tests.{leb-true}
use Rattle.laws.specs.Cases.{by_bool, conjuncts}
use Rattle.laws.specs.Lists.{all}
use Rattle.rules.specs.Refusals.{ok}
use Rattle.rules.specs.Tokens.{Sep, dash, comma, colon, equals, semi, Lex, word, sep}
use Rattle.rules.specs.Units.{Radix, Base, plain, keys, letter, radix_letter, size, same_base, Unit, num, keyed, identifier, symbolic, text, is_identifier}
use Rattle.rules.specs.Commands.{Element, single, range, Place, place, Block, block, Command, command, leading, last_unit}
use Rattle.rules.specs.WellFormed.{ok_fraction, wf_unit, wf_element, wf_value, wf_pieces, wf_place, wf_block, well_formed, body_of}
use Rattle.rules.specs.Records.{Field, field, four_bytes, unit_field, element_fields, many, place_fields, block_fields, field_bytes, bytes_of, body_bytes}
use Rattle.rules.specs.Printing.{digits, digits_of, most_digits, num_text, doubled, inc_links, tail_links, full_links, later_links, rest_links, is_short, value_lex, more_lex, joined_lex, word_lex, name_lex, place_lex, block_lex, sep_text, print}
use Rattle.rules.proofs.CommandBack.{c_code, c_blocks}
use Rattle.rules.proofs.DecodeEncode.{place_value_lem}
use Rattle.rules.proofs.Names.{block_places}
use Rattle.rules.proofs.EncodeDecode.{body_is}
use Rattle.rules.proofs.FieldLaws.{bytes_append}
use Rattle.rules.proofs.NeverLonger.{rl, rl_append, rl_cons, joined_len}
use Rattle.rules.proofs.UnitBack.{digits_most, of_length}
use Rattle.rules.proofs.UnitLength.{lx, prefixed_length}
use Rattle.rules.proofs.ValueBack.{v_all, ok_lead, ok_last}
use Rattle.rules.proofs.ValueLength.{w_lead, w_l, w_l_append, full_links_lem, printed}

-- the bytes of fields
abbrev pub fl : List Field → ℕ
fl fs = length (bytes_of fs)

pub fl_append : (xs ys : List Field) → fl (xs ++ ys) ≡ fl xs + fl ys
fl_append xs ys = ap length (bytes_append xs ys) ∙ length-append (bytes_of xs) (bytes_of ys)

pub fl_cons : (f : Field) (fs : List Field) → fl (f ∷ fs) ≡ length (field_bytes f) + fl fs
fl_cons f fs = length-append (field_bytes f) (bytes_of fs)

-- ---- a unit

number_most : (b : Base) (r : Radix) (v : ℕ) → lx b (num r 0 v) ≤ 34
number_most b r v =
    omega (arith, prefixed_length (same_base b (plain r)) (radix_letter r) (digits most_digits (size r) v), digits_most most_digits (size r) v)

numeral_most : (r : Radix) (f v : ℕ) → ok_fraction r f ≡ true → length (num_text r f v) ≤ 42
numeral_most r zero v h = omega (arith, digits_most most_digits (size r) v)
numeral_most r (suc f) v h =
    let w : List ℕ = digits most_digits (size r) (v / size r ^ suc f) in
    omega (
      arith,
      length-append w (46 ∷ digits_of (suc f) (size r) v),
      digits_most most_digits (size r) (v / size r ^ suc f),
      of_length (suc f) (size r) v,
      leb-true (suc f) 9 (search conjuncts),
    )

pub doubled_most : (w : List ℕ) → length (doubled w) ≤ length w + length w
doubled_most [] = omega arith
doubled_most (c ∷ cs) =
    by_bool (eqb c 34)
    (λ y. rw (y, doubled) (omega (arith, doubled_most cs)))
    (λ y. rw (y, doubled) (omega (arith, doubled_most cs)))

unit_bound : (b : Base) (u : Unit) → wf_unit b u ≡ true → suc (lx b u) ≤ 7 * length (field_bytes (unit_field u))
unit_bound b (num r f v) h =
    omega (
      arith,
      prefixed_length (same_base b (plain r)) (radix_letter r) (num_text r f v),
      numeral_most r f v (search conjuncts),
    )
unit_bound b (keyed w) h = omega (arith, prefixed_length (same_base b keys) (letter keys) w)
unit_bound b (identifier w) h = omega arith
unit_bound b (symbolic w) h = omega arith
unit_bound b (text w) h = omega (arith, length-append (doubled w) (34 ∷ []), doubled_most w)

-- ---- a value

module _ (b : Base) where
  argument_bound : (l : List Unit) (u : Unit) → all (wf_unit b) l ≡ true → wf_unit b u ≡ true
      → suc (w_lead b l + lx b u) ≤ 7 * fl (map unit_field (l ++ (u ∷ [])))
  argument_bound [] u h k = omega (arith, fl_cons (unit_field u) [], unit_bound b u k)
  argument_bound (i ∷ l) u h k =
      omega (
        arith,
        fl_cons (unit_field i) (map unit_field (l ++ (u ∷ []))),
        unit_bound b i (search conjuncts),
        argument_bound l u (search conjuncts) k,
      )

  inc_bound : (r : Radix) (inc : ℕ) (t : Bool) → w_l b (inc_links r inc t) ≤ 36
  inc_bound r inc true = omega arith
  inc_bound r inc false = omega (arith, number_most b r inc)

  tail_bound : (r : Radix) (lo up inc : ℕ) (l : List Unit) → w_l b (tail_links (range l r lo up inc)) ≤ 73
  tail_bound r lo up inc [] = omega (arith, number_most b r up, inc_bound r inc (eqb inc 1))
  tail_bound r lo up inc (i ∷ l) = omega (arith, number_most b r up, inc_bound r inc (eqb inc 1))

  -- an element's separator and all that it prints
  whole_bound : (n : ℕ) (e : Element) → wf_element b n e ≡ true
      → 2 + w_lead b (leading e) + lx b (last_unit e) + w_l b (tail_links e) ≤ 7 * fl (element_fields e)
  whole_bound n (single l u) h =
      let e : Element = single l u in
      omega (arith, fl_cons (field 5 []) (map unit_field (l ++ (u ∷ []))), argument_bound l u (ok_lead b n e h) (ok_last b n e h))
  whole_bound n (range l r lo up inc) h =
      let e : Element = range l r lo up inc in
      let us : List Field = map unit_field (l ++ (num r 0 lo ∷ [])) in
      omega (
        arith,
        fl_cons (field 6 (four_bytes up ++ four_bytes inc)) us,
        argument_bound l (num r 0 lo) (ok_lead b n e h) (ok_last b n e h),
        tail_bound r lo up inc l,
      )

  later_bound : (n : ℕ) (t : Bool) (e : Element) → wf_element b n e ≡ true → w_l b (later_links t e) ≤ 7 * fl (element_fields e)
  later_bound n true e h = omega (arith, whole_bound n e h)
  later_bound n false e h = omega (arith, full_links_lem b e, whole_bound n e h)

  rest_bound : (n : ℕ) (e₀ : Element) (es : List Element) → all (wf_element b n) es ≡ true → w_l b (rest_links e₀ es) ≤ 7 * fl (many element_fields es)
  rest_bound n e₀ [] h = omega arith
  rest_bound n e₀ (e ∷ es) h =
      omega (
        arith,
        w_l_append b (later_links (is_short e₀ e) e) (rest_links e es),
        fl_append (element_fields e) (many element_fields es),
        later_bound n (is_short e₀ e) e (search conjuncts),
        rest_bound n e es (search conjuncts),
      )

  value_bound : (v : List Element) → wf_value b v ≡ true → rl (value_lex b v) ≤ 7 * fl (many element_fields v)
  value_bound [] h = omega arith
  value_bound (e ∷ es) h =
      let n : ℕ = length (leading e) in
      let hs : all (wf_element b n) (e ∷ es) ≡ true = v_all b e es h in
      omega (
        arith,
        printed b (e ∷ es),
        w_l_append b (full_links e) (rest_links e es),
        fl_append (element_fields e) (many element_fields es),
        later_bound n false e (search conjuncts),
        rest_bound n e es (search conjuncts),
      )

-- ---- pieces of a code or a name, joined by `-`

module _ (t : ℕ) where
  abbrev pub piece_fields : List (List ℕ) → List Field
  piece_fields ws = map (λ w. field t w) ws

  more_bound : (ws : List (List ℕ)) → rl (more_lex dash (map word_lex ws)) ≤ 7 * fl (piece_fields ws)
  more_bound [] = omega arith
  more_bound (w ∷ ws) =
      omega (arith, rl_cons (word w) (more_lex dash (map word_lex ws)), fl_cons (field t w) (piece_fields ws), more_bound ws)

  pieces_bound : (w : List ℕ) (ws : List (List ℕ)) → suc (rl (joined_lex dash (map word_lex (w ∷ ws)))) ≤ 7 * fl (piece_fields (w ∷ ws))
  pieces_bound w ws =
      omega (arith, rl_cons (word w) (more_lex dash (map word_lex ws)), fl_cons (field t w) (piece_fields ws), more_bound ws)

name_bound : (nm : List (List ℕ)) → rl (name_lex nm) ≤ 7 * fl (piece_fields 4 nm)
name_bound [] = omega arith
name_bound (w ∷ ws) = omega (arith, rl_append (joined_lex dash (map word_lex (w ∷ ws))) (sep equals ∷ []), pieces_bound 4 w ws)

-- ---- places, blocks, the command

module _ {A : Type 0} (lex : A → List Lex) (fields : A → List Field) (good : A → Bool)
    (bound : (a : A) → good a ≡ true → suc (rl (lex a)) ≤ 7 * fl (fields a)) (s : Sep) (one : length (sep_text s) ≡ 1) where
  joined_bound : (as' : List A) → all good as' ≡ true → rl (more_lex s (map lex as')) ≤ 7 * fl (many fields as')
  joined_bound [] h = omega arith
  joined_bound (a ∷ as') h =
      let M : List Lex = more_lex s (map lex as') in
      omega (
        arith,
        one,
        rl_cons (sep s) (lex a ++ M),
        rl_append (lex a) M,
        fl_append (fields a) (many fields as'),
        bound a (search conjuncts),
        joined_bound as' (search conjuncts),
      )

place_bound : (k : Bool) (p : Place) → wf_place k p ≡ true → suc (rl (place_lex p)) ≤ 7 * fl (place_fields p)
place_bound k (place b nm v) h =
    omega (
      arith,
      rl_append (name_lex nm) (value_lex b v),
      fl_cons (field 3 (letter b ∷ [])) (piece_fields 4 nm ++ many element_fields v),
      fl_append (piece_fields 4 nm) (many element_fields v),
      name_bound nm,
      value_bound b v (place_value_lem k b nm v h),
    )

block_bound : (b : Block) → wf_block b ≡ true → suc (rl (block_lex b)) ≤ 7 * fl (block_fields b)
block_bound (block k ps) h =
    omega (
      arith,
      joined_len (map place_lex ps),
      fl_cons (field 2 (cond k 78 80 ∷ [])) (many place_fields ps),
      joined_bound place_lex place_fields (wf_place k) (place_bound k) comma refl ps (block_places k ps h),
    )

code_bound : (c : List (List ℕ)) → wf_pieces is_identifier 2 c ≡ true → suc (rl (joined_lex dash (map word_lex c))) ≤ 7 * fl (piece_fields 1 c)
code_bound [] h = absurd (false≢true h)
code_bound (w ∷ ws) h = pieces_bound 1 w ws

pub text_bound : (c : Command) → well_formed c ≡ true → length (print c) ≤ 7 * length (body_bytes c)
text_bound (command c bs) h =
    let N : List Lex = joined_lex dash (map word_lex c) in
    let M : List Lex = more_lex colon (map block_lex bs) in
    omega (
      arith,
      rl_append (N ++ M) (sep semi ∷ []),
      rl_append N M,
      fl_append (piece_fields 1 c) (many block_fields bs),
      code_bound c (c_code c bs h),
      joined_bound block_lex block_fields wf_block block_bound colon refl bs (c_blocks c bs h),
    )

-- the same of bytes that stand behind a head: the head prints nothing
pub body_bound : (b : List ℕ) (c : Command) → body_of b ≡ ok c → length (print c) ≤ 7 * length b
body_bound b c e = let i = body_is b c e in omega (arith, text_bound c i.well, ap length i.bytes)
