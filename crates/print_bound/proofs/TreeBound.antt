-- A well-formed command's text has no more bytes than its fields' bounds and one for the `;`: each field pays for the text of its piece, unit or range and
-- for one separator by it.
use Prim.Native.Nat.{ℕ, zero, suc, ◌+◌, ◌/◌, ◌^◌, ◌≤◌, ◌<◌}
use mathlib.Core.Path.{◌≡◌, refl, subst}
use mathlib.Core.Bool.{Bool, true, false, false≢true}
use mathlib.Core.List.{List, [], ◌∷◌, ◌++◌, map, append_assoc, append-nil}
use native.Mathlib.Nat.{div-le_self}
use native.Mathlib.Omega.{arith}
use lib.Dec.{ltb, leb, eqb}
use lib.ListN.{length, length-append}
use borrow.Author.Tests.{leb-true, ltb-true, not-true}
use Rattle.laws.specs.Cases.{by_bool, and_l, and_r}
use Rattle.laws.specs.Lists.{all, is_nil}
use Rattle.rules.specs.Refusals.{most_value}
use Rattle.rules.specs.Characters.{byte}
use Rattle.rules.specs.Tokens.{Sep, dash, comma, colon, equals, semi, Lex, word, sep}
use Rattle.rules.specs.Units.{Radix, r_d, r_h, r_o, r_b, Base, plain, keys, letter, radix_letter, size, same_base, Unit, num, keyed, identifier, symbolic, text}
use Rattle.rules.specs.Commands.{Element, single, range, Place, place, Block, block, Command, command, leading, last_unit}
use Rattle.rules.specs.WellFormed.{ok_fraction, wf_unit, wf_element, wf_value, wf_place, wf_block, well_formed}
use Rattle.rules.specs.Records.{Field, field, code_tag, name_tag, num4, four_bytes, unit_field, element_fields, many, place_fields, block_fields, fields_of}
use Rattle.rules.specs.Printing.{digits, digits_of, most_digits, num_text, doubled, inc_links, tail_links, full_links, later_links, rest_links, is_short, value_lex, more_lex, joined_lex, word_lex, name_lex, place_lex, block_lex, sep_text, print}
use Rattle.rules.proofs.CommandBack.{c_blocks}
use Rattle.rules.proofs.DecodeEncode.{place_value_lem}
use Rattle.rules.proofs.Names.{block_places}
use Rattle.rules.proofs.NeverLonger.{rl, rl_append, rl_cons, joined_len}
use Rattle.rules.proofs.RoundTrip.{digits_length, num_length}
use Rattle.rules.proofs.TextBound.{piece_fields, doubled_most}
use Rattle.rules.proofs.UnitBack.{of_length}
use Rattle.rules.proofs.UnitLength.{lx, prefixed_length}
use Rattle.rules.proofs.ValueBack.{v_all, ok_lead, ok_last, ok_range}
use Rattle.rules.proofs.ValueLength.{w_lead, w_l, w_l_append, lead_pos, full_links_lem, printed}
use Rattle.print_bound.specs.Bounds.{longer_bound, decimal_bound, stop_bound, any_bound, is_plain, number_bound, end_bound, field_bound, base_behind, fields_bound}

-- the parts of a conjunction
ruleset parts = (and_l, and_r)

-- ---- numbers

-- a value below base^n has at most n digits, and the stop with the digits behind it takes at most two for each of these
number_most : (r : Radix) (f v n : ℕ) → v < size r ^ suc n → length (num_text r f v) ≤ suc n + stop_bound f
number_most r zero v n h = omega (arith, digits_length r n most_digits v h)
number_most r (suc f) v n h =
    let low : v / size r ^ suc f < size r ^ suc n = omega (arith, div-le_self v (size r ^ suc f)) in
    omega (
      arith,
      length-append (digits most_digits (size r) (v / size r ^ suc f)) (byte "." ∷ digits_of (suc f) (size r) v),
      digits_length r n most_digits (v / size r ^ suc f) low,
      of_length (suc f) (size r) v,
    )

decimal_most : (f v : ℕ) → leb v most_value ≡ true → suc (length (num_text r_d f v)) ≤ decimal_bound v + stop_bound f
unfolding decimal_bound longer_bound
decimal_most f v h =
    by_bool (ltb v 10)
    (λ y. rw y (omega (arith, number_most r_d f v 0 (omega (arith, ltb-true v 10 y)))))
    (λ y.
    by_bool (ltb v 10000)
    (λ z. rw (y, z) (omega (arith, number_most r_d f v 3 (omega (arith, ltb-true v 10000 z)))))
    (λ z. rw (y, z) (omega (arith, number_most r_d f v 9 (omega (arith, leb-true v most_value h))))))

-- below 16 there are four digits at most in every base
below_sixteen : (r : Radix) (v : ℕ) → v < 16 → v < size r ^ 4
below_sixteen r_d v h = omega arith
below_sixteen r_h v h = omega arith
below_sixteen r_o v h = omega arith
below_sixteen r_b v h = omega arith

any_most : (r : Radix) (f v : ℕ) → ok_fraction r f ≡ true → leb v most_value ≡ true → 3 + length (num_text r f v) ≤ any_bound f v
unfolding any_bound
any_most r f v o h =
    by_bool (ltb v 16)
    (λ y. rw y (omega (arith, number_most r f v 3 (below_sixteen r v (ltb-true v 16 y)))))
    (λ y. rw y (omega (arith, num_length r f v o h)))

-- where D is the place's base, and the numeral decimal, it has no prefix
plain_most : (b : Base) (r : Radix) (f v : ℕ) → is_plain (letter b) (radix_letter r) ≡ true → leb v most_value ≡ true
    → suc (lx b (num r f v)) ≤ decimal_bound v + stop_bound f
plain_most b r_d f v p h = rw (and_l (eqb (letter b) (radix_letter r_d)) true p) (decimal_most f v h)
plain_most b r_h f v p h = absurd (false≢true (and_r (eqb (letter b) (radix_letter r_h)) false p))
plain_most b r_o f v p h = absurd (false≢true (and_r (eqb (letter b) (radix_letter r_o)) false p))
plain_most b r_b f v p h = absurd (false≢true (and_r (eqb (letter b) (radix_letter r_b)) false p))

number_bound_lem : (b : Base) (r : Radix) (f v : ℕ) → ok_fraction r f ≡ true → leb v most_value ≡ true
    → suc (lx b (num r f v)) ≤ number_bound (letter b) (radix_letter r) f v
unfolding number_bound
number_bound_lem b r f v o h =
    by_bool (is_plain (letter b) (radix_letter r))
    (λ p. rw p (plain_most b r f v p h))
    (λ p. rw p (omega (arith, prefixed_length (same_base b (plain r)) (radix_letter r) (num_text r f v), any_most r f v o h)))

end_bound_lem : (b : Base) (r : Radix) (v : ℕ) → leb v most_value ≡ true → 3 + lx b (num r 0 v) ≤ end_bound v
unfolding end_bound
end_bound_lem b r v h =
    let p = prefixed_length (same_base b (plain r)) (radix_letter r) (num_text r 0 v) in
    by_bool (ltb v 16)
    (λ y. rw y (omega (arith, p, number_most r 0 v 3 (below_sixteen r v (ltb-true v 16 y)))))
    (λ y. rw y (omega (arith, p, num_length r 0 v refl h)))

-- ---- a unit

unit_bound : (b : Base) (u : Unit) → wf_unit b u ≡ true → suc (lx b u) ≤ field_bound (letter b) (unit_field u)
unit_bound b (num r f v) h =
    let value : num4 (radix_letter r ∷ f ∷ four_bytes v) 2 ≡ v = omega arith in
    rw value (number_bound_lem b r f v (search parts) (search parts))
unit_bound b (keyed w) h = omega (arith, prefixed_length (same_base b keys) (letter keys) w)
unit_bound b (identifier w) h = omega arith
unit_bound b (symbolic w) h = omega arith
unit_bound b (text w) h = omega (arith, length-append (doubled w) (byte "\"" ∷ []), doubled_most w)

unit_step : (base : ℕ) (u : Unit) (fs : List Field) → fields_bound base (unit_field u ∷ fs) ≡ field_bound base (unit_field u) + fields_bound base fs
unit_step base (num r f v) fs = refl
unit_step base (keyed w) fs = refl
unit_step base (identifier w) fs = refl
unit_step base (symbolic w) fs = refl
unit_step base (text w) fs = refl

-- ---- a value, and fields behind it that pay for n bytes more

module _ (b : Base) where
  -- what fields of a place under the base b pay
  abbrev paid : List Field → ℕ
  paid fs = fields_bound (letter b) fs

  argument_bound : (l : List Unit) (u : Unit) (fs : List Field) (n : ℕ) → all (wf_unit b) l ≡ true → wf_unit b u ≡ true → n ≤ paid fs
      → suc (w_lead b l + lx b u) + n ≤ paid (map unit_field (l ++ (u ∷ [])) ++ fs)
  argument_bound [] u fs n h k m = omega (arith, unit_step (letter b) u fs, unit_bound b u k)
  argument_bound (i ∷ l) u fs n h k m =
      omega (
        arith,
        unit_step (letter b) i (map unit_field (l ++ (u ∷ [])) ++ fs),
        unit_bound b i (search parts),
        argument_bound l u fs n (search parts) k m,
      )

  inc_bound : (r : Radix) (inc : ℕ) (t : Bool) → leb inc most_value ≡ true → w_l b (inc_links r inc t) ≤ end_bound inc
  inc_bound r inc true h = omega arith
  inc_bound r inc false h = omega (arith, end_bound_lem b r inc h)

  tail_bound : (r : Radix) (lo up inc : ℕ) (l : List Unit) → leb up most_value ≡ true → leb inc most_value ≡ true
      → w_l b (tail_links (range l r lo up inc)) ≤ end_bound up + end_bound inc
  tail_bound r lo up inc [] h k = omega (arith, end_bound_lem b r up h, inc_bound r inc (eqb inc 1) k)
  tail_bound r lo up inc (i ∷ l) h k = omega (arith, end_bound_lem b r up h, inc_bound r inc (eqb inc 1) k)

  -- an element in full, with the separator before it
  abbrev whole : Element → ℕ
  whole e = 1 + w_lead b (leading e) + lx b (last_unit e) + w_l b (tail_links e)

  -- its own field pays for the upper end and the increment
  element_bound : (k : ℕ) (e : Element) (fs : List Field) (n : ℕ) → wf_element b k e ≡ true → n ≤ paid fs → whole e + n ≤ paid (element_fields e ++ fs)
  element_bound k (single l u) fs n h m =
      let e : Element = single l u in
      omega (arith, argument_bound l u fs n (ok_lead b k e h) (ok_last b k e h) m)
  element_bound k (range l r lo up inc) fs n h m =
      let e : Element = range l r lo up inc in
      let ends = ok_range b k e h in
      let upper : num4 (four_bytes up ++ four_bytes inc) 0 ≡ up = omega arith in
      let increment : num4 (four_bytes up ++ four_bytes inc) 4 ≡ inc = omega arith in
      rw (upper, increment) (omega (
        arith,
        argument_bound l (num r 0 lo) fs n (ok_lead b k e h) (ok_last b k e h) m,
        tail_bound r lo up inc l (search parts) (search parts),
      ))

  -- the short form has one separator byte more, and leaves out a leading unit at least
  later_bound : (t : Bool) (e : Element) → (t ≡ true → is_nil (leading e) ≡ false) → w_l b (later_links t e) ≤ whole e
  later_bound true e s = omega (arith, lead_pos b (leading e) (s refl))
  later_bound false e s = omega (arith, full_links_lem b e)

  -- the first in full, the others as they are written behind it
  elements_bound : (k : ℕ) (e : Element) (es : List Element) (fs : List Field) (n : ℕ) → all (wf_element b k) (e ∷ es) ≡ true → n ≤ paid fs
      → whole e + w_l b (rest_links e es) + n ≤ paid (many element_fields (e ∷ es) ++ fs)
  elements_bound k e [] fs n h m = rw (append-nil (element_fields e)) (omega (arith, element_bound k e fs n (search parts) m))
  elements_bound k e (e' ∷ es) fs n h m =
      let later : w_l b (rest_links e (e' ∷ es)) + n ≤ paid (many element_fields (e' ∷ es) ++ fs) =
      omega (
        arith,
        w_l_append b (later_links (is_short e e') e') (rest_links e' es),
        later_bound (is_short e e') e' (λ h. not-true (is_nil (leading e')) (search parts)),
        elements_bound k e' es fs n (search parts) m,
      ) in
      rw (append_assoc (element_fields e) (many element_fields (e' ∷ es)) fs) (omega (
        arith,
        element_bound k e (many element_fields (e' ∷ es) ++ fs) (w_l b (rest_links e (e' ∷ es)) + n) (search parts) later,
      ))

  value_bound : (v : List Element) (fs : List Field) (n : ℕ) → wf_value b v ≡ true → n ≤ paid fs → rl (value_lex b v) + n ≤ paid (many element_fields v ++ fs)
  value_bound [] fs n h m = omega arith
  value_bound (e ∷ es) fs n h m =
      omega (
        arith,
        printed b (e ∷ es),
        w_l_append b (full_links e) (rest_links e es),
        full_links_lem b e,
        elements_bound (length (leading e)) e es fs n (v_all b e es h) m,
      )

-- ---- pieces of a code or a name, joined by `-`: each pays for itself and one byte by it, whatever the tag, where it is a word's

module _ (t base : ℕ) (pays : (w : List ℕ) → field_bound base (field t w) ≡ 3 + length w) (keeps : (w : List ℕ) → base_behind base (field t w) ≡ base) where
  piece_step : (w : List ℕ) (fs : List Field) → fields_bound base (field t w ∷ fs) ≡ 3 + length w + fields_bound base fs
  piece_step w fs = rw (pays w, keeps w)

  pieces_bound : (w : List ℕ) (ws : List (List ℕ)) (fs : List Field) (n : ℕ) → n ≤ fields_bound base fs
      → suc (rl (joined_lex dash (map word_lex (w ∷ ws)))) + n ≤ fields_bound base (piece_fields t (w ∷ ws) ++ fs)
  pieces_bound w [] fs n m = omega (arith, rl_cons (word w) [], piece_step w fs)
  pieces_bound w (v ∷ vs) fs n m =
      omega (arith, rl_cons (word w) (more_lex dash (map word_lex (v ∷ vs))), piece_step w (piece_fields t (v ∷ vs) ++ fs), pieces_bound v vs fs n m)

  -- with the `=` behind the name
  name_bound : (ws : List (List ℕ)) (fs : List Field) (n : ℕ) → n ≤ fields_bound base fs → rl (name_lex ws) + n ≤ fields_bound base (piece_fields t ws ++ fs)
  name_bound [] fs n m = omega arith
  name_bound (w ∷ ws) fs n m = omega (arith, rl_append (joined_lex dash (map word_lex (w ∷ ws))) (sep equals ∷ []), pieces_bound w ws fs n m)

-- ---- places, blocks, the command: whatever base letter stood before

abbrev Pays : ℕ → List Field → Type 0
Pays n fs = (base : ℕ) → n ≤ fields_bound base fs

module _ {A : Type 0} (lex : A → List Lex) (fields : A → List Field) (good : A → Bool)
    (bound : (a : A) (fs : List Field) (n : ℕ) → good a ≡ true → Pays n fs → Pays (suc (rl (lex a)) + n) (fields a ++ fs)) (s : Sep) (one : length (sep_text s) ≡ 1) where
  joined_bound : (as' : List A) (fs : List Field) (n : ℕ) → all good as' ≡ true → Pays n fs → Pays (rl (more_lex s (map lex as')) + n) (many fields as' ++ fs)
  joined_bound [] fs n h m base = omega (arith, m base)
  joined_bound (a ∷ as') fs n h m base =
      let M : List Lex = more_lex s (map lex as') in
      rw (append_assoc (fields a) (many fields as') fs) (omega (
        arith,
        one,
        rl_cons (sep s) (lex a ++ M),
        rl_append (lex a) M,
        bound a (many fields as' ++ fs) (rl M + n) (search parts) (joined_bound as' fs n (search parts) m) base,
      ))

place_bound : (k : Bool) (p : Place) (fs : List Field) (n : ℕ) → wf_place k p ≡ true → Pays n fs → Pays (suc (rl (place_lex p)) + n) (place_fields p ++ fs)
place_bound k (place b nm v) fs n h m base =
    let E : List Field = many element_fields v in
    rw (append_assoc (piece_fields name_tag nm) E fs) (omega (
      arith,
      rl_append (name_lex nm) (value_lex b v),
      name_bound name_tag (letter b) (λ w. refl) (λ w. refl) nm (E ++ fs) (rl (value_lex b v) + n) (value_bound b v fs n (place_value_lem k b nm v h) (m (letter b))),
    ))

block_bound : (b : Block) (fs : List Field) (n : ℕ) → wf_block b ≡ true → Pays n fs → Pays (suc (rl (block_lex b)) + n) (block_fields b ++ fs)
block_bound (block k ps) fs n h m base =
    omega (
      arith,
      joined_len (map place_lex ps),
      joined_bound place_lex place_fields (wf_place k) (place_bound k) comma refl ps fs n (block_places k ps h) m base,
    )

pub text_bound : (c : Command) → well_formed c ≡ true → length (print c) ≤ 1 + fields_bound 0 (fields_of c)
text_bound (command [] bs) h = absurd (false≢true h)
text_bound (command (w ∷ ws) bs) h =
    let N : List Lex = joined_lex dash (map word_lex (w ∷ ws)) in
    let M : List Lex = more_lex colon (map block_lex bs) in
    let B : List Field = many block_fields bs in
    let blocks : rl M + 0 ≤ fields_bound 0 (B ++ []) = joined_bound block_lex block_fields wf_block block_bound colon refl bs [] 0 (c_blocks (w ∷ ws) bs h) (λ base. omega arith) 0 in
    omega (
      arith,
      rl_append (N ++ M) (sep semi ∷ []),
      rl_append N M,
      pieces_bound code_tag 0 (λ w. refl) (λ w. refl) w ws B (rl M) (subst (λ (l : List Field). rl M ≤ fields_bound 0 l) (append-nil B) (omega (arith, blocks))),
    )
