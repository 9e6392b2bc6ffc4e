-- What is paid and what the fields left pay is enough for the text: at the start by the tree's bound, and each turn pays for the field that stands there.
use Prim.Native.Nat.{ℕ, ◌+◌, ◌-◌, ◌*◌, ◌/◌, ◌%◌, ◌^◌, ◌≤◌, ◌<◌}
use mathlib.Core.Path.{◌≡◌, refl, sym, ap, ◌∙◌, subst}
use mathlib.Core.Bool.{Bool, true, false, false≢true}
use mathlib.Core.List.{List, [], ◌∷◌, ◌++◌, map}
use native.Mathlib.Nat.{add-zero, div-add-mod'}
use native.Mathlib.Omega.{arith}
use lib.Dec.{ltb, leb, eqb}
use lib.ListN.{length, get_or, drop, length-drop, drop_of_length-le, get_or-append}
use lib.Seq.{get_or-drop, get_or-append-add}
use borrow.Author.Tests.{ne_eqb, eqb-true, ltb-true, lt-ltb, leb-true}
use Rattle.laws.specs.Cases.{pick_all, by_bool, and_l, and_r}
use Rattle.laws.specs.Lists.{all, all_append}
use Rattle.rules.specs.Refusals.{Res, ok, bad, most_word, most_string, more_of_code, more_of_name}
use Rattle.rules.specs.Units.{Base, Unit, num, keyed, identifier, symbolic, text, is_identifier}
use Rattle.rules.specs.Commands.{Element, single, range, Place, place, Block, block, Command, command, leading, is_piece}
use Rattle.rules.specs.Records.{Field, field, code_tag, place_tag, name_tag, single_tag, range_tag, numeral_tag, string_tag, num4, unit_field, element_fields, many, place_fields, block_fields, fields_of, field_bytes, bytes_of}
use Rattle.rules.specs.WellFormed.{wf_unit, wf_element, wf_value, short, wf_pieces, wf_place, wf_block, well_formed, body_of, is_ok, well_formed_body}
use Rattle.rules.proofs.CommandBack.{c_code, c_blocks}
use Rattle.rules.proofs.DecodeEncode.{place_value_lem}
use Rattle.rules.proofs.Names.{block_places}
use Rattle.rules.proofs.ValueBack.{v_all, ok_lead, ok_last}
use Rattle.rules.proofs.ResultLaws.{ok_inj}
use Rattle.rules.proofs.EncodeDecode.{body_is}
use Rattle.rules.proofs.RecordBound.{most_body, body_size}
use Rattle.rules.proofs.TextBound.{piece_fields}
use Rattle.record_walk.specs.Fields.{length_at}
use Rattle.record_walk.proofs.RunLaws.{drop_behind, stands_inside}
use Rattle.print_bound.specs.Bounds.{TextWithin, ten_digits, most_of_any, most_of_end, longer_bound, decimal_bound, stop_bound, any_bound, is_plain, number_bound, end_bound, other_bound, field_bound, base_behind, fields_bound, is_sized, Stands, other_at}
use Rattle.print_bound.proofs.TreeBound.{text_bound}

-- the parts of a conjunction
ruleset parts = (and_l, and_r)

-- ---- the field that stands there

-- a tag says its content's length, or the length's high byte is 0
brief_field : (t : ℕ) (w : List ℕ) → is_sized (field t w) ≡ true → length w < 256
brief_field t w =
    let n : ℕ = length w in
    let P : Bool → Type 0 = λ b. b ≡ true → n < 256 in
    pick_all P (eqb t numeral_tag) (λ h. omega (arith, eqb-true n 6 h))
    (pick_all P (eqb t single_tag) (λ h. omega (arith, eqb-true n 0 h))
    (pick_all P (eqb t place_tag) (λ h. omega (arith, eqb-true n 1 h))
    (pick_all P (eqb t range_tag) (λ h. omega (arith, eqb-true n 8 h)) (λ h. ltb-true n 256 h))))

module _ {rec : List ℕ} {at : ℕ} (s : Stands rec at) where
  tag_is : get_or rec at 0 ≡ s.t
  tag_is = ap (λ (n : ℕ). get_or rec n 0) (sym (add-zero at)) ∙ sym (get_or-drop at rec 0 0) ∙ ap (λ (l : List ℕ). get_or l 0 0) s.is

  long : length_at rec at ≡ length s.w
  long = rw (← get_or-drop at rec 1 0, ← get_or-drop at rec 2 0, s.is) (div-add-mod' (length s.w) 256)

  ends : at + 3 + length s.w ≤ length rec
  ends = omega (arith, stands_inside rec at (field_bytes (field s.t s.w)) s.rest s.is s.inside)

  byte_is : (i : ℕ) {k : ℕ} → k ≡ at + (3 + i) → i < length s.w → get_or rec k 0 ≡ get_or s.w i 0
  byte_is i e h =
      let head : List ℕ = s.t ∷ length s.w / 256 ∷ length s.w % 256 ∷ [] in
      rw (e, ← get_or-drop at rec (3 + i) 0, s.is, get_or-append-add head (s.w ++ s.rest) i 0) (get_or-append s.w s.rest 0 i h)

  number_is : (i : ℕ) {k : ℕ} → k ≡ at + (3 + i) → i + 4 ≤ length s.w → num4 rec k ≡ num4 s.w i
  number_is i {k} e h =
      rw (
        byte_is i {k = k} e (omega arith),
        byte_is (1 + i) {k = 1 + k} (omega arith) (omega arith),
        byte_is (2 + i) {k = 2 + k} (omega arith) (omega arith),
        byte_is (3 + i) {k = 3 + k} (omega arith) (omega arith),
      )

  behind_is : (k : ℕ) → k ≡ 3 + length s.w → drop (at + k) rec ≡ s.rest
  behind_is k e =
      let f : List ℕ = field_bytes (field s.t s.w) in
      let z : k ≡ length f = omega arith in
      rw z (drop_behind rec at f s.rest s.is)

  -- a tag that says the length
  sized_by : (t k : ℕ) → get_or rec at 0 ≡ t → ((w : List ℕ) → is_sized (field t w) ≡ eqb (length w) k) → length s.w ≡ k
  sized_by t k e f =
      let z : is_sized (field t s.w) ≡ true = subst (λ (t : ℕ). is_sized (field t s.w) ≡ true) (sym tag_is ∙ e) s.sized in
      eqb-true (length s.w) k (sym (f s.w) ∙ z)

  range_long : get_or rec at 0 ≡ range_tag → length s.w ≡ 8
  range_long e = sized_by range_tag 8 e (λ w. refl)

  pub content_few : length_at rec at < 256
  content_few = omega (arith, long, brief_field s.t s.w s.sized)

  pub size_is : 3 + get_or rec (at + 2) 0 ≡ 3 + length_at rec at
  size_is = omega (arith, content_few)

  other_is : other_at rec at ≡ other_bound (field s.t s.w)
  unfolding other_at
  other_is =
      by_bool (eqb s.t range_tag)
      (λ y.
      let n : length s.w ≡ 8 = range_long (tag_is ∙ eqb-true s.t range_tag y) in
      rw (tag_is, y, number_is 0 {k = at + 3} (omega arith) (omega arith), number_is 4 {k = at + 7} (omega arith) (omega arith)))
      (λ y. rw (tag_is, long, y))

  pub head_room : at + 3 ≤ length rec
  head_room = omega (arith, ends)

  pub range_room : get_or rec at 0 ≡ range_tag → at + 11 ≤ length rec
  range_room e = omega (arith, range_long e, ends)

-- the ways of `other_bound`
module _ (rec : List ℕ) (at : ℕ) where
  pub other_range : {u i a c : ℕ} → get_or rec at 0 ≡ range_tag → u ≡ num4 rec (at + 3) → i ≡ num4 rec (at + 7) → a ≡ end_bound u → c ≡ end_bound i
      → a + c ≡ other_at rec at
  unfolding other_at
  other_range e eu ei ea ec = rw (e, ea, ec, eu, ei)

  pub other_string : {n : ℕ} → n ≡ 3 + length_at rec at → get_or rec at 0 ≡ string_tag → n + (n - 3) ≡ other_at rec at
  unfolding other_at
  other_string en e = rw e (omega arith)

  pub other_word : {n : ℕ} → n ≡ 3 + length_at rec at → (get_or rec at 0 ≡ range_tag → ⊥) → (get_or rec at 0 ≡ string_tag → ⊥) → n ≡ other_at rec at
  unfolding other_at
  other_word en h k = rw (ne_eqb _ _ h, ne_eqb _ _ k) en

-- ---- no field pays more than this for each of its bytes

abbrev most : ℕ
most = 1000

abbrev Below : ℕ → ℕ → Type 0
Below n k = k ≤ n

decimal_few : (v : ℕ) → decimal_bound v ≤ ten_digits
unfolding decimal_bound longer_bound
decimal_few v = pick_all (Below ten_digits) (ltb v 10) (omega arith) (pick_all (Below ten_digits) (ltb v 10000) (omega arith) (omega arith))

number_few : (base l f v : ℕ) → number_bound base l f v ≤ most_of_any + stop_bound f
unfolding number_bound any_bound
number_few base l f v =
    pick_all (Below (most_of_any + stop_bound f)) (is_plain base l) (omega (arith, decimal_few v))
    (pick_all (Below (most_of_any + stop_bound f)) (ltb v 16) (omega arith) (omega arith))

pub end_few : (v : ℕ) → end_bound v ≤ most_of_end
unfolding end_bound
end_few v = pick_all (Below most_of_end) (ltb v 16) (omega arith) (omega arith)

other_few : (rec : List ℕ) (at : ℕ) → other_at rec at ≤ most_of_end + most_of_end + length_at rec at + length_at rec at
unfolding other_at
other_few rec at =
    let n : ℕ = length_at rec at in
    pick_all (Below (most_of_end + most_of_end + n + n)) (eqb (get_or rec at 0) range_tag) (omega (arith, end_few (num4 rec (at + 3)), end_few (num4 rec (at + 7))))
    (pick_all (Below (most_of_end + most_of_end + n + n)) (eqb (get_or rec at 0) string_tag) (omega arith) (omega arith))

-- ---- the loop

pub record Bounding (rec : List ℕ) (at base sum : ℕ) : Type 0 where
  pub fs : List Field
  pub is : drop at rec ≡ bytes_of fs
  pub inside : at ≤ length rec
  pub few : length rec ≤ most_body
  pub bytes : (i : ℕ) → get_or rec i 0 < 256
  pub sized : all is_sized fs ≡ true
  pub paid : TextWithin rec (sum + fields_bound base fs)
  pub small : sum ≤ 1 + most * at

-- what a turn knows: the field, and the fields behind it
record Turn (rec : List ℕ) (at base sum : ℕ) : Type 0 where
  here : Stands rec at
  fs : List Field
  left : here.rest ≡ bytes_of fs
  sized : all is_sized fs ≡ true
  paid : TextWithin rec (sum + (field_bound base (field here.t here.w) + fields_bound (base_behind base (field here.t here.w)) fs))

module _ {rec : List ℕ} {at base sum : ℕ} (b : Bounding rec at base sum) where
  pub finished : length rec ≤ at → TextWithin rec sum
  finished h = go b.fs (sym (drop_of_length-le rec h) ∙ b.is) b.paid
    where
      go : (fs : List Field) → [] ≡ bytes_of fs → TextWithin rec (sum + fields_bound base fs) → TextWithin rec sum
      go [] e p c r = omega (arith, p c r)
      go (field t w ∷ fs) e p c r = absurd (omega (arith, ap length e))

  module _ (h : at < length rec) where
    turn : Turn rec at base sum
    turn = go b.fs b.is b.sized b.paid
      where
        go : (fs : List Field) → drop at rec ≡ bytes_of fs → all is_sized fs ≡ true → TextWithin rec (sum + fields_bound base fs) → Turn rec at base sum
        go [] e a p = absurd (omega (arith, length-drop at rec, ap length e))
        go (field t w ∷ fs) e a p = record {
          here = record { t = t; w = w; rest = bytes_of fs; is = e; inside = b.inside; sized = search parts };
          fs = fs;
          left = refl;
          sized = search parts;
          paid = p;
        }

    abbrev here : Stands rec at
    here = turn.here

    pub stands_there : Stands rec at
    stands_there = here

    past : (k base' n : ℕ) → k ≡ 3 + length here.w → base' ≡ base_behind base (field here.t here.w)
        → n ≡ field_bound base (field here.t here.w) → n ≤ most * k → Bounding rec (at + k) base' (sum + n)
    past k base' n ek eb en m = record {
      fs = turn.fs;
      is = behind_is here k ek ∙ turn.left;
      inside = omega (arith, ends here);
      few = b.few;
      bytes = b.bytes;
      sized = turn.sized;
      paid = λ c r. rw (eb, en) (omega (arith, turn.paid c r));
      small = omega (arith, b.small);
    }

    -- a numeral
    module _ (e : get_or rec at 0 ≡ numeral_tag) where
      numeral_long : length here.w ≡ 6
      numeral_long = sized_by here numeral_tag 6 e (λ w. refl)

      pub numeral_letter : at + 3 < length rec
      numeral_letter = omega (arith, numeral_long, ends here)

      pub numeral_fraction : at + 4 < length rec
      numeral_fraction = omega (arith, numeral_long, ends here)

      pub numeral_value : at + 5 + 4 ≤ length rec
      numeral_value = omega (arith, numeral_long, ends here)

      pub numeral_turn : {v n : ℕ} → v ≡ num4 rec (at + 5) → n ≡ number_bound base (get_or rec (at + 3) 0) (get_or rec (at + 4) 0) v
          → Bounding rec (at + 9) base (sum + n)
      numeral_turn {v} {n} ev en =
          let s = here in
          let t : s.t ≡ numeral_tag = sym (tag_is s) ∙ e in
          let six = numeral_long in
          let l = byte_is s 0 {k = at + 3} (omega arith) (omega arith) in
          let f = byte_is s 1 {k = at + 4} (omega arith) (omega arith) in
          let u : v ≡ num4 s.w 2 = ev ∙ number_is s 2 (omega arith) (omega arith) in
          past 9 base n (omega arith) (rw t) (rw (t, ← l, ← f, ← u) en)
          (omega (arith, b.bytes (at + 4), number_few base (get_or rec (at + 3) 0) (get_or rec (at + 4) 0) v))

    -- a single element
    pub single_turn : get_or rec at 0 ≡ single_tag → Bounding rec (at + 3) base sum
    single_turn e =
        let t : here.t ≡ single_tag = sym (tag_is here) ∙ e in
        let none = sized_by here single_tag 0 e (λ w. refl) in
        rw (← add-zero sum) (past 3 base 0 (omega arith) (rw t) (rw t) (omega arith))

    -- a place
    pub place_base : get_or rec at 0 ≡ place_tag → at + 3 < length rec
    place_base e =
        let one = sized_by here place_tag 1 e (λ w. refl) in
        omega (arith, one, ends here)

    pub place_turn : get_or rec at 0 ≡ place_tag → Bounding rec (at + 4) (get_or rec (at + 3) 0) (sum + 1)
    place_turn e =
        let t : here.t ≡ place_tag = sym (tag_is here) ∙ e in
        let one = sized_by here place_tag 1 e (λ w. refl) in
        past 4 (get_or rec (at + 3) 0) 1 (omega arith) (rw t (byte_is here 0 (omega arith) (omega arith))) (rw t) (omega arith)

    -- any other field
    pub other_sum : {n : ℕ} → n ≡ other_at rec at → sum + n < 2 ^ 64
    other_sum en = omega (arith, b.small, b.few, other_few rec at, content_few here)

    pub other_turn : {n k : ℕ} → (get_or rec at 0 ≡ numeral_tag → ⊥) → (get_or rec at 0 ≡ single_tag → ⊥) → (get_or rec at 0 ≡ place_tag → ⊥)
        → n ≡ other_at rec at → k ≡ 3 + length_at rec at → Bounding rec (at + k) base (sum + n)
    other_turn {n} {k} no_numeral no-single no_place en ek =
        let s = here in
        let not_numeral : eqb s.t numeral_tag ≡ false = ne_eqb _ _ (λ e. no_numeral (tag_is s ∙ e)) in
        let not_single : eqb s.t single_tag ≡ false = ne_eqb _ _ (λ e. no-single (tag_is s ∙ e)) in
        let not_place : eqb s.t place_tag ≡ false = ne_eqb _ _ (λ e. no_place (tag_is s ∙ e)) in
        past k base n (omega (arith, long s)) (rw not_place) (en ∙ other_is s ∙ rw (not_numeral, not_single, not_place)) (omega (arith, other_few rec at))

-- ---- the start: a well-formed command's fields have the lengths that their tags say

brief_word : (w : List ℕ) (n : ℕ) → n < 256 → leb (length w) n ≡ true → ltb (length w) 256 ≡ true
brief_word w n h k = lt-ltb (length w) 256 (omega (arith, leb-true (length w) n k))

unit_sized : (b : Base) (u : Unit) → wf_unit b u ≡ true → is_sized (unit_field u) ≡ true
unit_sized b (num r f v) h = refl
unit_sized b (keyed w) h = brief_word w most_word (omega arith) (search parts)
unit_sized b (identifier w) h = brief_word w most_word (omega arith) (search parts)
unit_sized b (symbolic w) h = brief_word w most_word (omega arith) (search parts)
unit_sized b (text w) h = brief_word w most_string (omega arith) (search parts)

-- what is so of each of them is so of the fields of all
many_sized : {A : Type 0} (good : A → Bool) (g : A → List Field) → ((a : A) → good a ≡ true → all is_sized (g a) ≡ true) → (as' : List A)
    → all good as' ≡ true → all is_sized (many g as') ≡ true
many_sized good g h [] k = refl
many_sized good g h (a ∷ as') k =
    all_append is_sized (g a) (many g as') (h a (search parts)) (many_sized good g h as' (search parts))

each_sized : {A : Type 0} (good : A → Bool) (g : A → Field) → ((a : A) → good a ≡ true → is_sized (g a) ≡ true) → (as' : List A)
    → all good as' ≡ true → all is_sized (map g as') ≡ true
each_sized good g h [] k = refl
each_sized good g h (a ∷ as') k = rw (h a (search parts)) (each_sized good g h as' (search parts))

argument_sized : (b : Base) (l : List Unit) (u : Unit) → all (wf_unit b) l ≡ true → wf_unit b u ≡ true → all is_sized (map unit_field (l ++ (u ∷ []))) ≡ true
argument_sized b l u h k = each_sized (wf_unit b) unit_field (unit_sized b) (l ++ (u ∷ [])) (all_append (wf_unit b) l (u ∷ []) h (rw k))

element_sized : (b : Base) (n : ℕ) (e : Element) → wf_element b n e ≡ true → all is_sized (element_fields e) ≡ true
element_sized b n (single l u) h = argument_sized b l u (ok_lead b n (single l u) h) (ok_last b n (single l u) h)
element_sized b n (range l r lo up inc) h =
    argument_sized b l (num r 0 lo) (ok_lead b n (range l r lo up inc) h) (ok_last b n (range l r lo up inc) h)

value_sized : (b : Base) (v : List Element) → wf_value b v ≡ true → all is_sized (many element_fields v) ≡ true
value_sized b [] h = refl
value_sized b (e ∷ es) h = let n : ℕ = length (leading e) in many_sized (wf_element b n) element_fields (element_sized b n) (e ∷ es) (v_all b e es h)

-- pieces, whatever their tag, where it is a word's
pieces_sized : (t : ℕ) → ((w : List ℕ) → is_sized (field t w) ≡ ltb (length w) 256) → (g : List ℕ → Bool) (n : ℕ) (ws : List (List ℕ))
    → wf_pieces g n ws ≡ true → all is_sized (piece_fields t ws) ≡ true
pieces_sized t word g n [] h = refl
pieces_sized t word g n (w ∷ ws) h =
    each_sized short (λ w. field t w) (λ w k. word w ∙ brief_word w most_word (omega arith) k) (w ∷ ws) (search parts)

name_sized : (k : Bool) (b : Base) (nm : List (List ℕ)) (v : List Element) → wf_place k (place b nm v) ≡ true
    → all is_sized (piece_fields name_tag nm) ≡ true
name_sized true b nm v h = pieces_sized name_tag (λ w. refl) is_piece more_of_name nm (search parts)
name_sized false b [] v h = refl
name_sized false b (w ∷ nm) v h = absurd (false≢true h)

place_sized : (k : Bool) (p : Place) → wf_place k p ≡ true → all is_sized (place_fields p) ≡ true
place_sized k (place b nm v) h =
    all_append is_sized (piece_fields name_tag nm) (many element_fields v) (name_sized k b nm v h) (value_sized b v (place_value_lem k b nm v h))

block_sized : (b : Block) → wf_block b ≡ true → all is_sized (block_fields b) ≡ true
block_sized (block k ps) h = many_sized (wf_place k) place_fields (place_sized k) ps (block_places k ps h)

command_sized : (c : Command) → well_formed c ≡ true → all is_sized (fields_of c) ≡ true
command_sized (command c bs) h =
    all_append is_sized (piece_fields code_tag c) (many block_fields bs) (pieces_sized code_tag (λ w. refl) is_identifier more_of_code c (c_code c bs h))
    (many_sized wf_block block_fields block_sized bs (c_blocks c bs h))

pub bounding : (rec : List ℕ) → well_formed_body rec ≡ true → ((i : ℕ) → get_or rec i 0 < 256) → Bounding rec 0 0 1
bounding rec h bytes = go (body_of rec) refl h
  where
    go : (r : Res Command) → body_of rec ≡ r → is_ok r ≡ true → Bounding rec 0 0 1
    go (ok c) e h =
        let i = body_is rec c e in
        record {
          fs = fields_of c;
          is = sym i.bytes;
          inside = omega arith;
          few = omega (arith, body_size c i.well, ap length i.bytes);
          bytes = bytes;
          sized = command_sized c i.well;
          paid = λ c' r. rw (ok_inj (sym r ∙ e)) (text_bound c i.well);
          small = omega arith;
        }
    go (bad n p) e h = absurd (false≢true h)
