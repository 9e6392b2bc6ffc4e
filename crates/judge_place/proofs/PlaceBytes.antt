-- A place that was read from the front of bytes is well formed and written to the same bytes again; and a well-formed place is read back from its fields.
use mathlib.Core.Path.{◌≡◌, refl, sym, ap, ◌∙◌, subst}
use mathlib.Core.Bool.{Bool, true, false, ◌||◌, false≢true}
use mathlib.Core.List.{List, [], ◌∷◌, ◌++◌, map, append_assoc}
use mathlib.Core.Option.{some}
use Prim.Native.Nat.{ℕ, suc, ◌<◌}
use native.Mathlib.Omega.{arith}
use borrow.Author.Tests.{eqb-true, ne_eqb}
use lib.ListN.{length}
use Rattle.laws.specs.Cases.{some_inj, none≢some, and_l, and_r}
use Rattle.laws.specs.Lists.{is_nil}
use Rattle.rules.specs.Refusals.{more_of_name}
use Rattle.rules.specs.Units.{Base, letter}
use Rattle.rules.specs.Commands.{Name, Element, single, range, Place, place, is_piece}
use Rattle.rules.specs.Records.{place_tag, name_tag, single_tag, range_tag, numeral_tag, string_tag, is_element, Field, field, element_fields, many, place_fields, field_bytes, bytes_of, one_byte}
use Rattle.rules.specs.WellFormed.{wf_pieces, wf_value, wf_place}
use Rattle.rules.proofs.UnitBack.{base_back}
use Rattle.rules.proofs.DecodeEncode.{place_value_lem}
use Rattle.rules.proofs.FieldLaws.{bytes_append}
use Rattle.record_walk.specs.Fields.{fits}
use Rattle.record_walk.specs.Fronts.{and_then, made, head_tag, front}
use Rattle.record_walk.proofs.FrontLaws.{then_some, only_some, made_some, Small, small_behind, cut_is, front_is, front_field}
use Rattle.record_walk.proofs.RunLaws.{low_tag}
use Rattle.judge_value.specs.Elements.{value}
use Rattle.judge_unit.proofs.UnitBytes.{base_letter}
use Rattle.judge_value.proofs.ValueBytes.{value_is, value_back}
use Rattle.judge_place.specs.Places.{may_be_piece, is_tag, pieces, behind_name, base_in, agrees, parts, one_place}
use Rattle.judge_place.proofs.PieceBytes.{pieces_is, pieces_back}

ruleset tests = (and_l, and_r)

-- ---- name and value

-- the fields of a name and a value
abbrev part_fields : List (List ℕ) → List Element → List Field
part_fields nm v = map (λ w. field name_tag w) nm ++ many element_fields v

part_bytes : (nm : List (List ℕ)) (v : List Element) (rest : List ℕ) → bytes_of (part_fields nm v) ++ rest ≡ bytes_of (map (λ w. field name_tag w) nm) ++ (bytes_of (many element_fields v) ++ rest)
part_bytes nm v rest =
    ap (λ (l : List ℕ). l ++ rest) (bytes_append (map (λ w. field name_tag w) nm) (many element_fields v))
    ∙ append_assoc (bytes_of (map (λ w. field name_tag w) nm)) (bytes_of (many element_fields v)) rest

names_is : (r : List ℕ) (ws : List (List ℕ)) (r' : List ℕ) → Small r → pieces name_tag true (suc more_of_name) r ≡ some (ws, r')
    → (is_nil ws || wf_pieces is_piece more_of_name ws ≡ true) × (r ≡ bytes_of (map (λ w. field name_tag w) ws) ++ r')
unfolding fits may_be_piece
names_is r ws r' s e = pieces_is name_tag true is_piece (λ _. refl) (λ _. refl) more_of_name r ws r' s e

names_back : (ws : List (List ℕ)) (rest : List ℕ) → is_nil ws || wf_pieces is_piece more_of_name ws ≡ true → is_tag name_tag (head_tag rest) ≡ false
    → pieces name_tag true (suc more_of_name) (bytes_of (map (λ w. field name_tag w) ws) ++ rest) ≡ some (ws, rest)
unfolding fits may_be_piece
names_back ws rest h n = pieces_back name_tag true is_piece (λ _. refl) (λ _. refl) more_of_name ws rest h n

-- the name behind a place's field: it is well formed if there is one, and its bytes stood there
pub behind_is : (named : Bool) (r : List ℕ) (nm : Name) (r' : List ℕ) → Small r → behind_name named r ≡ some (nm, r')
    → (is_nil nm || wf_pieces is_piece more_of_name nm ≡ true) × (r ≡ bytes_of (map (λ w. field name_tag w) nm) ++ r')
behind_is true r nm r' s e = names_is r nm r' s e
behind_is false r nm r' s e =
    let q : ◌≡◌ {A = Name × List ℕ} ([], r) (nm, r') = some_inj e in
    subst (λ (x : Name × List ℕ). (is_nil x.0 || wf_pieces is_piece more_of_name x.0 ≡ true) × (r ≡ bytes_of (map (λ w. field name_tag w) x.0) ++ x.1)) q (refl, refl)

place_well : (named : Bool) (b : Base) (nm : List (List ℕ)) (v : List Element) → agrees named (place b nm v) ≡ true → is_nil nm || wf_pieces is_piece more_of_name nm ≡ true → wf_value b v ≡ true
    → wf_place named (place b nm v) ≡ true
place_well true b [] v a h k = absurd (false≢true a)
place_well true b (w ∷ nm) v a h k = rw (h, a, k)
place_well false b nm v a h k = rw (a, k)

place_names : (named : Bool) (b : Base) (nm : List (List ℕ)) (v : List Element) → wf_place named (place b nm v) ≡ true
    → (agrees named (place b nm v) ≡ true) × (is_nil nm || wf_pieces is_piece more_of_name nm ≡ true)
place_names true b [] v h = absurd (false≢true h)
place_names true b (w ∷ nm) v h = (search tests, search tests)
place_names false b nm v h = let n : is_nil nm ≡ true = search tests in (n, rw n)

behind_back : (named : Bool) (b : Base) (nm : Name) (v : List Element) (rest : List ℕ) → wf_place named (place b nm v) ≡ true → is_tag name_tag (head_tag rest) ≡ false
    → behind_name named (bytes_of (map (λ w. field name_tag w) nm) ++ rest) ≡ some (nm, rest)
behind_back true b nm v rest h n = names_back nm rest (place_names true b nm v h).1 n
behind_back false b [] v rest h n = refl
behind_back false b (w ∷ nm) v rest h n = absurd (false≢true h)

-- a place with this base that was read
record PartsWrote (named : Bool) (b : Base) (r : List ℕ) (p : Place) (r' : List ℕ) : Type 0 where
  nm : List (List ℕ)
  v : List Element
  made_of : p ≡ place b nm v
  well : wf_place named (place b nm v) ≡ true
  bytes : r ≡ bytes_of (part_fields nm v) ++ r'

parts_is : (named : Bool) (b : Base) (r : List ℕ) (p : Place) (r' : List ℕ) → Small r → parts named b r ≡ some (p, r') → PartsWrote named b r p r'
unfolding parts
parts_is named b r p r' s e =
    only_some (agrees named) _ p r' e
    (λ a g. then_some (behind_name named r) _ (p, r') g
    (λ nm r₁ n k. then_some (value b r₁) _ (p, r') k
    (λ v r₂ q o.
    let eq : ◌≡◌ {A = Place × List ℕ} (place b nm v, r₂) (p, r') = some_inj o in
    let ep : place b nm v ≡ p = ap (λ (x : Place × List ℕ). x.0) eq in
    let er : r₂ ≡ r' = ap (λ (x : Place × List ℕ). x.1) eq in
    let wn = behind_is named r nm r₁ s n in
    let wv = value_is b r₁ v r₂ (small_behind (bytes_of (map (λ w. field name_tag w) nm)) r₁ (subst Small wn.1 s)) q in
    record {
      nm = nm;
      v = v;
      made_of = sym ep;
      well = place_well named b nm v (rw (← ep) at a) wn.0 wv.0;
      bytes = wn.1 ∙ rw (wv.1, er) (sym (part_bytes nm v r'));
    })))

value_tag : (v : List Element) (rest : List ℕ) → head_tag rest < name_tag → is_tag name_tag (head_tag (bytes_of (many element_fields v) ++ rest)) ≡ false
value_tag [] rest h = ne_eqb (head_tag rest) name_tag (λ e. omega arith)
value_tag (single l u ∷ v) rest h = refl
value_tag (range l r lo up inc ∷ v) rest h = refl

parts_back : (named : Bool) (b : Base) (nm : List (List ℕ)) (v : List Element) (rest : List ℕ) → wf_place named (place b nm v) ≡ true → head_tag rest < name_tag
    → parts named b (bytes_of (part_fields nm v) ++ rest) ≡ some (place b nm v, rest)
unfolding parts
parts_back named b nm v rest h t =
    let five : is_element (head_tag rest) ≡ false = rw (ne_eqb (head_tag rest) single_tag (λ e. omega arith), ne_eqb (head_tag rest) range_tag (λ e. omega arith)) in
    rw (
      part_bytes nm v rest,
      behind_back named b nm v (bytes_of (many element_fields v) ++ rest) h (value_tag v rest t),
      value_back b v rest (place_value_lem named b nm v h) five (low_tag numeral_tag string_tag (head_tag rest) (omega arith)),
      (place_names named b nm v h).0,
    )

-- ---- the place

letter_back : (w : List ℕ) (b : Base) → one_byte w ≡ some b → w ≡ letter b ∷ []
letter_back [] b h = none≢some h
letter_back (c ∷ []) b h = rw (base_letter c b h)
letter_back (c ∷ d ∷ w) b h = none≢some (rw (ne_eqb (length (c ∷ d ∷ w)) 1 (omega arith)) at h)

place_wrote : (named : Bool) (b : Base) (t : ℕ) (w r r₁ r₂ : List ℕ) (p : Place) (r' : List ℕ) → t ≡ place_tag → w ≡ letter b ∷ [] → r ≡ field_bytes (field t w) ++ r₁ → r₁ ≡ r₂
    → PartsWrote named b r₂ p r' → (wf_place named p ≡ true) × (r ≡ bytes_of (place_fields p) ++ r')
place_wrote named b t w r r₁ r₂ p r' et ew kr er g =
    let bytes : r ≡ bytes_of (place_fields (place b g.nm g.v)) ++ r' = kr ∙ rw (et, ew, er, g.bytes) in
    (subst (λ (x : Place). wf_place named x ≡ true) (sym g.made_of) g.well, bytes ∙ ap (λ (x : Place). bytes_of (place_fields x) ++ r') (sym g.made_of))

pub place_is : (named : Bool) (r : List ℕ) (p : Place) (r' : List ℕ) → Small r → is_tag place_tag (head_tag r) ≡ true → one_place named r ≡ some (p, r')
    → (wf_place named p ≡ true) × (r ≡ bytes_of (place_fields p) ++ r')
unfolding one_place
place_is named r p r' s h e =
    then_some (front r) _ (p, r') e (λ f r₁ c k. whole f r₁ c k)
  where
    whole : (f : Field) (r₁ : List ℕ) → front r ≡ some (f, r₁) → and_then (made (base_in f) r₁) (λ b r₂. parts named b r₂) ≡ some (p, r')
        → (wf_place named p ≡ true) × (r ≡ bytes_of (place_fields p) ++ r')
    whole (field t w) r₁ c k =
        front_is r t w r₁ c
        (λ fit k₀. then_some (made (one_byte w) r₁) (λ b r₂. parts named b r₂) (p, r') k
        (λ b r₂ m q. made_some (one_byte w) r₁ b r₂ m
        (λ o er.
        let kr : r ≡ field_bytes (field t w) ++ r₁ = cut_is r (field t w) r₁ s k₀ in
        let et : t ≡ place_tag = eqb-true t place_tag (rw kr at h) in
        let s₂ : Small r₂ = subst Small er (small_behind (field_bytes (field t w)) r₁ (subst Small kr s)) in
        place_wrote named b t w r r₁ r₂ p r' et (letter_back w b o) kr er (parts_is named b r₂ p r' s₂ q))))

pub place_back : (named : Bool) (p : Place) (rest : List ℕ) → wf_place named p ≡ true → head_tag rest < name_tag → one_place named (bytes_of (place_fields p) ++ rest) ≡ some (p, rest)
unfolding one_place fits
place_back named (place b nm v) rest h t =
    rw (front_field place_tag (letter b ∷ []) (bytes_of (part_fields nm v) ++ rest) refl, base_back b) (parts_back named b nm v rest h t)
