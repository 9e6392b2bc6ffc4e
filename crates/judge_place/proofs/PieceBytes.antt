-- Pieces that were read from the front of bytes are well formed and written to the same bytes again; and well-formed pieces are read back from their fields.
use mathlib.Core.Path.{◌≡◌, refl, sym, ap, ◌∙◌}
use mathlib.Core.Bool.{Bool, true, false, ◌&&◌, ◌||◌, false≢true}
use mathlib.Core.List.{List, [], ◌∷◌, ◌++◌, map, append-nil}
use mathlib.Core.Option.{some}
use Prim.Native.Nat.{ℕ, suc, ◌≤◌}
use native.Mathlib.Omega.{arith}
use borrow.Author.Tests.{eqb-true, eq-eqb, le-leb, leb-true}
use lib.Dec.{leb}
use lib.ListN.{length}
use Rattle.laws.specs.Cases.{some_inj, and_l, and_r}
use Rattle.laws.specs.Lists.{all, is_nil}
use Rattle.rules.specs.Units.{is_identifier}
use Rattle.rules.specs.Records.{Field, field, field_bytes, bytes_of}
use Rattle.rules.specs.WellFormed.{short, wf_pieces}
use Rattle.rules.proofs.ValueBack.{and_both}
use Rattle.record_walk.specs.Fields.{fits, word_length}
use Rattle.record_walk.specs.Fronts.{and_then, head_tag, front}
use Rattle.record_walk.proofs.FrontLaws.{then_some, only_some, Small, cut_is, front_is, front_field, goods, several_is, several_all}
use Rattle.rules.proofs.FieldLaws.{many_map}
use Rattle.judge_place.specs.Places.{may_be_piece, content, piece, is_tag, next_piece, pieces}

or_none : (a : Bool) → a || false ≡ a
or_none true = refl
or_none false = refl

-- the first piece is an identifier
pub first_name : (w : List ℕ) → may_be_piece false w ≡ is_identifier w
unfolding may_be_piece
first_name w = or_none (is_identifier w)

ruleset parts = (and_l, and_r, leb-true)

-- pieces of one tag, whose lengths are words'; g says which words may stand behind the first
module _ (t : ℕ) (names : Bool) (g : List ℕ → Bool) (words : (n : ℕ) → fits t n ≡ word_length n) (same : (w : List ℕ) → may_be_piece names w ≡ g w) where
  abbrev good : Bool → List ℕ → Bool
  good index w = may_be_piece index w && fits t (length w)

  abbrev field_of : List ℕ → List Field
  field_of w = field t w ∷ []

  abbrev all_good : Bool → List (List ℕ) → Bool
  all_good index ws = goods (is_tag t) piece (next_piece names) good field_of index ws

  -- ---- one piece

  piece_is : (index : Bool) (r w r' : List ℕ) → Small r → is_tag t (head_tag r) ≡ true → piece index r ≡ some (w, r') → (good index w ≡ true) × (r ≡ bytes_of (field_of w) ++ r')
  unfolding piece
  piece_is index r w r' s h e =
      only_some (may_be_piece index) (and_then (front r) (λ f r₁. some (content f, r₁))) w r' e
      (λ m k. then_some (front r) (λ f r₁. some (content f, r₁)) (w, r') k (λ f r₁ c q. whole f r₁ m c (some_inj q)))
    where
      whole : (f : Field) (r₁ : List ℕ) → may_be_piece index w ≡ true → front r ≡ some (f, r₁) → ◌≡◌ {A = List ℕ × List ℕ} (content f, r₁) (w, r')
          → (good index w ≡ true) × (r ≡ bytes_of (field_of w) ++ r')
      whole (field u x) r₁ m c q =
          front_is r u x r₁ c
          (λ fit k₀.
          let ex : x ≡ w = ap (λ (p : List ℕ × List ℕ). p.0) q in
          let er : r₁ ≡ r' = ap (λ (p : List ℕ × List ℕ). p.1) q in
          let k : r ≡ field_bytes (field u x) ++ r₁ = cut_is r (field u x) r₁ s k₀ in
          let eu : u ≡ t = eqb-true u t (rw k at h) in
          (rw m (rw (eu, ex) at fit), k ∙ rw (eu, ex, er, append-nil w)))

  piece_back : (index : Bool) (w rest : List ℕ) → good index w ≡ true → true ≡ true → piece index (bytes_of (field_of w) ++ rest) ≡ some (w, rest)
  unfolding piece
  piece_back index w rest h _ =
      rw (append-nil w, front_field t w rest (and_r (may_be_piece index w) (fits t (length w)) h), and_l (may_be_piece index w) (fits t (length w)) h)

  opens : (w rest : List ℕ) → is_tag t (head_tag (bytes_of (field_of w) ++ rest)) ≡ true
  opens w rest = eq-eqb t t refl

  -- ---- lengths of words

  good_short : (index : Bool) (w : List ℕ) → good index w ≡ true → short w ≡ true
  good_short index w h = and_r (leb 1 (length w)) (short w) (rw words at (and_r (may_be_piece index w) (fits t (length w)) h))

  good_of : (index : Bool) (w : List ℕ) → may_be_piece index w ≡ true → short w ≡ true → good index w ≡ true
  unfolding may_be_piece
  good_of true [] m h = absurd (false≢true m)
  good_of false [] m h = absurd (false≢true m)
  good_of index (c ∷ cs) m h = rw (m, words (length (c ∷ cs)), le-leb 1 (length (c ∷ cs)) (omega arith), h)

  -- ---- the rule on pieces

  later_well : (ws : List (List ℕ)) → all_good names ws ≡ true → (all g ws ≡ true) × (all short ws ≡ true)
  later_well [] h = (refl, refl)
  later_well (w ∷ ws) h =
      let piece_there : may_be_piece names w ≡ true = search parts in
      let ih = later_well ws (search parts) in
      (and_both (g w) (all g ws) (sym (same w) ∙ piece_there) ih.0, and_both (short w) (all short ws) (good_short names w (search parts)) ih.1)

  later_good : (ws : List (List ℕ)) → all g ws ≡ true → all short ws ≡ true → all_good names ws ≡ true
  later_good [] h k = refl
  later_good (w ∷ ws) h k =
      and_both (good names w) (all_good names ws) (good_of names w (same w ∙ and_l (g w) (all g ws) h) (search parts)) (later_good ws (search parts) (search parts))

  pieces_well : (most : ℕ) (ws : List (List ℕ)) → length ws ≤ suc most → all_good false ws ≡ true → is_nil ws || wf_pieces g most ws ≡ true
  pieces_well most [] n h = refl
  pieces_well most (w ∷ ws) n h =
      let piece_there : may_be_piece false w ≡ true = search parts in
      let l = later_well ws (search parts) in
      rw (← first_name w, piece_there, l.0, le-leb (length ws) most (omega arith), good_short false w (search parts), l.1)

  pieces_good : (most : ℕ) (ws : List (List ℕ)) → is_nil ws || wf_pieces g most ws ≡ true → (length ws ≤ suc most) × (all_good false ws ≡ true)
  pieces_good most [] h = (omega arith, refl)
  pieces_good most (w ∷ ws) h =
      let few : length ws ≤ most = search parts in
      let first : is_identifier w ≡ true = search parts in
      (omega arith, and_both (good false w) (all_good names ws) (good_of false w (first_name w ∙ first) (search parts)) (later_good ws (search parts) (search parts)))

  -- ---- all pieces

  pub pieces_is : (most : ℕ) (r : List ℕ) (ws : List (List ℕ)) (r' : List ℕ) → Small r → pieces t names (suc most) r ≡ some (ws, r')
      → (is_nil ws || wf_pieces g most ws ≡ true) × (r ≡ bytes_of (map (λ w. field t w) ws) ++ r')
  pieces_is most r ws r' s e =
      let w = several_is (is_tag t) piece (next_piece names) good field_of piece_is (suc most) false r ws r' s e in
      (pieces_well most ws w.few w.well, w.bytes ∙ rw (many_map (λ x. field t x) ws))

  pub pieces_back : (most : ℕ) (ws : List (List ℕ)) (rest : List ℕ) → is_nil ws || wf_pieces g most ws ≡ true → is_tag t (head_tag rest) ≡ false
      → pieces t names (suc most) (bytes_of (map (λ w. field t w) ws) ++ rest) ≡ some (ws, rest)
  pieces_back most ws rest h n =
      let k = pieces_good most ws h in
      rw (← many_map (λ x. field t x) ws)
      (several_all (is_tag t) piece (next_piece names) good field_of (λ _. true) piece_back opens (λ _ _. refl) ws (suc most) false rest k.1 k.0 n refl)
