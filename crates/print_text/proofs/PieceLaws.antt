-- The pieces that are done and those that are left make the text; the tag of what stands there says whether any are left.
use Prim.Native.Nat.{◌+◌, ◌-◌, ◌≤◌, ℕ}
use borrow.Author.Tests.{leb-true}
use lib.ListN.{drop, get_or, length, length-append}
use lib.Seq.{drop-drop, take_at}
use mathlib.Core.Bool.{true}
use mathlib.Core.List.{List, [], ◌++◌, ◌∷◌, append_assoc, append-nil, map}
use mathlib.Core.Path.{◌∙◌, ◌≡◌, ap, refl, subst, sym}
use native.Mathlib.Omega.{arith}
use Rattle.laws.specs.Cases.{and_l, and_r}
use Rattle.laws.specs.Lists.{all}
use Rattle.rules.specs.Characters.{byte}
use Rattle.rules.specs.Printing.{more_lex, render, word_lex}
use Rattle.rules.specs.Records.{bytes_of, field, field_bytes}
use Rattle.rules.specs.Refusals.{most_word}
use Rattle.rules.specs.Tokens.{dash}
use Rattle.rules.specs.WellFormed.{short}
use Rattle.print_unit.proofs.ChainLaws.{both_put, fits_first, fits_next, nothing_put, three_third}
use Rattle.print_unit.specs.Ways.{Way, Fits, Puts}
use Rattle.print_value.specs.declared.Put.{Put}
use Rattle.print_value.proofs.StandLaws.{Stands, stands}
use Rattle.record_walk.specs.Fronts.{tag_of}
use Rattle.record_walk.specs.Runs.{bytes_in}
use Rattle.print_text.specs.Places.{IsPieces, PiecesFit, PutPieces, piece_fields, pieces_text}

-- the pieces behind the first, each behind a `-`
abbrev pub more_pieces : List (List ℕ) → List ℕ
more_pieces ws = render (more_lex dash (map word_lex ws))

abbrev pub piece_bytes : ℕ → List (List ℕ) → List ℕ
piece_bytes t ws = bytes_of (piece_fields t ws)

-- what is left of the pieces w and ws: u, which stands at `at`, and us
pub record Piecing (rec : List ℕ) (from t : ℕ) (w : List ℕ) (ws : List (List ℕ)) (rest : List ℕ) (at : ℕ) (done : List ℕ) : Type 0 where
  pub u : List ℕ
  pub us : List (List ℕ)
  pub total : pieces_text w ws ≡ done ++ (u ++ more_pieces us)
  pub is : drop at rec ≡ piece_bytes t (u ∷ us) ++ rest
  pub good : all short (u ∷ us) ≡ true
  pub ends : at + length (piece_bytes t (u ∷ us)) ≡ from + length (piece_bytes t (w ∷ ws))
  pub inside : at ≤ length rec

none_left : (t : ℕ) (us : List (List ℕ)) (rest : List ℕ) → (tag_of (piece_bytes t us ++ rest) ≡ t → ⊥) → us ≡ []
none_left t [] rest n = refl
none_left t (u ∷ us) rest n = absurd (n refl)

module _ {rec : List ℕ} {from t : ℕ} {w : List ℕ} {ws : List (List ℕ)} {rest : List ℕ} (h : IsPieces rec from t w ws rest)
    {at : ℕ} {done : List ℕ} (g : Piecing rec from t w ws rest at done) where
  behind_piece : drop at rec ≡ field_bytes (field t g.u) ++ (piece_bytes t g.us ++ rest)
  behind_piece = g.is ∙ append_assoc (field_bytes (field t g.u)) (piece_bytes t g.us) rest

  piece_stands : Stands rec at (field t g.u) (piece_bytes t g.us ++ rest)
  piece_stands =
      let short-one = leb-true (length g.u) most_word (and_l (short g.u) (all short g.us) g.good) in
      stands rec at (field t g.u) (piece_bytes t g.us ++ rest) behind_piece (omega (arith, short-one)) g.inside

  module _ {n : ℕ} (e : n ≡ at + (3 + get_or rec (at + 2) 0)) where
    piece_end : n ≡ at + 3 + length g.u
    piece_end = omega (arith, piece_stands.next)

    piece_beyond : drop n rec ≡ piece_bytes t g.us ++ rest
    piece_beyond = rw (e ∙ piece_stands.next) piece_stands.beyond

    piece_is : bytes_in rec (at + 3) n ≡ g.u
    piece_is =
        let z : n - (at + 3) ≡ length g.u = omega (arith, piece_end) in
        rw (z, ← drop-drop 3 at rec, behind_piece) (take_at g.u (piece_bytes t g.us ++ rest) (length g.u) refl)

    fields_end : n + length (piece_bytes t g.us) ≡ from + length (piece_bytes t (w ∷ ws))
    fields_end = omega (arith, piece_end, g.ends, length-append (field_bytes (field t g.u)) (piece_bytes t g.us))

    -- no piece is left
    module _ (s : tag_of (drop n rec) ≡ t → ⊥) where
      last_one : g.us ≡ []
      last_one = none_left t g.us rest (subst (λ (x : List ℕ). tag_of x ≡ t → ⊥) piece_beyond s)

      pieces_done : pieces_text w ws ≡ done ++ g.u
      pieces_done = g.total ∙ rw (last_one, append-nil g.u)

      pieces_next : n ≡ from + length (piece_bytes t (w ∷ ws))
      pieces_next = omega (arith, rw last_one at fields_end)

    -- another one
    piecing_more : tag_of (drop n rec) ≡ t → Piecing rec from t w ws rest n ((done ++ g.u) ++ (byte "-" ∷ []))
    piecing_more s = go g.us g.total piece_beyond (and_r (short g.u) (all short g.us) g.good) fields_end
      where
        go : (us : List (List ℕ)) → pieces_text w ws ≡ done ++ (g.u ++ more_pieces us) → drop n rec ≡ piece_bytes t us ++ rest → all short us ≡ true
            → n + length (piece_bytes t us) ≡ from + length (piece_bytes t (w ∷ ws)) → Piecing rec from t w ws rest n ((done ++ g.u) ++ (byte "-" ∷ []))
        go [] total is good ends = absurd (h.ends (sym (ap tag_of is) ∙ s))
        go (v ∷ vs) total is good ends =
            let d : List ℕ = byte "-" ∷ [] in
            let r : List ℕ = v ++ more_pieces vs in
            record {
              u = v;
              us = vs;
              total = total ∙ sym (append_assoc (done ++ g.u) d r ∙ append_assoc done g.u (d ++ r));
              is = is;
              good = good;
              ends = ends;
              inside = omega (arith, piece_end, piece_stands.inside);
            }

-- ---- the loop

-- the walk, where what is put begins at `at` of the buffer `start`
record Gone (way : Way) (rec : List ℕ) (from t : ℕ) (w : List ℕ) (ws : List (List ℕ)) (rest : List ℕ) (at : ℕ) (start : List ℕ) (piece end : ℕ) (out : List ℕ) : Type 0 where
  done : List ℕ
  going : Piecing rec from t w ws rest piece done
  put : Puts way done at start end out

abbrev Walk : Way → List ℕ → ℕ → ℕ → ℕ → List ℕ → ℕ → ℕ → List ℕ → Type 0
Walk way rec from t at start piece end out =
    (w : List ℕ) (ws : List (List ℕ)) (rest : List ℕ) → IsPieces rec from t w ws rest → Gone way rec from t w ws rest at start piece end out

-- put so far; the piece at `piece` stands in the record
pub record Putting (way : Way) (rec : List ℕ) (from t at : ℕ) (start : List ℕ) (piece end : ℕ) (out : List ℕ) : Type 0 where
  laid : Walk way rec from t at start piece end out
  pub inside : piece + (3 + get_or rec (piece + 2) 0) ≤ length rec

putting : {way : Way} {rec : List ℕ} {from : Put} {t piece end : ℕ} {old out : List ℕ} → PiecesFit way rec from t old
    → Walk way rec from.next t from.end old piece end out → Putting way rec from.next t from.end old piece end out
putting f d =
    let x = d f.w f.ws f.rest f.has in
    let s = piece_stands f.has x.going in
    record { laid = d; inside = omega (arith, s.next, s.inside) }

pub putting_none : {way : Way} {rec : List ℕ} {from : Put} {t : ℕ} {old : List ℕ} → PiecesFit way rec from t old
    → Putting way rec from.next t from.end old from.next from.end old
unfolding pieces_text
putting_none {way} {from = from} {old = old} f =
    putting f (λ w ws rest h. record {
      done = [];
      going = record { u = w; us = ws; total = refl; is = h.is; good = h.good; ends = refl; inside = h.inside };
      put = nothing_put way old from.end;
    })

module _ {way : Way} {rec : List ℕ} {from : Put} {t piece end n : ℕ} {old out : List ℕ} (m : Putting way rec from.next t from.end old piece end out)
    (e : n ≡ piece + (3 + get_or rec (piece + 2) 0)) where
  pub piece_fits : PiecesFit way rec from t old → Fits way (bytes_in rec (piece + 3) n) end out
  piece_fits f =
      let x = m.laid f.w f.ws f.rest f.has in
      let g = x.going in
      rw (piece_is f.has g e) (fits_first g.u (more_pieces g.us) (fits_next x.done (g.u ++ more_pieces g.us) (rw g.total at f.fits) x.put))

  module _ {p : ℕ} {mid : List ℕ} (y : Puts way (bytes_in rec (piece + 3) n) end out p mid) {tag : ℕ} (q : tag ≡ tag_of (drop n rec)) where
    pub pieces_put : (tag ≡ t → ⊥) → PutPieces way rec from t old (record { end = p; next = n }) mid
    pieces_put s w ws rest h =
        let x = m.laid w ws rest h in
        let g = x.going in
        let z : tag_of (drop n rec) ≡ t → ⊥ = λ y. s (q ∙ y) in
        record { put = rw (pieces_done h g e z) (both_put x.done g.u x.put (rw (piece_is h g e) at y)); behind = pieces_next h g e z }

    module _ (s : tag ≡ t) (f : PiecesFit way rec from t old) where
      pub dash_fits : Fits way (byte "-" ∷ []) p mid
      dash_fits =
          let x = m.laid f.w f.ws f.rest f.has in
          let g = x.going in
          let k = piecing_more f.has g e (sym q ∙ s) in
          let d : List ℕ = byte "-" ∷ [] in
          three_third x.done g.u d (fits_first ((x.done ++ g.u) ++ d) (k.u ++ more_pieces k.us) (rw k.total at f.fits)) x.put (rw (piece_is f.has g e) at y)

      pub putting_more : {r : ℕ} {new : List ℕ} → Puts way (byte "-" ∷ []) p mid r new → Putting way rec from.next t from.end old n r new
      putting_more z =
          putting f (λ w ws rest h.
          let x = m.laid w ws rest h in
          let g = x.going in
          let d : List ℕ = byte "-" ∷ [] in
          record { done = (x.done ++ g.u) ++ d; going = piecing_more h g e (sym q ∙ s); put = both_put (x.done ++ g.u) d (both_put x.done g.u x.put (rw (piece_is h g e) at y)) z })
