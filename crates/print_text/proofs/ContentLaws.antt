-- The tag of what stands there says whether a name or a value does.
use Prim.Native.Nat.{◌<◌, ◌≤◌, ℕ}
use lib.ListN.{drop}
use mathlib.Core.List.{List, [], ◌++◌, ◌∷◌, map}
use mathlib.Core.Path.{◌∙◌, ◌≡◌, ap, refl, sym}
use native.Mathlib.Omega.{arith}
use Rattle.print_unit.proofs.ChainLaws.{both_put, fits_first, fits_next, nothing_put}
use Rattle.print_unit.specs.Ways.{Way, Fits, Puts}
use Rattle.rules.specs.Characters.{byte}
use Rattle.rules.specs.Commands.{Element}
use Rattle.rules.specs.Printing.{joined_lex, name_lex, render, word_lex}
use Rattle.rules.specs.Records.{name_tag, single_tag}
use Rattle.rules.specs.Tokens.{dash, equals, sep}
use Rattle.rules.specs.Units.{Base}
use Rattle.print_value.proofs.ElementLaws.{render_append}
use Rattle.print_value.proofs.ValueLaws.{element_tag}
use Rattle.print_value.specs.Values.{IsValue, PutValue, ValueFits}
use Rattle.print_value.specs.declared.Put.{Put}
use Rattle.record_walk.specs.Fronts.{tag_of}
use Rattle.print_text.specs.Places.{ContentFits, IsContent, IsName, IsPieces, NameFits, PiecesFit, PutContent, PutName, PutPieces, pieces_text}

-- ---- a value

is_value : {rec : List ℕ} {at base t : ℕ} → t ≡ tag_of (drop at rec) → single_tag ≤ t
    → {b : Base} {rest : List ℕ} (v : List Element) → IsContent rec at base b v rest → IsValue rec at base b v rest
is_value q k [] h = absurd (omega (arith, ap tag_of h.is, h.ends))
is_value q k (e ∷ es) h = record { under = h.under; is = h.is; good = h.good; some = refl; ends = omega (arith, h.ends); inside = h.inside }

module _ {way : Way} {rec : List ℕ} {from : Put} {base t : ℕ} (q : t ≡ tag_of (drop from.next rec)) where
  pub no_value : t < single_tag → (old : List ℕ) → PutContent way rec from base old from old
  no_value k old b [] rest h = record { put = nothing_put way old from.end; behind = omega arith }
  no_value k old b (e ∷ es) rest h = absurd (omega (arith, ap tag_of h.is, (element_tag e es rest).0))

  module _ (k : single_tag ≤ t) where
    module _ {old : List ℕ} where
      pub value_fits : ContentFits way rec from base old → ValueFits way rec from.next base from.end old
      value_fits f = record { b = f.b; v = f.v; rest = f.rest; has = is_value q k f.v f.has; fits = f.fits }

      pub value_put : {new : List ℕ} {r : Put} → PutValue way rec from.next base from.end old r new → PutContent way rec from base old r new
      value_put w b v rest h = let p = w b v rest (is_value q k v h) in record { put = p.1; behind = p.0 }

-- ---- a name

-- its pieces, and `=` behind them
name_text : (w : List ℕ) (ws : List (List ℕ)) → render (name_lex (w ∷ ws)) ≡ pieces_text w ws ++ (byte "=" ∷ [])
unfolding pieces_text
name_text w ws = render_append (joined_lex dash (map word_lex (w ∷ ws))) (sep equals ∷ [])

none : {rec : List ℕ} {at t : ℕ} → t ≡ tag_of (drop at rec) → t ≡ name_tag → {rest : List ℕ} → IsName rec at [] rest → ⊥
none q k h = h.ends (sym (q ∙ ap tag_of h.is) ∙ k)

is_pieces : {rec : List ℕ} {at : ℕ} {w : List ℕ} {ws : List (List ℕ)} {rest : List ℕ} → IsName rec at (w ∷ ws) rest → IsPieces rec at name_tag w ws rest
is_pieces h = record { is = h.is; good = h.good; ends = h.ends; inside = h.inside }

module _ {way : Way} {rec : List ℕ} {from : Put} {t : ℕ} (q : t ≡ tag_of (drop from.next rec)) where
  pub no_name : (t ≡ name_tag → ⊥) → (old : List ℕ) → PutName way rec from old from old
  no_name k old [] rest h = record { put = nothing_put way old from.end; behind = omega arith }
  no_name k old (w ∷ ws) rest h = absurd (k (q ∙ ap tag_of h.is))

  module _ (k : t ≡ name_tag) {old : List ℕ} where
    pub pieces_fit : NameFits way rec from old → PiecesFit way rec from name_tag old
    pieces_fit f = go f.nm f.has f.fits
      where
        go : (nm : List (List ℕ)) → IsName rec from.next nm f.rest → Fits way (render (name_lex nm)) from.end old → PiecesFit way rec from name_tag old
        go [] h l = absurd (none q k h)
        go (w ∷ ws) h l = record { w = w; ws = ws; rest = f.rest; has = is_pieces h; fits = fits_first (pieces_text w ws) (byte "=" ∷ []) (rw (name_text w ws) at l) }

    module _ {r : Put} {mid : List ℕ} (l : PutPieces way rec from name_tag old r mid) where
      pub equals_fits : NameFits way rec from old → Fits way (byte "=" ∷ []) r.end mid
      equals_fits f = go f.nm f.has f.fits
        where
          go : (nm : List (List ℕ)) → IsName rec from.next nm f.rest → Fits way (render (name_lex nm)) from.end old → Fits way (byte "=" ∷ []) r.end mid
          go [] h l = absurd (none q k h)
          go (w ∷ ws) h z = fits_next (pieces_text w ws) (byte "=" ∷ []) (rw (name_text w ws) at z) (l w ws f.rest (is_pieces h)).put

      pub name_put : {k : ℕ} {new : List ℕ} → Puts way (byte "=" ∷ []) r.end mid k new → PutName way rec from old (record { end = k; next = r.next }) new
      name_put e [] rest h = absurd (none q k h)
      name_put e (w ∷ ws) rest h = let p = l w ws rest (is_pieces h) in record { put = rw (name_text w ws) (both_put (pieces_text w ws) (byte "=" ∷ []) p.put e); behind = p.behind }
