-- A place in its pieces: the block's field if one begins there, its own field, its name, its value.
use Prim.Native.Nat.{◌+◌, ◌<◌, ◌≤◌, ℕ}
use lib.ListN.{drop, get_or, length, length-append}
use lib.Seq.{drop-drop, get_or-drop}
use mathlib.Core.Bool.{Bool, false, false≢true, true}
use mathlib.Core.List.{List, [], ◌++◌, ◌∷◌, append_assoc}
use mathlib.Core.Option.{Option, none, some}
use mathlib.Core.Path.{◌∙◌, ◌≡◌, ap, refl, sym}
use native.Mathlib.Omega.{arith}
use Rattle.laws.specs.Cases.{and_l, and_r}
use Rattle.laws.specs.Lists.{all}
use Rattle.print_unit.proofs.ChainLaws.{both_put, three_first, three_second, three_third}
use Rattle.print_unit.specs.Ways.{Way, Fits, Puts}
use Rattle.rules.proofs.DecodeEncode.{place_value_lem}
use Rattle.rules.proofs.FieldLaws.{bytes_append}
use Rattle.rules.specs.Commands.{Element, Place, is_piece, place}
use Rattle.rules.specs.Printing.{name_lex, place_lex, render, value_lex}
use Rattle.rules.specs.Records.{block_tag, bytes_of, element_fields, many, name_tag, place_fields, place_tag}
use Rattle.rules.specs.Refusals.{more_of_name}
use Rattle.rules.specs.Units.{Base}
use Rattle.rules.specs.WellFormed.{short, wf_pieces, wf_place}
use Rattle.print_value.proofs.ElementLaws.{render_append}
use Rattle.print_value.proofs.ValueLaws.{element_tag, value_bytes}
use Rattle.record_walk.proofs.RunLaws.{drop_behind, stands_inside}
use Rattle.record_walk.proofs.WalkLaws.{tag_there}
use Rattle.record_walk.specs.Fronts.{tag_of}
use Rattle.print_text.proofs.PieceLaws.{piece_bytes}
use Rattle.print_value.specs.declared.Put.{Put}
use Rattle.print_text.specs.Places.{ContentFits, IsContent, IsName, IsPlace, NameFits, PlaceFits, PutContent, PutName, PutPlace, opening, own_field, piece_fields, place_text, separator_at}

pub pieces_short : (g : List ℕ → Bool) (most : ℕ) (ws : List (List ℕ)) → wf_pieces g most ws ≡ true → all short ws ≡ true
pieces_short g most [] h = absurd (false≢true h)
pieces_short g most (w ∷ ws) h = search (and_l, and_r)

name_short : (named : Bool) (b : Base) (nm : List (List ℕ)) (v : List Element) → wf_place named (place b nm v) ≡ true → all short nm ≡ true
name_short true b nm v h = pieces_short is_piece more_of_name nm (search (and_l, and_r))
name_short false b [] v h = refl
name_short false b (w ∷ ws) v h = absurd (false≢true h)

no_name_tag : (v : List Element) (rest : List ℕ) → tag_of rest < name_tag → tag_of (value_bytes v ++ rest) ≡ name_tag → ⊥
no_name_tag [] rest h e = omega arith
no_name_tag (e ∷ es) rest h t = omega (arith, (element_tag e es rest).0)

-- ---- in its parts

-- what stands at `at`: the place's own field stands at `own`, its name four bytes behind, its value behind that
record Parts (rec : List ℕ) (at own : ℕ) (o : Option Bool) (p : Place) (rest : List ℕ) : Type 0 where
  b : Base
  nm : List (List ℕ)
  v : List Element
  starts : at < length rec
  room : own + 4 ≤ length rec
  name : IsName rec (own + 4) nm (value_bytes v ++ rest)
  value : {next : ℕ} → next ≡ own + 4 + length (piece_bytes name_tag nm) → IsContent rec next (get_or rec (own + 3) 0) b v rest
  is : place_text o p ≡ ((separator_at (get_or rec at 0) ∷ []) ++ render (name_lex nm)) ++ render (value_lex b v)
  ends : own + 4 + length (piece_bytes name_tag nm) + length (value_bytes v) ≡ at + length (bytes_of (opening o ++ place_fields p))

own_parts : (rec : List ℕ) (at own : ℕ) (o : Option Bool) (named : Bool) (b : Base) (nm : List (List ℕ)) (v : List Element) (rest : List ℕ)
    → drop own rec ≡ bytes_of (place_fields (place b nm v)) ++ rest → wf_place named (place b nm v) ≡ true → tag_of rest < name_tag → at ≤ own → own ≤ length rec
    → own + length (bytes_of (place_fields (place b nm v))) ≡ at + length (bytes_of (opening o ++ place_fields (place b nm v)))
    → place_text o (place b nm v) ≡ separator_at (get_or rec at 0) ∷ render (place_lex (place b nm v)) → Parts rec at own o (place b nm v) rest
own_parts rec at own o named b nm v rest e g t i k z y =
    let N : List ℕ = piece_bytes name_tag nm in
    let W : List ℕ = value_bytes v in
    let s : bytes_of (piece_fields name_tag nm ++ many element_fields v) ≡ N ++ W = bytes_append (piece_fields name_tag nm) (many element_fields v) in
    let d : drop (own + 4) rec ≡ N ++ (W ++ rest) =
    sym (drop-drop 4 own rec) ∙ ap (drop 4) e ∙ ap (λ (x : List ℕ). x ++ rest) s ∙ append_assoc N W rest in
    let l : own + length (bytes_of (place_fields (place b nm v))) ≤ length rec = stands_inside rec own (bytes_of (place_fields (place b nm v))) rest e k in
    record {
      b = b;
      nm = nm;
      v = v;
      starts = omega arith;
      room = omega arith;
      name = record { is = d; good = name_short named b nm v g; ends = no_name_tag v rest t; inside = omega arith };
      value = λ q. rw q (record {
        under = sym (get_or-drop own rec 3 0) ∙ ap (λ (x : List ℕ). get_or x 3 0) e;
        is = drop_behind rec (own + 4) N (W ++ rest) d;
        good = place_value_lem named b nm v g;
        ends = t;
        inside = stands_inside rec (own + 4) N (W ++ rest) d (omega arith);
      });
      is = y ∙ ap (λ (x : List ℕ). separator_at (get_or rec at 0) ∷ x) (render_append (name_lex nm) (value_lex b v));
      ends = omega (arith, ap length s, length-append N W);
    }

parts : {rec : List ℕ} {at own : ℕ} {rest : List ℕ} (o : Option Bool) (named : Bool) (p : Place) → IsPlace rec at o named p rest
    → own ≡ own_field (get_or rec at 0) at → Parts rec at own o p rest
unfolding own_field separator_at place_text
parts {rec} {at} {own} {rest} none named (place b nm v) h q =
    let t : get_or rec at 0 ≡ place_tag = sym (tag_there rec at) ∙ ap tag_of h.is in
    let z : own ≡ at = q ∙ rw t in
    own_parts rec at own none named b nm v rest (rw z h.is) h.good h.ends (omega arith) (omega (arith, h.inside)) (omega arith) (rw t)
parts {rec} {at} {own} {rest} (some k) named (place b nm v) h q =
    let t : get_or rec at 0 ≡ block_tag = sym (tag_there rec at) ∙ ap tag_of h.is in
    let z : own ≡ at + 4 = q ∙ rw t in
    let i = stands_inside rec at (bytes_of (opening (some k) ++ place_fields (place b nm v))) rest h.is h.inside in
    own_parts rec at own (some k) named b nm v rest (rw z (sym (drop-drop 4 at rec) ∙ ap (drop 4) h.is)) h.good h.ends (omega arith)
    (omega (arith, i)) (omega arith) (rw t)

-- ---- what its calls need

pub place_starts : {way : Way} {rec : List ℕ} {from : Put} {old : List ℕ} → PlaceFits way rec from old → from.next < length rec
place_starts f = (parts f.o f.named f.p f.has refl).starts

module _ {way : Way} {rec : List ℕ} {from : Put} {own : ℕ} {old : List ℕ} (q : own ≡ own_field (get_or rec from.next 0) from.next) where
  module _ (f : PlaceFits way rec from old) where
    fit_parts : Parts rec from.next own f.o f.p f.rest
    fit_parts = parts f.o f.named f.p f.has q

    pub own_inside : own + 4 ≤ length rec
    own_inside = fit_parts.room

    pub mark_fits : {mark : ℕ} → mark ≡ separator_at (get_or rec from.next 0) → Fits way (mark ∷ []) from.end old
    mark_fits {mark} m =
        let x = fit_parts in
        rw m (three_first (separator_at (get_or rec from.next 0) ∷ []) (render (name_lex x.nm)) (render (value_lex x.b x.v)) (rw x.is at f.fits))

    module _ {mark k : ℕ} {xs : List ℕ} (m : mark ≡ separator_at (get_or rec from.next 0)) (u : Puts way (mark ∷ []) from.end old k xs) where
      pub name_fits : NameFits way rec (record { end = k; next = own + 4 }) xs
      name_fits =
          let x = fit_parts in
          record {
            nm = x.nm;
            rest = value_bytes x.v ++ f.rest;
            has = x.name;
            fits = three_second (mark ∷ []) (render (name_lex x.nm)) (render (value_lex x.b x.v)) (rw (x.is, ← m) at f.fits) u;
          }

      pub content_fits : {name : Put} {ys : List ℕ} → PutName way rec (record { end = k; next = own + 4 }) xs name ys → ContentFits way rec name (get_or rec (own + 3) 0) ys
      content_fits n =
          let x = fit_parts in
          let l = n x.nm (value_bytes x.v ++ f.rest) x.name in
          record {
            b = x.b;
            v = x.v;
            rest = f.rest;
            has = x.value l.behind;
            fits = three_third (mark ∷ []) (render (name_lex x.nm)) (render (value_lex x.b x.v)) (rw (x.is, ← m) at f.fits) u l.put;
          }

  -- what they answer is the place
  pub place_put : {mark k : ℕ} {name value : Put} {xs ys zs : List ℕ} → mark ≡ separator_at (get_or rec from.next 0) → Puts way (mark ∷ []) from.end old k xs
      → PutName way rec (record { end = k; next = own + 4 }) xs name ys → PutContent way rec name (get_or rec (own + 3) 0) ys value zs → PutPlace way rec from old value zs
  place_put {mark} m u n w o named p rest h =
      let x = parts o named p h q in
      let l = n x.nm (value_bytes x.v ++ rest) x.name in
      let r = w x.b x.v rest (x.value l.behind) in
      let M : List ℕ = mark ∷ [] in
      let N : List ℕ = render (name_lex x.nm) in
      record { put = rw (x.is, ← m) (both_put (M ++ N) (render (value_lex x.b x.v)) (both_put M N u l.put) r.put); behind = omega (arith, r.behind, l.behind, x.ends) }
