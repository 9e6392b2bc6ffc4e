-- The end of a range is printed from its own field and the letter of its lower end.
use Prim.Native.Nat.{◌+◌, ◌≤◌, ℕ}
use lib.Dec.{eqb, ltb}
use lib.ListN.{drop, get_or, length}
use lib.Seq.{get_or-drop}
use mathlib.Core.Bool.{Bool, cond, false, not, true}
use mathlib.Core.List.{List, [], ◌++◌, ◌∷◌, append-nil}
use mathlib.Core.Option.{Option, none, some}
use mathlib.Core.Path.{◌∙◌, ◌≡◌, ap, refl, sym}
use native.Mathlib.Omega.{arith}
use Rattle.laws.specs.Lists.{is_nil}
use Rattle.rules.specs.Commands.{Element, leading, range, single}
use Rattle.rules.specs.Printing.{inc_links, link, links_lex, render, unit_text}
use Rattle.rules.specs.Records.{bytes_of, element_fields, num4, range_tag, single_tag}
use Rattle.rules.specs.Tokens.{ampamp, ampamp_}
use Rattle.rules.specs.Units.{Base, Radix, Unit, letter, num, radix_letter}
use Rattle.print_unit.proofs.ChainLaws.{both_put, fits_first, fits_next}
use Rattle.print_unit.specs.Ways.{Way, Fits, Puts}
use Rattle.print_unit.proofs.TextLaws.{numeral_text_lem}
use Rattle.print_unit.proofs.UnitLaws.{four}
use Rattle.record_walk.proofs.RunLaws.{stands_inside}
use Rattle.record_walk.proofs.WalkLaws.{tag_there}
use Rattle.record_walk.specs.Fronts.{tag_of}
use Rattle.print_value.proofs.ElementLaws.{Printed, head_inside, head_is, last_unit_lem, own_inside, printed, tail_text}
use Rattle.print_value.proofs.EndLaws.{end_none, end_some}
use Rattle.print_value.proofs.ShortLaws.{some_between}
use Rattle.print_value.specs.Values.{ArgumentFits, ElementFits, EndStands, IsElement, PutArgument, PutElement, Stood, element_text, end_at, head_length, head_size, increment_text, joint_at, range_end, unit_bytes, units_text}
use Rattle.print_value.specs.Joints.{joint_text, printed_from}
use Rattle.print_value.specs.declared.Joint.{Joint}
use Rattle.print_value.specs.declared.Laid.{Laid}
use Rattle.print_value.specs.declared.Units.{Units}

-- a number of a record is a number of what stands from a position on
number_there : (rec : List ℕ) (at i : ℕ) → num4 rec (at + i) ≡ num4 (drop at rec) i
number_there rec at i =
    let p : 1 + (at + i) ≡ at + (1 + i) = omega arith in
    let q : 2 + (at + i) ≡ at + (2 + i) = omega arith in
    let r : 3 + (at + i) ≡ at + (3 + i) = omega arith in
    rw (p, q, r, get_or-drop at rec i 0, get_or-drop at rec (1 + i) 0, get_or-drop at rec (2 + i) 0, get_or-drop at rec (3 + i) 0)

end_text : (b : Base) (l : List Unit) (r : Radix) (lo up inc : ℕ) (t : Bool) → eqb inc 1 ≡ t
    → range_end (letter b) (radix_letter r) (not (is_nil l)) up inc ≡ render (links_lex b (link (cond (is_nil l) ampamp ampamp_) (num r 0 up) ∷ inc_links r inc t))
unfolding range_end increment_text
end_text b [] r lo up inc true h = rw (h, numeral_text_lem b r 0 up)
end_text b [] r lo up inc false h = rw (h, numeral_text_lem b r 0 up, numeral_text_lem b r 0 inc, append-nil (unit_text b (num r 0 inc)))
end_text b (i ∷ l) r lo up inc true h = rw (h, numeral_text_lem b r 0 up)
end_text b (i ∷ l) r lo up inc false h = rw (h, numeral_text_lem b r 0 up, numeral_text_lem b r 0 inc, append-nil (unit_text b (num r 0 inc)))

-- what the code finds behind the units is the rules' text; behind a single element there is nothing
pub end_is : {rec : List ℕ} {at base : ℕ} {b : Base} {rest : List ℕ} (e : Element) → IsElement rec at base b e rest
    → (first last : ℕ) → first ≡ at + head_size e → last ≡ at + head_size e + length (unit_bytes (leading e))
    → (end_at rec at first last base ≡ tail_text b e) × EndStands rec at last
end_is {rec} {at} {base} (single l u) h first last q s =
    let t : get_or rec at 0 ≡ single_tag = sym (tag_there rec at) ∙ ap tag_of h.is in
    let n : get_or rec at 0 ≡ range_tag → ⊥ = λ z. omega arith in
    (end_none rec at first last base n, record { own = own_inside h; head = λ z. absurd (n z); lower = λ z. absurd (n z) })
end_is {rec} {at} {base} {b} {rest} (range l r lo up inc) h first last q s =
    let t : get_or rec at 0 ≡ range_tag = sym (tag_there rec at) ∙ ap tag_of h.is in
    let u : up ≡ num4 rec (at + 3) = sym (number_there rec at 3 ∙ ap (λ (x : List ℕ). num4 x 3) h.is ∙ four up) in
    let i : inc ≡ num4 rec (at + 7) = sym (number_there rec at 7 ∙ ap (λ (x : List ℕ). num4 x 7) h.is ∙ four inc) in
    let w = last_unit_lem h in
    let d : get_or rec (last + 3) 0 ≡ radix_letter r = rw s (sym (get_or-drop (at + 11 + length (unit_bytes l)) rec 3 0) ∙ ap (λ (x : List ℕ). get_or x 3 0) w.is) in
    let long : last + length (unit_bytes (num r 0 lo ∷ [])) ≤ length rec = rw s (stands_inside rec (at + 11 + length (unit_bytes l)) (unit_bytes (num r 0 lo ∷ [])) rest w.is w.inside) in
    let c : ltb first last ≡ not (is_nil l) = some_between l first last (omega arith) in (
      end_some rec at first last base t u i ∙ rw (d, c, h.under) (end_text b l r lo up inc (eqb inc 1) refl),
      record { own = own_inside h; head = λ z. head_inside h; lower = λ z. omega (arith, long) },
    )

-- ---- the steps of the functions over an element

-- the pieces of the element's text, where the units i and l are printed behind the joint
record Pieces (rec : List ℕ) (at base first : ℕ) (j : Joint) (b : Base) (before : Option Element) (e : Element) (i : Unit) (l : List Unit) (last beyond : ℕ) : Type 0 where
  is : element_text b before e ≡ (joint_text j ++ units_text b i l) ++ end_at rec at first last base
  stands : EndStands rec at last
  lead : first ≡ at + head_size e
  until : last ≡ at + head_size e + length (unit_bytes (leading e))
  next : beyond ≡ at + length (bytes_of (element_fields e))

stood_low : (rec : List ℕ) (from at lead until : ℕ) (before : Option Element) (e : Element) → Stood rec from at lead until before e → (lead ≤ until) × (until ≤ length rec)
stood_low rec from at lead until none e s = (s.low, s.high)
stood_low rec from at lead until (some e₀) e s = (s.low, s.high)

-- the element stands there, and its own field has h bytes
module _ {rec : List ℕ} (from : ℕ) {base : ℕ} (d : Laid) {b : Base} (before : Option Element) {e : Element} {rest : List ℕ} (has : IsElement rec d.put.next base b e rest)
    (stood : Stood rec from d.put.next d.lead d.until before e) {h : ℕ} (q : h ≡ head_length (get_or rec d.put.next 0)) where
  first_is : d.put.next + h ≡ d.put.next + head_size e
  first_is = ap (λ (n : ℕ). d.put.next + n) (q ∙ head_is has refl)

  asks : (d.put.next + h ≤ length rec) × (d.lead ≤ d.until) × (d.until ≤ length rec)
  asks =
      let w = stood_low rec from d.put.next d.lead d.until before e stood in
      (omega (arith, first_is, head_inside has), w.0, w.1)

  -- the joint j stands before its units, which are printed from `begin` on
  module _ {begin : ℕ} {j : Joint} (z : j ≡ joint_at rec from d.put.next (d.put.next + h) d.lead d.until) (s : begin ≡ printed_from j (d.put.next + h) d.lead d.until) where
    units : Printed rec d.put.next base b before e rest j begin
    units = printed has from d.lead d.until before stood first_is z s

    pieces : {w : Way} {at : ℕ} {old new : List ℕ} {r : Units} → PutArgument w rec j begin base at old r new
        → Pieces rec d.put.next base (d.put.next + h) j b before e units.i units.l r.last r.put.next
    pieces {r = r} a =
        let x = units in
        let p = (a b x.i x.l rest x.has).0 in
        let t = end_is e has (d.put.next + h) r.last first_is (p.last ∙ x.last) in
        record {
          is = x.is ∙ ap (λ (y : List ℕ). (joint_text j ++ units_text b x.i x.l) ++ y) (sym t.0);
          stands = t.1;
          lead = first_is;
          until = p.last ∙ x.last;
          next = p.next ∙ x.next;
        }

module _ {w : Way} {rec : List ℕ} {from base : ℕ} {d : Laid} {old : List ℕ} (f : ElementFits w rec from d base old) {h : ℕ} (q : h ≡ head_length (get_or rec d.put.next 0)) where
  pub joint_asks : (d.put.next + h ≤ length rec) × (d.lead ≤ d.until) × (d.until ≤ length rec)
  joint_asks = asks from d f.before f.has f.stood q

  module _ {begin : ℕ} {j : Joint} (z : j ≡ joint_at rec from d.put.next (d.put.next + h) d.lead d.until) (s : begin ≡ printed_from j (d.put.next + h) d.lead d.until) where
    pub argument_fits : ArgumentFits w rec j begin base d.put.end old
    argument_fits =
        let x = units from d f.before f.has f.stood q z s in
        record { b = f.b; i = x.i; l = x.l; rest = f.rest; has = x.has; fits = fits_first (joint_text j ++ units_text f.b x.i x.l) (tail_text f.b f.e) (rw x.is at f.fits) }

    pub end_fits : {r : Units} {new : List ℕ} → PutArgument w rec j begin base d.put.end old r new
        → EndStands rec d.put.next r.last × Fits w (end_at rec d.put.next (d.put.next + h) r.last base) r.put.end new
    end_fits {r} a =
        let x = units from d f.before f.has f.stood q z s in
        let p = pieces from d f.before f.has f.stood q z s a in
        (p.stands, fits_next (joint_text j ++ units_text f.b x.i x.l) (end_at rec d.put.next (d.put.next + h) r.last base) (rw p.is at f.fits) (a f.b x.i x.l f.rest x.has).1)

-- what the function over an element ensures
pub element_put : {w : Way} (rec : List ℕ) (from base : ℕ) (d : Laid) (old : List ℕ) {h begin : ℕ} {j : Joint} → h ≡ head_length (get_or rec d.put.next 0)
    → j ≡ joint_at rec from d.put.next (d.put.next + h) d.lead d.until → begin ≡ printed_from j (d.put.next + h) d.lead d.until
    → {mid end : List ℕ} {r : Units} {k : ℕ} → PutArgument w rec j begin base d.put.end old r mid
    → Puts w (end_at rec d.put.next (d.put.next + h) r.last base) r.put.end mid k end
    → PutElement w rec from d base old (record { put = record { end = k; next = r.put.next }; lead = d.put.next + h; until = r.last }) end
element_put rec from base d old {h = h} {j = j} q z s {r = r} put e b before el rest has stood =
    let x = units from d before has stood q z s in
    let p = pieces from d before has stood q z s put in (
      record { lead = p.lead; until = p.until; next = p.next },
      rw p.is (both_put (joint_text j ++ units_text b x.i x.l) (end_at rec d.put.next (d.put.next + h) r.last base) (put b x.i x.l rest x.has).1 e),
    )
