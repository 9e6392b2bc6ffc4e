-- The units that are done and those that are left make the text; the tag of what stands there says whether any are left.
use Prim.Native.Nat.{◌+◌, ◌<◌, ◌≤◌, ℕ}
use lib.ListN.{drop, get_or, length, length-append}
use mathlib.Core.List.{List, [], ◌++◌, ◌∷◌, append_assoc, append-nil}
use mathlib.Core.Path.{◌∙◌, ◌≡◌, ap, refl, sym}
use native.Mathlib.Omega.{arith}
use Rattle.laws.specs.Cases.{and_l, and_r}
use Rattle.laws.specs.Lists.{all}
use Rattle.print_unit.proofs.ChainLaws.{both_put, fits_first, fits_next, nothing_put}
use Rattle.print_unit.specs.Ways.{Way, Fits, Puts}
use Rattle.rules.specs.Characters.{byte}
use Rattle.rules.specs.Printing.{unit_text}
use Rattle.rules.specs.Records.{field_bytes, numeral_tag, unit_field}
use Rattle.rules.specs.Units.{Base, Unit}
use Rattle.rules.specs.WellFormed.{wf_unit}
use Rattle.print_unit.specs.Units.{IsUnit, PutUnit, UnitFits}
use Rattle.record_walk.specs.Fronts.{tag_of}
use Rattle.record_walk.specs.Runs.{bytes_in}
use Rattle.print_value.proofs.StandLaws.{Stands, head_fits, unit_is, unit_stands_lem, unit_tag}
use Rattle.print_value.specs.Values.{DashedFits, IsUnits, LaidUnits, PutDashed, PutUnits, UnitsFit, dashed, last_at, unit_bytes, units_text}

-- where the field at `at` ends
abbrev pub Ends : List ℕ → ℕ → ℕ → Type 0
Ends rec at n = n ≡ at + (3 + get_or rec (at + 2) 0)

-- ---- the first unit, and those behind it

module _ {rec : List ℕ} {at base : ℕ} {b : Base} {i : Unit} {l : List Unit} {rest : List ℕ} (h : IsUnits rec at base b i l rest) where
  first_stands : Stands rec at (unit_field i) (unit_bytes l ++ rest)
  first_stands =
      unit_stands_lem rec at b i (unit_bytes l ++ rest) (h.is ∙ append_assoc (field_bytes (unit_field i)) (unit_bytes l) rest)
      (and_l (wf_unit b i) (all (wf_unit b) l) h.good) h.inside

  module _ {n : ℕ} (e : Ends rec at n) where
    pub first_is : IsUnit (bytes_in rec at n) base b i
    first_is = unit_is rec at b i (unit_bytes l ++ rest) first_stands h.under (and_l (wf_unit b i) (all (wf_unit b) l) h.good) e

    beyond : drop n rec ≡ unit_bytes l ++ rest
    beyond = rw (e ∙ first_stands.next) first_stands.beyond

later : {rec : List ℕ} {at base n : ℕ} {b : Base} {i j : Unit} {more : List Unit} {rest : List ℕ} → IsUnits rec at base b i (j ∷ more) rest → Ends rec at n
    → IsUnits rec n base b j more rest
later {b = b} {i = i} {j = j} {more = more} h e = record {
  under = h.under;
  is = beyond h e;
  good = and_r (wf_unit b i) (all (wf_unit b) (j ∷ more)) h.good;
  ends = h.ends;
  inside = omega (arith, e, (first_stands h).next, (first_stands h).inside);
}

-- of the units i and l the unit j stands at `last` and those `left` at `next`; what is put behind i has the text `done`
pub record Going (rec : List ℕ) (from base : ℕ) (b : Base) (i : Unit) (l : List Unit) (rest : List ℕ) (last next : ℕ) (done : List ℕ) (j : Unit) (left : List Unit) : Type 0 where
  pub has : IsUnits rec last base b j left rest
  pub ends : Ends rec last next
  pub total : dashed b l ≡ done ++ dashed b left
  pub lasts : last_at from i l ≡ last_at last j left
  pub size : from + length (unit_bytes (i ∷ l)) ≡ last + length (unit_bytes (j ∷ left))

going_start : {rec : List ℕ} {from base : ℕ} {b : Base} {i : Unit} {l : List Unit} {rest : List ℕ} → IsUnits rec from base b i l rest
    → {n : ℕ} → Ends rec from n → Going rec from base b i l rest from n [] i l
going_start h e = record { has = h; ends = e; total = refl; lasts = refl; size = refl }

-- one more unit, u, stands there
record Here (rec : List ℕ) (from base : ℕ) (b : Base) (i : Unit) (l : List Unit) (rest : List ℕ) (next : ℕ) (done : List ℕ) : Type 0 where
  u : Unit
  more : List Unit
  has : IsUnits rec next base b u more rest
  total : dashed b l ≡ done ++ dashed b (u ∷ more)
  lasts : last_at from i l ≡ last_at next u more
  size : from + length (unit_bytes (i ∷ l)) ≡ next + length (unit_bytes (u ∷ more))

module _ {rec : List ℕ} {from base : ℕ} {b : Base} {i : Unit} {l : List Unit} {rest : List ℕ} {next : ℕ} {done : List ℕ} where
  here : {last t : ℕ} (j : Unit) (left : List Unit) → Going rec from base b i l rest last next done j left → t ≡ tag_of (drop next rec) → numeral_tag ≤ t
      → Here rec from base b i l rest next done
  here j [] g e m = absurd (omega (arith, ap tag_of (beyond g.has g.ends), g.has.ends))
  here {last} j (u ∷ more) g e m =
      let f : List ℕ = field_bytes (unit_field j) in
      let z : next ≡ last + length f = g.ends ∙ (first_stands g.has).next in
      record { u = u; more = more; has = later g.has g.ends; total = g.total; lasts = g.lasts ∙ rw z; size = g.size ∙ omega (arith, z, length-append f (unit_bytes (u ∷ more))) }

  here_more : (x : Here rec from base b i l rest next done) {n : ℕ} → Ends rec next n
      → Going rec from base b i l rest next n (done ++ (byte "-" ∷ unit_text b x.u)) x.u x.more
  here_more x n = record {
    has = x.has;
    ends = n;
    total = x.total ∙ sym (append_assoc done (byte "-" ∷ unit_text b x.u) (dashed b x.more));
    lasts = x.lasts;
    size = x.size;
  }

  -- no unit stands there
  all_laid : {last t end : ℕ} (j : Unit) (left : List Unit) → Going rec from base b i l rest last next done j left → t ≡ tag_of (drop next rec) → t < numeral_tag
      → (dashed b l ≡ done) × LaidUnits from i l (record { put = record { end = end; next = next }; last = last })
  all_laid j [] g e m =
      (g.total ∙ append-nil done, record { last = sym g.lasts; next = omega (arith, g.size, g.ends, (first_stands g.has).next, length-append (field_bytes (unit_field j)) []) })
  all_laid j (u ∷ more) g e m =
      let w = beyond g.has g.ends ∙ append_assoc (field_bytes (unit_field u)) (unit_bytes more) rest in
      absurd (omega (arith, ap tag_of w, unit_tag u (unit_bytes more ++ rest)))

-- ---- the loop

-- the walk, where what is put begins at `at` of the buffer `start`, behind the first unit
record Gone (w : Way) (rec : List ℕ) (from base : ℕ) (b : Base) (i : Unit) (l : List Unit) (rest : List ℕ) (at : ℕ) (start : List ℕ) (end : ℕ) (out : List ℕ) (last next : ℕ) : Type 0 where
  done : List ℕ
  j : Unit
  left : List Unit
  going : Going rec from base b i l rest last next done j left
  put : Puts w done at start end out

pub record Putting (w : Way) (rec : List ℕ) (from base at : ℕ) (start : List ℕ) (end : ℕ) (out : List ℕ) (last next : ℕ) : Type 0 where
  laid : (b : Base) (i : Unit) (l : List Unit) (rest : List ℕ) → IsUnits rec from base b i l rest → Gone w rec from base b i l rest at start end out last next

-- a unit stands next, and there is room for it
pub record Turn (w : Way) (rec : List ℕ) (next base at : ℕ) (out : List ℕ) : Type 0 where
  pub b : Base
  pub u : Unit
  pub cut : (next + 2 < length rec) × (next + (3 + get_or rec (next + 2) 0) ≤ length rec)
  pub has : {n : ℕ} → Ends rec next n → IsUnit (bytes_in rec next n) base b u
  pub fits : Fits w (byte "-" ∷ unit_text b u) at out

module _ {w : Way} {rec : List ℕ} {from base at : ℕ} {old : List ℕ} (f : UnitsFit w rec from base at old) where
  pub first_cut : (from + 2 < length rec) × (from + (3 + get_or rec (from + 2) 0) ≤ length rec)
  first_cut = head_fits (first_stands f.has)

  module _ {n : ℕ} (e : Ends rec from n) where
    pub first_fits : UnitFits w (bytes_in rec from n) base at old
    unfolding units_text
    first_fits = record { b = f.b; u = f.i; has = first_is f.has e; fits = fits_first (unit_text f.b f.i) (dashed f.b f.l) f.fits }

    pub turn : {sp end last next t : ℕ} {start out : List ℕ} → PutUnit w (bytes_in rec from n) base at old sp start → Putting w rec from base sp start end out last next
        → t ≡ tag_of (drop next rec) → numeral_tag ≤ t → Turn w rec next base end out
    unfolding units_text
    turn p m q t =
        let g = m.laid f.b f.i f.l f.rest f.has in
        let x = here g.j g.left g.going q t in
        let h = rw x.total at (fits_next (unit_text f.b f.i) (dashed f.b f.l) f.fits (p f.b f.i (first_is f.has e))) in
        record {
          b = f.b;
          u = x.u;
          cut = head_fits (first_stands x.has);
          has = λ z. first_is x.has z;
          fits = fits_first (byte "-" ∷ unit_text f.b x.u) (dashed f.b x.more) (fits_next g.done (dashed f.b (x.u ∷ x.more)) h g.put);
        }

pub turn_fits : {w : Way} {rec : List ℕ} {next base at n : ℕ} {out : List ℕ} → Turn w rec next base at out → Ends rec next n
    → DashedFits w (bytes_in rec next n) base at out
turn_fits t e = record { b = t.b; u = t.u; has = t.has e; fits = t.fits }

pub putting_start : (w : Way) (rec : List ℕ) (from base at : ℕ) (start : List ℕ) {n : ℕ} → Ends rec from n → Putting w rec from base at start at start from n
putting_start w rec from base at start e = record { laid = λ b i l rest h. record { done = []; j = i; left = l; going = going_start h e; put = nothing_put w start at } }

module _ {w : Way} {rec : List ℕ} {from base at end last next t : ℕ} {start out : List ℕ} (v : Putting w rec from base at start end out last next)
    (e : t ≡ tag_of (drop next rec)) where
  pub putting_more : {n r : ℕ} {new : List ℕ} → numeral_tag ≤ t → Ends rec next n → PutDashed w (bytes_in rec next n) base end out r new
      → Putting w rec from base at start r new next n
  putting_more t z p = record {
    laid = λ b i l rest h.
        let g = v.laid b i l rest h in
        let x = here g.j g.left g.going e t in
        let D : List ℕ = byte "-" ∷ unit_text b x.u in
        record { done = g.done ++ D; j = x.u; left = x.more; going = here_more x z; put = both_put g.done D g.put (p b x.u (first_is x.has z)) };
  }

  pub units_put : {n first : ℕ} {old : List ℕ} → t < numeral_tag → Ends rec from n → PutUnit w (bytes_in rec from n) base first old at start
      → PutUnits w rec from base first old (record { put = record { end = end; next = next }; last = last }) out
  unfolding units_text
  units_put t z p = λ b i l rest h.
      let g = v.laid b i l rest h in
      let a = all_laid g.j g.left g.going e t in
      (a.1, both_put (unit_text b i) (dashed b l) (p b i (first_is h z)) (rw a.0 g.put))

-- ---- a unit behind a `-`

module _ {w : Way} {p : List ℕ} {base at : ℕ} {old : List ℕ} where
  pub dash_fits : DashedFits w p base at old → Fits w (byte "-" ∷ []) at old
  dash_fits f = fits_first (byte "-" ∷ []) (unit_text f.b f.u) f.fits

  module _ {q : ℕ} {mid : List ℕ} (x : Puts w (byte "-" ∷ []) at old q mid) where
    pub unit_fits : DashedFits w p base at old → UnitFits w p base q mid
    unit_fits f = record { b = f.b; u = f.u; has = f.has; fits = fits_next (byte "-" ∷ []) (unit_text f.b f.u) f.fits x }

    pub dashed_put : {r : ℕ} {new : List ℕ} → PutUnit w p base q mid r new → PutDashed w p base at old r new
    dashed_put y b u h = both_put (byte "-" ∷ []) (unit_text b u) x (y b u h)
