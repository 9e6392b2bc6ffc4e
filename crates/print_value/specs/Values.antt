-- Values, elements and units as they stand in a record, and what is written for them.
use Rattle.std.specs.Prelude.{◌≡◌, Bool, true, false, cond, not, ◌&&◌, List, [], ◌∷◌, ◌++◌, map, ℕ, ◌+◌, ◌≤◌, ◌<◌, eqb, ltb, length, get_or, drop}
use Rattle.std.proofs.Math.Option.{Option, none, some}
use Rattle.laws.specs.Cases.{pick}
use Rattle.laws.specs.Lists.{all, is_nil}
use Rattle.rules.specs.Characters.{byte}
use Rattle.rules.specs.Units.{Base, letter, Unit}
use Rattle.rules.specs.Commands.{Element, single, range, leading}
use Rattle.rules.specs.Records.{single_tag, range_tag, numeral_tag, num4, unit_field, element_fields, many, field_bytes, bytes_of}
use Rattle.rules.specs.WellFormed.{wf_unit, wf_element, wf_value}
use Rattle.rules.specs.Printing.{unit_text, full_links, later_links, is_short, links_lex, drop_sep, value_lex, render}
use Rattle.record_walk.specs.Fronts.{tag_of}
use Rattle.record_walk.specs.Runs.{bytes_in}
use Rattle.print_unit.specs.Texts.{numeral_text}
use Rattle.print_unit.specs.Ways.{Way, Fits, Puts}
use Rattle.print_unit.specs.Units.{header_size, letter_at, IsUnit}
use Rattle.print_value.specs.Begins.{begins}
use Rattle.print_value.specs.Joints.{joint_text}
use Rattle.print_value.specs.declared.Joint.{Joint}
use Rattle.print_value.specs.declared.Joint.TheVariants.{Start, Full, Short}
use Rattle.print_value.specs.declared.Units.{Units}
use Rattle.print_value.specs.declared.Laid.{Laid}
use Rattle.print_value.specs.declared.Put.{Put}

-- ---- the units of an argument

abbrev pub unit_bytes : List Unit → List ℕ
unit_bytes us = bytes_of (map unit_field us)

-- the units behind the first, each behind a `-`
abbrev pub dashed : Base → List Unit → List ℕ
dashed b [] = []
dashed b (i ∷ l) = byte "-" ∷ (unit_text b i ++ dashed b l)

unfoldable pub units_text : Base → Unit → List Unit → List ℕ
units_text b i l = unit_text b i ++ dashed b l

-- where the last of the units stands, the first of which stands at a position
abbrev pub last_at : ℕ → Unit → List Unit → ℕ
last_at at i [] = at
last_at at i (j ∷ l) = last_at (at + length (field_bytes (unit_field i))) j l

-- a unit's field, and room for its text behind a `-`
pub record DashedFits (w : Way) (p : List ℕ) (base at : ℕ) (old : List ℕ) : Type 0 where
  pub b : Base
  pub u : Unit
  pub has : IsUnit p base b u
  pub fits : Fits w (byte "-" ∷ unit_text b u) at old

abbrev pub PutDashed : Way → List ℕ → ℕ → ℕ → List ℕ → ℕ → List ℕ → Type 0
PutDashed w p base at old r new = (b : Base) (u : Unit) → IsUnit p base b u → Puts w (byte "-" ∷ unit_text b u) at old r new

-- from `from` on the record has the units i and l under the base b, whose letter is `base`, and behind them no unit
pub record IsUnits (rec : List ℕ) (from base : ℕ) (b : Base) (i : Unit) (l : List Unit) (rest : List ℕ) : Type 0 where
  pub under : base ≡ letter b
  pub is : drop from rec ≡ unit_bytes (i ∷ l) ++ rest
  pub good : all (wf_unit b) (i ∷ l) ≡ true
  pub ends : tag_of rest < numeral_tag
  pub inside : from ≤ length rec

-- .. and there is room for their text
pub record UnitsFit (w : Way) (rec : List ℕ) (from base at : ℕ) (old : List ℕ) : Type 0 where
  pub b : Base
  pub i : Unit
  pub l : List Unit
  pub rest : List ℕ
  pub has : IsUnits rec from base b i l rest
  pub fits : Fits w (units_text b i l) at old

pub record LaidUnits (from : ℕ) (i : Unit) (l : List Unit) (r : Units) : Type 0 where
  pub last : r.last ≡ last_at from i l
  pub next : r.put.next ≡ from + length (unit_bytes (i ∷ l))

abbrev pub PutUnits : Way → List ℕ → ℕ → ℕ → ℕ → List ℕ → Units → List ℕ → Type 0
PutUnits w rec from base at old r new =
    (b : Base) (i : Unit) (l : List Unit) (rest : List ℕ) → IsUnits rec from base b i l rest → LaidUnits from i l r × Puts w (units_text b i l) at old r.put.end new

-- ---- what stands before an argument

-- "the short form exactly where all leading unit fields equal those of the element before": the units of this one stand at `first`, the leading units of
-- the one before from `lead` to `until`
unfoldable pub short_at : List ℕ → ℕ → ℕ → ℕ → Bool
short_at rec first lead until = not (eqb lead until) && begins (drop first rec) (bytes_in rec lead until)

-- what stands before the element at `at` of the value that begins at `from`
unfoldable pub joint_at : List ℕ → ℕ → ℕ → ℕ → ℕ → ℕ → Joint
joint_at rec from at first lead until = pick (eqb at from) Start (pick (short_at rec first lead until) Short Full)

pub record ArgumentFits (w : Way) (rec : List ℕ) (j : Joint) (from base at : ℕ) (old : List ℕ) : Type 0 where
  pub b : Base
  pub i : Unit
  pub l : List Unit
  pub rest : List ℕ
  pub has : IsUnits rec from base b i l rest
  pub fits : Fits w (joint_text j ++ units_text b i l) at old

abbrev pub PutArgument : Way → List ℕ → Joint → ℕ → ℕ → ℕ → List ℕ → Units → List ℕ → Type 0
PutArgument w rec j from base at old r new =
    (b : Base) (i : Unit) (l : List Unit) (rest : List ℕ) → IsUnits rec from base b i l rest
    → LaidUnits from i l r × Puts w (joint_text j ++ units_text b i l) at old r.put.end new

-- ---- the end of a range

-- what stands before the upper end; behind a compound argument a `-` too
abbrev pub through_text : Bool → List ℕ
through_text compound = cond compound (byte "&" ∷ byte "&" ∷ byte "-" ∷ []) (byte "&" ∷ byte "&" ∷ [])

-- "no `++` for increment 1"
unfoldable pub increment_text : ℕ → ℕ → ℕ → List ℕ
increment_text base l inc = pick (eqb inc 1) [] ((byte "+" ∷ byte "+" ∷ []) ++ numeral_text base l 0 inc)

-- "upper and increment in the lower end's base", whose letter is l
unfoldable pub range_end : ℕ → ℕ → Bool → ℕ → ℕ → List ℕ
range_end base l compound up inc = (through_text compound ++ numeral_text base l 0 up) ++ increment_text base l inc

-- the bytes of a range's own field, and where it has its upper end and its increment
abbrev pub range_size : ℕ
range_size = 11

abbrev pub upper_at : ℕ
upper_at = 3

abbrev pub increment_at : ℕ
increment_at = 7

-- what stands behind the units of the element at `at`: they stand at `first`, the last of them at `last`
unfoldable pub end_at : List ℕ → ℕ → ℕ → ℕ → ℕ → List ℕ
end_at rec at first last base =
    pick (eqb (get_or rec at 0) range_tag) (range_end base (get_or rec (last + letter_at) 0) (ltb first last) (num4 rec (at + upper_at)) (num4 rec (at + increment_at))) []

-- .. and a range's field and its lower end have their size
pub record EndStands (rec : List ℕ) (at last : ℕ) : Type 0 where
  pub own : at < length rec
  pub head : get_or rec at 0 ≡ range_tag → at + range_size ≤ length rec
  pub lower : get_or rec at 0 ≡ range_tag → last + letter_at < length rec

-- ---- an element

-- the bytes of an element's own field, by its tag
unfoldable pub head_length : ℕ → ℕ
head_length t = pick (eqb t range_tag) range_size header_size

-- the bytes of its own field
abbrev pub head_size : Element → ℕ
head_size (single l u) = header_size
head_size (range l r lo up inc) = range_size

-- its text: the first of a value, or behind another element
unfoldable pub element_text : Base → Option Element → Element → List ℕ
element_text b none e = render (drop_sep (links_lex b (full_links e)))
element_text b (some e₀) e = render (links_lex b (later_links (is_short e₀ e) e))

-- at `at` the record has the element e under the base b, and behind it no unit
pub record IsElement (rec : List ℕ) (at base : ℕ) (b : Base) (e : Element) (rest : List ℕ) : Type 0 where
  pub under : base ≡ letter b
  pub is : drop at rec ≡ bytes_of (element_fields e) ++ rest
  pub good : wf_element b (length (leading e)) e ≡ true
  pub ends : tag_of rest < numeral_tag
  pub inside : at ≤ length rec

-- the element e₀ stands before e, as many leading units as e's from `lead` to `until`; the value begins at `from`, e stands at `at`
pub record Behind (rec : List ℕ) (from at lead until : ℕ) (e₀ e : Element) : Type 0 where
  pub past : from < at
  pub low : lead ≤ until
  pub high : until ≤ length rec
  pub bytes : bytes_in rec lead until ≡ unit_bytes (leading e₀)
  pub many : length (leading e₀) ≡ length (leading e)

-- nothing stands before the element at `at`
pub record Foremost (rec : List ℕ) (from at lead until : ℕ) : Type 0 where
  pub same : at ≡ from
  pub low : lead ≤ until
  pub high : until ≤ length rec

-- what stands before the element e of a value
abbrev pub Stood : List ℕ → ℕ → ℕ → ℕ → ℕ → Option Element → Element → Type 0
Stood rec from at lead until none e = Foremost rec from at lead until
Stood rec from at lead until (some e₀) e = Behind rec from at lead until e₀ e

-- the element behind the one that is laid as `d` says, and room for its text
pub record ElementFits (w : Way) (rec : List ℕ) (from : ℕ) (d : Laid) (base : ℕ) (old : List ℕ) : Type 0 where
  pub b : Base
  pub before : Option Element
  pub e : Element
  pub rest : List ℕ
  pub has : IsElement rec d.put.next base b e rest
  pub stood : Stood rec from d.put.next d.lead d.until before e
  pub fits : Fits w (element_text b before e) d.put.end old

pub record LaidElement (at : ℕ) (e : Element) (r : Laid) : Type 0 where
  pub lead : r.lead ≡ at + head_size e
  pub until : r.until ≡ at + head_size e + length (unit_bytes (leading e))
  pub next : r.put.next ≡ at + length (bytes_of (element_fields e))

abbrev pub PutElement : Way → List ℕ → ℕ → Laid → ℕ → List ℕ → Laid → List ℕ → Type 0
PutElement w rec from d base old r new =
    (b : Base) (before : Option Element) (e : Element) (rest : List ℕ) → IsElement rec d.put.next base b e rest → Stood rec from d.put.next d.lead d.until before e
    → LaidElement d.put.next e r × Puts w (element_text b before e) d.put.end old r.put.end new

-- ---- a value

-- from `from` on the record has the value v under the base b, whose letter is `base`, and behind it no element and no unit
pub record IsValue (rec : List ℕ) (from base : ℕ) (b : Base) (v : List Element) (rest : List ℕ) : Type 0 where
  pub under : base ≡ letter b
  pub is : drop from rec ≡ bytes_of (many element_fields v) ++ rest
  pub good : wf_value b v ≡ true
  pub some : is_nil v ≡ false
  pub ends : tag_of rest < single_tag
  pub inside : from ≤ length rec

pub record ValueFits (w : Way) (rec : List ℕ) (from base at : ℕ) (old : List ℕ) : Type 0 where
  pub b : Base
  pub v : List Element
  pub rest : List ℕ
  pub has : IsValue rec from base b v rest
  pub fits : Fits w (render (value_lex b v)) at old

abbrev pub PutValue : Way → List ℕ → ℕ → ℕ → ℕ → List ℕ → Put → List ℕ → Type 0
PutValue w rec from base at old r new =
    (b : Base) (v : List Element) (rest : List ℕ) → IsValue rec from base b v rest
    → (r.next ≡ from + length (bytes_of (many element_fields v))) × Puts w (render (value_lex b v)) at old r.end new
