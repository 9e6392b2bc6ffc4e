-- An element in its pieces: what stands before it, the units that are printed, the end of a range.
use Prim.Native.Nat.{◌+◌, ◌-◌, ◌<◌, ◌≤◌, ℕ}
use borrow.Author.Tests.{eq-eqb, ne_eqb}
use lib.ListN.{drop, get_or, length, length-append}
use mathlib.Core.Bool.{false, true}
use mathlib.Core.List.{List, [], ◌++◌, ◌∷◌, append_assoc, append-nil}
use mathlib.Core.Option.{Option, none, some}
use mathlib.Core.Path.{◌∙◌, ◌≡◌, ap, refl, subst, sym}
use native.Mathlib.Omega.{arith}
use Rattle.laws.specs.Cases.{by_bool}
use Rattle.laws.specs.Lists.{all, all_append}
use Rattle.rules.proofs.RoundTrip.{links_append}
use Rattle.rules.proofs.ValueBack.{ok_last, ok_lead}
use Rattle.rules.specs.Characters.{byte}
use Rattle.rules.specs.Commands.{Element, last_unit, leading, range, single}
use Rattle.rules.specs.Printing.{Link, dash_links, drop_sep, first_unit, full_links, is_short, lex_text, links_lex, render, tail_links, unit_lex, unit_text}
use Rattle.rules.specs.Records.{Field, bytes_of, element_fields, field, field_bytes, four_bytes, range_tag, single_tag, unit_field}
use Rattle.rules.specs.Tokens.{Lex}
use Rattle.rules.specs.Units.{Base, Unit, identifier, keyed, num, symbolic, text}
use Rattle.rules.specs.WellFormed.{wf_unit}
use Rattle.record_walk.proofs.RunLaws.{drop_behind, stands_inside}
use Rattle.record_walk.proofs.WalkLaws.{tag_there}
use Rattle.record_walk.specs.Fronts.{tag_of}
use Rattle.print_value.proofs.ShortLaws.{short_is, short_same, span}
use Rattle.print_value.specs.Joints.{joint_text, printed_from}
use Rattle.print_value.specs.declared.Joint.{Joint}
use Rattle.print_value.specs.declared.Joint.TheVariants.{Start, Full, Short}
use Rattle.print_value.specs.Values.{IsElement, IsUnits, Stood, dashed, element_text, head_length, head_size, joint_at, last_at, short_at, unit_bytes, units_text}

-- ---- where its pieces stand

abbrev pub head_field : Element → Field
head_field (single l u) = field single_tag []
head_field (range l r lo up inc) = field range_tag (four_bytes up ++ four_bytes inc)

-- the units behind the first
abbrev pub others : List Unit → Unit → List Unit
others [] u = []
others (i ∷ l) u = l ++ (u ∷ [])

units_split : (l : List Unit) (u : Unit) → l ++ (u ∷ []) ≡ first_unit l u ∷ others l u
units_split [] u = refl
units_split (i ∷ l) u = refl

element_bytes_lem : (e : Element) (rest : List ℕ) → bytes_of (element_fields e) ++ rest ≡ field_bytes (head_field e) ++ (unit_bytes (leading e ++ (last_unit e ∷ [])) ++ rest)
element_bytes_lem (single l u) rest = refl
element_bytes_lem (range l r lo up inc) rest = refl

pub element_size : (e : Element) → length (bytes_of (element_fields e)) ≡ head_size e + length (unit_bytes (leading e ++ (last_unit e ∷ [])))
element_size (single l u) = omega arith
element_size (range l r lo up inc) = omega arith

pub some_head : (e : Element) → 3 ≤ head_size e
some_head (single l u) = omega arith
some_head (range l r lo up inc) = omega arith

head_long : (e : Element) → length (field_bytes (head_field e)) ≡ head_size e
head_long (single l u) = refl
head_long (range l r lo up inc) = refl

head_tag_lem : (e : Element) (rest : List ℕ) → head_length (tag_of (field_bytes (head_field e) ++ rest)) ≡ head_size e
unfolding head_length
head_tag_lem (single l u) rest = refl
head_tag_lem (range l r lo up inc) rest = refl

units_bytes : (k l : List Unit) → unit_bytes (k ++ l) ≡ unit_bytes k ++ unit_bytes l
units_bytes [] l = refl
units_bytes (i ∷ k) l = rw (units_bytes k l) (sym (append_assoc (field_bytes (unit_field i)) (unit_bytes k) (unit_bytes l)))

last_at_lem : (at : ℕ) (l : List Unit) (u : Unit) → last_at at (first_unit l u) (others l u) ≡ at + length (unit_bytes l)
last_at_lem at [] u = omega arith
last_at_lem at (i ∷ []) u = omega (arith, length-append (field_bytes (unit_field i)) [])
last_at_lem at (i ∷ j ∷ l) u =
    let f : List ℕ = field_bytes (unit_field i) in
    last_at_lem (at + length f) (j ∷ l) u ∙ omega (arith, length-append f (unit_bytes (j ∷ l)))

module _ {rec : List ℕ} {at base : ℕ} {b : Base} {e : Element} {rest : List ℕ} (h : IsElement rec at base b e rest) where
  whole_is : drop at rec ≡ field_bytes (head_field e) ++ (unit_bytes (leading e ++ (last_unit e ∷ [])) ++ rest)
  whole_is = h.is ∙ element_bytes_lem e rest

  pub head_inside : at + head_size e ≤ length rec
  head_inside =
      omega (arith, stands_inside rec at (field_bytes (head_field e)) (unit_bytes (leading e ++ (last_unit e ∷ [])) ++ rest) whole_is h.inside, head_long e)

  pub own_inside : at < length rec
  own_inside = omega (arith, head_inside, some_head e)

  pub head_is : {t : ℕ} → t ≡ get_or rec at 0 → head_length t ≡ head_size e
  head_is q =
      rw (q, ← tag_there rec at)
      (ap (λ (r : List ℕ). head_length (tag_of r)) whole_is ∙ head_tag_lem e (unit_bytes (leading e ++ (last_unit e ∷ [])) ++ rest))

  units_is : drop (at + head_size e) rec ≡ unit_bytes (leading e ++ (last_unit e ∷ [])) ++ rest
  units_is = rw (← head_long e) (drop_behind rec at (field_bytes (head_field e)) (unit_bytes (leading e ++ (last_unit e ∷ [])) ++ rest) whole_is)

  pub leading_is : drop (at + head_size e) rec ≡ unit_bytes (leading e) ++ (unit_bytes (last_unit e ∷ []) ++ rest)
  leading_is = units_is ∙ rw (units_bytes (leading e) (last_unit e ∷ [])) (append_assoc (unit_bytes (leading e)) (unit_bytes (last_unit e ∷ [])) rest)

  last_good : wf_unit b (last_unit e) ≡ true
  last_good = ok_last b (length (leading e)) e h.good

  -- all units, from the first one on
  pub full_units : IsUnits rec (at + head_size e) base b (first_unit (leading e) (last_unit e)) (others (leading e) (last_unit e)) rest
  full_units = record {
    under = h.under;
    is = units_is ∙ rw (units_split (leading e) (last_unit e));
    good = subst (λ (us : List Unit). all (wf_unit b) us ≡ true) (units_split (leading e) (last_unit e)) (all_append (wf_unit b) (leading e) (last_unit e ∷ []) (ok_lead b (length (leading e)) e h.good) (rw last_good));
    ends = h.ends;
    inside = head_inside;
  }

  -- the last unit alone
  pub last_unit_lem : IsUnits rec (at + head_size e + length (unit_bytes (leading e))) base b (last_unit e) [] rest
  last_unit_lem = record {
    under = h.under;
    is = drop_behind rec (at + head_size e) (unit_bytes (leading e)) (unit_bytes (last_unit e ∷ []) ++ rest) leading_is;
    good = rw last_good;
    ends = h.ends;
    inside = stands_inside rec (at + head_size e) (unit_bytes (leading e)) (unit_bytes (last_unit e ∷ []) ++ rest) leading_is head_inside;
  }

-- ---- the text of the units

lex_text_lem : (b : Base) (i : Unit) → lex_text (unit_lex b i) ≡ unit_text b i
lex_text_lem b (num r f v) = refl
lex_text_lem b (keyed w) = refl
lex_text_lem b (identifier w) = refl
lex_text_lem b (symbolic w) = refl
lex_text_lem b (text w) = refl

dashes : (b : Base) (l : List Unit) (u : Unit) → render (links_lex b (dash_links l u)) ≡ dashed b (others l u)
dashes b [] u = refl
dashes b (i ∷ []) u = rw (lex_text_lem b u)
dashes b (i ∷ j ∷ l) u = rw (lex_text_lem b j, dashes b (j ∷ l) u)

pub render_append : (xs ys : List Lex) → render (xs ++ ys) ≡ render xs ++ render ys
render_append [] ys = refl
render_append (x ∷ xs) ys = ap (λ (l : List ℕ). lex_text x ++ l) (render_append xs ys) ∙ sym (append_assoc (lex_text x) (render xs) (render ys))

pub links_text : (b : Base) (xs ys : List Link) → render (links_lex b (xs ++ ys)) ≡ render (links_lex b xs) ++ render (links_lex b ys)
links_text b xs ys = ap render (links_append b xs ys) ∙ render_append (links_lex b xs) (links_lex b ys)

abbrev pub tail_text : Base → Element → List ℕ
tail_text b e = render (links_lex b (tail_links e))

full_text : (b : Base) (e : Element)
    → render (drop_sep (links_lex b (full_links e))) ≡ units_text b (first_unit (leading e) (last_unit e)) (others (leading e) (last_unit e)) ++ tail_text b e
unfolding units_text
full_text b e =
    let i : Unit = first_unit (leading e) (last_unit e) in
    let D : List Link = dash_links (leading e) (last_unit e) in
    rw (lex_text_lem b i, links_text b D (tail_links e), dashes b (leading e) (last_unit e))
    (sym (append_assoc (unit_text b i) (dashed b (others (leading e) (last_unit e))) (tail_text b e)))

-- what stands before the element, its printed units, and where they stand
pub record Printed (rec : List ℕ) (at base : ℕ) (b : Base) (before : Option Element) (e : Element) (rest : List ℕ) (j : Joint) (begin : ℕ) : Type 0 where
  pub i : Unit
  pub l : List Unit
  pub has : IsUnits rec begin base b i l rest
  pub is : element_text b before e ≡ (joint_text j ++ units_text b i l) ++ tail_text b e
  pub last : last_at begin i l ≡ at + head_size e + length (unit_bytes (leading e))
  pub next : begin + length (unit_bytes (i ∷ l)) ≡ at + length (bytes_of (element_fields e))

module _ {rec : List ℕ} {at base : ℕ} {b : Base} {e : Element} {rest : List ℕ} (h : IsElement rec at base b e rest) where
  -- from its first unit on
  full : (before : Option Element) (j : Joint)
      → element_text b before e ≡ (joint_text j ++ units_text b (first_unit (leading e) (last_unit e)) (others (leading e) (last_unit e))) ++ tail_text b e
      → Printed rec at base b before e rest j (at + head_size e)
  full before j t =
      record {
        i = first_unit (leading e) (last_unit e);
        l = others (leading e) (last_unit e);
        has = full_units h;
        is = t;
        last = last_at_lem (at + head_size e) (leading e) (last_unit e);
        next = omega (arith, element_size e, ap (λ (us : List Unit). length (unit_bytes us)) (units_split (leading e) (last_unit e)));
      }

  first_printed : Printed rec at base b none e rest Start (at + head_size e)
  unfolding element_text
  first_printed = full none Start (full_text b e)

  full_printed : (e₀ : Element) → is_short e₀ e ≡ false → Printed rec at base b (some e₀) e rest Full (at + head_size e)
  unfolding element_text
  full_printed e₀ y = full (some e₀) Full (rw y (ap (λ (r : List ℕ). byte "&" ∷ r) (full_text b e)))

  short_printed : (e₀ : Element) → is_short e₀ e ≡ true → Printed rec at base b (some e₀) e rest Short (at + head_size e + length (unit_bytes (leading e)))
  unfolding element_text units_text
  short_printed e₀ y =
      record {
        i = last_unit e;
        l = [];
        has = last_unit_lem h;
        is = rw (y, lex_text_lem b (last_unit e), append-nil (unit_text b (last_unit e)));
        last = refl;
        next = omega (arith, element_size e, ap length (units_bytes (leading e) (last_unit e ∷ [])), length-append (unit_bytes (leading e)) (unit_bytes (last_unit e ∷ [])));
      }

  pub printed : (from lead until : ℕ) {first begin : ℕ} {j : Joint} (before : Option Element) → Stood rec from at lead until before e → first ≡ at + head_size e
      → j ≡ joint_at rec from at first lead until → begin ≡ printed_from j first lead until → Printed rec at base b before e rest j begin
  unfolding joint_at
  printed from lead until none s q p r = rw (r, p, eq-eqb at from s.same, q) first_printed
  printed from lead until {first} (some e₀) s q p r =
      let d : drop first rec ≡ unit_bytes (leading e) ++ (unit_bytes (last_unit e ∷ []) ++ rest) = rw q (leading_is h) in
      let c : short_at rec first lead until ≡ is_short e₀ e = short_is s first (unit_bytes (last_unit e ∷ []) ++ rest) d in
      let z : at ≡ from → ⊥ = λ w. omega (arith, s.past) in
      rw (r, p) (by_bool (is_short e₀ e)
      (λ y.
      let w : first + (until - lead) ≡ at + head_size e + length (unit_bytes (leading e)) =
      omega (arith, q, span s, ap (λ (us : List Unit). length (unit_bytes us)) (short_same e₀ e y)) in
      rw (ne_eqb at from z, c, y, w) (short_printed e₀ y))
      (λ y. rw (ne_eqb at from z, c, y, q) (full_printed e₀ y)))
