-- The elements that are done and those that are left make the text of the value; the tag of what stands there says whether any are left.
use Prim.Native.Nat.{◌+◌, ◌<◌, ◌≤◌, ℕ}
use borrow.Author.Tests.{eqb-true}
use lib.ListN.{drop, length, length-append}
use lib.Seq.{take_at}
use mathlib.Core.Bool.{false≢true, true}
use mathlib.Core.List.{List, [], ◌++◌, ◌∷◌, append_assoc, append-nil}
use mathlib.Core.Option.{Option, none, some}
use mathlib.Core.Path.{◌∙◌, ◌≡◌, ap, refl, subst, sym}
use native.Mathlib.Nat.{add-sub_cancel_left}
use native.Mathlib.Omega.{arith}
use Rattle.laws.specs.Cases.{and_l, and_r}
use Rattle.laws.specs.Lists.{all}
use Rattle.print_unit.proofs.ChainLaws.{both_put, fits_first, fits_next, nothing_put}
use Rattle.print_unit.specs.Ways.{Way, Puts}
use Rattle.rules.proofs.FieldLaws.{bytes_append, bytes_cons}
use Rattle.rules.proofs.ValueBack.{v_all}
use Rattle.rules.specs.Commands.{Element, last_unit, leading, range, single}
use Rattle.rules.specs.Printing.{Link, dash_links, first_unit, is_short, later_links, lex_text, links_lex, render, rest_links, tail_links, unit_lex, value_lex}
use Rattle.rules.specs.Records.{bytes_of, element_fields, many, numeral_tag, single_tag}
use Rattle.rules.specs.Units.{Base}
use Rattle.rules.specs.WellFormed.{wf_element}
use Rattle.record_walk.proofs.RunLaws.{drop_behind, stands_inside}
use Rattle.record_walk.specs.Fronts.{tag_of}
use Rattle.print_value.proofs.ElementLaws.{element_size, head_inside, leading_is, links_text, some_head}
use Rattle.print_value.specs.Values.{ElementFits, IsElement, IsValue, LaidElement, PutElement, PutValue, Stood, ValueFits, element_text, head_size, unit_bytes}
use Rattle.print_value.specs.declared.Laid.{Laid}

abbrev pub value_bytes : List Element → List ℕ
value_bytes es = bytes_of (many element_fields es)

-- the text of the elements behind e
abbrev pub more_text : Base → Element → List Element → List ℕ
more_text b e es = render (links_lex b (rest_links e es))

more_step : (b : Base) (e₀ e : Element) (es : List Element) → more_text b e₀ (e ∷ es) ≡ element_text b (some e₀) e ++ more_text b e es
unfolding element_text
more_step b e₀ e es = links_text b (later_links (is_short e₀ e) e) (rest_links e es)

value_step : (b : Base) (e : Element) (es : List Element) → render (value_lex b (e ∷ es)) ≡ element_text b none e ++ more_text b e es
unfolding element_text
value_step b e es =
    let i : List ℕ = lex_text (unit_lex b (first_unit (leading e) (last_unit e))) in
    let D : List Link = dash_links (leading e) (last_unit e) ++ tail_links e in
    ap (λ (r : List ℕ). i ++ r) (links_text b D (rest_links e es)) ∙ sym (append_assoc i (render (links_lex b D)) (more_text b e es))

-- what is left of the value v: the element e at `at`, behind `before`, and es; what is done has the text `done`
pub record Walking (rec : List ℕ) (from : ℕ) (b : Base) (v : List Element) (rest : List ℕ) (at lead until : ℕ) (done : List ℕ)
    (before : Option Element) (e : Element) (es : List Element) : Type 0 where
  pub n : ℕ
  pub total : render (value_lex b v) ≡ done ++ (element_text b before e ++ more_text b e es)
  pub is : drop at rec ≡ value_bytes (e ∷ es) ++ rest
  pub good : all (wf_element b n) (e ∷ es) ≡ true
  pub stood : Stood rec from at lead until before e
  pub ends : at + length (value_bytes (e ∷ es)) ≡ from + length (value_bytes v)
  pub inside : at ≤ length rec
  pub onward : from ≤ at

pub walking_start : {rec : List ℕ} {from base : ℕ} {b : Base} {rest : List ℕ} (v : List Element) → IsValue rec from base b v rest
    → (e : Element) × (es : List Element) × Walking rec from b v rest from from from [] none e es
walking_start [] h = absurd (false≢true (sym h.some))
walking_start {b = b} (e ∷ es) h = (
  e,
  es,
  record {
    n = length (leading e);
    total = value_step b e es;
    is = h.is;
    good = v_all b e es h.good;
    stood = record { same = refl; low = omega arith; high = h.inside };
    ends = refl;
    inside = h.inside;
    onward = omega arith;
  },
)

many_units : (b : Base) (n : ℕ) (e : Element) → wf_element b n e ≡ true → length (leading e) ≡ n
many_units b n e h = search (and_l, eqb-true)

pub element_tag : (e : Element) (es : List Element) (rest : List ℕ) → (single_tag ≤ tag_of (value_bytes (e ∷ es) ++ rest)) × (tag_of (value_bytes (e ∷ es) ++ rest) < numeral_tag)
element_tag (single l u) es rest = (omega arith, omega arith)
element_tag (range l r lo up inc) es rest = (omega arith, omega arith)

no_unit : (es : List Element) (rest : List ℕ) → tag_of rest < single_tag → tag_of (value_bytes es ++ rest) < numeral_tag
no_unit [] rest h = omega arith
no_unit (e ∷ es) rest h = (element_tag e es rest).1

sizes : (e : Element) (es : List Element) → length (value_bytes (e ∷ es)) ≡ length (bytes_of (element_fields e)) + length (value_bytes es)
sizes e es = ap length (bytes_append (element_fields e) (many element_fields es)) ∙ length-append (bytes_of (element_fields e)) (value_bytes es)

module _ {rec : List ℕ} {from base : ℕ} {b : Base} {v : List Element} {rest : List ℕ} (h : IsValue rec from base b v rest)
    {at lead until : ℕ} {done : List ℕ} {before : Option Element} {e : Element} where
  module _ {es : List Element} (w : Walking rec from b v rest at lead until done before e es) where
    first_good : wf_element b w.n e ≡ true
    first_good = search (and_l, w.good)

    pub here_is : IsElement rec at base b e (value_bytes es ++ rest)
    here_is = record {
      under = h.under;
      is = w.is ∙ bytes_cons element_fields e es rest;
      good = subst (λ (n : ℕ). wf_element b n e ≡ true) (sym (many_units b w.n e first_good)) first_good;
      ends = no_unit es rest h.ends;
      inside = w.inside;
    }

    here_inside : at + length (bytes_of (element_fields e)) ≤ length rec
    here_inside = stands_inside rec at (bytes_of (element_fields e)) (value_bytes es ++ rest) here_is.is w.inside

    here_on : at < at + length (bytes_of (element_fields e))
    here_on = omega (arith, element_size e, some_head e)

    beyond : {n : ℕ} → n ≡ at + length (bytes_of (element_fields e)) → drop n rec ≡ value_bytes es ++ rest
    beyond q = rw q (drop_behind rec at (bytes_of (element_fields e)) (value_bytes es ++ rest) here_is.is)

  module _ {r : Laid} (p : LaidElement at e r) {t : ℕ} (q : t ≡ tag_of (drop r.put.next rec)) where
    -- it is the last one
    value_laid : (es : List Element) → Walking rec from b v rest at lead until done before e es → t < single_tag
        → (render (value_lex b v) ≡ done ++ element_text b before e) × (r.put.next ≡ from + length (value_bytes v))
    value_laid [] w m =
        let T : List ℕ = element_text b before e in
        (w.total ∙ rw (append-nil T), p.next ∙ omega (arith, w.ends, sizes e []))
    value_laid (e' ∷ es) w m = absurd (omega (arith, ap tag_of (beyond w p.next), (element_tag e' es rest).0))

    -- another one stands there
    pub walking_more : (es : List Element) → Walking rec from b v rest at lead until done before e es → single_tag ≤ t
        → (e' : Element) × (es' : List Element) × Walking rec from b v rest r.put.next r.lead r.until (done ++ element_text b before e) (some e) e' es'
    walking_more [] w m = absurd (omega (arith, ap tag_of (beyond w p.next), h.ends))
    walking_more (e' ∷ es) w m =
        let T : List ℕ = element_text b before e in
        let l : List ℕ = unit_bytes (leading e) in
        let f : ℕ = at + head_size e in
        let u : List ℕ = unit_bytes (last_unit e ∷ []) ++ (value_bytes (e' ∷ es) ++ rest) in
        let d : drop f rec ≡ l ++ u = leading_is (here_is w) in
        let g : all (wf_element b w.n) (e' ∷ es) ≡ true = and_r (wf_element b w.n e) (all (wf_element b w.n) (e' ∷ es)) w.good in
        let m : length (leading e') ≡ w.n = many_units b w.n e' (search (and_l, g)) in (
          e',
          es,
          record {
            n = w.n;
            total = w.total ∙ sym (append_assoc done T (more_text b e (e' ∷ es))) ∙ ap (λ (x : List ℕ). (done ++ T) ++ x) (more_step b e e' es);
            is = beyond w p.next;
            good = g;
            stood = record {
              past = omega (arith, p.next, here_on w, w.onward);
              low = omega (arith, p.lead, p.until);
              high = omega (arith, p.until, stands_inside rec f l u d (head_inside (here_is w)));
              bytes = rw (p.lead, p.until, add-sub_cancel_left f (length l), d) (take_at l u (length l) refl);
              many = many_units b w.n e (first_good w) ∙ sym m;
            };
            ends = omega (arith, p.next, w.ends, sizes e (e' ∷ es));
            inside = omega (arith, p.next, here_inside w);
            onward = omega (arith, p.next, here_on w, w.onward);
          },
        )

-- ---- the loop

-- the walk, where what is put begins at `at` of the buffer `start`
record Walked (w : Way) (rec : List ℕ) (from : ℕ) (b : Base) (v : List Element) (rest : List ℕ) (at : ℕ) (start : List ℕ) (d : Laid) (out : List ℕ) : Type 0 where
  done : List ℕ
  before : Option Element
  e : Element
  es : List Element
  walk : Walking rec from b v rest d.put.next d.lead d.until done before e es
  put : Puts w done at start d.put.end out

pub record Laying (w : Way) (rec : List ℕ) (from base at : ℕ) (start : List ℕ) (d : Laid) (out : List ℕ) : Type 0 where
  laid : (b : Base) (v : List Element) (rest : List ℕ) → IsValue rec from base b v rest → Walked w rec from b v rest at start d out

pub laying_start : (w : Way) (rec : List ℕ) (from base at : ℕ) (start : List ℕ)
    → Laying w rec from base at start (record { put = record { end = at; next = from }; lead = from; until = from }) start
laying_start w rec from base at start = record {
  laid = λ b v rest h. let x = walking_start v h in record { done = []; before = none; e = x.0; es = x.1; walk = x.2; put = nothing_put w start at };
}

module _ {w : Way} {rec : List ℕ} {from base at : ℕ} {start : List ℕ} {d : Laid} {out : List ℕ} (m : Laying w rec from base at start d out) where
  module _ (f : ValueFits w rec from base at start) where
    -- there is room for the element that stands there
    pub here_fits : ElementFits w rec from d base out
    here_fits =
        let x = m.laid f.b f.v f.rest f.has in
        let T : List ℕ = element_text f.b x.before x.e in
        record {
          b = f.b;
          before = x.before;
          e = x.e;
          rest = value_bytes x.es ++ f.rest;
          has = here_is f.has x.walk;
          stood = x.walk.stood;
          fits = fits_first T (more_text f.b x.e x.es) (fits_next x.done (T ++ more_text f.b x.e x.es) (rw x.walk.total at f.fits) x.put);
        }

    -- where the next one stands
    pub here_laid : {r : Laid} {new : List ℕ} → PutElement w rec from d base out r new → (d.put.next < r.put.next) × (r.put.next ≤ length rec)
    here_laid p =
        let x = m.laid f.b f.v f.rest f.has in
        let q = (p f.b x.before x.e (value_bytes x.es ++ f.rest) (here_is f.has x.walk) x.walk.stood).0 in
        (omega (arith, q.next, here_on f.has x.walk), omega (arith, q.next, here_inside f.has x.walk))

  module _ {r : Laid} {new : List ℕ} {t : ℕ} (p : PutElement w rec from d base out r new) (e : t ≡ tag_of (drop r.put.next rec)) where
    pub laying_more : single_tag ≤ t → Laying w rec from base at start r new
    laying_more t = record {
      laid = λ b v rest h.
          let x = m.laid b v rest h in
          let T : List ℕ = element_text b x.before x.e in
          let q = p b x.before x.e (value_bytes x.es ++ rest) (here_is h x.walk) x.walk.stood in
          let y = walking_more h q.0 e x.es x.walk t in
          record { done = x.done ++ T; before = some x.e; e = y.0; es = y.1; walk = y.2; put = both_put x.done T x.put q.1 };
    }

    pub value_put : t < single_tag → PutValue w rec from base at start r.put new
    value_put t = λ b v rest h.
        let x = m.laid b v rest h in
        let q = p b x.before x.e (value_bytes x.es ++ rest) (here_is h x.walk) x.walk.stood in
        let a = value_laid h q.0 e x.es x.walk t in
        (a.1, rw a.0 (both_put x.done (element_text b x.before x.e) x.put q.1))
