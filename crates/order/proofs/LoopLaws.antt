-- The two loops over the row: what is measured or written so far, and what is left of the record, reduced, are the whole.
use mathlib.Core.Path.{◌≡◌, refl, ap, ◌∙◌, sym, subst}
use mathlib.Core.List.{List, [], ◌++◌, ◌∷◌, map, append-nil}
use Prim.Native.Nat.{ℕ, ◌+◌, ◌-◌, ◌≤◌, ◌<◌, ◌*◌}
use native.Mathlib.Omega.{arith}
use lib.ListN.{length, get_or, take, drop, length-append, length-drop}
use lib.Seq.{take_all}
use Rattle.laws.specs.Over.{over, part, back as given, back_over, length_over, length_part}
use Rattle.record_walk.proofs.RunLaws.{size_append}
use Rattle.record_walk.specs.Runs.{Whole, bytes_in}
use Rattle.order_argument.specs.Terms.{term_value, valued_bytes, argument_bytes, IsArgument}
use Rattle.order_argument.specs.declared.Argument.{Argument}
use Rattle.order_argument.proofs.TermLaws.{valued_short, units_bytes}
use Rattle.order.specs.Reduced.{parts_bytes, reduce, reduced, Part, kept, placed, part_fields, parts_of, reduced_place, order_bytes}
use Rattle.order.specs.Plans.{kept_mark, positions_in, Planned, Within, changed}
use Rattle.order.proofs.ReduceLaws.{bytes_long, Reducing, Turn, reducing_none, reducing_turn, reducing_all}
use native.Mathlib.Nat.{le_refl}
use lib.Dec.{ltb}
use Rattle.laws.specs.Cases.{by_bool}
use Rattle.rules.specs.Units.{num}
use Rattle.rules.specs.Commands.{Element, single, range, terms, Place, place}
use Rattle.rules.specs.Records.{Field, field, field_bytes, bytes_of, many, element_fields, place_fields, name_tag, head_bytes, head_size}
use Rattle.rules.specs.Orders.{term_at, argument_at, value_at}
use Rattle.rules.proofs.EncodeDecode.{IsBody, body_is}
use Rattle.rules.proofs.RecordBound.{most_body, body_size}
use Rattle.order.proofs.PartLaws.{parts_fields}

-- ---- an order is not longer than its record, since an argument is not longer than its element

term_short : (e : Element) (n : ℕ) → length (bytes_of (element_fields (term_at e n))) ≤ length (bytes_of (element_fields e))
term_short (single l u) n = omega arith
term_short (range l r lo up inc) n =
    omega (arith, simp length-append at (ap length (units_bytes l (num r 0 (lo + n * inc)))), simp length-append at (ap length (units_bytes l (num r 0 lo))))

nth_short : (e : Element) (es : List Element) (n : ℕ) → length (bytes_of (element_fields (argument_at e es n))) ≤ length (bytes_of (many element_fields (e ∷ es)))
nth_short e [] n = omega (arith, term_short e n, size_append (element_fields e) [])
nth_short e (f ∷ es) n =
    let j = size_append (element_fields e) (many element_fields (f ∷ es)) in
    by_bool (ltb n (terms e)) (λ h. rw (h, argument_at) (omega (arith, term_short e n))) (λ h. rw (h, argument_at) (omega (arith, nth_short f es (n - terms e))))

value_short : (v : List Element) (n : ℕ) → length (bytes_of (many element_fields (value_at v n))) ≤ length (bytes_of (many element_fields v))
value_short [] n = omega arith
value_short (e ∷ es) n = rw (append-nil (element_fields (argument_at e es n))) (nth_short e es n)

place_short : (p : Place) (n : ℕ) → length (bytes_of (place_fields (reduced_place p n))) ≤ length (bytes_of (place_fields p))
place_short (place b nm v) n =
    let ns : List Field = map (λ w. field name_tag w) nm in
    omega (arith, value_short v n, size_append ns (many element_fields v), size_append ns (many element_fields (value_at v n)))

-- without positions nothing is reduced
reduce_none : (ps : List Part) → reduce ps [] ≡ ps
reduce_none [] = refl
reduce_none (kept f ∷ ps) = ap (λ (l : List Part). kept f ∷ l) (reduce_none ps)
reduce_none (placed p ∷ ps) = ap (λ (l : List Part). placed p ∷ l) (reduce_none ps)

parts_short : (ps : List Part) (ns : List ℕ) → length (parts_bytes (reduce ps ns)) ≤ length (parts_bytes ps)
parts_short [] ns = omega arith
parts_short (kept f ∷ ps) ns =
    omega (arith, parts_short ps ns, length-append (field_bytes f) (parts_bytes (reduce ps ns)), length-append (field_bytes f) (parts_bytes ps))
parts_short (placed p ∷ ps) [] = rw (reduce_none ps) (le_refl (length (parts_bytes (placed p ∷ ps))))
parts_short (placed p ∷ ps) (n ∷ ns) =
    omega (arith, place_short p n, parts_short ps ns, size_append (place_fields (reduced_place p n)) (many part_fields (reduce ps ns)), size_append (place_fields p) (many part_fields ps))

-- ---- a record with its plan

module _ {rec row : List ℕ} (f : Planned rec row) where
  is_body : IsBody rec f.tree
  is_body = body_is rec f.tree f.is

  pub planned_short : length (reduced rec (positions_in row)) ≤ length rec
  unfolding reduced
  planned_short =
      let ns : List ℕ = positions_in row in
      let e : rec ≡ parts_bytes (parts_of f.tree) = sym is_body.bytes ∙ ap bytes_of (sym (parts_fields f.tree)) in
      rw f.is (subst (λ (x : List ℕ). length (parts_bytes (reduce (parts_of f.tree) ns)) ≤ length x) (sym e) (parts_short (parts_of f.tree) ns))

  abbrev whole : List ℕ
  whole = order_bytes rec (positions_in row)

  pub whole_long : length whole ≡ head_size + length (reduced rec (positions_in row))
  whole_long = length-append (head_bytes 1) (reduced rec (positions_in row))

  pub body_long : length rec ≤ most_body
  body_long = omega (arith, body_size f.tree is_body.well, ap length is_body.bytes)

  -- the record's length fits a number of the machine
  pub planned_length : head_size + length rec < 18446744073709551616
  planned_length = omega (arith, body_long)

  pub planned_fits : (old : List ℕ) → head_size + length rec ≤ length old → length whole ≤ length old
  planned_fits old h = omega (arith, planned_short, whole_long)

  pub planned_measured : {n : ℕ} → n ≡ length (reduced rec (positions_in row)) → head_size + n < 18446744073709551616
  planned_measured e = omega (arith, planned_short, body_long)

  -- the order's length fits an answer
  pub planned_small : {n : ℕ} → n ≡ length whole → n < 4294967296
  planned_small e = omega (arith, planned_short, whole_long, body_long)

  pub whole_over : (out : List ℕ) {o ys : List ℕ} → o ≡ over (head_bytes 1) out → ys ≡ over (reduced rec (positions_in row)) (part o head_size)
      → given o head_size ys ≡ over whole out
  whole_over out e q = back_over (head_bytes 1) (reduced rec (positions_in row)) out e refl q

-- ---- a changed value

module _ (rec : List ℕ) (at value : ℕ) (a : Argument) (w : Within rec at value a) where
  abbrev before : List ℕ
  before = bytes_in rec at value

  abbrev argument : List ℕ
  argument = argument_bytes (bytes_in rec a.start a.end) a.term

  before_long : length before ≡ value - at
  before_long = bytes_long rec at value w.behind (omega (arith, w))

  pub changed_long : {r : ℕ} → r ≡ length argument → value - at + r ≡ length (changed rec at value a)
  unfolding changed
  changed_long e = omega (arith, length-append before argument, before_long)

  -- an argument is not longer than its element, and both stand in the record
  pub changed_short : {r : ℕ} → r ≡ length argument → value - at + r ≤ length rec
  changed_short e =
      omega (arith, valued_short (bytes_in rec a.start a.end) (term_value (bytes_in rec a.start a.end) a.term), bytes_long rec a.start a.end w.end w.inside, w)

  module _ (out : List ℕ) (h : length (changed rec at value a) ≤ length out) where
    pub before_room : length before ≤ length out
    before_room = omega (arith, changed_long refl, before_long)

    module _ (o : List ℕ) (e : length o ≡ length out) where
      pub argument_start : value - at ≤ length o
      argument_start = omega (arith, changed_long refl)

      pub argument_room : length argument ≤ length (part o (value - at))
      argument_room = omega (arith, changed_long refl, length_part o (value - at))

  pub changed_over : (out : List ℕ) {o ys : List ℕ} → o ≡ over before out → ys ≡ over argument (part o (value - at)) → given o (value - at) ys ≡ over (changed rec at value a) out
  unfolding changed
  changed_over out e f = back_over before argument out e before_long f

-- ---- measured

-- `len` bytes are done
pub record Measuring (rec row : List ℕ) (at i len : ℕ) : Type 0 where
  pub done : List ℕ
  pub so : Reducing rec row at i done
  pub size : length done ≡ len
  pub front : len ≤ length (reduced rec (positions_in row))
  pub short : length (reduced rec (positions_in row)) ≤ length rec

-- what is done is a front of the whole
abbrev pub measured : {rec row : List ℕ} {at i len : ℕ} {done : List ℕ} → Reducing rec row at i done → length done ≡ len
    → length (reduced rec (positions_in row)) ≤ length rec → Measuring rec row at i len
measured {rec} {row} {at} {i} {len} {done} r e h =
    let x : List ℕ = parts_bytes (reduce r.parts r.ns) in
    let front : len ≤ length (reduced rec (positions_in row)) =
    omega (arith, ap length r.total, length-append (done ++ bytes_in rec at r.q) x, length-append done (bytes_in rec at r.q)) in
    record { done = done; so = r; size = e; front = front; short = h }

abbrev pub measuring_none : (rec row : List ℕ) → Planned rec row → Measuring rec row 0 0 0
measuring_none rec row f = measured (reducing_none rec row f) refl (planned_short f)

module _ {rec row : List ℕ} {at i len : ℕ} (v : Measuring rec row at i len) where
  -- and with what stands behind the last value it is the whole
  pub measuring_all : length row ≤ i → len + (length rec - at) ≡ length (reduced rec (positions_in row))
  measuring_all h = omega (arith, ap length (reducing_all v.so h), length-append v.done (drop at rec), length-drop at rec, v.size)

  module _ (h : i < length row) where
    pub measuring_value : Whole rec (get_or row (i + 1) 0)
    measuring_value = (reducing_turn v.so h).whole

    abbrev pub measuring_same : kept_mark ≤ get_or row i 0 → Measuring rec row at (i + 3) len
    measuring_same k = measured ((reducing_turn v.so h).same k) v.size v.short

    module _ {a : Argument} (p : IsArgument rec (get_or row (i + 1) 0) (get_or row i 0) a) where
      pub measuring_within : Within rec at (get_or row (i + 1) 0) a
      measuring_within =
          record { behind = (reducing_turn v.so h).behind; start = p.from; end = p.order; inside = p.inside; term = p.term }

      abbrev pub measuring_anew : get_or row i 0 < kept_mark → {m : ℕ} → m ≡ length (changed rec at (get_or row (i + 1) 0) a) → Measuring rec row (get_or row (i + 2) 0) (i + 3) (len + m)
      measuring_anew k e =
          measured ((reducing_turn v.so h).anew k p) (omega (arith, length-append v.done (changed rec at (get_or row (i + 1) 0) a), v.size)) v.short

      pub measuring_room : get_or row i 0 < kept_mark → {m : ℕ} → m ≡ length (changed rec at (get_or row (i + 1) 0) a) → len + m ≤ length rec
      measuring_room k e = omega (arith, measuring_anew k e)

-- ---- the length

-- of the record with its head, where the values up to the i-th number are reduced
pub record Sizing (rec row : List ℕ) (i len : ℕ) : Type 0 where
  pub at : ℕ
  pub done : ℕ
  pub so : Measuring rec row at i done
  pub is : len ≡ head_size + done + (length rec - at)

pub sizing_none : (rec row : List ℕ) → Planned rec row → Sizing rec row 0 (head_size + length rec)
sizing_none rec row f = record { at = 0; done = 0; so = measuring_none rec row f; is = omega arith }

module _ {rec row : List ℕ} {i len : ℕ} (z : Sizing rec row i len) where
  pub sizing_all : length row ≤ i → len ≡ length (order_bytes rec (positions_in row))
  sizing_all h = omega (arith, z.is, measuring_all z.so h, length-append (head_bytes 1) (reduced rec (positions_in row)))

  module _ (h : i < length row) where
    turn : Turn rec row z.at i (get_or row i 0) (get_or row (i + 1) 0) (get_or row (i + 2) 0) z.so.done
    turn = reducing_turn z.so.so h

    pub sizing_value : Whole rec (get_or row (i + 1) 0)
    sizing_value = turn.whole

    pub sizing_order : get_or row (i + 1) 0 ≤ get_or row (i + 2) 0
    sizing_order = turn.order

    -- a value's bytes are some of those that are counted
    pub sizing_cut : get_or row (i + 2) 0 - get_or row (i + 1) 0 ≤ len
    sizing_cut = omega (arith, z.is, turn.behind, turn.inside)

    pub sizing_same : kept_mark ≤ get_or row i 0 → Sizing rec row (i + 3) len
    sizing_same k = record { at = z.at; done = z.done; so = measuring_same z.so h k; is = z.is }

    module _ {a : Argument} (p : IsArgument rec (get_or row (i + 1) 0) (get_or row i 0) a) (k : get_or row i 0 < kept_mark) {m : ℕ}
        (e : (v : ℕ) → m ≡ length (valued_bytes (bytes_in rec a.start a.end) v)) where
      sizing_long : get_or row (i + 1) 0 - z.at + m ≡ length (changed rec z.at (get_or row (i + 1) 0) a)
      sizing_long = changed_long rec z.at (get_or row (i + 1) 0) a (measuring_within z.so h p) (e (term_value (bytes_in rec a.start a.end) a.term))

      pub sizing_anew : Sizing rec row (i + 3) (len - (get_or row (i + 2) 0 - get_or row (i + 1) 0) + m)
      sizing_anew = record {
        at = get_or row (i + 2) 0;
        done = z.done + (get_or row (i + 1) 0 - z.at + m);
        so = measuring_anew z.so h p k sizing_long;
        is = omega (arith, z.is, turn.behind, turn.order, turn.inside);
      }

      pub sizing_room : len - (get_or row (i + 2) 0 - get_or row (i + 1) 0) + m ≤ head_size + length rec + length rec
      sizing_room = omega (arith, sizing_anew)

-- ---- written

pub record Writing (rec row old : List ℕ) (at i len : ℕ) (o : List ℕ) : Type 0 where
  pub so : Measuring rec row at i len
  pub is : o ≡ over so.done old
  pub room : length (reduced rec (positions_in row)) ≤ length old
  pub long : length o ≡ length old

pub writing_none : (rec row old : List ℕ) → Planned rec row → length (reduced rec (positions_in row)) ≤ length old → Writing rec row old 0 0 0 old
writing_none rec row old f h = record { so = measuring_none rec row f; is = refl; room = h; long = refl }

module _ {rec row old o : List ℕ} {at i len : ℕ} (v : Writing rec row old at i len o) where
  module _ (h : i < length row) where
    pub writing_same : kept_mark ≤ get_or row i 0 → Writing rec row old at (i + 3) len o
    writing_same k = record { so = measuring_same v.so h k; is = v.is; room = v.room; long = v.long }

    module _ {a : Argument} (p : IsArgument rec (get_or row (i + 1) 0) (get_or row i 0) a) (k : get_or row i 0 < kept_mark) where
      abbrev new : List ℕ
      new = changed rec at (get_or row (i + 1) 0) a

      -- there is room for the changed value, with the bytes before it
      pub writing_room : length new ≤ length (part o len)
      writing_room = omega (arith, measuring_anew v.so h p k refl, length_part o len, v.room, v.long)

      pub writing_anew : {m : ℕ} {ys : List ℕ} → m ≡ length new → ys ≡ over new (part o len) → Writing rec row old (get_or row (i + 2) 0) (i + 3) (len + m) (given o len ys)
      writing_anew {m} {ys} em ey =
          let n : Measuring rec row (get_or row (i + 2) 0) (i + 3) (len + m) = measuring_anew v.so h p k em in
          let q : given o len ys ≡ over (v.so.done ++ new) old = back_over v.so.done new old v.is v.so.size ey in
          record { so = n; is = q; room = v.room; long = ap length q ∙ length_over n.done old (omega (arith, n, v.room)) }

  pub writing_all : {ys : List ℕ} → length row ≤ i → ys ≡ over (take (length rec - at) (drop at rec)) (part o len)
      → (len + (length rec - at) ≡ length (reduced rec (positions_in row))) × (given o len ys ≡ over (reduced rec (positions_in row)) old)
  writing_all {ys} h ey =
      let t : take (length rec - at) (drop at rec) ≡ drop at rec = take_all (length rec - at) (drop at rec) (omega (arith, length-drop at rec)) in (
        measuring_all v.so h,
        rw (reducing_all v.so.so h) (back_over v.so.done (drop at rec) old v.is v.so.size (ey ∙ ap (λ (l : List ℕ). over l (part o len)) t)),
      )
