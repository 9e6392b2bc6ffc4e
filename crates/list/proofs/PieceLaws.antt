-- What is written so far, and what is left of the record with arguments in place of its values, are an order's bytes; a piece's length may be written once its order stands there.
use mathlib.Core.Path.{◌≡◌, refl, sym, ap, ap₂, ◌∙◌, subst}
use mathlib.Core.List.{List, [], ◌∷◌, ◌++◌, append_assoc, append-nil}
use Prim.Native.Nat.{ℕ, ◌+◌, ◌-◌, ◌*◌, ◌≤◌, ◌<◌}
use native.Mathlib.Omega.{arith}
use lib.ListN.{length, get_or, take, drop, length-append, length-drop, drop_of_length-le}
use lib.Seq.{drop_at, drop-drop, length-take-le}
use Rattle.laws.specs.Over.{over, part, back as given, back_over, length_over, length_part, part_from}
use Rattle.rules.specs.Records.{head_bytes, head_size}
use Rattle.rules.specs.Listing.{length_bytes, length_size, piece_of}
use Rattle.record_walk.specs.Runs.{bytes_in}
use Rattle.record_walk.proofs.RunLaws.{long_in}
use Rattle.order_argument.specs.Terms.{valued_bytes}
use Rattle.judge.proofs.ToldLaws.{three_front}
use Rattle.list_argument.proofs.StandingLaws.{stands_order, stands_inside}
use Rattle.list.specs.Filled.{filled, order_of, Values}
use Rattle.list.specs.Odometer.{arguments_in, AllStand, Odometer}
use Rattle.list.proofs.RowLaws.{values_long, stand_long}

-- ---- the next place

-- its value behind `at`, the argument that stands there, and the places behind it
record NextPlace (rec : List ℕ) (at from to s e : ℕ) (row cur : List ℕ) : Type 0 where
  behind : at ≤ from
  value : from ≤ length rec
  order : s ≤ e
  inside : e ≤ length rec
  end : to ≤ length rec
  choices : List (List (List ℕ))
  left : List (List (List ℕ))
  values : Values rec to row choices
  stand : AllStand rec row cur left

next_place : (rec : List ℕ) (at n from to s e t : ℕ) (row cur : List ℕ) (fs ls : List (List (List ℕ)))
    → Values rec at (n ∷ from ∷ to ∷ row) fs → AllStand rec (n ∷ from ∷ to ∷ row) (s ∷ e ∷ t ∷ cur) ls → NextPlace rec at from to s e row cur
next_place rec at n from to s e t row cur [] ls v a = absurd v
next_place rec at n from to s e t row cur (f ∷ fs) [] v a = absurd a
next_place rec at n from to s e t row cur (f ∷ fs) (l ∷ ls) (c, v) (p, a) =
    record {
      behind = c.behind;
      value = omega (arith, c.holds.ends, c.holds.inside);
      order = stands_order p;
      inside = omega (arith, stands_inside p, p.holds.inside);
      end = p.holds.inside;
      choices = fs;
      left = ls;
      values = v;
      stand = a;
    }

-- ---- filled

-- up to `from` in the record and to the i-th number of both rows: `len` bytes are written, and what is left, filled, makes them the whole
pub record Filling (rec row cur old : List ℕ) (from i len : ℕ) (o : List ℕ) : Type 0 where
  pub done : List ℕ
  pub choices : List (List (List ℕ))
  pub left : List (List (List ℕ))
  pub values : Values rec from (drop i row) choices
  pub stand : AllStand rec (drop i row) (drop i cur) left
  pub total : filled rec 0 row (arguments_in rec cur) ≡ done ++ filled rec from (drop i row) (arguments_in rec (drop i cur))
  pub is : o ≡ over done old
  pub size : length done ≡ len
  pub front : len ≤ length old
  pub room : length (filled rec 0 row (arguments_in rec cur)) ≤ length old
  pub long : length o ≡ length old
  pub inside : from ≤ length rec
  pub threes : length row ≡ i + 3 * length choices
  pub even : length cur ≡ length row

-- before the first place nothing is written
pub filling_none : (rec row cur old : List ℕ) → Odometer rec row cur → length (filled rec 0 row (arguments_in rec cur)) ≤ length old → Filling rec row cur old 0 0 0 old
filling_none rec row cur old d h =
    record {
      done = [];
      choices = d.choices;
      left = d.left;
      values = d.values;
      stand = d.stand;
      total = refl;
      is = refl;
      size = refl;
      front = omega arith;
      room = h;
      long = refl;
      inside = omega arith;
      threes = omega (arith, values_long rec 0 row d.choices d.values);
      even = stand_long rec row cur d.left d.stand;
    }

module _ {rec row cur old o : List ℕ} {from i len : ℕ} (v : Filling rec row cur old from i len o) where
  module _ (h : i < length row) where
    abbrev value : ℕ
    value = get_or row (i + 1) 0

    abbrev to : ℕ
    to = get_or row (i + 2) 0

    abbrev copy : List ℕ
    copy = bytes_in rec from value

    abbrev argument : List ℕ
    argument = valued_bytes (bytes_in rec (get_or cur i 0) (get_or cur (i + 1) 0)) (get_or cur (i + 2) 0)

    abbrev rest : List ℕ
    rest = filled rec to (drop (i + 3) row) (arguments_in rec (drop (i + 3) cur))

    row_three : drop i row ≡ get_or row i 0 ∷ value ∷ to ∷ drop (i + 3) row
    row_three = three_front row i (omega (arith, v.threes))

    cur_three : drop i cur ≡ get_or cur i 0 ∷ get_or cur (i + 1) 0 ∷ get_or cur (i + 2) 0 ∷ drop (i + 3) cur
    cur_three = three_front cur i (omega (arith, v.threes, v.even))

    -- the place that a turn comes to
    place_here : NextPlace rec from value to (get_or cur i 0) (get_or cur (i + 1) 0) (drop (i + 3) row) (drop (i + 3) cur)
    place_here =
        next_place rec from (get_or row i 0) value to (get_or cur i 0) (get_or cur (i + 1) 0) (get_or cur (i + 2) 0) (drop (i + 3) row) (drop (i + 3) cur) v.choices v.left
        (subst (λ (r : List ℕ). Values rec from r v.choices) row_three v.values)
        (subst (λ (r : List ℕ). AllStand rec r (get_or cur i 0 ∷ get_or cur (i + 1) 0 ∷ get_or cur (i + 2) 0 ∷ drop (i + 3) cur) v.left) row_three
        (subst (λ (c : List ℕ). AllStand rec (drop i row) c v.left) cur_three v.stand))

    -- where the place's value and its argument's element stand
    pub filling_behind : from ≤ get_or row (i + 1) 0
    filling_behind = place_here.behind

    pub filling_value : get_or row (i + 1) 0 ≤ length rec
    filling_value = place_here.value

    pub filling_order : get_or cur i 0 ≤ get_or cur (i + 1) 0
    filling_order = place_here.order

    pub filling_inside : get_or cur (i + 1) 0 ≤ length rec
    filling_inside = place_here.inside

    -- the whole: what is written, the bytes before the value, the argument, and what is left behind the value
    whole_is : filled rec 0 row (arguments_in rec cur) ≡ ((v.done ++ copy) ++ argument) ++ rest
    whole_is =
        v.total ∙ ap (λ (l : List ℕ). v.done ++ l) (ap₂ (λ (r c : List ℕ). filled rec from r (arguments_in rec c)) row_three cur_three)
        ∙ sym (append_assoc v.done copy (argument ++ rest)) ∙ sym (append_assoc (v.done ++ copy) argument rest)

    copied_long : length (v.done ++ copy) ≡ len + (value - from)
    copied_long = omega (arith, length-append v.done copy, v.size, long_in rec from value place_here.value)

    -- there is room for the bytes before the value, and for the argument
    pub both_room : len + (get_or row (i + 1) 0 - from) + length argument ≤ length old
    both_room =
        omega (arith, ap length whole_is, length-append ((v.done ++ copy) ++ argument) rest, length-append (v.done ++ copy) argument, copied_long, v.room)

    pub copy_room : length copy ≤ length (part o len)
    copy_room = omega (arith, both_room, long_in rec from value place_here.value, length_part o len, v.long)

    module _ {ys : List ℕ} (ey : ys ≡ over copy (part o len)) where
      abbrev mid : List ℕ
      mid = given o len ys

      -- the bytes before the value are written, and the buffer is as long as before
      copied : mid ≡ over (v.done ++ copy) old
      copied = back_over v.done copy old v.is v.size ey

      mid_long : length mid ≡ length old
      mid_long = ap length copied ∙ length_over (v.done ++ copy) old (omega (arith, both_room, copied_long))

      pub argument_start : len + (get_or row (i + 1) 0 - from) ≤ length mid
      argument_start = omega (arith, both_room, mid_long)

      pub argument_room : length argument ≤ length (part mid (len + (get_or row (i + 1) 0 - from)))
      argument_room = omega (arith, both_room, length_part mid (len + (value - from)), mid_long)

      -- the argument is written in place of the value
      pub filling_more : {r : ℕ} {zs : List ℕ} → r ≡ length argument → zs ≡ over argument (part mid (len + (get_or row (i + 1) 0 - from)))
          → Filling rec row cur old (get_or row (i + 2) 0) (i + 3) (len + (get_or row (i + 1) 0 - from) + r) (given mid (len + (get_or row (i + 1) 0 - from)) zs)
      filling_more {r} {zs} er ez =
          let x : NextPlace rec from value to (get_or cur i 0) (get_or cur (i + 1) 0) (drop (i + 3) row) (drop (i + 3) cur) = place_here in
          let new : List ℕ = (v.done ++ copy) ++ argument in
          let q : given mid (len + (value - from)) zs ≡ over new old = back_over (v.done ++ copy) argument old copied copied_long ez in
          let long : length new ≡ len + (value - from) + r = omega (arith, length-append (v.done ++ copy) argument, copied_long) in
          record {
            done = new;
            choices = x.choices;
            left = x.left;
            values = x.values;
            stand = x.stand;
            total = whole_is;
            is = q;
            size = long;
            front = omega (arith, both_room);
            room = v.room;
            long = ap length q ∙ length_over new old (omega (arith, both_room));
            inside = x.end;
            threes = omega (arith, values_long rec to (drop (i + 3) row) x.choices x.values, length-drop (i + 3) row, v.threes);
            even = v.even;
          }

  -- no place is left
  module _ (h : length row ≤ i) where
    filled_all : filled rec 0 row (arguments_in rec cur) ≡ v.done ++ drop from rec
    filled_all = v.total ∙ ap (λ (r : List ℕ). v.done ++ filled rec from r (arguments_in rec (drop i cur))) (drop_of_length-le row h)

    pub filling_long : len + (length rec - from) ≡ length (filled rec 0 row (arguments_in rec cur))
    filling_long = omega (arith, ap length filled_all, length-append v.done (drop from rec), length-drop from rec, v.size)

    -- there is room for what stands behind the last value
    pub rest_room : length (part rec from) ≤ length (part o len)
    rest_room = omega (arith, filling_long, v.room, v.long, length_part rec from, length_part o len)

    pub filling_all : {ys : List ℕ} → ys ≡ over (part rec from) (part o len) → given o len ys ≡ over (filled rec 0 row (arguments_in rec cur)) old
    filling_all {ys} e =
        rw filled_all (back_over v.done (drop from rec) old v.is v.size (e ∙ ap (λ (l : List ℕ). over l (part o len)) (part_from rec from)))

-- ---- orders and pieces

-- what is filled stands behind the head
pub order_over : (rec row cur old : List ℕ) {o ys : List ℕ} → o ≡ over (head_bytes 1) old → ys ≡ over (filled rec 0 row (arguments_in rec cur)) (part o head_size)
    → given o head_size ys ≡ over (order_of rec row (arguments_in rec cur)) old
order_over rec row cur old e q = back_over (head_bytes 1) (filled rec 0 row (arguments_in rec cur)) old e refl q

-- what stands in front may be written when the rest stands there
front_later : (front enc old : List ℕ) {o ys : List ℕ} → length front ≤ length old → ys ≡ over enc (part old (length front)) → o ≡ over front (given old (length front) ys)
    → o ≡ over (front ++ enc) old
front_later front enc old {o} {ys} h e q =
    let a : ℕ = length front in
    let none : drop (length old - a) (drop a old) ≡ [] = drop_of_length-le (drop a old) {i = length old - a} (simp length-drop (omega arith)) in
    let behind : drop a (given old a ys) ≡ ys ++ drop (length old - a) (drop a old) = drop_at (take a old) (ys ++ drop (length old - a) (drop a old)) a (length-take-le a old h) in
    rw (q, behind, none, append-nil ys, e, part_from old a, append_assoc front enc, length-append front enc, drop-drop (length enc) a old)

-- a piece: its order is written behind the bytes of the length, then the length
pub piece_over : (rec row cur old : List ℕ) {n : ℕ} {o ys : List ℕ} → length_size ≤ length old → n ≡ length (order_of rec row (arguments_in rec cur))
    → ys ≡ over (order_of rec row (arguments_in rec cur)) (part old length_size) → o ≡ over (length_bytes n) (given old length_size ys)
    → o ≡ over (piece_of (order_of rec row (arguments_in rec cur))) old
piece_over rec row cur old {n} {o} {ys} h m e q =
    let w : List ℕ = order_of rec row (arguments_in rec cur) in
    front_later (length_bytes (length w)) w old h e (q ∙ ap (λ (k : ℕ). over (length_bytes k) (given old length_size ys)) m)
