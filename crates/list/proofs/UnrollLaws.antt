-- The loop over the pieces: what is written, and the pieces of the combinations from the one on that stands there, are the whole list.
use mathlib.Core.Path.{◌≡◌, refl, sym, ap, ◌∙◌, subst}
use mathlib.Core.Bool.{Bool, true, false}
use mathlib.Core.List.{List, [], ◌∷◌, ◌++◌, map, append_assoc, append-nil}
use Prim.Native.Nat.{ℕ, ◌+◌, ◌-◌, ◌≤◌, ◌<◌}
use native.Mathlib.Omega.{arith}
use lib.ListN.{length, length-append}
use Rattle.laws.specs.Over.{over, part, back as given, back_over, length_over, length_part}
use Rattle.rules.specs.Listing.{piece_of, joined}
use Rattle.list_argument.proofs.StandingLaws.{stands_some, stands_bytes}
use Rattle.list.specs.Filled.{list_of, order_of, Unrolls}
use Rattle.list.specs.Odometer.{heads, from, arguments_in, AllStand, Begun, Odometer, Another, Turned, Turns}
use Rattle.list.proofs.OdometerLaws.{from_all, First, from_first}
use Rattle.list.proofs.RowLaws.{values_long, stand_count, values_some, stand_some}

-- the arguments that stand there are the first of what is left of each place
arguments_heads : (rec row cur : List ℕ) (ls : List (List (List ℕ))) → AllStand rec row cur ls → arguments_in rec cur ≡ heads ls
arguments_heads rec [] [] [] a = refl
arguments_heads rec [] [] (l ∷ ls) a = absurd a
arguments_heads rec [] (s ∷ cur) ls a = absurd a
arguments_heads rec (n ∷ []) cur ls a = absurd a
arguments_heads rec (n ∷ (m ∷ [])) cur ls a = absurd a
arguments_heads rec (n ∷ (m ∷ (k ∷ row))) [] ls a = absurd a
arguments_heads rec (n ∷ (m ∷ (k ∷ row))) (s ∷ []) ls a = absurd a
arguments_heads rec (n ∷ (m ∷ (k ∷ row))) (s ∷ (e ∷ [])) ls a = absurd a
arguments_heads rec (n ∷ (m ∷ (k ∷ row))) (s ∷ (e ∷ (t ∷ cur))) [] a = absurd a
arguments_heads rec (n ∷ (m ∷ (k ∷ row))) (s ∷ (e ∷ (t ∷ cur))) ([] ∷ ls) (p, a) = absurd (omega (arith, stands_some p))
arguments_heads rec (n ∷ (m ∷ (k ∷ row))) (s ∷ (e ∷ (t ∷ cur))) ((x ∷ xs) ∷ ls) (p, a) = rw (stands_bytes p, arguments_heads rec row cur ls a)

-- ---- what is written, and what is left

pub record Unrolling (rec row old first cur : List ℕ) (done : ℕ) (o : List ℕ) : Type 0 where
  pub unrolls : Unrolls rec row
  pub left : List (List (List ℕ))
  pub stand : AllStand rec row cur left
  pub written : List ℕ
  pub size : length written ≡ done
  pub is : o ≡ over written old
  pub long : length o ≡ length old
  pub total : list_of rec ≡ written ++ joined (map (order_of rec row) (from unrolls.choices left))
  pub front : done ≤ length old
  pub room : length (list_of rec) ≤ length old
  pub even : length cur ≡ length first

pub unrolling_none : {rec row old first cur : List ℕ} → Unrolls rec row → Begun rec row cur → length (list_of rec) ≤ length old → length cur ≡ length first
    → Unrolling rec row old first cur 0 old
unrolling_none {rec} {row} {old} {first} {cur} u b h e =
    let fs : List (List (List ℕ)) = u.choices in
    record {
      unrolls = u;
      left = fs;
      stand = b fs u.values;
      written = [];
      size = refl;
      is = refl;
      long = refl;
      total = u.is ∙ ap (λ (l : List (List (List ℕ))). joined (map (order_of rec row) l)) (sym (from_all fs (values_some rec 0 row fs u.values)));
      front = omega arith;
      room = h;
      even = e;
    }

module _ {rec row old first cur : List ℕ} {done : ℕ} {o : List ℕ} (v : Unrolling rec row old first cur done o) where
  abbrev fs : List (List (List ℕ))
  fs = v.unrolls.choices

  pub unrolling_odometer : Odometer rec row cur
  unrolling_odometer = record { choices = fs; values = v.unrolls.values; left = v.left; stand = v.stand }

  -- the order that is next
  abbrev order : List ℕ
  order = order_of rec row (arguments_in rec cur)

  order_is : order_of rec row (heads v.left) ≡ order
  order_is = ap (order_of rec row) (sym (arguments_heads rec row cur v.left v.stand))

  -- its piece, and those behind it
  split : {rest : List (List (List ℕ))} → from fs v.left ≡ heads v.left ∷ rest → list_of rec ≡ (v.written ++ piece_of order) ++ joined (map (order_of rec row) rest)
  split {rest} e =
      v.total ∙ ap (λ (l : List (List (List ℕ))). v.written ++ joined (map (order_of rec row) l)) e
      ∙ ap (λ (w : List ℕ). v.written ++ (piece_of w ++ joined (map (order_of rec row) rest))) order_is
      ∙ sym (append_assoc v.written (piece_of order) (joined (map (order_of rec row) rest)))

  next_first : First fs v.left
  next_first =
      from_first fs v.left (omega (arith, values_long rec 0 row fs v.unrolls.values, stand_count rec row cur v.left v.stand)) (stand_some rec row cur v.left v.stand)

  fits : done + length (piece_of order) ≤ length (list_of rec)
  fits =
      omega (
        arith,
        ap length (split next_first.is),
        length-append (v.written ++ piece_of order) (joined (map (order_of rec row) next_first.rest)),
        length-append v.written (piece_of order),
        v.size,
      )

  pub piece_room : length (piece_of order) ≤ length (part o done)
  piece_room = omega (arith, fits, v.room, v.long, length_part o done)

  pub order_small : length order < 4294967296
  order_small = omega (arith, fits, v.unrolls.small)

  pub unrolling_start : done ≤ length o
  unrolling_start = omega (arith, v.front, v.long)

  module _ {n : ℕ} (en : n ≡ length (piece_of order)) where
    pub unrolling_sum : done + n ≤ length old
    unrolling_sum = omega (arith, fits, v.room)

    pub unrolling_fits : done + n < 18446744073709551616
    unrolling_fits = omega (arith, fits, v.unrolls.small)

    pub unrolling_less : length old - (done + n) < length old - done
    unrolling_less = omega (arith, fits, v.room)

    module _ {ys : List ℕ} (ey : ys ≡ over (piece_of order) (part o done)) where
      wrote : given o done ys ≡ over (v.written ++ piece_of order) old
      wrote = back_over v.written (piece_of order) old v.is v.size ey

      sized : length (v.written ++ piece_of order) ≡ done + n
      sized = length-append v.written (piece_of order) ∙ omega (arith, v.size)

      pub unrolling_long : length (given o done ys) ≡ length old
      unrolling_long = ap length wrote ∙ length_over (v.written ++ piece_of order) old (omega (arith, sized, fits, v.room))

      pub unrolling_more : {r : Bool} {new : List ℕ} → r ≡ true → Turns rec row cur r new → length new ≡ length cur → Unrolling rec row old first new (done + n) (given o done ys)
      unrolling_more {r} {new} e t same =
          let a : Another rec row fs v.left new =
          subst (λ (b : Bool). Turned rec row fs v.left b new) e (t fs v.left v.unrolls.values v.stand) in
          record {
            unrolls = v.unrolls;
            left = a.left;
            stand = a.stand;
            written = v.written ++ piece_of order;
            size = sized;
            is = wrote;
            long = unrolling_long;
            total = split a.is;
            front = unrolling_sum;
            room = v.room;
            even = same ∙ v.even;
          }

      pub unrolling_all : {r : Bool} (new : List ℕ) → r ≡ false → Turns rec row cur r new → given o done ys ≡ over (list_of rec) old
      unrolling_all {r} new e t =
          let a : from fs v.left ≡ heads v.left ∷ [] =
          subst (λ (b : Bool). Turned rec row fs v.left b new) e (t fs v.left v.unrolls.values v.stand) in
          wrote ∙ ap (λ (w : List ℕ). over w old) (sym (split a ∙ append-nil (v.written ++ piece_of order)))

-- the bytes needed fit an answer
pub need_small : {rec row : List ℕ} {n : ℕ} → Unrolls rec row → n ≡ length (list_of rec) → n < 4294967296
need_small u e = omega (arith, u.small)
