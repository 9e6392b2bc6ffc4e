-- The bytes of all pieces, by combinations: a piece has what the record keeps beside its values, and its own arguments; and an argument of a place stands in as many
-- combinations as the places behind it have.
use mathlib.Core.Path.{◌≡◌, refl, sym, ap, ◌∙◌}
use mathlib.Core.Bool.{true}
use mathlib.Core.List.{List, [], ◌∷◌, ◌++◌, map}
use Prim.Native.Nat.{ℕ, zero, suc, ◌+◌, ◌-◌, ◌*◌, ◌≤◌, ◌<◌}
use native.Mathlib.Nat.{add-zero, suc-mul, zero-mul, mul-zero, mul-add, le_refl, le-mul_of_pos_right, mul-le-mul_right}
use native.Mathlib.Omega.{arith}
use borrow.Author.Tests.{eqb-true, eq-eqb}
use lib.Dec.{eqb}
use lib.ListN.{length, get_or, drop, length-append, length-drop}
use lib.Seq.{drop-length}
use Rattle.laws.specs.Cases.{and_l, and_r}
use Rattle.laws.specs.Lists.{all, concat, all_append, all_map}
use Rattle.rules.specs.Commands.{Element}
use Rattle.rules.specs.Orders.{product}
use Rattle.rules.specs.Listing.{joined}
use Rattle.rules.proofs.DirectIsList.{grid, grid_length}
use Rattle.record_walk.specs.Runs.{bytes_in}
use Rattle.record_walk.proofs.RunLaws.{long_in}
use Rattle.judge.specs.Blocks.{counted}
use Rattle.record_walk.specs.Values.{Holds, Value}
use Rattle.list_argument.specs.Standings.{choices_of}
use Rattle.list.specs.Filled.{list_of, filled, order_of, Chosen, Values, listed, Unrolls}
use Rattle.list.proofs.OdometerLaws.{Some}
use Rattle.list.proofs.RowLaws.{values_long, values_some, PlaceOf, place_of}

-- ---- the arguments of all combinations

-- the arguments' bytes in these combinations
abbrev bytes_of_all : List (List (List ℕ)) → ℕ
bytes_of_all cs = length (concat (map concat cs))

-- the bytes that are chosen in all combinations
abbrev pub chosen_bytes : List (List (List ℕ)) → ℕ
chosen_bytes fs = length (concat (map concat (product fs)))

bytes_join : (cs ds : List (List (List ℕ))) → bytes_of_all (cs ++ ds) ≡ bytes_of_all cs + bytes_of_all ds
bytes_join [] ds = omega arith
bytes_join (c ∷ cs) ds = omega (arith, length-append (concat c) (concat (map concat (cs ++ ds))), length-append (concat c) (concat (map concat cs)), bytes_join cs ds)

-- one argument before each
bytes_before : (x : List ℕ) (cs : List (List (List ℕ))) → bytes_of_all (map (λ as'. x ∷ as') cs) ≡ length cs * length x + bytes_of_all cs
bytes_before x [] = omega (arith, zero-mul (length x))
bytes_before x (c ∷ cs) =
    let ds : List (List (List ℕ)) = map (λ as'. x ∷ as') cs in
    omega (
      arith,
      length-append (x ++ concat c) (concat (map concat ds)),
      length-append x (concat c),
      length-append (concat c) (concat (map concat cs)),
      suc-mul (length cs) (length x),
      bytes_before x cs,
    )

-- each of these before every combination
bytes_grid : (cs : List (List (List ℕ))) (f : List (List ℕ)) → bytes_of_all (grid cs f) ≡ length f * bytes_of_all cs + length cs * length (concat f)
bytes_grid cs [] = omega (arith, zero-mul (bytes_of_all cs), mul-zero (length cs))
bytes_grid cs (x ∷ f) =
    let e : length cs * length (x ++ concat f) ≡ length cs * length x + length cs * length (concat f) =
    ap (λ n. length cs * n) (length-append x (concat f)) ∙ mul-add (length cs) (length x) (length (concat f)) in
    omega (arith, e, bytes_join (map (λ as'. x ∷ as') cs) (grid cs f), bytes_before x cs, bytes_grid cs f, suc-mul (length f) (bytes_of_all cs))

-- a place before others: each of its arguments stands before all their combinations
pub chosen_more : (f : List (List ℕ)) (fs : List (List (List ℕ))) → chosen_bytes (f ∷ fs) ≡ length f * chosen_bytes fs + length (product fs) * length (concat f)
chosen_more f fs = bytes_grid (product fs) f

pub combinations_more : (f : List (List ℕ)) (fs : List (List (List ℕ))) → length (product (f ∷ fs)) ≡ length f * length (product fs)
combinations_more f fs = grid_length (product fs) f

-- ---- one order

-- the bytes that the row's values have in the record
abbrev pub held : List ℕ → ℕ
held [] = 0
held (n ∷ []) = 0
held (n ∷ (from ∷ [])) = 0
held (n ∷ (from ∷ (to ∷ row))) = (to - from) + held row

-- an order has the bytes of its arguments instead
pub filled_size : (rec : List ℕ) (at : ℕ) (row : List ℕ) (fs : List (List (List ℕ))) (as' : List (List ℕ)) → Values rec at row fs → length as' ≡ length fs
    → length (filled rec at row as') + held row + at ≡ length rec + length (concat as')
filled_size rec at [] [] [] v h = omega (arith, length-drop at rec)
filled_size rec at [] [] (a ∷ as') v h = absurd (omega arith)
filled_size rec at [] (f ∷ fs) as' v h = absurd v
filled_size rec at (n ∷ []) fs as' v h = absurd v
filled_size rec at (n ∷ (from ∷ [])) fs as' v h = absurd v
filled_size rec at (n ∷ (from ∷ (to ∷ row))) [] as' v h = absurd v
filled_size rec at (n ∷ (from ∷ (to ∷ row))) (f ∷ fs) [] v h = absurd (omega arith)
filled_size rec at (n ∷ (from ∷ (to ∷ row))) (f ∷ fs) (a ∷ as') v h =
    let more : List ℕ = filled rec to row as' in
    let c : Chosen rec at n from to f = v.0 in
    omega (
      arith,
      c.behind,
      c.holds.ends,
      c.holds.inside,
      long_in rec at from (omega (arith, c.holds.ends, c.holds.inside)),
      length-append (bytes_in rec at from) (a ++ more),
      length-append a more,
      length-append a (concat as'),
      filled_size rec to row fs as' v.1 (omega arith),
    )

-- the values stand in the record
pub held_inside : (rec : List ℕ) (at : ℕ) (row : List ℕ) (fs : List (List (List ℕ))) → Values rec at row fs → held row + at ≤ length rec
held_inside rec at [] [] v = omega arith
held_inside rec at [] (f ∷ fs) v = absurd v
held_inside rec at (n ∷ []) fs v = absurd v
held_inside rec at (n ∷ (from ∷ [])) fs v = absurd v
held_inside rec at (n ∷ (from ∷ (to ∷ row))) [] v = absurd v
held_inside rec at (n ∷ (from ∷ (to ∷ row))) (f ∷ fs) v =
    omega (arith, v.0.behind, v.0.holds.ends, held_inside rec to row fs v.1)

-- ---- all pieces

-- combinations with so many arguments
abbrev Long : ℕ → List (List (List ℕ)) → Type 0
Long n cs = all (λ as'. eqb (length as') n) cs ≡ true

grid_long : (n : ℕ) (cs : List (List (List ℕ))) (f : List (List ℕ)) → Long n cs → Long (suc n) (grid cs f)
grid_long n cs [] h = refl
grid_long n cs (x ∷ f) h =
    all_append (λ as'. eqb (length as') (suc n)) (map (λ as'. x ∷ as') cs) (grid cs f)
    (all_map (λ as'. eqb (length as') n) (λ as'. eqb (length as') (suc n)) (λ as'. x ∷ as')
    (λ as' e. eq-eqb (suc (length as')) (suc n) (ap suc (eqb-true (length as') n e))) cs h)
    (grid_long n cs f h)

-- every combination has an argument for each place
combinations_long : (fs : List (List (List ℕ))) → Long (length fs) (product fs)
combinations_long [] = refl
combinations_long (f ∷ fs) = grid_long (length fs) (product fs) f (combinations_long fs)

module _ (rec row : List ℕ) (fs : List (List (List ℕ))) (kept : ℕ) (v : Values rec 0 row fs) (k : kept + held row ≡ 14 + length rec) where
  pieces_size : (cs : List (List (List ℕ))) → Long (length fs) cs → length (joined (map (order_of rec row) cs)) ≡ length cs * kept + bytes_of_all cs
  pieces_size [] h = omega (arith, zero-mul kept)
  pieces_size (c ∷ cs) h =
      let e : length c ≡ length fs = eqb-true (length c) (length fs) (and_l (eqb (length c) (length fs)) (all (λ as'. eqb (length as') (length fs)) cs) h) in
      omega (
        arith,
        length-append (filled rec 0 row c) (joined (map (order_of rec row) cs)),
        length-append (concat c) (concat (map concat cs)),
        filled_size rec 0 row fs c v e,
        suc-mul (length cs) kept,
        pieces_size cs (and_r (eqb (length c) (length fs)) (all (λ as'. eqb (length as') (length fs)) cs) h),
      )

  -- `kept` is what a piece has beside its arguments: the seven bytes with its length, the order's own seven, and what the record has beside its values
  pub listed_size : length (listed rec row fs) ≡ length (product fs) * kept + chosen_bytes fs
  listed_size = pieces_size (product fs) (combinations_long fs)

  kept_some : 0 < kept
  kept_some = omega (arith, held_inside rec 0 row fs v)

-- ---- from the last place back

-- the places from the i-th on have no more combinations than all
pub combinations_behind : (i : ℕ) (fs : List (List (List ℕ))) → Some fs → length (product (drop i fs)) ≤ length (product fs)
combinations_behind zero fs h = omega arith
combinations_behind (suc i) [] h = omega arith
combinations_behind (suc i) ([] ∷ fs) h = absurd h
combinations_behind (suc i) ((x ∷ xs) ∷ fs) h =
    omega (arith, combinations_more (x ∷ xs) fs, suc-mul (length xs) (length (product fs)), combinations_behind i fs h)

-- there is one at least
some_combination : (fs : List (List (List ℕ))) → Some fs → 1 ≤ length (product fs)
some_combination fs h = let c : length (product (drop (length fs) fs)) ≤ length (product fs) = combinations_behind (length fs) fs h in rw (drop-length fs) at c

-- nor more bytes in them
pub chosen_behind : (i : ℕ) (fs : List (List (List ℕ))) → Some fs → chosen_bytes (drop i fs) ≤ chosen_bytes fs
chosen_behind zero fs h = omega arith
chosen_behind (suc i) [] h = omega arith
chosen_behind (suc i) ([] ∷ fs) h = absurd h
chosen_behind (suc i) ((x ∷ xs) ∷ fs) h =
    omega (arith, chosen_more (x ∷ xs) fs, suc-mul (length xs) (chosen_bytes fs), chosen_behind i fs h)

-- the turn at the i-th place, whose numbers stand at j: what is counted from it on; nothing of that is more than the list's bytes
pub record SizeTurn (rec row : List ℕ) (fs : List (List (List ℕ))) (i j : ℕ) : Type 0 where
  pub place : PlaceOf rec row fs i j
  pub bytes : chosen_bytes (drop i fs) ≡ length (get_or fs i []) * chosen_bytes (drop (i + 1) fs) + length (product (drop (i + 1) fs)) * length (concat (get_or fs i []))
  pub orders : length (product (drop i fs)) ≡ length (get_or fs i []) * length (product (drop (i + 1) fs))
  pub most : chosen_bytes (drop i fs) ≤ length (listed rec row fs)
  pub few : length (product (drop i fs)) ≤ length (listed rec row fs)
  pub value : held (drop j row) ≡ (get_or row (j + 2) 0 - get_or row (j + 1) 0) + held (drop (j + 3) row)
  pub inside : held (drop j row) ≤ length rec

pub size_turn : (rec row : List ℕ) (fs : List (List (List ℕ))) (i j : ℕ) → Values rec 0 row fs → i < length fs → j ≡ 3 * i → SizeTurn rec row fs i j
size_turn rec row fs i j v h q =
    let kept : ℕ = 14 + length rec - held row in
    let k : kept + held row ≡ 14 + length rec = omega (arith, held_inside rec 0 row fs v) in
    let some : Some fs = values_some rec 0 row fs v in
    let all_are : length (listed rec row fs) ≡ length (product fs) * kept + chosen_bytes fs = listed_size rec row fs kept v k in
    let one_each : length (product fs) ≤ length (product fs) * kept = le-mul_of_pos_right (length (product fs)) (kept_some rec row fs kept v k) in
    let p : PlaceOf rec row fs i j = place_of rec row fs i j v h q in
    let c : Chosen rec p.at (get_or row j 0) (get_or row (j + 1) 0) (get_or row (j + 2) 0) (get_or fs i []) = p.chosen in
    record {
      place = p;
      bytes = ap chosen_bytes p.choices_are ∙ chosen_more (get_or fs i []) (drop (i + 1) fs);
      orders = ap (λ gs. length (product gs)) p.choices_are ∙ combinations_more (get_or fs i []) (drop (i + 1) fs);
      most = omega (arith, all_are, chosen_behind i fs some);
      few = omega (arith, all_are, one_each, combinations_behind i fs some);
      value = ap held p.row_is;
      inside = omega (arith, ap held p.row_is, held_inside rec (get_or row (j + 2) 0) (drop (j + 3) row) (drop (i + 1) fs) p.behind, c.behind, c.holds.ends);
    }

-- ---- the loop

-- of the places from i on: so many combinations, so many bytes of arguments in them; and all bytes but those of their values
pub record Sizing (rec row : List ℕ) (i kept orders len : ℕ) : Type 0 where
  pub low : i ≤ length row
  pub turns : ℕ
  pub threes : i ≡ 3 * turns
  pub unrolls : Unrolls rec row
  pub combinations : orders ≡ length (product (drop turns unrolls.choices))
  pub bytes : len ≡ chosen_bytes (drop turns unrolls.choices)
  pub stays : kept + held (drop i row) ≡ length rec

pub sizing_none : {rec row : List ℕ} → Unrolls rec row → Sizing rec row (length row) (length rec) 1 0
sizing_none {rec} {row} u =
    let fs : List (List (List ℕ)) = u.choices in
    record {
      low = le_refl (length row);
      turns = length fs;
      threes = values_long rec 0 row fs u.values;
      unrolls = u;
      combinations = rw drop-length;
      bytes = rw drop-length;
      stays = rw drop-length (add-zero (length rec));
    }

module _ {rec row : List ℕ} {i kept orders len : ℕ} (z : Sizing rec row i kept orders len) where
  abbrev fs : List (List (List ℕ))
  fs = z.unrolls.choices

  few_bytes : length (listed rec row fs) < 4294967296
  few_bytes = rw (← z.unrolls.is) z.unrolls.small

  module _ (h : 0 < i) where
    turn : SizeTurn rec row fs (z.turns - 1) (i - 3)
    turn =
        size_turn rec row fs (z.turns - 1) (i - 3) z.unrolls.values (omega (arith, values_long rec 0 row fs z.unrolls.values, z.low, z.threes)) (omega (arith, z.threes))

    pub sizing_value : Value rec (get_or row (i - 3 + 1) 0) (get_or row (i - 3 + 2) 0)
    sizing_value = let c = turn.place.chosen in record { elements = c.elements; holds = c.holds }

    -- a value ends where it begins, or behind
    pub sizing_order : get_or row (i - 3 + 1) 0 ≤ get_or row (i - 3 + 2) 0
    sizing_order = omega (arith, turn.place.chosen.holds.ends)

    next_turn : z.turns - 1 + 1 ≡ z.turns
    next_turn = omega (arith, z.threes)

    next_held : held (drop (i - 3) row) ≡ (get_or row (i - 3 + 2) 0 - get_or row (i - 3 + 1) 0) + held (drop i row)
    next_held = let q : i - 3 + 3 ≡ i = omega (arith, z.threes) in turn.value ∙ rw q

    -- its bytes are some of those that are kept so far
    pub sizing_kept : get_or row (i - 3 + 2) 0 - get_or row (i - 3 + 1) 0 ≤ kept
    sizing_kept = omega (arith, next_held, z.stays, turn.inside)

    module _ {n : ℕ} (en : n ≡ counted (get_or row (i - 3) 0)) where
      choices_many : length (get_or fs (z.turns - 1) []) ≡ n
      choices_many = turn.place.chosen.number ∙ sym en

      chosen_next : n * len + orders * length (concat (get_or fs (z.turns - 1) [])) ≡ chosen_bytes (drop (z.turns - 1) fs)
      chosen_next = sym (turn.bytes ∙ rw (next_turn, choices_many, ← z.bytes, ← z.combinations))

      next_orders : n * orders ≡ length (product (drop (z.turns - 1) fs))
      next_orders = sym (turn.orders ∙ rw (next_turn, choices_many, ← z.combinations))

      -- no sum and no product is more than the list has bytes
      pub sizing_first : n * len < 18446744073709551616
      sizing_first = omega (arith, chosen_next, turn.most, few_bytes)

      pub sizing_orders : n * orders < 18446744073709551616
      sizing_orders = omega (arith, next_orders, turn.few, few_bytes)

    module _ {n x : ℕ} (en : n ≡ counted (get_or row (i - 3) 0))
        (ex : (es : List Element) → Holds rec (get_or row (i - 3 + 1) 0) (get_or row (i - 3 + 2) 0) es → x ≡ length (concat (choices_of es))) where
      choices_bytes : length (concat (get_or fs (z.turns - 1) [])) ≡ x
      choices_bytes = let c = turn.place.chosen in ap (λ (l : List (List ℕ)). length (concat l)) c.is ∙ sym (ex c.elements c.holds)

      next_bytes : n * len + orders * x ≡ chosen_bytes (drop (z.turns - 1) fs)
      next_bytes = ap (λ (k : ℕ). n * len + orders * k) (sym choices_bytes) ∙ chosen_next en

      pub sizing_bytes : n * len + orders * x < 18446744073709551616
      sizing_bytes = omega (arith, next_bytes, turn.most, few_bytes)

      pub sizing_second : orders * x < 18446744073709551616
      sizing_second = omega (arith, sizing_bytes)

      pub sizing_more : Sizing rec row (i - 3) (kept - (get_or row (i - 3 + 2) 0 - get_or row (i - 3 + 1) 0)) (n * orders) (n * len + orders * x)
      sizing_more = record {
        low = omega (arith, z.low);
        turns = z.turns - 1;
        threes = omega (arith, z.threes);
        unrolls = z.unrolls;
        combinations = next_orders en;
        bytes = next_bytes;
        stays = omega (arith, next_held, z.stays, sizing_kept);
      }

  module _ (h : i ≤ 0) where
    no_turns : z.turns ≡ 0
    no_turns = omega (arith, z.threes)

    all_orders : orders ≡ length (product fs)
    all_orders = z.combinations ∙ ap (λ (n : ℕ). length (product (drop n fs))) no_turns

    all_bytes : len ≡ chosen_bytes fs
    all_bytes = z.bytes ∙ ap (λ (n : ℕ). chosen_bytes (drop n fs)) no_turns

    stays_all : 14 + kept + held row ≡ 14 + length rec
    stays_all = let none : i ≡ 0 = omega arith in let s : kept + held row ≡ length rec = rw none at z.stays in omega arith

    -- what the loop leaves
    pub sizing_all : orders * (14 + kept) + len ≡ length (list_of rec)
    sizing_all =
        ap (λ (n : ℕ). n * (14 + kept) + len) all_orders ∙ ap (λ (n : ℕ). length (product fs) * (14 + kept) + n) all_bytes
        ∙ sym (listed_size rec row fs (14 + kept) z.unrolls.values stays_all) ∙ sym (ap length z.unrolls.is)

    pub sizing_sum : orders * (14 + kept) + len < 18446744073709551616
    sizing_sum = omega (arith, sizing_all, z.unrolls.small)

    pub sizing_product : orders * (14 + kept) < 18446744073709551616
    sizing_product = omega (arith, sizing_sum)

    pub sizing_heads : 14 + kept < 18446744073709551616
    sizing_heads =
        let one : 1 ≤ orders = omega (arith, all_orders, some_combination fs (values_some rec 0 row fs z.unrolls.values)) in
        omega (arith, sizing_product, mul-le-mul_right (14 + kept) one)
