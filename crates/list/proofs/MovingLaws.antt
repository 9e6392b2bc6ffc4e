-- A place whose value is the same in every order may be taken out of the row: its only choice is its own bytes, which stand in every order without it too. So the row unrolls to the
-- same list while such places are left out and the others move to its front.
use mathlib.Core.Path.{◌≡◌, refl, sym, ap, ap₂, ◌∙◌, subst, fun_ext}
use mathlib.Core.Bool.{Bool, true, false≢true}
use mathlib.Core.List.{List, [], ◌∷◌, ◌++◌, map, append_assoc, append-nil, map-append, map-map}
use Prim.Native.Nat.{ℕ, ◌+◌, ◌-◌, ◌*◌, ◌≤◌, ◌<◌}
use native.Mathlib.Numerals.{add-one, add-two}
use native.Mathlib.Omega.{arith}
use borrow.Author.Tests.{ltb-false}
use lib.Dec.{ltb, eqb}
use lib.ListN.{length, get_or, take, drop, set, length-append, length-map, length-set, take-append-drop, drop_of_length-le}
use lib.Seq.{take-add, take_at, drop-drop, drop-set-lt, length-take-le, get_or-set_other, sets-eq}
use Rattle.laws.specs.Cases.{by_bool, conjuncts}
use Rattle.laws.specs.Lists.{all, concat}
use Rattle.rules.specs.Units.{Base}
use Rattle.rules.specs.Commands.{Element, single, range}
use Rattle.rules.specs.Records.{bytes_of, range_tag, head_bytes}
use Rattle.rules.specs.WellFormed.{wf_element}
use Rattle.rules.specs.Orders.{arguments, product}
use Rattle.rules.specs.Listing.{joined}
use Rattle.record_walk.specs.Fronts.{tag_of}
use Rattle.record_walk.specs.Runs.{bytes_in}
use Rattle.judge.specs.Blocks.{counted}
use Rattle.judge.proofs.ToldLaws.{three_front}
use Rattle.record_walk.specs.Values.{value_bytes, Holds}
use Rattle.list_argument.specs.Standings.{choices_of}
use Rattle.list_argument.proofs.StandingLaws.{arguments_some}
use Rattle.list.specs.Filled.{filled, order_of, Chosen, Values, Unrolls, stays_at}
use Rattle.list.proofs.RowLaws.{values_long}

-- ---- a value without a choice

-- one argument, or none
stays_one : (rec : List ℕ) (n from : ℕ) → stays_at rec n from ≡ true → counted n ≤ 1
unfolding stays_at counted
stays_one rec n from h =
    by_bool (ltb 1 n) (λ y. absurd (false≢true (rw y at h)))
    (λ y. let low : n ≤ 1 = ltb-false 1 n y in by_bool (eqb n 0) (λ z. rw z (omega arith)) (λ z. rw z low))

-- no range stands there
stays_single : (rec : List ℕ) (n from : ℕ) → stays_at rec n from ≡ true → tag_of (drop from rec) ≡ range_tag → ⊥
unfolding stays_at
stays_single rec n from h e = by_bool (ltb 1 n) (λ y. false≢true (rw y at h)) (λ y. false≢true (rw (y, e) at h))

-- the bytes of a value are those of its elements
value_there : {rec : List ℕ} {from to : ℕ} {es : List Element} → Holds rec from to es → bytes_in rec from to ≡ value_bytes es
value_there {rec} {from} {to} {es} h = ap (take (to - from)) h.stands ∙ take_at (value_bytes es) (bytes_of h.rest) (to - from) (omega (arith, h.ends))

-- two elements name two arguments
two_choices : (b : Base) (m : ℕ) (e e' : Element) (es : List Element) → all (wf_element b m) (e ∷ (e' ∷ es)) ≡ true → 2 ≤ length (choices_of (e ∷ (e' ∷ es)))
two_choices b m e e' es h =
    let named : List Element = concat (map arguments (e ∷ (e' ∷ es))) in
    omega (
      arith,
      length-map (map (λ a. a ∷ []) named) value_bytes,
      length-map named (λ a. a ∷ []),
      length-append (arguments e) (concat (map arguments (e' ∷ es))),
      length-append (arguments e') (concat (map arguments es)),
      arguments_some b m e (search conjuncts),
      arguments_some b m e' (search conjuncts),
    )

-- such a value has one choice: its own bytes
stays_choice : {rec : List ℕ} {at n from to : ℕ} {f : List (List ℕ)} → Chosen rec at n from to f → stays_at rec n from ≡ true → f ≡ bytes_in rec from to ∷ []
stays_choice {rec} {at} {n} {from} {to} {f} c s = go c.elements c.holds c.is
  where
    go : (es : List Element) → Holds rec from to es → f ≡ choices_of es → f ≡ bytes_in rec from to ∷ []
    go [] h e = e ∙ ap (λ (w : List ℕ). w ∷ []) (sym (value_there h))
    go (single l u ∷ []) h e = e ∙ ap (λ (w : List ℕ). w ∷ []) (sym (value_there h))
    go (range l r lo up inc ∷ []) h e = absurd (stays_single rec n from s (ap tag_of h.stands))
    go (a ∷ (b ∷ es)) h e = absurd (omega (arith, two_choices h.base h.lead a b es h.fine, ap length e, c.number, stays_one rec n from s))

-- ---- the record's bytes with one value less to fill

module _ (rec : List ℕ) (at mid : ℕ) (h : at ≤ mid) where
  -- bytes up to a position, and those from it on
  from_mid : drop (mid - at) (drop at rec) ≡ drop mid rec
  from_mid = let m : at + (mid - at) ≡ mid = omega arith in drop-drop (mid - at) at rec ∙ ap (λ (k : ℕ). drop k rec) m

  bytes_join : (to : ℕ) → mid ≤ to → bytes_in rec at mid ++ bytes_in rec mid to ≡ bytes_in rec at to
  bytes_join to k =
      let n : to - at ≡ (mid - at) + (to - mid) = omega arith in
      sym (ap (λ (j : ℕ). take j (drop at rec)) n ∙ take-add (mid - at) (to - mid) (drop at rec) ∙ ap (λ (l : List ℕ). bytes_in rec at mid ++ take (to - mid) l) from_mid)

  bytes_rest : bytes_in rec at mid ++ drop mid rec ≡ drop at rec
  bytes_rest = ap (λ (l : List ℕ). bytes_in rec at mid ++ l) (sym from_mid) ∙ take-append-drop (mid - at) (drop at rec)

-- the bytes before the first value may begin earlier
filled_before : (rec : List ℕ) (at to : ℕ) (row : List ℕ) (fs : List (List (List ℕ))) → at ≤ to → Values rec to row fs → (as' : List (List ℕ))
    → bytes_in rec at to ++ filled rec to row as' ≡ filled rec at row as'
filled_before rec at to [] fs h v as' = bytes_rest rec at to h
filled_before rec at to (n ∷ []) fs h v as' = absurd v
filled_before rec at to (n ∷ (s ∷ [])) fs h v as' = absurd v
filled_before rec at to (n ∷ (s ∷ (e ∷ row))) [] h v as' = absurd v
filled_before rec at to (n ∷ (s ∷ (e ∷ row))) (f ∷ fs) h v [] = bytes_rest rec at to h
filled_before rec at to (n ∷ (s ∷ (e ∷ row))) (f ∷ fs) h v (a ∷ as') =
    sym (append_assoc (bytes_in rec at to) (bytes_in rec to s) (a ++ filled rec e row as'))
    ∙ ap (λ (l : List ℕ). l ++ (a ++ filled rec e row as')) (bytes_join rec at to h s v.0.behind)

-- and the values stand behind an earlier position too
values_before : (rec : List ℕ) (at to : ℕ) (row : List ℕ) (fs : List (List (List ℕ))) → at ≤ to → Values rec to row fs → Values rec at row fs
values_before rec at to [] [] h v = omega arith
values_before rec at to [] (f ∷ fs) h v = absurd v
values_before rec at to (n ∷ []) fs h v = absurd v
values_before rec at to (n ∷ (s ∷ [])) fs h v = absurd v
values_before rec at to (n ∷ (s ∷ (e ∷ row))) [] h v = absurd v
values_before rec at to (n ∷ (s ∷ (e ∷ row))) (f ∷ fs) h (c, v) =
    (record { elements = c.elements; holds = c.holds; is = c.is; behind = omega (arith, c.behind); number = c.number }, v)

-- all that is filled with the first place's choices: each of them before all that is filled behind it
filled_first : (rec : List ℕ) (at n from to : ℕ) (row : List ℕ) (f : List (List ℕ)) (cs : List (List (List ℕ)))
    → map (filled rec at (n ∷ from ∷ to ∷ row)) (concat (map (λ x. map (λ ys. x ∷ ys) cs) f))
    ≡ concat (map (λ x. map (λ w. bytes_in rec at from ++ (x ++ w)) (map (filled rec to row) cs)) f)
filled_first rec at n from to row [] cs = refl
filled_first rec at n from to row (x ∷ f) cs =
    map-append (filled rec at (n ∷ from ∷ to ∷ row)) (map (λ ys. x ∷ ys) cs) (concat (map (λ x. map (λ ys. x ∷ ys) cs) f))
    ∙ ap₂ (λ (k l : List (List ℕ)). k ++ l)
    (map-map (filled rec at (n ∷ from ∷ to ∷ row)) (λ ys. x ∷ ys) cs ∙ sym (map-map (λ w. bytes_in rec at from ++ (x ++ w)) (filled rec to row) cs))
    (filled_first rec at n from to row f cs)

-- ---- the row with one place less

-- another row that fills the same
record Same (rec : List ℕ) (at : ℕ) (row : List ℕ) (fs : List (List (List ℕ))) (new : List ℕ) : Type 0 where
  choices : List (List (List ℕ))
  values : Values rec at new choices
  is : map (filled rec at row) (product fs) ≡ map (filled rec at new) (product choices)

module _ (rec : List ℕ) (n from to : ℕ) (row : List ℕ) (s : stays_at rec n from ≡ true) where
  -- the first place taken out
  first_out : (at : ℕ) (f : List (List ℕ)) (fs : List (List (List ℕ))) → Chosen rec at n from to f → Values rec to row fs → Same rec at (n ∷ from ∷ to ∷ row) (f ∷ fs) row
  first_out at f fs c v =
      let own : List ℕ = bytes_in rec from to in
      let order : from ≤ to = omega (arith, c.holds.ends) in
      let one : (as' : List (List ℕ)) → bytes_in rec at from ++ (own ++ filled rec to row as') ≡ filled rec at row as' =
      λ as'.
      sym (append_assoc (bytes_in rec at from) own (filled rec to row as')) ∙ ap (λ (l : List ℕ). l ++ filled rec to row as') (bytes_join rec at from c.behind to order)
      ∙ filled_before rec at to row fs (omega (arith, c.behind)) v as' in
      record {
        choices = fs;
        values = values_before rec at to row fs (omega (arith, c.behind)) v;
        is =
            ap (λ (g : List (List ℕ)). map (filled rec at (n ∷ from ∷ to ∷ row)) (product (g ∷ fs))) (stays_choice c s)
            ∙ filled_first rec at n from to row (own ∷ []) (product fs) ∙ append-nil (map (λ w. bytes_in rec at from ++ (own ++ w)) (map (filled rec to row) (product fs)))
            ∙ map-map (λ w. bytes_in rec at from ++ (own ++ w)) (filled rec to row) (product fs)
            ∙ ap (λ (g : List (List ℕ) → List ℕ). map g (product fs)) (fun_ext one);
      }

  -- or one behind others
  place_out : (front : List ℕ) (places : ℕ) → length front ≡ 3 * places → (at : ℕ) (fs : List (List (List ℕ))) → Values rec at (front ++ (n ∷ from ∷ to ∷ row)) fs
      → Same rec at (front ++ (n ∷ from ∷ to ∷ row)) fs (front ++ row)
  place_out [] places l at [] v = absurd v
  place_out [] places l at (f ∷ fs) (c, v) = first_out at f fs c v
  place_out (m ∷ []) places l at fs v = absurd (omega arith)
  place_out (m ∷ (b ∷ [])) places l at fs v = absurd (omega arith)
  place_out (m ∷ (b ∷ (e ∷ front))) places l at [] v = absurd v
  place_out (m ∷ (b ∷ (e ∷ front))) places l at (f ∷ fs) (c, v) =
      let old : List ℕ = front ++ (n ∷ from ∷ to ∷ row) in
      let r : Same rec e old fs (front ++ row) = place_out front (places - 1) (omega arith) e fs v in
      record {
        choices = f ∷ r.choices;
        values = (c, r.values);
        is =
            filled_first rec at m b e old f (product fs)
            ∙ ap (λ (cs : List (List ℕ)). concat (map (λ x. map (λ w. bytes_in rec at b ++ (x ++ w)) cs) f)) r.is
            ∙ sym (filled_first rec at m b e (front ++ row) f (product r.choices));
      }

  -- the row unrolls to the same list
  unrolls_without : (front : List ℕ) (places : ℕ) → length front ≡ 3 * places → Unrolls rec (front ++ (n ∷ from ∷ to ∷ row)) → Unrolls rec (front ++ row)
  unrolls_without front places l u =
      let old : List ℕ = front ++ (n ∷ from ∷ to ∷ row) in
      let r : Same rec 0 old u.choices (front ++ row) = place_out front places l 0 u.choices u.values in
      let head : (r : List ℕ) (cs : List (List (List ℕ))) → map (order_of rec r) cs ≡ map (λ w. head_bytes 1 ++ w) (map (filled rec 0 r) cs) =
      λ r cs. sym (map-map (λ w. head_bytes 1 ++ w) (filled rec 0 r) cs) in
      record {
        choices = r.choices;
        values = r.values;
        is =
            u.is
            ∙ ap joined
            (head old (product u.choices) ∙ ap (map (λ w. head_bytes 1 ++ w)) r.is ∙ sym (head (front ++ row) (product r.choices)));
        small = u.small;
      }

-- ---- the loop

-- up to the i-th number the row is looked through: its first n numbers are those of the places that are kept, and these with the places that are left unroll to the list
pub record Moving (rec old : List ℕ) (n i : ℕ) (row : List ℕ) : Type 0 where
  pub low : n ≤ i
  pub long : length row ≡ length old
  pub places : ℕ
  pub threes : n ≡ 3 * places
  pub left : ℕ
  pub rest : length row ≡ i + 3 * left
  pub unrolls : Unrolls rec (take n row ++ drop i row)

-- before the first place nothing is left out
pub moving_none : {rec row : List ℕ} → Unrolls rec row → Moving rec row 0 0 row
moving_none {rec} {row} u = record {
  low = omega arith;
  long = refl;
  places = 0;
  threes = refl;
  left = length u.choices;
  rest = omega (arith, values_long rec 0 row u.choices u.values);
  unrolls = u;
}

-- three numbers from the i-th on, stored at the n-th: they stand as before between those in front of the n-th and those behind them
three_moved : (row : List ℕ) (n i : ℕ) → n ≤ i → i + 3 ≤ length row
    → let new = set (set (set row n (get_or row i 0)) (n + 1) (get_or row (i + 1) 0)) (n + 2) (get_or row (i + 2) 0) in
    take (n + 3) new ++ drop (i + 3) new ≡ take n row ++ drop i row
three_moved row n i h k =
    let a : ℕ = get_or row i 0 in
    let b : ℕ = get_or row (i + 1) 0 in
    let c : ℕ = get_or row (i + 2) 0 in
    let three : List ℕ = a ∷ b ∷ c ∷ [] in
    let one : List ℕ = set row n a in
    let two : List ℕ = set one (n + 1) b in
    let new : List ℕ = set two (n + 2) c in
    let whole : new ≡ (take n row ++ three) ++ drop (n + 3) row = rw (add-one n, add-two n) (sets-eq three row n (omega arith)) in
    let front : take (n + 3) new ≡ take n row ++ three =
    ap (take (n + 3)) whole
    ∙ take_at (take n row ++ three) (drop (n + 3) row) (n + 3) (length-append (take n row) three ∙ omega (arith, length-take-le n row (omega arith))) in
    let behind : drop (i + 3) new ≡ drop (i + 3) row =
    drop-set-lt (i + 3) two (n + 2) c (omega arith) ∙ drop-set-lt (i + 3) one (n + 1) b (omega arith) ∙ drop-set-lt (i + 3) row n a (omega arith) in
    ap₂ (λ (x y : List ℕ). x ++ y) front behind ∙ append_assoc (take n row) three (drop (i + 3) row)
    ∙ ap (λ (l : List ℕ). take n row ++ l) (sym (three_front row i k))

module _ {rec old row : List ℕ} {n i : ℕ} (m : Moving rec old n i row) where
  -- a place whose value stays is left behind
  pub moving_past : {r : Bool} → i < length row → r ≡ stays_at rec (get_or row i 0) (get_or row (i + 1) 0) → r ≡ true → Moving rec old n (i + 3) row
  moving_past h e t = record {
    low = omega (arith, m.low);
    long = m.long;
    places = m.places;
    threes = m.threes;
    left = m.left - 1;
    rest = omega (arith, m.rest);
    unrolls =
        unrolls_without rec (get_or row i 0) (get_or row (i + 1) 0) (get_or row (i + 2) 0) (drop (i + 3) row) (sym e ∙ t) (take n row) m.places
        (length-take-le n row (omega (arith, m.low, m.rest)) ∙ m.threes)
        (subst (λ (l : List ℕ). Unrolls rec (take n row ++ l)) (three_front row i (omega (arith, m.rest))) m.unrolls);
  }

  -- the numbers of any other move behind those that are kept
  pub moving_kept : i < length row
      → let one = set row n (get_or row i 0) in let two = set one (n + 1) (get_or one (i + 1) 0) in Moving rec old (n + 3) (i + 3) (set two (n + 2) (get_or two (i + 2) 0))
  moving_kept h =
      let a : ℕ = get_or row i 0 in
      let b : ℕ = get_or row (i + 1) 0 in
      let c : ℕ = get_or row (i + 2) 0 in
      let one : List ℕ = set row n a in
      let second : get_or one (i + 1) 0 ≡ b = get_or-set_other row n (i + 1) a 0 (λ e. omega (arith, m.low)) in
      let two : List ℕ = set one (n + 1) b in
      let third : get_or two (i + 2) 0 ≡ c = get_or-set_other one (n + 1) (i + 2) b 0 (λ e. omega (arith, m.low)) ∙ get_or-set_other row n (i + 2) a 0 (λ e. omega (arith, m.low)) in
      let new : List ℕ = set two (n + 2) c in
      let long : length new ≡ length row = length-set two (n + 2) c ∙ length-set one (n + 1) b ∙ length-set row n a in
      rw (second, third) (record {
        low = omega (arith, m.low);
        long = long ∙ m.long;
        places = m.places + 1;
        threes = omega (arith, m.threes);
        left = m.left - 1;
        rest = omega (arith, m.rest, long);
        unrolls = subst (Unrolls rec) (sym (three_moved row n i m.low (omega (arith, m.rest)))) m.unrolls;
      })

  -- no place is left to look at
  pub moving_all : length row ≤ i → Unrolls rec (take n row)
  moving_all h = subst (Unrolls rec) (ap (λ (l : List ℕ). take n row ++ l) (drop_of_length-le row h) ∙ append-nil (take n row)) m.unrolls
