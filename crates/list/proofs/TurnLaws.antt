-- A turn, from the last place back: the places that were looked at stood at their last arguments and stand at their first again, until one goes on; so all stand at the next combination.
use mathlib.Core.Path.{◌≡◌, refl, sym, ap, ◌∙◌, subst}
use mathlib.Core.Bool.{Bool, true, false, false≢true}
use mathlib.Core.List.{List, [], ◌∷◌, ◌++◌, append_assoc, append-nil}
use Prim.Native.Nat.{ℕ, ◌+◌, ◌-◌, ◌*◌, ◌≤◌, ◌<◌}
use native.Mathlib.Nat.{le_refl}
use native.Mathlib.Omega.{arith}
use lib.ListN.{length, get_or, take, drop, set, length-append, length-take, length-drop, drop_of_length-le}
use lib.Seq.{drop-append_seam}
use Rattle.laws.specs.Over.{part, back as given, part_from, length_part}
use Rattle.judge.proofs.ToldLaws.{three_front}
use Rattle.record_walk.specs.Values.{Value}
use Rattle.list_argument.specs.Standings.{Stands, Argument, IsFirst, IsNext}
use Rattle.list_argument.specs.declared.Standing.{Standing}
use Rattle.list_argument.proofs.StandingLaws.{stands_some, stands_inside}
use Rattle.list.specs.Filled.{Chosen, Values}
use Rattle.list.specs.Odometer.{heads, from, standing_in, AllStand, Restarts, Odometer, Steps, Another, Turns}
use Rattle.list.proofs.OdometerLaws.{Some, Last, from_last, from_next}
use Rattle.list.proofs.RowLaws.{values_long, stand_long, stand_count, values_some, stand_some, values_behind, stand_from, stand_with}

-- ---- three numbers are stored

pub three_set : (l : List ℕ) (a b c : ℕ) → 3 ≤ length l → set (set (set l 0 a) 1 b) 2 c ≡ a ∷ (b ∷ (c ∷ drop 3 l))
three_set [] a b c h = absurd (omega (arith, h))
three_set (x ∷ []) a b c h = absurd (omega (arith, h))
three_set (x ∷ (y ∷ [])) a b c h = absurd (omega (arith, h))
three_set (x ∷ (y ∷ (z ∷ l))) a b c h = refl

pub second_room : {n : ℕ} → 3 ≤ n → 2 ≤ n
second_room h = omega arith

-- ---- one place

pub restarts : {rec : List ℕ} {from to : ℕ} {old new : List ℕ} {r : Standing} → IsFirst rec from to r → new ≡ r.start ∷ (r.end ∷ (r.term ∷ drop 3 old))
    → Restarts rec from to old new
restarts {r = r} f e = record { first = r; is = f; row = e }

module _ {rec : List ℕ} {to : ℕ} {s r : Standing} (n : IsNext rec to s r) where
  next_end : (left : List (List ℕ)) → Stands rec to s left → r.start < to → r.end ≤ to
  next_end [] st h = absurd (omega (arith, stands_some st))
  next_end (a ∷ []) st h = absurd (omega (arith, n.last a st))
  next_end (a ∷ (x ∷ xs)) st h = stands_inside (n.more a x xs st).0

  -- the next argument stands in the value, whose end is told in two bytes: so its numbers can be kept
  pub next_start_kept : to < 65536 → r.start < to → r.start < 4294967296
  next_start_kept k h = omega arith

  pub next_end_kept : Argument rec to s → to < 65536 → r.start < to → r.end < 4294967296
  next_end_kept a k h = omega (arith, next_end a.left a.stands h)

module _ {rec : List ℕ} {from to : ℕ} {r : Standing} (f : IsFirst rec from to r) where
  pub first_start_kept : from < 65536 → r.start < 4294967296
  first_start_kept k = omega (arith, f.start)

  pub first_end_kept : Value rec from to → to < 65536 → r.end < 4294967296
  first_end_kept v k = omega (arith, stands_inside (f.stands v.elements v.holds))

module _ {rec : List ℕ} {from to : ℕ} {old new : List ℕ} {r : Standing} (n : IsNext rec to (standing_in old) r) where
  -- it goes on
  pub steps_on : r.start < to → new ≡ r.start ∷ (r.end ∷ (r.term ∷ drop 3 old)) → Steps rec from to old true new
  steps_on h e = rw e (record {
    behind = refl;
    more = λ a x xs st. (refl, (n.more a x xs st).0);
    last = λ a es st g. absurd (omega (arith, n.last a st));
  })

  -- it begins again
  pub steps_again : to ≤ r.start → Restarts rec from to old new → Steps rec from to old false new
  steps_again h f = rw f.row (record {
    behind = refl;
    more = λ a x xs st. absurd (omega (arith, (n.more a x xs st).1));
    last = λ a es st g. (refl, f.is.stands es g);
  })

-- ---- the place before

-- a list's last member
record Ending (xs : List (List (List ℕ))) : Type 0 where
  front : List (List (List ℕ))
  end : List (List ℕ)
  is : xs ≡ front ++ (end ∷ [])

ending : (xs : List (List (List ℕ))) → 0 < length xs → Ending xs
ending [] h = absurd (omega (arith, h))
ending (x ∷ []) h = record { front = []; end = x; is = refl }
ending (x ∷ (y ∷ ys)) h =
    let e : Ending (y ∷ ys) = ending (y ∷ ys) (omega arith) in
    record { front = x ∷ e.front; end = e.end; is = ap (λ (l : List (List (List ℕ))). x ∷ l) e.is }

-- the places from i on stood at their last arguments, and stand at their first again
pub record Turning (rec row old : List ℕ) (i : ℕ) (cur : List ℕ) (fs ls : List (List (List ℕ))) : Type 0 where
  pub gs : List (List (List ℕ))
  pub again : List (List (List ℕ))
  pub ks : List (List (List ℕ))
  pub ends : List (List (List ℕ))
  pub choices : fs ≡ gs ++ again
  pub left : ls ≡ ks ++ ends
  pub even : length gs ≡ length ks
  pub threes : i ≡ 3 * length ks
  pub low : i ≤ length row
  pub stand : AllStand rec row cur (ks ++ again)
  pub last : Last ends
  pub values : Values rec 0 row fs
  pub stood : AllStand rec row old ls

pub turning_none : {rec row old : List ℕ} {fs ls : List (List (List ℕ))} → Values rec 0 row fs → AllStand rec row old ls → Turning rec row old (length row) old fs ls
turning_none {rec} {row} {old} {fs} {ls} v a = record {
  gs = fs;
  again = [];
  ks = ls;
  ends = [];
  choices = sym (append-nil fs);
  left = sym (append-nil ls);
  even = omega (arith, values_long rec 0 row fs v, stand_count rec row old ls a);
  threes = stand_count rec row old ls a;
  low = le_refl (length row);
  stand = subst (AllStand rec row old) (sym (append-nil ls)) a;
  last = tt;
  values = v;
  stood = a;
}

-- ---- the place that is looked at

-- its value, its argument, and the places behind it
record Looked (rec row cur : List ℕ) (j : ℕ) (fs ls : List (List (List ℕ))) : Type 0 where
  gs : List (List (List ℕ))
  choice : List (List ℕ)
  again : List (List (List ℕ))
  ks : List (List (List ℕ))
  own : List (List ℕ)
  ends : List (List (List ℕ))
  choices : fs ≡ gs ++ (choice ∷ again)
  left : ls ≡ ks ++ (own ∷ ends)
  even : length gs ≡ length ks
  many : length again ≡ length ends
  threes : j ≡ 3 * length ks
  all : AllStand rec row cur (ks ++ (own ∷ again))
  at : ℕ
  chosen : Chosen rec at (get_or row j 0) (get_or row (j + 1) 0) (get_or row (j + 2) 0) choice
  here : Stands rec (get_or row (j + 2) 0) (standing_in (part cur j)) own
  rest : AllStand rec (drop (j + 3) row) (drop 3 (part cur j)) again
  long : 3 ≤ length (part cur j)
  row_is : drop j row ≡ get_or row j 0 ∷ get_or row (j + 1) 0 ∷ get_or row (j + 2) 0 ∷ drop (j + 3) row
  last : Last ends
  some : Some again
  front : Some ks

-- the first of some, and what is behind it
some_append : (ks ls : List (List (List ℕ))) → Some (ks ++ ls) → Some ks × Some ls
some_append [] ls h = (tt, h)
some_append ([] ∷ ks) ls h = absurd h
some_append ((x ∷ xs) ∷ ks) ls h = some_append ks ls h

module _ {rec row old cur : List ℕ} {i : ℕ} {fs ls : List (List (List ℕ))} (t : Turning rec row old i cur fs ls) (h : 0 < i) where
  abbrev j : ℕ
  j = i - 3

  low_three : j + 3 ≤ length row
  low_three = omega (arith, t.low, t.threes)

  module _ (g : Ending t.gs) (k : Ending t.ks) where
    stands : AllStand rec row cur (k.front ++ (k.end ∷ t.again))
    stands =
        subst (AllStand rec row cur) (ap (λ (l : List (List (List ℕ))). l ++ t.again) k.is ∙ append_assoc k.front (k.end ∷ []) t.again) t.stand

    choices_are : fs ≡ g.front ++ (g.end ∷ t.again)
    choices_are = t.choices ∙ ap (λ (l : List (List (List ℕ))). l ++ t.again) g.is ∙ append_assoc g.front (g.end ∷ []) t.again

    left_is : ls ≡ k.front ++ (k.end ∷ t.ends)
    left_is = t.left ∙ ap (λ (l : List (List (List ℕ))). l ++ t.ends) k.is ∙ append_assoc k.front (k.end ∷ []) t.ends

    fronts : length k.front + 1 ≡ length t.ks
    fronts = sym (ap length k.is ∙ length-append k.front (k.end ∷ []))

    even_fronts : length g.front ≡ length k.front
    even_fronts = omega (arith, fronts, t.even, ap length g.is, length-append g.front (g.end ∷ []))

    three : j ≡ 3 * length k.front
    three = omega (arith, t.threes, fronts)

    cur_long : length cur ≡ length row
    cur_long = stand_long rec row cur (t.ks ++ t.again) t.stand

    row_three : drop j row ≡ get_or row j 0 ∷ get_or row (j + 1) 0 ∷ get_or row (j + 2) 0 ∷ drop (j + 3) row
    row_three = three_front row j low_three

    cur_three : part cur j ≡ get_or cur j 0 ∷ get_or cur (j + 1) 0 ∷ get_or cur (j + 2) 0 ∷ drop (j + 3) cur
    cur_three = part_from cur j ∙ three_front cur j (omega (arith, low_three, cur_long))

    place_stands : AllStand rec (get_or row j 0 ∷ get_or row (j + 1) 0 ∷ get_or row (j + 2) 0 ∷ drop (j + 3) row) (part cur j) (k.end ∷ t.again)
    place_stands =
        let a : AllStand rec (drop j row) (drop j cur) (k.end ∷ t.again) = stand_from rec row cur j k.front (k.end ∷ t.again) three stands in
        rw (part_from cur j) (rw row_three at a)

    place_values : (n : ℕ) × Values rec n (drop (3 * length g.front) row) (drop (length g.front) fs)
    place_values = values_behind rec (length g.front) 0 row fs t.values

    looked : Looked rec row cur j fs ls
    looked =
        let place : List ℕ = get_or row j 0 ∷ get_or row (j + 1) 0 ∷ get_or row (j + 2) 0 ∷ drop (j + 3) row in
        let a : AllStand rec place (get_or cur j 0 ∷ get_or cur (j + 1) 0 ∷ get_or cur (j + 2) 0 ∷ drop (j + 3) cur) (k.end ∷ t.again) =
        subst (λ (x : List ℕ). AllStand rec place x (k.end ∷ t.again)) cur_three place_stands in
        let n : ℕ = place_values.0 in
        let e : drop (length g.front) fs ≡ g.end ∷ t.again = ap (drop (length g.front)) choices_are ∙ drop-append_seam g.front (g.end ∷ t.again) in
        let q : 3 * length g.front ≡ j = omega (arith, three, even_fronts) in
        let r : drop (3 * length g.front) row ≡ place = ap (λ (m : ℕ). drop m row) q ∙ row_three in
        let v : Values rec n place (g.end ∷ t.again) =
        subst (λ (x : List ℕ). Values rec n x (g.end ∷ t.again)) r (subst (Values rec n (drop (3 * length g.front) row)) e place_values.1) in
        record {
          gs = g.front;
          choice = g.end;
          again = t.again;
          ks = k.front;
          own = k.end;
          ends = t.ends;
          choices = choices_are;
          left = left_is;
          even = even_fronts;
          many =
              omega (
                arith,
                values_long rec 0 row fs t.values,
                stand_count rec row old ls t.stood,
                ap length choices_are,
                ap length left_is,
                length-append g.front (g.end ∷ t.again),
                length-append k.front (k.end ∷ t.ends),
                even_fronts,
              );
          threes = three;
          all = stands;
          at = n;
          chosen = v.0;
          here = subst (λ (x : List ℕ). Stands rec (get_or row (j + 2) 0) (standing_in x) k.end) (sym cur_three) a.0;
          rest = subst (λ (x : List ℕ). AllStand rec (drop (j + 3) row) (drop 3 x) t.again) (sym cur_three) a.1;
          long = omega (arith, length_part cur j, low_three, cur_long);
          row_is = row_three;
          last = t.last;
          some = values_some rec (get_or row (j + 2) 0) (drop (j + 3) row) t.again v.1;
          front = (some_append k.front (k.end ∷ t.again) (stand_some rec row cur (k.front ++ (k.end ∷ t.again)) stands)).0;
        }

  look : Looked rec row cur j fs ls
  look = looked (ending t.gs (omega (arith, t.threes, t.even))) (ending t.ks (omega (arith, t.threes)))

-- ---- it moves

pub given_is : (xs : List ℕ) (a : ℕ) (ys : List ℕ) → given xs a ys ≡ take a xs ++ ys
given_is xs a ys =
    let z : drop (length xs - a) (drop a xs) ≡ [] = drop_of_length-le (drop a xs) {i = length xs - a} (omega (arith, length-drop a xs)) in
    ap (λ (l : List ℕ). take a xs ++ l) (ap (λ (l : List ℕ). ys ++ l) z ∙ append-nil ys)

module _ {rec row cur : List ℕ} {j : ℕ} {fs ls : List (List (List ℕ))} (p : Looked rec row cur j fs ls) {r : Bool} {ys : List ℕ}
    (st : Steps rec (get_or row (j + 1) 0) (get_or row (j + 2) 0) (part cur j) r ys) (long : length ys ≡ length (part cur j)) where
  -- the place with another argument
  moved : {l : List (List ℕ)} → Stands rec (get_or row (j + 2) 0) (standing_in ys) l → AllStand rec row (given cur j ys) (p.ks ++ (l ∷ p.again))
  moved {l} s =
      let place : List ℕ = get_or row j 0 ∷ get_or row (j + 1) 0 ∷ get_or row (j + 2) 0 ∷ drop (j + 3) row in
      let three : ys ≡ get_or ys 0 0 ∷ get_or ys 1 0 ∷ get_or ys 2 0 ∷ drop 3 ys = three_front ys 0 (omega (arith, p.long)) in
      let rest : AllStand rec (drop (j + 3) row) (drop 3 ys) p.again = subst (λ (x : List ℕ). AllStand rec (drop (j + 3) row) x p.again) (sym st.behind) p.rest in
      let a : AllStand rec place (get_or ys 0 0 ∷ get_or ys 1 0 ∷ get_or ys 2 0 ∷ drop 3 ys) (l ∷ p.again) = (s, rest) in
      let b : AllStand rec (drop j row) ys (l ∷ p.again) =
      subst (λ (x : List ℕ). AllStand rec x ys (l ∷ p.again)) (sym p.row_is) (subst (λ (x : List ℕ). AllStand rec place x (l ∷ p.again)) (sym three) a) in
      subst (λ (x : List ℕ). AllStand rec row x (p.ks ++ (l ∷ p.again))) (sym (given_is cur j ys))
      (stand_with rec row cur ys j p.ks (p.own ∷ p.again) (l ∷ p.again) p.threes p.all b)

  goes : (own : List (List ℕ)) → p.own ≡ own → r ≡ true → Another rec row fs ls (given cur j ys)
  goes [] e h = absurd (omega (arith, stands_some p.here, ap length e))
  goes (a ∷ []) e h =
      let s : Stands rec (get_or row (j + 2) 0) (standing_in (part cur j)) (a ∷ []) = subst (Stands rec (get_or row (j + 2) 0) (standing_in (part cur j))) e p.here in
      absurd (false≢true (sym (st.last a p.chosen.elements s p.chosen.holds).0 ∙ h))
  goes (a ∷ (x ∷ xs)) e h =
      let s : Stands rec (get_or row (j + 2) 0) (standing_in (part cur j)) (a ∷ (x ∷ xs)) = subst (Stands rec (get_or row (j + 2) 0) (standing_in (part cur j))) e p.here in
      let el : ls ≡ p.ks ++ ((a ∷ (x ∷ xs)) ∷ p.ends) = p.left ∙ ap (λ (l : List (List ℕ)). p.ks ++ (l ∷ p.ends)) e in
      record {
        left = p.ks ++ ((x ∷ xs) ∷ p.again);
        stand = moved (st.more a x xs s).1;
        is =
            rw (p.choices, el)
            (from_next p.gs p.again p.ks p.ends p.choice a x xs p.even p.front p.many p.last p.some);
      }

  begins : {old : List ℕ} (own : List (List ℕ)) → p.own ≡ own → r ≡ false → Values rec 0 row fs → AllStand rec row old ls → j ≤ length row → Turning rec row old j (given cur j ys) fs ls
  begins [] e h v s₀ low = absurd (omega (arith, stands_some p.here, ap length e))
  begins (a ∷ (x ∷ xs)) e h v s₀ low =
      let s : Stands rec (get_or row (j + 2) 0) (standing_in (part cur j)) (a ∷ (x ∷ xs)) = subst (Stands rec (get_or row (j + 2) 0) (standing_in (part cur j))) e p.here in
      absurd (false≢true (sym h ∙ (st.more a x xs s).0))
  begins (a ∷ []) e h v s₀ low =
      let s : Stands rec (get_or row (j + 2) 0) (standing_in (part cur j)) (a ∷ []) = subst (Stands rec (get_or row (j + 2) 0) (standing_in (part cur j))) e p.here in
      let c : Stands rec (get_or row (j + 2) 0) (standing_in ys) p.choice =
      subst (Stands rec (get_or row (j + 2) 0) (standing_in ys)) (sym p.chosen.is) (st.last a p.chosen.elements s p.chosen.holds).1 in
      record {
        gs = p.gs;
        again = p.choice ∷ p.again;
        ks = p.ks;
        ends = (a ∷ []) ∷ p.ends;
        choices = p.choices;
        left = p.left ∙ ap (λ (l : List (List ℕ)). p.ks ++ (l ∷ p.ends)) e;
        even = p.even;
        threes = p.threes;
        low = low;
        stand = moved c;
        last = p.last;
        values = v;
        stood = s₀;
      }

-- ---- the loop

pub record Rolling (rec row old : List ℕ) (i : ℕ) (cur : List ℕ) : Type 0 where
  pub low : i ≤ length row
  pub turns : ℕ
  pub threes : i ≡ 3 * turns
  pub even : length row ≡ length old
  pub long : length cur ≡ length old
  pub odometer : Odometer rec row old
  pub back : (fs ls : List (List (List ℕ))) → Values rec 0 row fs → AllStand rec row old ls → Turning rec row old i cur fs ls

pub rolling_none : {rec row old : List ℕ} → Odometer rec row old → Rolling rec row old (length row) old
rolling_none {rec} {row} {old} o = record {
  low = le_refl (length row);
  turns = length o.left;
  threes = stand_count rec row old o.left o.stand;
  even = sym (stand_long rec row old o.left o.stand);
  long = refl;
  odometer = o;
  back = λ fs ls v a. turning_none v a;
}

module _ {rec row old cur : List ℕ} {i : ℕ} (w : Rolling rec row old i cur) where
  abbrev own_turn : Turning rec row old i cur w.odometer.choices w.odometer.left
  own_turn = w.back w.odometer.choices w.odometer.left w.odometer.values w.odometer.stand

  pub rolling_value : 0 < i → Value rec (get_or row (i - 3 + 1) 0) (get_or row (i - 3 + 2) 0)
  rolling_value h = let c = (look own_turn h).chosen in record { elements = c.elements; holds = c.holds }

  pub rolling_argument : 0 < i → Argument rec (get_or row (i - 3 + 2) 0) (standing_in (part cur (i - 3)))
  rolling_argument h = let p = look own_turn h in record { left = p.own; stands = p.here }

  pub rolling_room : 0 < i → 3 ≤ length (part cur (i - 3))
  rolling_room h = (look own_turn h).long

  module _ {r : Bool} {ys : List ℕ} (h : 0 < i) (st : Steps rec (get_or row (i - 3 + 1) 0) (get_or row (i - 3 + 2) 0) (part cur (i - 3)) r ys)
      (long : length ys ≡ length (part cur (i - 3))) where
    pub rolling_on : r ≡ true → Turns rec row old true (given cur (i - 3) ys)
    rolling_on e = λ fs ls v a. let p = look (w.back fs ls v a) h in goes p st long p.own refl e

    pub rolling_back : r ≡ false → Rolling rec row old (i - 3) (given cur (i - 3) ys)
    rolling_back e = record {
      low = omega (arith, w.low);
      turns = w.turns - 1;
      threes = omega (arith, w.threes);
      long = ap length (given_is cur (i - 3) ys) ∙ length-append (take (i - 3) cur) ys ∙ omega (arith, w.low, w.even, w.long, length-take (i - 3) cur, length_part cur (i - 3));
      even = w.even;
      odometer = w.odometer;
      back = λ fs ls v a.
          let t = w.back fs ls v a in let p = look t h in begins p st long p.own refl e v a (omega (arith, t.low));
    }

  pub rolling_end : i ≤ 0 → Turns rec row old false cur
  rolling_end h = λ fs ls v a.
      let t = w.back fs ls v a in
      done fs ls t t.ks refl
    where
      done : (fs ls : List (List (List ℕ))) (t : Turning rec row old i cur fs ls) (ks : List (List (List ℕ))) → t.ks ≡ ks → from fs ls ≡ heads ls ∷ []
      done fs ls t [] e =
          let el : ls ≡ t.ends = t.left ∙ ap (λ (l : List (List (List ℕ))). l ++ t.ends) e in
          from_last fs ls (omega (arith, values_long rec 0 row fs t.values, stand_count rec row old ls t.stood)) (subst Last (sym el) t.last)
      done fs ls t (k ∷ ks) e = absurd (omega (arith, t.threes, ap length e))
