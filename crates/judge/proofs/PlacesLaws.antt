-- Places from the front: each turn of the loop reads one more, whose name is new, tells its numbers and multiplies the orders.
use mathlib.Core.Path.{◌≡◌, refl, sym, ap, ◌∙◌, subst}
use mathlib.Core.Bool.{Bool, true, false, ◌||◌, not}
use mathlib.Core.List.{List, [], ◌∷◌, ◌++◌, map, append_assoc, append-nil}
use mathlib.Core.Option.{none, some}
use Prim.Native.Nat.{ℕ, zero, suc, max, ◌+◌, ◌-◌, ◌*◌, ◌≤◌, ◌<◌}
use native.Mathlib.Nat.{mul-one}
use native.Mathlib.Omega.{arith}
use borrow.Author.Tests.{eq-eqb, ne_eqb, le-leb, lt-leb, leb-true, leb-false, not-true}
use lib.Dec.{leb}
use lib.ListN.{length, take, drop, length-append}
use lib.Arith.{lt_of_le-ne}
use Rattle.laws.specs.Cases.{pick, by_bool, by_option, none≢some, and_false, or_true}
use Rattle.laws.specs.Lists.{is_nil}
use Rattle.rules.specs.Refusals.{most_places, most_orders}
use Rattle.rules.specs.Commands.{Place, place, place_name, place_count, terms, sum, mult}
use Rattle.rules.specs.Records.{place_tag}
use Rattle.rules.specs.WellFormed.{names_differ}
use Rattle.rules.proofs.CommandBack.{mult_append}
use Rattle.rules.proofs.Counts.{terms_pos}
use Rattle.record_walk.specs.Fronts.{Read, only, head_tag, before, several}
use Rattle.record_walk.specs.Spans.{arguments_of, place_spans}
use Rattle.record_walk.proofs.FrontLaws.{only_some, before_nil, going_end, going_full, going_bad, going_more}
use Rattle.judge_place.specs.Places.{is_tag, one_place}
use Rattle.marks.specs.Marks.{added_if}
use Rattle.marks.specs.declared.Marks.{Marks}
use Rattle.judge_names.specs.Names.{is_name_of}
use Rattle.judge.specs.Blocks.{counted, next_place, with_place, some_places, may_be_block, places, fresh_place}
use Rattle.judge.specs.Judged.{per_place, row_length, most_told, told_at, orders_of, Stand, NextIs, IsNext, PlacesAre}
use Rattle.judge.specs.declared.Next.{Next}
use Rattle.std.proofs.Common.{Option, Some, None}
use Rattle.judge.proofs.SpanLaws.{told_long, told_take, spans_more}
use Rattle.judge.proofs.NextLaws.{head_first, stand_ends, differ_more, differ_not}

-- the orders are multiplied by a place's count
counted_is : (p : Place) → counted (arguments_of p) ≡ place_count p
unfolding counted
counted_is (place b nm []) = refl
counted_is (place b nm (e ∷ es)) = rw (ne_eqb (sum (map terms (e ∷ es))) 0 (λ h. omega (arith, terms_pos e)))

counted_most : (n : ℕ) → max n 1 ≡ counted n
unfolding counted
counted_most zero = refl
counted_most (suc n) = rw (ne_eqb (suc n) 0 (λ e. omega (arith, e))) (omega arith)

-- the larger of a place's number of arguments and 1 is what it counts
pub times_are : (total number : ℕ) {m p : ℕ} {r : Option ℕ} → m ≡ max number 1 → p ≡ total * m → r ≡ orders_of p → r ≡ orders_of (total * counted number)
times_are total number e f h = h ∙ rw (f, e, counted_most) refl

-- what an answer on orders says
abbrev IsOrders : ℕ → Option ℕ → Type 0
IsOrders n (Some m) = (m ≡ n) × (m ≤ most_orders)
IsOrders n None = most_orders < n

orders_there : (n : ℕ) → IsOrders n (orders_of n)
orders_there n = by_bool (leb n most_orders) (λ y. rw y (refl, leb-true n most_orders y)) (λ y. rw y (leb-false n most_orders y))

orders_is : (n : ℕ) (r : Option ℕ) → r ≡ orders_of n → IsOrders n r
orders_is n r e = subst (IsOrders n) (sym e) (orders_there n)

mult_snoc : (ps : List Place) (p : Place) → mult (map place_count (ps ++ (p ∷ []))) ≡ mult (map place_count ps) * place_count p
mult_snoc ps p = mult_append ps (p ∷ []) ∙ ap (λ x. mult (map place_count ps) * x) (mul-one (place_count p))

differ_with : (named : Bool) (ps : List Place) (p : Place) → not named || names_differ (map place_name ps) ≡ true → not named || not (is_name_of ps (place_name p)) ≡ true
    → not named || names_differ (map place_name (ps ++ (p ∷ []))) ≡ true
differ_with true ps p h f = differ_more ps p h (not-true (is_name_of ps (place_name p)) f)
differ_with false ps p h f = refl

-- a place that was read is not fresh only if the block is named and its name stands already
fresh_none : {A C : Type 0} (x : A) (named known : Bool) → pick (not named || not known) (some x) none ≡ none → (named ≡ true → known ≡ true → C) → C
fresh_none x true true q k = k refl refl
fresh_none x true false q k = none≢some (sym q)
fresh_none x false known q k = none≢some (sym q)

-- the positions of a place that was read can be told
module _ {named : Bool} {rec : List ℕ} {from at c begin k u : ℕ} {m : Marks} {ps : List Place} (d : NextIs named rec from at m ps c begin k u) (l : length rec ≤ most_told) where
  pub end_told : k ≤ most_told
  end_told = omega (arith, d.more.inside)

  pub begin_told : begin ≤ most_told
  begin_told = omega (arith, d.begins, d.ends, head_first d.p, end_told)

-- ---- the loop over a block's places

-- `done` was read up to `at`, no name twice: so many places and orders with those before, and where the values stand is told in `new`
pub record PlacesRead (named : Bool) (rec : List ℕ) (from n o : ℕ) (old new : List ℕ) (at n' o' : ℕ) (m : Marks) : Type 0 where
  pub done : List Place
  pub is : some_places named (most_places - n) o (drop from rec) ≡ before done (some_places named (most_places - n') o' (drop at rec))
  pub number : n' ≡ n + length done
  pub few : n' ≤ most_places
  pub orders : o' ≡ o * mult (map place_count done)
  pub small : o' ≤ most_orders
  pub long : length new ≡ length old
  pub told : row_length ≤ length old → take (per_place * n') new ≡ take (per_place * n) old ++ place_spans from done
  pub stand : Stand named rec from at m done
  pub differ : not named || names_differ (map place_name done) ≡ true
  pub first : n' ≡ n → at ≡ from

none_stand : (named : Bool) (rec : List ℕ) (from : ℕ) (m : Marks) → from ≤ length rec → Stand named rec from from m []
none_stand named rec from m h =
    let z : from - from ≡ 0 = omega arith in
    record { order = omega arith; inside = h; bytes = rw z; marks = or_true (not named) }

pub places_none : (named : Bool) (rec : List ℕ) (from n o : ℕ) (old : List ℕ) (m : Marks) → from ≤ length rec → n ≤ most_places → o ≤ most_orders
    → PlacesRead named rec from n o old old from n o m
places_none named rec from n o old m h k s =
    record {
      done = [];
      is = before_nil (some_places named (most_places - n) o (drop from rec));
      number = omega arith;
      few = k;
      orders = sym (mul-one o);
      small = s;
      long = refl;
      told = λ l. sym (append-nil (take (per_place * n) old));
      stand = none_stand named rec from m h;
      differ = or_true (not named);
      first = λ e. refl;
    }

-- where no place stands first, there is no block
pub no_place : (named : Bool) (rec : List ℕ) (from n o : ℕ) {t : ℕ} → t ≡ head_tag (drop from rec) → (t ≡ place_tag → ⊥) → places named (most_places - n) o (drop from rec) ≡ none
unfolding places
no_place named rec from n o {t} e h =
    rw (going_end (is_tag place_tag) (next_place named) with_place [] (most_places - n) o (drop from rec) (before_nil (some_places named (most_places - n) o (drop from rec))) e (ne_eqb t place_tag h))

module _ {named : Bool} {rec : List ℕ} {from n o : ℕ} {old new : List ℕ} {at n' o' t : ℕ} {m : Marks} (v : PlacesRead named rec from n o old new at n' o' m) (e : t ≡ head_tag (drop at rec)) where
  pub place_here : t ≡ place_tag → head_tag (drop at rec) ≡ place_tag
  place_here h = sym e ∙ h

  pub room_left : (n' ≡ most_places → ⊥) → n' < most_places
  room_left z = lt_of_le-ne v.few z

  some_end : (t ≡ place_tag → ⊥) → some_places named (most_places - n) o (drop from rec) ≡ some (v.done, drop at rec)
  some_end h = going_end (is_tag place_tag) (next_place named) with_place v.done (most_places - n') o' (drop at rec) v.is e (ne_eqb t place_tag h)

  -- where a place stands first, one was read
  pub places_end : {f : ℕ} → (t ≡ place_tag → ⊥) → f ≡ head_tag (drop from rec) → f ≡ place_tag → PlacesAre named rec from n o old new n' o' at
  unfolding places
  places_end h q y =
      let z : n' ≡ n → ⊥ = λ z. h (e ∙ ap (λ (i : ℕ). head_tag (drop i rec)) (v.first z) ∙ sym q ∙ y) in
      record {
        ps = v.done;
        is = go v.done (λ k. z (omega (arith, v.number))) v.differ (some_end h);
        inside = v.stand.inside;
        number = v.number;
        few = v.few;
        orders = v.orders;
        small = v.small;
        ends = stand_ends v.stand;
        long = v.long;
        told = v.told;
      }
    where
      go : (ps : List Place) → (length ps ≡ 0 → ⊥) → not named || names_differ (map place_name ps) ≡ true → some_places named (most_places - n) o (drop from rec) ≡ some (ps, drop at rec)
          → only (may_be_block named) (some_places named (most_places - n) o (drop from rec)) ≡ some (ps, drop at rec)
      go [] k f q = absurd (k refl)
      go (p ∷ ps) k f q = rw (q, f)

  gone : some_places named (most_places - n) o (drop from rec) ≡ none → places named (most_places - n) o (drop from rec) ≡ none
  unfolding places
  gone q = rw q

  pub places_full : t ≡ place_tag → n' ≡ most_places → places named (most_places - n) o (drop from rec) ≡ none
  places_full h z =
      gone (going_full (is_tag place_tag) (next_place named) with_place v.done (most_places - n') o' (drop at rec) v.is e (eq-eqb t place_tag h) (omega arith))

  one_left : (n' ≡ most_places → ⊥) → most_places - n' ≡ suc (most_places - (n' + 1))
  one_left z = let w : n' < most_places = room_left z in omega arith

  bad_here : t ≡ place_tag → (n' ≡ most_places → ⊥) → next_place named o' (drop at rec) ≡ none → places named (most_places - n) o (drop from rec) ≡ none
  bad_here h z q = gone (going_bad (is_tag place_tag) (next_place named) with_place v.done (most_places - n') o' (drop at rec) v.is e (eq-eqb t place_tag h) (λ x. z (omega (arith, v.few))) q)

  -- a name that stands twice: whatever is read behind it, the names do not differ
  twice_here : t ≡ place_tag → (n' ≡ most_places → ⊥) → (p : Place) (r : List ℕ) → one_place named (drop at rec) ≡ some (p, r) → named ≡ true → is_name_of v.done (place_name p) ≡ true
      → places named (most_places - n) o (drop from rec) ≡ none
  unfolding places next_place
  twice_here h z p r q y w =
      by_bool (leb (o' * place_count p) most_orders)
      (λ b.
      let one : next_place named o' (drop at rec) ≡ some (p, r) = rw (q, b) in
      rw (going_more (is_tag place_tag) (next_place named) with_place v.done (most_places - n') o' (drop at rec) v.is e (eq-eqb t place_tag h) (one_left z) one)
      (behind (several (is_tag place_tag) (next_place named) with_place (most_places - (n' + 1)) (o' * place_count p) r)))
      (λ b. bad_here h z (rw (q, b)))
    where
      behind : (x : Read (List Place)) → only (may_be_block named) (before (v.done ++ (p ∷ [])) x) ≡ none
      behind none = refl
      behind (some x) = rw (y, differ_not v.done p x.0 w, and_false (not (is_nil ((v.done ++ (p ∷ [])) ++ x.0))))

  pub places_bad : IsNext named rec from at m None → t ≡ place_tag → (n' ≡ most_places → ⊥) → places named (most_places - n) o (drop from rec) ≡ none
  unfolding next_place fresh_place
  places_bad g h z =
      let q : fresh_place named v.done (drop at rec) ≡ none = g v.done v.stand in
      by_option (one_place named (drop at rec))
      (λ e. bad_here h z (rw e))
      (λ x e. fresh_none x named (is_name_of v.done (place_name x.0)) (rw e at q) (λ y w. twice_here h z x.0 x.1 e y w))

  pub next_there : {p : Next} → IsNext named rec from at m (Some p) → NextIs named rec from at m v.done p.place.number p.place.value p.place.next p.key
  next_there g = g v.done v.stand

  module _ {c begin k u : ℕ} (d : NextIs named rec from at m v.done c begin k u) where
    abbrev p : Place
    p = d.p

    -- it is a place, and its name is new
    fresh : (one_place named (drop at rec) ≡ some (p, drop k rec)) × (not named || not (is_name_of v.done (place_name p)) ≡ true)
    unfolding fresh_place
    fresh = only_some (λ q. not named || not (is_name_of v.done (place_name q))) (one_place named (drop at rec)) p (drop k rec) d.is (λ f e. (e, f))

    spans : place_spans from (v.done ++ (p ∷ [])) ≡ place_spans from v.done ++ (c ∷ begin ∷ k ∷ [])
    spans = spans_more from v.done p (stand_ends v.stand) ∙ rw (← d.arguments, ← d.begins, ← d.ends)

    module _ (h : t ≡ place_tag) (z : n' ≡ most_places → ⊥) where
      product : o' * counted c ≡ o' * place_count p
      product = ap (λ (x : ℕ). o' * x) (ap counted d.arguments ∙ counted_is p)

      pub places_many : None ≡ orders_of (o' * counted c) → places named (most_places - n) o (drop from rec) ≡ none
      unfolding next_place
      places_many y =
          let b : most_orders < o' * counted c = orders_is (o' * counted c) None y in
          bad_here h z (rw (fresh.0, ← product, lt-leb (o' * counted c) most_orders b))

      pub places_more : {o'' : ℕ} {m' : Marks} {row : List ℕ} → Some o'' ≡ orders_of (o' * counted c) → m' ≡ added_if named m u → row ≡ told_at new n' c begin k
          → PlacesRead named rec from n o old row k (n' + 1) o'' m'
      unfolding next_place
      places_more {o''} {m'} {row} y l written =
          let b = orders_is (o' * counted c) (Some o'') y in
          let total : o' * place_count p ≡ o'' = sym (b.0 ∙ product) in
          let next_is_lem : next_place named o' (drop at rec) ≡ some (p, drop k rec) = rw (fresh.0, total, le-leb o'' most_orders b.1) in
          let w : n' < most_places = room_left z in
          let apart : o * mult (map place_count v.done) * place_count p ≡ o * (mult (map place_count v.done) * place_count p) = omega arith in
          record {
            done = v.done ++ (p ∷ []);
            is =
                going_more (is_tag place_tag) (next_place named) with_place v.done (most_places - n') o' (drop at rec) v.is e (eq-eqb t place_tag h) (one_left z) next_is_lem
                ∙ ap (λ (x : ℕ). before (v.done ++ (p ∷ [])) (some_places named (most_places - (n' + 1)) x (drop k rec))) total;
            number = omega (arith, v.number, length-append v.done (p ∷ []));
            few = omega arith;
            orders = sym total ∙ ap (λ (x : ℕ). x * place_count p) v.orders ∙ apart ∙ ap (λ (x : ℕ). o * x) (sym (mult_snoc v.done p));
            small = b.1;
            long = ap length written ∙ told_long new n' c begin k ∙ v.long;
            told =
                λ r.
                ap (take (per_place * (n' + 1))) written
                ∙ told_take new n' c begin k w (omega (arith, v.long))
                ∙ ap (λ (x : List ℕ). x ++ (c ∷ begin ∷ k ∷ [])) (v.told r)
                ∙ append_assoc (take (per_place * n) old) (place_spans from v.done) (c ∷ begin ∷ k ∷ [])
                ∙ ap (λ (x : List ℕ). take (per_place * n) old ++ x) (sym spans);
            stand = subst (λ (x : Marks). Stand named rec from k x (v.done ++ (p ∷ []))) (sym l) d.more;
            differ = differ_with named v.done p v.differ fresh.1;
            first = λ e. absurd (omega (arith, v.number));
          }
