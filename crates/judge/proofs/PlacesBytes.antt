-- The places of a block that were read from the front of bytes are well formed and written to the same bytes again; and well-formed places are read back.
use mathlib.Core.Path.{◌≡◌, refl}
use mathlib.Core.Bool.{Bool, true, ◌&&◌, ◌||◌, not, false≢true}
use mathlib.Core.List.{List, [], ◌∷◌, ◌++◌, map}
use mathlib.Core.Option.{some}
use Prim.Native.Nat.{ℕ, ◌*◌, ◌≤◌, ◌<◌}
use native.Mathlib.Nat.{mul-one, mul-le-mul_left}
use native.Mathlib.Omega.{arith}
use borrow.Author.Tests.{ne_eqb, le-leb, leb-true, lt-ltb, ltb-true}
use lib.Dec.{leb, ltb}
use lib.ListN.{length}
use Rattle.laws.specs.Cases.{and_l, and_r}
use Rattle.laws.specs.Lists.{all, is_nil}
use Rattle.rules.specs.Refusals.{most_orders}
use Rattle.rules.specs.Commands.{Place, place, place_name, place_count, mult, block}
use Rattle.rules.specs.Records.{place_tag, name_tag, place_fields, many, bytes_of}
use Rattle.rules.specs.WellFormed.{wf_place, names_differ, wf_block}
use Rattle.rules.proofs.CommandBack.{mult_pos}
use Rattle.rules.proofs.Names.{block_places, block_names}
use Rattle.rules.proofs.ValueBack.{and_both}
use Rattle.record_walk.specs.Fronts.{head_tag}
use Rattle.record_walk.proofs.FrontLaws.{only_some, Small, goods, several_is, several_all}
use Rattle.judge_place.specs.Places.{is_tag, one_place}
use Rattle.judge_place.proofs.PlaceBytes.{place_is, place_back}
use Rattle.judge.specs.Blocks.{next_place, with_place, some_places, may_be_block, places}

ruleset parts = (and_l, and_r, leb-true)

module _ (named : Bool) where
  -- a place that is well formed and leaves the orders within their limit
  abbrev good : ℕ → Place → Bool
  good o p = wf_place named p && leb (o * place_count p) most_orders

  abbrev all_good : ℕ → List Place → Bool
  all_good o ps = goods (is_tag place_tag) (next_place named) with_place good place_fields o ps

  next_is_lem : (o : ℕ) (r : List ℕ) (p : Place) (r' : List ℕ) → Small r → is_tag place_tag (head_tag r) ≡ true → next_place named o r ≡ some (p, r')
      → (good o p ≡ true) × (r ≡ bytes_of (place_fields p) ++ r')
  unfolding next_place
  next_is_lem o r p r' s h e =
      only_some (λ q. leb (o * place_count q) most_orders) (one_place named r) p r' e
      (λ m k. let w = place_is named r p r' s h k in (and_both (wf_place named p) (leb (o * place_count p) most_orders) w.0 m, w.1))

  -- the tags that end a place
  abbrev ended : ℕ → Bool
  ended t = ltb t name_tag

  next_back : (o : ℕ) (p : Place) (rest : List ℕ) → good o p ≡ true → ended (head_tag rest) ≡ true → next_place named o (bytes_of (place_fields p) ++ rest) ≡ some (p, rest)
  unfolding next_place
  next_back o p rest h t =
      let few : leb (o * place_count p) most_orders ≡ true = search parts in
      rw (place_back named p rest (search parts) (ltb-true (head_tag rest) name_tag t), few)

  opens : (p : Place) (rest : List ℕ) → is_tag place_tag (head_tag (bytes_of (place_fields p) ++ rest)) ≡ true
  opens (place b nm v) rest = refl

  closes : (p : Place) (rest : List ℕ) → ended (head_tag (bytes_of (place_fields p) ++ rest)) ≡ true
  closes (place b nm v) rest = refl

  -- ---- the orders

  all_well : (o : ℕ) (ps : List Place) → all_good o ps ≡ true → all (wf_place named) ps ≡ true
  all_well o [] h = refl
  all_well o (p ∷ ps) h =
      and_both (wf_place named p) (all (wf_place named) ps) (search parts) (all_well (o * place_count p) ps (search parts))

  all_few : (o : ℕ) (p : Place) (ps : List Place) → all_good o (p ∷ ps) ≡ true → o * mult (map place_count (p ∷ ps)) ≤ most_orders
  all_few o p [] h = let k : o * place_count p ≤ most_orders = search parts in rw mul-one k
  all_few o p (q ∷ ps) h =
      let ih = all_few (o * place_count p) q ps (search parts) in
      let assoc : o * mult (map place_count (p ∷ q ∷ ps)) ≡ o * place_count p * mult (map place_count (q ∷ ps)) = omega arith in
      rw assoc ih

  some_few : (o : ℕ) (ps : List Place) → not (is_nil ps) ≡ true → all_good o ps ≡ true → o * mult (map place_count ps) ≤ most_orders
  some_few o [] n h = absurd (false≢true n)
  some_few o (p ∷ ps) n h = all_few o p ps h

  all_good_lem : (o : ℕ) (ps : List Place) → all (wf_place named) ps ≡ true → o * mult (map place_count ps) ≤ most_orders → all_good o ps ≡ true
  all_good_lem o [] h m = refl
  all_good_lem o (p ∷ ps) h m =
      let c : ℕ = o * place_count p in
      let r : ℕ = mult (map place_count ps) in
      let assoc : o * (place_count p * r) ≡ c * r = omega arith in
      let m' : c * r ≤ most_orders = rw assoc at m in
      let few : c ≤ most_orders = omega (arith, mul-le-mul_left c (mult_pos ps)) in
      and_both (good o p) (all_good c ps) (and_both (wf_place named p) (leb c most_orders) (search parts) (le-leb c most_orders few)) (all_good_lem c ps (search parts) m')

  -- ---- all places

  block_some : (ps : List Place) → wf_block (block named ps) ≡ true → not (is_nil ps) ≡ true
  block_some ps h = search parts

  pub record PlacesWrote (n o : ℕ) (r : List ℕ) (ps : List Place) (r' : List ℕ) : Type 0 where
    pub some_there : not (is_nil ps) ≡ true
    pub well : all (wf_place named) ps ≡ true
    pub names : not named || names_differ (map place_name ps) ≡ true
    pub few : length ps ≤ n
    pub orders : o * mult (map place_count ps) ≤ most_orders
    pub bytes : r ≡ bytes_of (many place_fields ps) ++ r'

  pub places_is : (n o : ℕ) (r : List ℕ) (ps : List Place) (r' : List ℕ) → Small r → places named n o r ≡ some (ps, r') → PlacesWrote n o r ps r'
  unfolding places
  places_is n o r ps r' s e =
      only_some (may_be_block named) (some_places named n o r) ps r' e
      (λ b k.
      let w = several_is (is_tag place_tag) (next_place named) with_place good place_fields next_is_lem n o r ps r' s k in
      let t : not (is_nil ps) ≡ true = search parts in
      record {
        some_there = t;
        well = all_well o ps w.well;
        names = search parts;
        few = w.few;
        orders = some_few o ps t w.well;
        bytes = w.bytes;
      })

  pub places_back : (n o : ℕ) (ps : List Place) (rest : List ℕ) → wf_block (block named ps) ≡ true → length ps ≤ n → o * mult (map place_count ps) ≤ most_orders
      → head_tag rest < place_tag → places named n o (bytes_of (many place_fields ps) ++ rest) ≡ some (ps, rest)
  unfolding places
  places_back n o ps rest h l m k =
      rw (
        several_all (is_tag place_tag) (next_place named) with_place good place_fields ended next_back opens closes ps n o rest (all_good_lem o ps (block_places named ps h) m) l
            (ne_eqb (head_tag rest) place_tag (λ e. omega arith)) (lt-ltb (head_tag rest) name_tag (omega arith)),
        block_some ps h,
        block_names named ps h,
      )
