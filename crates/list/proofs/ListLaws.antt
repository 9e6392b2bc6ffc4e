-- The list of a record is one order for each combination of its values' arguments: the written-out list goes through the same combinations, and the bytes of each are the record's with
-- these arguments filled in, by induction over blocks and places.
use mathlib.Core.Path.{◌≡◌, refl, sym, ap, ap₂, ◌∙◌, subst}
use mathlib.Core.Bool.{Bool, true, false}
use mathlib.Core.List.{List, [], ◌∷◌, ◌++◌, map, append_assoc, append-nil, map-append, map-map, map-id}
use Prim.Native.Nat.{ℕ, suc, ◌+◌, ◌-◌, ◌≤◌}
use native.Mathlib.Nat.{le_refl}
use native.Mathlib.Omega.{arith}
use borrow.Author.Tests.{ne_eqb, eqb-true}
use lib.Dec.{eqb}
use lib.ListN.{length, drop, length-map, take-append-drop}
use lib.Seq.{drop-drop}
use Rattle.laws.specs.Cases.{Always, and_l, and_r}
use Rattle.laws.specs.Lists.{all, concat, all_concat, all_map}
use Rattle.rules.specs.Units.{Base, num}
use Rattle.rules.specs.Refusals.{ok}
use Rattle.rules.specs.Commands.{Element, single, range, terms, sum, mult, Place, place, place_value, Block, block, Command, command, all_places, value_count, place_count}
use Rattle.rules.specs.Records.{Field, bytes_of, many, element_fields, place_fields, block_fields, head_bytes, encode}
use Rattle.rules.specs.WellFormed.{wf_value, body_of}
use Rattle.rules.specs.Orders.{stepping, arguments, value_orders, product, place_orders, block_orders, orders, block_count}
use Rattle.rules.specs.Listing.{joined, list_bytes}
use Rattle.rules.proofs.Counts.{terms_pos}
use Rattle.rules.proofs.DirectIsList.{values_length}
use Rattle.rules.proofs.EncodeDecode.{body_is}
use Rattle.rules.proofs.FieldLaws.{bytes_append, bytes_cons}
use Rattle.rules.proofs.ListBound.{list_size}
use Rattle.record_walk.specs.Runs.{bytes_in}
use Rattle.record_walk.specs.Spans.{size, head_fields, arguments_of, place_spans, block_head, block_spans, spans_of}
use Rattle.record_walk.proofs.RunLaws.{drop_behind, size_append, bytes_none, bytes_on}
use Rattle.record_walk.proofs.PlaceLaws.{value_behind, place_holds, kind_bytes, code_fields, Coded, coded, places_in, told_places}
use Rattle.judge.specs.Blocks.{counted}
use Rattle.judge.specs.Judged.{Told}
use Rattle.record_walk.specs.Values.{value_bytes, PlaceAt, PlacesAt}
use Rattle.list_argument.specs.Standings.{choices_of}
use Rattle.list.specs.Filled.{list_in, list_of, filled, order_of, Chosen, Values, listed, Unrolls}

abbrev pub place_choices : Place → List (List ℕ)
place_choices p = choices_of (place_value p)

-- ---- where the values stand

-- as many choices as arguments, and one for an omitted value
choices_number : (b : Base) (v : List Element) → wf_value b v ≡ true → length (choices_of v) ≡ counted (sum (map terms v))
unfolding counted
choices_number b [] h = refl
choices_number b (e ∷ es) h =
    let n : ℕ = sum (map terms (e ∷ es)) in
    let some : eqb n 0 ≡ false = ne_eqb n 0 (λ z. omega (arith, terms_pos e)) in
    rw some (length-map (value_orders (e ∷ es)) value_bytes ∙ values_length b (e ∷ es) h)

-- a place's value stands there, with its choices
place_chosen : {rec : List ℕ} {at n from to : ℕ} (p : Place) → n ≡ arguments_of p → PlaceAt rec at from to p → Chosen rec at n from to (place_choices p)
place_chosen (place b nm v) e t = record {
  elements = v;
  holds = place_holds (place b nm v) t;
  is = refl;
  behind = omega (arith, t.begins, t.heads.ends);
  number = rw e (choices_number b v t.well);
}

places_values : (rec : List ℕ) (at : ℕ) (row : List ℕ) (ps : List Place) → PlacesAt rec at row ps → Values rec at row (map place_choices ps)
places_values rec at [] [] t = t
places_values rec at [] (p ∷ ps) t = absurd t
places_values rec at (n ∷ []) [] t = absurd t
places_values rec at (n ∷ []) (p ∷ ps) t = absurd t
places_values rec at (n ∷ (from ∷ [])) [] t = absurd t
places_values rec at (n ∷ (from ∷ [])) (p ∷ ps) t = absurd t
places_values rec at (n ∷ (from ∷ (to ∷ row))) [] t = absurd t
places_values rec at (n ∷ (from ∷ (to ∷ row))) (p ∷ ps) t = (place_chosen p t.0 t.1, places_values rec to row ps t.2)

-- a command's values stand where its spans say
pub told_values : (rec : List ℕ) (c : Command) → body_of rec ≡ ok c → Values rec 0 (spans_of c) (map place_choices (places_in c))
told_values rec c h = places_values rec 0 (spans_of c) (places_in c) (told_places rec c h)

-- ---- lists that go together

-- each member of one with that of the other at its position
abbrev Match : {A B : Type 0} → (A → B → Type 0) → List A → List B → Type 0
Match R [] [] = Always
Match R [] (y ∷ ys) = ⊥
Match R (x ∷ xs) [] = ⊥
Match R (x ∷ xs) (y ∷ ys) = R x y × Match R xs ys

match_append : {A B : Type 0} (R : A → B → Type 0) (xs xs' : List A) (ys ys' : List B) → Match R xs ys → Match R xs' ys' → Match R (xs ++ xs') (ys ++ ys')
match_append R [] xs' [] ys' m m' = m'
match_append R [] xs' (y ∷ ys) ys' m m' = absurd m
match_append R (x ∷ xs) xs' [] ys' m m' = absurd m
match_append R (x ∷ xs) xs' (y ∷ ys) ys' m m' = (m.0, match_append R xs xs' ys ys' m.1 m')

-- what is made of the same members
match_same : {A B C : Type 0} (R : B → C → Type 0) (test : A → Bool) (f : A → B) (g : A → C) → ((a : A) → test a ≡ true → R (f a) (g a)) → (xs : List A)
    → all test xs ≡ true → Match R (map f xs) (map g xs)
match_same R test f g k [] h = tt
match_same R test f g k (x ∷ xs) h = (k x (and_l (test x) (all test xs) h), match_same R test f g k xs (and_r (test x) (all test xs) h))

-- and the same may be made of what goes together
match_eq : {A B C : Type 0} (R : A → B → Type 0) (f : A → C) (g : B → C) → ((x : A) (y : B) → R x y → f x ≡ g y) → (xs : List A) (ys : List B) → Match R xs ys
    → map f xs ≡ map g ys
match_eq R f g k [] [] m = refl
match_eq R f g k [] (y ∷ ys) m = absurd m
match_eq R f g k (x ∷ xs) [] m = absurd m
match_eq R f g k (x ∷ xs) (y ∷ ys) m = ap₂ (λ c cs. c ∷ cs) (k x y m.0) (match_eq R f g k xs ys m.1)

module _ {A B C D : Type 0} (R : A → B → Type 0) (S : C → D → Type 0) (f : A → C) (g : B → D) (on : (x : A) (y : B) → R x y → S (f x) (g y)) where
  match_map : (xs : List A) (ys : List B) → Match R xs ys → Match S (map f xs) (map g ys)
  match_map [] [] m = tt
  match_map [] (y ∷ ys) m = absurd m
  match_map (x ∷ xs) [] m = absurd m
  match_map (x ∷ xs) (y ∷ ys) m = (on x y m.0, match_map xs ys m.1)

-- every member of a list with every one of another
module _ {A B C D E F : Type 0} (R : A → B → Type 0) (S : C → D → Type 0) (T : E → F → Type 0) (f : A → C → E) (g : B → D → F)
    (both : (x : A) (y : B) (u : C) (v : D) → R x y → S u v → T (f x u) (g y v)) where
  match_grid : (xs : List A) (ys : List B) (us : List C) (vs : List D) → Match R xs ys → Match S us vs
      → Match T (concat (map (λ x. map (f x) us) xs)) (concat (map (λ y. map (g y) vs) ys))
  match_grid [] [] us vs m n = tt
  match_grid [] (y ∷ ys) us vs m n = absurd m
  match_grid (x ∷ xs) [] us vs m n = absurd m
  match_grid (x ∷ xs) (y ∷ ys) us vs m n =
      match_append T (map (f x) us) (concat (map (λ x. map (f x) us) xs)) (map (g y) vs) (concat (map (λ y. map (g y) vs) ys))
      (match_map S T (f x) (g y) (λ u v. both x y u v m.0) us vs n)
      (match_grid xs ys us vs m.1 n)

-- ---- the combinations of lists one behind the other

module _ {A : Type 0} (rest : List (List A)) where
  -- each of these, then each of the rest
  abbrev behind_each : List (List A) → List (List A)
  behind_each ps = concat (map (λ as'. map (λ bs. as' ++ bs) rest) ps)

  each_append : (ps qs : List (List A)) → behind_each (ps ++ qs) ≡ behind_each ps ++ behind_each qs
  each_append [] qs = refl
  each_append (p ∷ ps) qs =
      ap (λ (l : List (List A)). map (λ bs. p ++ bs) rest ++ l) (each_append ps qs)
      ∙ sym (append_assoc (map (λ bs. p ++ bs) rest) (behind_each ps) (behind_each qs))

  each_cons : (a : A) (ps : List (List A)) → map (λ as'. a ∷ as') (behind_each ps) ≡ behind_each (map (λ as'. a ∷ as') ps)
  each_cons a [] = refl
  each_cons a (p ∷ ps) =
      map-append (λ as'. a ∷ as') (map (λ bs. p ++ bs) rest) (behind_each ps)
      ∙ ap₂ (λ (k l : List (List A)). k ++ l) (map-map (λ as'. a ∷ as') (λ bs. p ++ bs) rest) (each_cons a ps)

  each_grid : (xs : List A) (ps : List (List A))
      → concat (map (λ a. map (λ as'. a ∷ as') (behind_each ps)) xs) ≡ behind_each (concat (map (λ a. map (λ as'. a ∷ as') ps) xs))
  each_grid [] ps = refl
  each_grid (x ∷ xs) ps =
      ap₂ (λ (k l : List (List A)). k ++ l) (each_cons x ps) (each_grid xs ps)
      ∙ sym (each_append (map (λ as'. x ∷ as') ps) (concat (map (λ a. map (λ as'. a ∷ as') ps) xs)))

-- the combinations of the first lists, each before all combinations of the others
product_append : {A : Type 0} (xs ys : List (List A)) → product (xs ++ ys) ≡ behind_each (product ys) (product xs)
product_append [] ys = sym (append-nil (map (λ bs. bs) (product ys)) ∙ map-id (product ys))
product_append {A} (x ∷ xs) ys =
    ap (λ (l : List (List A)). concat (map (λ a. map (λ as'. a ∷ as') l) x)) (product_append xs ys) ∙ each_grid (product ys) x (product xs)

-- ---- bytes of a record with arguments filled in

-- w is what stands from q on, once the row's values are these
abbrev Reads : List ℕ → ℕ → List ℕ → List (List ℕ) → List ℕ → Type 0
Reads rec q row as' w = (at : ℕ) → at ≤ q → filled rec at row as' ≡ bytes_in rec at q ++ w

-- bytes before the first value stay
reads_kept : (rec : List ℕ) (q : ℕ) (row : List ℕ) (as' : List (List ℕ)) (u w rest : List ℕ) → drop q rec ≡ u ++ rest → Reads rec (q + length u) row as' w
    → Reads rec q row as' (u ++ w)
reads_kept rec q row as' u w rest e r at h =
    r at (omega arith) ∙ ap (λ (l : List ℕ). l ++ w) (bytes_on rec at q u rest h e) ∙ append_assoc (bytes_in rec at q) u w

-- a place with an argument for its value
reads_place : (rec : List ℕ) (q : ℕ) (p : Place) (row : List ℕ) (a : List ℕ) (as' : List (List ℕ)) (w rest : List ℕ) → drop q rec ≡ bytes_of (head_fields p) ++ rest
    → Reads rec (q + size (place_fields p)) row as' w
    → Reads rec q (arguments_of p ∷ (q + size (head_fields p)) ∷ (q + size (place_fields p)) ∷ row) (a ∷ as') (bytes_of (head_fields p) ++ (a ++ w))
reads_place rec q p row a as' w rest e r at h =
    let u : List ℕ = bytes_of (head_fields p) in
    let to : ℕ = q + size (place_fields p) in
    let end : filled rec to row as' ≡ w = r to (le_refl to) ∙ ap (λ (l : List ℕ). l ++ w) (bytes_none rec to) in
    ap₂ (λ (k l : List ℕ). k ++ (a ++ l)) (bytes_on rec at q u rest h e) end ∙ append_assoc (bytes_in rec at q) u (a ++ w)

-- ---- orders

-- a place with one of its arguments, and that argument's bytes
record One (p p' : Place) (a : List ℕ) : Type 0 where
  bytes : bytes_of (place_fields p') ≡ bytes_of (head_fields p) ++ a
  one : place_count p' ≡ 1

-- a value that counts one argument
abbrev is_one : List Element → Bool
is_one w = eqb (value_count w) 1

all_made : {A B : Type 0} (test : B → Bool) (f : A → B) → ((a : A) → test (f a) ≡ true) → (xs : List A) → all test (map f xs) ≡ true
all_made test f k [] = refl
all_made test f k (x ∷ xs) = rw (k x) (all_made test f k xs)

-- an argument is a single element
arguments_one : (e : Element) → all (λ a. is_one (a ∷ [])) (arguments e) ≡ true
arguments_one (single l u) = refl
arguments_one (range l r lo up inc) = all_made (λ a. is_one (a ∷ [])) (λ n. single l (num r 0 n)) (λ n. refl) (stepping (suc (up - lo)) lo up inc)

-- reduced to one argument, a value counts one
values_one : (v : List Element) → all is_one (value_orders v) ≡ true
values_one [] = refl
values_one (e ∷ es) =
    let one : Element → Bool = λ a. is_one (a ∷ []) in
    all_map one is_one (λ a. a ∷ []) (λ a h. h) (concat (map arguments (e ∷ es)))
    (all_concat one (map arguments (e ∷ es)) (all_made (all one) arguments arguments_one (e ∷ es)))

-- a place's orders go together with its choices
place_match : (p : Place) → Match (One p) (place_orders p) (place_choices p)
place_match (place b nm v) =
    match_same (One (place b nm v)) is_one (λ w. place b nm w) value_bytes
    (λ w h. record { bytes = bytes_append (head_fields (place b nm v)) (many element_fields w); one = eqb-true (value_count w) 1 h })
    (value_orders v)
    (values_one v)

-- places that stand at q, each with one of its arguments, and these arguments' bytes: whatever the row says behind them
record Places (rec : List ℕ) (q : ℕ) (ps qs : List Place) (as' : List (List ℕ)) : Type 0 where
  reads : (row : List ℕ) (bs : List (List ℕ)) (w : List ℕ) → Reads rec (q + size (many place_fields ps)) row bs w
      → Reads rec q (place_spans q ps ++ row) (as' ++ bs) (bytes_of (many place_fields qs) ++ w)
  one : mult (map place_count qs) ≡ 1

module _ (rec : List ℕ) (q : ℕ) (p : Place) (ps : List Place) (rest : List ℕ) (stands : drop q rec ≡ bytes_of (place_fields p) ++ rest) where
  places_more : (p' : Place) (a : List ℕ) (qs : List Place) (as' : List (List ℕ)) → One p p' a → Places rec (q + size (place_fields p)) ps qs as'
      → Places rec q (p ∷ ps) (p' ∷ qs) (a ∷ as')
  places_more p' a qs as' o t =
      let q' : ℕ = q + size (place_fields p) in
      let u : List ℕ = bytes_of (head_fields p) in
      let n : q + size (many place_fields (p ∷ ps)) ≡ q' + size (many place_fields ps) = omega (arith, size_append (place_fields p) (many place_fields ps)) in
      record {
        one = rw (o.one, t.one);
        reads = λ row bs w r.
            let v : List ℕ = bytes_of (many place_fields qs) ++ w in
            let e : u ++ (a ++ v) ≡ bytes_of (many place_fields (p' ∷ qs)) ++ w =
            sym (bytes_cons place_fields p' qs w ∙ ap (λ (l : List ℕ). l ++ v) o.bytes ∙ append_assoc u a v) in
            subst (Reads rec q (place_spans q (p ∷ ps) ++ row) (a ∷ (as' ++ bs))) e
            (reads_place rec q p (place_spans q' ps ++ row) a (as' ++ bs) v (value_bytes (place_value p) ++ rest) (value_behind rec q p rest stands)
            (t.reads row bs w (subst (λ m. Reads rec m row bs w) n r)));
      }

-- so do the combinations of places
places_match : (rec : List ℕ) (ps : List Place) (q : ℕ) (rest : List ℕ) → drop q rec ≡ bytes_of (many place_fields ps) ++ rest
    → Match (Places rec q ps) (product (map place_orders ps)) (product (map place_choices ps))
places_match rec [] q rest h =
    let z : q + 0 ≡ q = omega arith in
    (record { reads = λ row bs w r. subst (λ m. Reads rec m row bs w) z r; one = refl }, tt)
places_match rec (p ∷ ps) q rest h =
    let q' : ℕ = q + size (place_fields p) in
    let e : drop q rec ≡ bytes_of (place_fields p) ++ (bytes_of (many place_fields ps) ++ rest) = h ∙ bytes_cons place_fields p ps rest in
    match_grid (One p) (Places rec q' ps) (Places rec q (p ∷ ps)) (λ x xs. x ∷ xs) (λ a as'. a ∷ as')
    (places_more rec q p ps (bytes_of (many place_fields ps) ++ rest) e)
    (place_orders p) (place_choices p) (product (map place_orders ps)) (product (map place_choices ps)) (place_match p)
    (places_match rec ps q' rest (drop_behind rec q (bytes_of (place_fields p)) (bytes_of (many place_fields ps) ++ rest) e))

-- blocks that stand at q, each place with one of its arguments
record Blocks (rec : List ℕ) (q : ℕ) (bs ds : List Block) (as' : List (List ℕ)) : Type 0 where
  reads : Reads rec q (block_spans q bs) as' (bytes_of (many block_fields ds))
  one : mult (map block_count ds) ≡ 1

module _ (rec : List ℕ) (q : ℕ) (k : Bool) (ps : List Place) (bs : List Block) (rest : List ℕ) (stands : drop q rec ≡ kind_bytes k ++ rest) where
  blocks_more : (qs : List Place) (as' : List (List ℕ)) (ds : List Block) (bs' : List (List ℕ)) → Places rec (q + block_head) ps qs as'
      → Blocks rec (q + size (block_fields (block k ps))) bs ds bs' → Blocks rec q (block k ps ∷ bs) (block k qs ∷ ds) (as' ++ bs')
  blocks_more qs as' ds bs' o t =
      let q' : ℕ = q + size (block_fields (block k ps)) in
      let n : q' ≡ q + block_head + size (many place_fields ps) = omega arith in
      let w : List ℕ = bytes_of (many block_fields ds) in
      let row : List ℕ = block_spans q' bs in
      let e : kind_bytes k ++ (bytes_of (many place_fields qs) ++ w) ≡ bytes_of (many block_fields (block k qs ∷ ds)) = sym (bytes_append (block_fields (block k qs)) (many block_fields ds)) in
      record {
        one = rw (o.one, t.one);
        reads =
            subst (Reads rec q (place_spans (q + block_head) ps ++ row) (as' ++ bs')) e
            (reads_kept rec q (place_spans (q + block_head) ps ++ row) (as' ++ bs') (kind_bytes k) (bytes_of (many place_fields qs) ++ w) rest stands
            (o.reads row bs' w (subst (λ m. Reads rec m row bs' w) n t.reads)));
      }

-- and those of blocks, with the combinations of all their places
blocks_match : (rec : List ℕ) (bs : List Block) (q : ℕ) → drop q rec ≡ bytes_of (many block_fields bs)
    → Match (Blocks rec q bs) (product (map block_orders bs)) (product (map place_choices (all_places bs)))
blocks_match rec [] q h = (record { reads = ends; one = refl }, tt)
  where
    ends : (at : ℕ) → at ≤ q → drop at rec ≡ bytes_in rec at q ++ []
    ends at k =
        let m : at + (q - at) ≡ q = omega arith in
        sym (take-append-drop (q - at) (drop at rec)) ∙ ap (λ (l : List ℕ). bytes_in rec at q ++ l) (drop-drop (q - at) at rec ∙ ap (λ (n : ℕ). drop n rec) m ∙ h)
blocks_match rec (block k ps ∷ bs) q h =
    let b : Block = block k ps in
    let q' : ℕ = q + size (block_fields b) in
    let u : List ℕ = bytes_of (many place_fields ps) in
    let v : List ℕ = bytes_of (many block_fields bs) in
    let e : drop q rec ≡ kind_bytes k ++ (u ++ v) = h ∙ bytes_append (block_fields b) (many block_fields bs) in
    let left : List (List Place) = product (map place_orders ps) in
    let more : List (List Block) = product (map block_orders bs) in
    let fs : List (List (List ℕ)) = map place_choices ps in
    let gs : List (List (List ℕ)) = map place_choices (all_places bs) in
    let is : product (map place_choices (all_places (b ∷ bs))) ≡ behind_each (product gs) (product fs) =
    ap product (map-append place_choices ps (all_places bs)) ∙ product_append fs gs in
    rw (is, map-map (λ d. map (λ ds. d ∷ ds) more) (λ qs. block k qs) left)
    (match_grid (Places rec (q + block_head) ps) (Blocks rec q' bs) (Blocks rec q (b ∷ bs)) (λ qs ds. block k qs ∷ ds) (λ as' bs'. as' ++ bs')
    (blocks_more rec q k ps bs (u ++ v) e)
    left (product fs) more (product gs)
    (places_match rec ps (q + block_head) v (drop_behind rec q (kind_bytes k) (u ++ v) e))
    (blocks_match rec bs q' (drop_behind rec q (bytes_of (block_fields b)) v e)))

-- the orders' records, one for each combination
orders_filled : (rec : List ℕ) (c : Command) → body_of rec ≡ ok c → map encode (orders c) ≡ map (order_of rec (spans_of c)) (product (map place_choices (places_in c)))
unfolding spans_of
orders_filled rec (command c bs) h =
    let code : List Field = code_fields c in
    let q : ℕ = size code in
    let k : Coded rec c bs = coded rec c bs (body_is rec (command c bs) h) in
    let z : q ≡ 0 + q = omega arith in
    let row : List ℕ = block_spans q bs in
    let made : (ds : List Block) (as' : List (List ℕ)) → Blocks rec q bs ds as' → encode (command c ds) ≡ order_of rec row as' =
    λ ds as' o.
    let w : List ℕ = bytes_of (many block_fields ds) in
    let is : filled rec 0 row as' ≡ bytes_of code ++ w =
    reads_kept rec 0 row as' (bytes_of code) w (bytes_of (many block_fields bs)) k.bytes (subst (λ n. Reads rec n row as' w) z o.reads) 0 (le_refl 0) in
    ap₂ (λ (n : ℕ) (l : List ℕ). head_bytes n ++ l) o.one (bytes_append code (many block_fields ds) ∙ sym is) in
    map-map encode (λ ds. command c ds) (product (map block_orders bs))
    ∙ match_eq (Blocks rec q bs) (λ ds. encode (command c ds)) (order_of rec row) made (product (map block_orders bs)) (product (map place_choices (all_places bs)))
    (blocks_match rec bs q k.stands)

-- the list of a command is the list of its record's bytes
pub list_is : (rec : List ℕ) (c : Command) → body_of rec ≡ ok c → list_bytes c ≡ listed rec (spans_of c) (map place_choices (places_in c))
list_is rec c h = ap joined (orders_filled rec c h)

-- ---- both for a row that is told

-- the choices of the row's values, which make the list
pub told_unrolls : {rec row : List ℕ} → Told rec row → Unrolls rec row
unfolding list_of
told_unrolls {rec} {row} t =
    let c : Command = t.tree in
    rw t.told (record {
      choices = map place_choices (places_in c);
      values = told_values rec c t.is;
      is = ap list_in t.is ∙ list_is rec c t.is;
      small = rw t.is (list_size c (body_is rec c t.is).well);
    })
