-- What is read from the front to the end of bytes is the command that the rules find in them: the reading's bytes are the command's own, and a
-- well-formed command is read back from its bytes.
use mathlib.Core.Path.{◌≡◌, refl, sym, ap, ap₂, ◌∙◌, subst}
use mathlib.Core.Bool.{Bool, true, false, cond, ◌&&◌, ◌||◌, not, false≢true}
use mathlib.Core.List.{List, [], ◌∷◌, ◌++◌, map, append-nil}
use mathlib.Core.Option.{Option, none, some}
use Prim.Native.Nat.{ℕ, suc, ◌+◌, ◌-◌, ◌*◌, ◌≤◌, ◌<◌}
use native.Mathlib.Nat.{mul-one, mul-le-mul_left}
use native.Mathlib.Omega.{arith}
use borrow.Author.Tests.{eqb-true, le-leb, leb-true, ltb-true, not-true}
use lib.Dec.{leb, ltb}
use lib.ListN.{length, length-append, drop, length-drop}
use Rattle.laws.specs.Cases.{pick, by_bool, some_inj, none≢some, and_l, and_r}
use Rattle.laws.specs.Lists.{all, is_nil, eq_l, eq_l_is}
use Rattle.rules.specs.Refusals.{ok, bad, not_well_formed, more_of_code, most_blocks, most_places, most_orders}
use Rattle.rules.specs.Characters.{byte}
use Rattle.rules.specs.Units.{is_identifier}
use Rattle.rules.specs.Commands.{Place, place_count, mult, Block, block, places_of, all_places, Command, command}
use Rattle.rules.specs.Records.{code_tag, block_tag, place_tag, Field, field, place_fields, block_fields, many, field_bytes, bytes_of, body_bytes, kind_of_byte}
use Rattle.rules.specs.WellFormed.{wf_pieces, wf_block, well_formed, body_of}
use Rattle.rules.specs.Orders.{block_count}
use Rattle.rules.proofs.CommandBack.{mult_pos, count_all, c_code, c_few, c_blocks, c_places, c_count}
use Rattle.rules.proofs.Names.{block_of_lem}
use Rattle.rules.proofs.RecordBound.{body_size}
use Rattle.rules.proofs.ValueBack.{and_both}
use Rattle.rules.proofs.EncodeDecode.{IsBody, body_is, body_at, body_refused}
use Rattle.rules.proofs.FieldLaws.{bytes_append}
use Rattle.record_walk.specs.Fields.{fits}
use Rattle.record_walk.specs.Fronts.{Read, and_then, made, head_tag, front}
use Rattle.record_walk.proofs.FrontLaws.{then_some, made_some, Small, small_behind, cut_is, front_is, front_field, goods, Wrote, several_is, several_all}
use Rattle.judge_place.specs.Places.{is_tag, pieces}
use Rattle.judge_place.proofs.PieceBytes.{first_name, pieces_is, pieces_back}
use Rattle.judge.specs.Blocks.{places, kind_in, Before, next_block, with_block, none_before, some_blocks, ending, blocks, with_blocks, with_code, body_in}
use Rattle.judge.specs.Judged.{most_told, IsBlocks, Judges}
use Rattle.judge.proofs.PlacesBytes.{PlacesWrote, places_is, places_back}
use Rattle.record_walk.specs.Spans.{size, block_spans, spans_of}
use Rattle.judge_place.specs.Judging.{PiecesAre, IsPieces}
use Rattle.judge_place.specs.declared.Pieces.{Pieces}
use Rattle.judge.specs.declared.Judged.{Judged}
use Rattle.std.proofs.Common.{Some, None}
use Rattle.std.specs.Prelude.{Option as Maybe}

-- ---- one block

-- a block that is well formed and leaves places and orders within their limits
abbrev good : Before → Block → Bool
good s b = wf_block b && leb (s.places + length (places_of b)) most_places && leb (s.orders * block_count b) most_orders

abbrev all_good : Before → List Block → Bool
all_good s bs = goods (is_tag block_tag) next_block with_block good block_fields s bs

ruleset parts = (and_l, and_r, leb-true)

module _ (s : Before) (b : Block) (h : good s b ≡ true) where
  g_well : wf_block b ≡ true
  g_well = search parts

  g_places : s.places + length (places_of b) ≤ most_places
  g_places = search parts

  g_orders : s.orders * block_count b ≤ most_orders
  g_orders = search parts

good_of : (s : Before) (b : Block) → wf_block b ≡ true → s.places + length (places_of b) ≤ most_places → s.orders * block_count b ≤ most_orders → good s b ≡ true
good_of s b h k m = rw (h, le-leb (s.places + length (places_of b)) most_places k, le-leb (s.orders * block_count b) most_orders m)

-- the letter of a kind
abbrev kind_letter : Bool → ℕ
kind_letter k = cond k (byte "N") (byte "P")

kind_letter_lem : (w : List ℕ) (k : Bool) → kind_of_byte w ≡ some k → w ≡ kind_letter k ∷ []
kind_letter_lem w k h =
    by_bool (eq_l w (byte "N" ∷ []))
    (λ y. rw (← some_inj (rw y at h)) (eq_l_is w (byte "N" ∷ []) y))
    (λ y. by_bool (eq_l w (byte "P" ∷ [])) (λ z. rw (← some_inj (rw (y, z) at h)) (eq_l_is w (byte "P" ∷ []) z)) (λ z. none≢some (rw (y, z) at h)))

letter_kind : (k : Bool) → kind_of_byte (kind_letter k ∷ []) ≡ some k
letter_kind true = refl
letter_kind false = refl

some_length : (ps : List Place) → not (is_nil ps) ≡ true → 1 ≤ length ps
some_length [] h = absurd (false≢true h)
some_length (p ∷ ps) h = omega arith

block_wrote : (s : Before) (t : ℕ) (w r r₁ r₂ : List ℕ) (k : Bool) (ps : List Place) (r' : List ℕ) → t ≡ block_tag → w ≡ kind_letter k ∷ [] → r ≡ field_bytes (field t w) ++ r₁ → r₁ ≡ r₂
    → PlacesWrote k (most_places - s.places) s.orders r₂ ps r' → (good s (block k ps) ≡ true) × (r ≡ bytes_of (block_fields (block k ps)) ++ r')
block_wrote s t w r r₁ r₂ k ps r' et ew kr er g = (
  good_of s (block k ps) (block_of_lem k ps (not-true (is_nil ps) g.some_there) g.well g.names) (omega (arith, g.few, some_length ps g.some_there)) g.orders,
  kr ∙ rw (et, ew, er, g.bytes),
)

next_is_lem : (s : Before) (r : List ℕ) (b : Block) (r' : List ℕ) → Small r → is_tag block_tag (head_tag r) ≡ true → next_block s r ≡ some (b, r') → (good s b ≡ true) × (r ≡ bytes_of (block_fields b) ++ r')
unfolding next_block
next_is_lem s r b r' sm h e = then_some (front r) _ (b, r') e (λ f r₁ c k. whole f r₁ c k)
  where
    behind : Bool → List ℕ → Read Block
    behind k r₂ = and_then (places k (most_places - s.places) s.orders r₂) (λ ps r₃. some (block k ps, r₃))

    whole : (f : Field) (r₁ : List ℕ) → front r ≡ some (f, r₁) → and_then (made (kind_in f) r₁) (λ k r₂. behind k r₂) ≡ some (b, r')
        → (good s b ≡ true) × (r ≡ bytes_of (block_fields b) ++ r')
    whole (field t w) r₁ c g =
        front_is r t w r₁ c
        (λ fit k₀. then_some (made (kind_of_byte w) r₁) (λ k r₂. behind k r₂) (b, r') g
        (λ k r₂ m q. made_some (kind_of_byte w) r₁ k r₂ m
        (λ o er. then_some (places k (most_places - s.places) s.orders r₂) (λ ps r₃. some (block k ps, r₃)) (b, r') q
        (λ ps r₃ p z.
        let eq : ◌≡◌ {A = Block × List ℕ} (block k ps, r₃) (b, r') = some_inj z in
        let kr : r ≡ field_bytes (field t w) ++ r₁ = cut_is r (field t w) r₁ sm k₀ in
        let et : t ≡ block_tag = eqb-true t block_tag (rw kr at h) in
        let s₂ : Small r₂ = subst Small er (small_behind (field_bytes (field t w)) r₁ (subst Small kr sm)) in
        subst (λ (x : Block × List ℕ). (good s x.0 ≡ true) × (r ≡ bytes_of (block_fields x.0) ++ x.1)) eq
        (block_wrote s t w r r₁ r₂ k ps r₃ et (kind_letter_lem w k o) kr er (places_is k (most_places - s.places) s.orders r₂ ps r₃ s₂ p))))))

-- the tags that end a block
abbrev ended : ℕ → Bool
ended t = ltb t place_tag

next_back : (s : Before) (b : Block) (rest : List ℕ) → good s b ≡ true → ended (head_tag rest) ≡ true → next_block s (bytes_of (block_fields b) ++ rest) ≡ some (b, rest)
unfolding next_block fits
next_back s (block k ps) rest h t =
    rw (
      front_field block_tag (kind_letter k ∷ []) (bytes_of (many place_fields ps) ++ rest) refl,
      letter_kind k,
      places_back k (most_places - s.places) s.orders ps rest (g_well s (block k ps) h)
          (omega (arith, g_places s (block k ps) h)) (g_orders s (block k ps) h) (ltb-true (head_tag rest) place_tag t),
    )

opens : (b : Block) (rest : List ℕ) → is_tag block_tag (head_tag (bytes_of (block_fields b) ++ rest)) ≡ true
opens (block k ps) rest = refl

closes : (b : Block) (rest : List ℕ) → ended (head_tag (bytes_of (block_fields b) ++ rest)) ≡ true
closes (block k ps) rest = refl

-- ---- the blocks

abbrev pub state : ℕ → ℕ → Before
state n o = record { places = n; orders = o }

all_well : (s : Before) (bs : List Block) → all_good s bs ≡ true → all wf_block bs ≡ true
all_well s [] h = refl
all_well s (b ∷ bs) h =
    and_both (wf_block b) (all wf_block bs) (search parts) (all_well (with_block s b) bs (search parts))

all_places_lem : (n o : ℕ) (bs : List Block) → n ≤ most_places → all_good (state n o) bs ≡ true → n + length (all_places bs) ≤ most_places
all_places_lem n o [] k h = omega arith
all_places_lem n o (b ∷ bs) k h =
    let ih = all_places_lem (n + length (places_of b)) (o * block_count b) bs (search parts) (search parts) in
    omega (arith, length-append (places_of b) (all_places bs))

all_orders : (n o : ℕ) (bs : List Block) → o ≤ most_orders → all_good (state n o) bs ≡ true → o * mult (map block_count bs) ≤ most_orders
all_orders n o [] k h = rw mul-one k
all_orders n o (b ∷ bs) k h =
    let ih = all_orders (n + length (places_of b)) (o * block_count b) bs (search parts) (search parts) in
    let assoc : o * (block_count b * mult (map block_count bs)) ≡ o * block_count b * mult (map block_count bs) = omega arith in
    rw assoc ih

all_good_lem : (n o : ℕ) (bs : List Block) → all wf_block bs ≡ true → n + length (all_places bs) ≤ most_places → o * mult (map block_count bs) ≤ most_orders → all_good (state n o) bs ≡ true
all_good_lem n o [] h k m = refl
all_good_lem n o (b ∷ bs) h k m =
    let s : Before = state n o in
    let c : ℕ = o * block_count b in
    let r : ℕ = mult (map block_count bs) in
    let assoc : o * (block_count b * r) ≡ c * r = omega arith in
    let m' : c * r ≤ most_orders = rw assoc at m in
    let pos : 0 < r = rw (count_all bs) (mult_pos (all_places bs)) in
    let few : c ≤ most_orders = omega (arith, mul-le-mul_left c pos) in
    let l = length-append (places_of b) (all_places bs) in
    and_both (good s b) (all_good (with_block s b) bs) (good_of s b (search parts) (omega arith) few) (all_good_lem (n + length (places_of b)) c bs (search parts) (omega arith) m')

-- ---- the record

ending_some : {A C : Type 0} (o : Read A) (a : A) → ending o ≡ some a → (o ≡ some (a, []) → C) → C
ending_some none a h k = none≢some h
ending_some {A} {C} (some x) a h k = go x.1 refl h
  where
    go : (r : List ℕ) → x.1 ≡ r → pick (is_nil r) (some x.0) none ≡ some a → C
    go [] q g = k (ap₂ (λ (y : A) (l : List ℕ). some (y, l)) (some_inj g) q)
    go (c ∷ r) q g = none≢some g

pub code_is : (r : List ℕ) (ws : List (List ℕ)) (r' : List ℕ) → Small r → pieces code_tag false (suc more_of_code) r ≡ some (ws, r')
    → (is_nil ws || wf_pieces is_identifier more_of_code ws ≡ true) × (r ≡ bytes_of (map (λ w. field code_tag w) ws) ++ r')
unfolding fits
code_is r ws r' s e = pieces_is code_tag false is_identifier (λ _. refl) first_name more_of_code r ws r' s e

code_back : (ws : List (List ℕ)) (rest : List ℕ) → is_nil ws || wf_pieces is_identifier more_of_code ws ≡ true → is_tag code_tag (head_tag rest) ≡ false
    → pieces code_tag false (suc more_of_code) (bytes_of (map (λ w. field code_tag w) ws) ++ rest) ≡ some (ws, rest)
unfolding fits
code_back ws rest h n = pieces_back code_tag false is_identifier (λ _. refl) first_name more_of_code ws rest h n

command_is : (c : List (List ℕ)) (bs : List Block) (r r₁ : List ℕ) → is_nil c ≡ false → is_nil c || wf_pieces is_identifier more_of_code c ≡ true → r ≡ bytes_of (map (λ w. field code_tag w) c) ++ r₁
    → Wrote (is_tag block_tag) next_block with_block good block_fields most_blocks none_before r₁ bs [] → IsBody r (command c bs)
command_is c bs r r₁ n h k w =
    let o : mult (map place_count (all_places bs)) ≤ most_orders = omega (arith, all_orders 0 1 bs (omega arith) w.well, count_all bs) in
    record {
      well = rw (
        rw n at h,
        le-leb (length bs) most_blocks w.few,
        all_well none_before bs w.well,
        le-leb (length (all_places bs)) most_places (omega (arith, all_places_lem 0 1 bs (omega arith) w.well)),
        le-leb (mult (map place_count (all_places bs))) most_orders o,
      );
      bytes = bytes_append (map (λ w. field code_tag w) c) (many block_fields bs) ∙ sym (k ∙ rw (w.bytes, append-nil (bytes_of (many block_fields bs))));
    }

code_some : {C : Type 0} (o : Read (List (List ℕ))) (c : Command) → with_code o ≡ some c
    → ((x : List (List ℕ)) (r₁ : List ℕ) → o ≡ some (x, r₁) → is_nil x ≡ false → with_blocks x (blocks r₁) ≡ some c → C) → C
code_some none c h k = none≢some h
code_some {C} (some x) c h k = by_bool (is_nil x.0) (λ y. none≢some (rw y at h)) (λ y. k x.0 x.1 refl y (rw y at h))

blocks_some : {C : Type 0} (x : List (List ℕ)) (o : Option (List Block)) (c : Command) → with_blocks x o ≡ some c → ((bs : List Block) → o ≡ some bs → command x bs ≡ c → C) → C
blocks_some x none c h k = none≢some h
blocks_some x (some bs) c h k = k bs refl (some_inj h)

pub body_read : (r : List ℕ) (c : Command) → Small r → body_in r ≡ some c → body_of r ≡ ok c
unfolding body_in blocks
body_read r c s e =
    code_some (pieces code_tag false (suc more_of_code) r) c e
    (λ x r₁ q n g. blocks_some x (blocks r₁) c g
    (λ bs k eq. ending_some (some_blocks r₁) bs k
    (λ z.
    let w = code_is r x r₁ s q in
    let s₁ : Small r₁ = small_behind (bytes_of (map (λ y. field code_tag y) x)) r₁ (subst Small w.1 s) in
    let v = command_is x bs r r₁ n w.0 w.1 (several_is (is_tag block_tag) next_block with_block good block_fields next_is_lem most_blocks none_before r₁ bs [] s₁ z) in
    rw (← eq) (body_at r (command x bs) v.well v.bytes))))

blocks_tag : (bs : List Block) → is_tag code_tag (head_tag (bytes_of (many block_fields bs))) ≡ false
blocks_tag [] = refl
blocks_tag (block k ps ∷ bs) = refl

command_back : (x : List (List ℕ)) (bs : List Block) → well_formed (command x bs) ≡ true → body_in (body_bytes (command x bs)) ≡ some (command x bs)
unfolding body_in blocks
command_back [] bs h = absurd (false≢true h)
command_back (w ∷ ws) bs h =
    let x : List (List ℕ) = w ∷ ws in
    let r : List ℕ = bytes_of (many block_fields bs) in
    let m : 1 * mult (map block_count bs) ≤ most_orders = omega (arith, count_all bs, c_count x bs h) in
    let g : all_good none_before bs ≡ true = all_good_lem 0 1 bs (c_blocks x bs h) (omega (arith, c_places x bs h)) m in
    let b : some_blocks (r ++ []) ≡ some (bs, []) = several_all (is_tag block_tag) next_block with_block good block_fields ended next_back opens closes bs most_blocks none_before [] g (c_few x bs h) refl refl in
    rw (bytes_append (map (λ y. field code_tag y) x) (many block_fields bs), code_back x r (c_code x bs h) (blocks_tag bs), ← append-nil r, b)

body_back : (r : List ℕ) (c : Command) → body_of r ≡ ok c → body_in r ≡ some c
body_back r (command x bs) e =
    let v = body_is r (command x bs) e in
    subst (λ y. body_in y ≡ some (command x bs)) v.bytes (command_back x bs v.well)

-- what is longer than any well-formed record is refused with 18
pub long_refused : (r : List ℕ) → most_told < length r → body_of r ≡ bad not_well_formed 0
long_refused r n =
    body_refused r (λ c h.
    let v = body_is r c h in
    absurd (omega (arith, body_size c v.well, ap length v.bytes)))

-- where nothing is read it is refused with 18
pub nothing_read : (r : List ℕ) → body_in r ≡ none → body_of r ≡ bad not_well_formed 0
nothing_read r e = body_refused r (λ c h. none≢some {a = c} (sym e ∙ body_back r c h))

-- ---- the judge's answers are the rules'

abbrev IsCode : List ℕ → Maybe Pieces → Type 0
IsCode rec r = IsPieces code_tag false (suc more_of_code) rec 0 r

pub code_gone : (rec : List ℕ) → IsCode rec None → body_of rec ≡ bad not_well_formed 0
unfolding body_in
code_gone rec j = nothing_read rec (rw j)

module _ (rec : List ℕ) {n k : ℕ} (g : PiecesAre code_tag false (suc more_of_code) rec 0 n k) where
  pub code_inside : k ≤ length rec
  code_inside = g.inside

  pub code_empty : n ≡ 0 → body_of rec ≡ bad not_well_formed 0
  unfolding body_in
  code_empty z = nothing_read rec (go g.ws (sym g.count ∙ z) g.is)
    where
      go : (ws : List (List ℕ)) → length ws ≡ 0 → pieces code_tag false (suc more_of_code) rec ≡ some (ws, drop k rec) → body_in rec ≡ none
      go [] l q = rw q
      go (w ∷ ws) l q = absurd (omega arith)

  has_code : (n ≡ 0 → ⊥) → is_nil g.ws ≡ false
  has_code z = go g.ws g.count
    where
      go : (ws : List (List ℕ)) → n ≡ length ws → is_nil ws ≡ false
      go [] l = absurd (z l)
      go (w ∷ ws) l = refl

  -- the blocks begin behind the code
  code_ends : Small rec → k ≡ size (map (λ w. field code_tag w) g.ws)
  code_ends s =
      let w = code_is rec g.ws (drop k rec) s g.is in
      omega (arith, ap length w.1, length-append (bytes_of (map (λ x. field code_tag x) g.ws)) (drop k rec), length-drop k rec, g.inside)

  pub judged_as : Small rec → (n ≡ 0 → ⊥) → (old new : List ℕ) (r : Maybe Judged) → IsBlocks rec k old new r → Judges (body_of rec) old new r
  unfolding body_in spans_of
  judged_as s z old new (Some j) b =
      record {
        tree = command g.ws b.bs;
        is = body_read rec (command g.ws b.bs) s (rw (g.is, has_code z, b.is));
        places = b.places;
        few = b.few;
        total = b.total;
        long = b.long;
        told = λ l. b.told l ∙ ap (λ (x : ℕ). block_spans x b.bs) (code_ends s);
      }
  judged_as s z old new None b = nothing_read rec (rw (g.is, has_code z, b))
