-- M-108: a field of tag 3 begins each place and stands nowhere else, so there is one offset for each place, and it is the number of bytes that stand before the place.
use Prim.Native.Nat.{ℕ, suc, ◌+◌, ◌-◌, ◌≤◌, ◌<◌}
use mathlib.Core.Path.{◌≡◌, refl, sym, ap, ◌∙◌, subst}
use mathlib.Core.Bool.{Bool, true, false, not, cond, false≢true}
use mathlib.Core.List.{List, [], ◌∷◌, ◌++◌, map, append_assoc}
use native.Mathlib.Nat.{add-zero, not-suc-le-zero}
use native.Mathlib.Omega.{arith}
use lib.Dec.{ltb}
use lib.ListN.{length, get_or, take, drop, length-append, get_or-append}
use lib.Seq.{get_or-append-add, get_or_at, length-take-le, split_at}
use borrow.Author.Tests.{ltb-true, ltb-false}
use Rattle.laws.specs.Cases.{by_bool}
use Rattle.laws.specs.Lists.{all, all_append}
use Rattle.rules.specs.Characters.{byte}
use Rattle.rules.specs.Units.{keys, Unit, num, keyed, identifier, symbolic, text}
use Rattle.rules.specs.Commands.{Element, single, range, Place, place, Block, block, Command, command, all_places}
use Rattle.rules.specs.Records.{Field, field, code_tag, block_tag, name_tag, unit_field, element_fields, many, place_fields, block_fields, fields_of, field_bytes, bytes_of, head_bytes, head_size, encode}
use Rattle.rules.specs.WellFormed.{well_formed}
use Rattle.rules.specs.Orders.{count}
use Rattle.rules.specs.Positions.{place_of}
use Rattle.rules.specs.Indexes.{begins_place, starts_from, offsets}
use Rattle.rules.proofs.CommandBack.{c_places}
use Rattle.rules.proofs.FieldLaws.{bytes_append, many_append}
use Rattle.rules.proofs.TextBound.{fl, fl_append, fl_cons}

-- ---- where places begin among fields

-- in fields one behind the other
pub starts_append : (at : ℕ) (fs gs : List Field) → starts_from at (fs ++ gs) ≡ starts_from at fs ++ starts_from (at + length (bytes_of fs)) gs
starts_append at [] gs = rw (add-zero at)
starts_append at (f ∷ fs) gs =
    let n : ℕ = at + length (field_bytes f) in
    let e : n + fl fs ≡ at + fl (f ∷ fs) = omega (arith, fl_cons f fs) in
    let more : starts_from n (fs ++ gs) ≡ starts_from n fs ++ starts_from (at + fl (f ∷ fs)) gs = starts_append n fs gs ∙ ap (λ m. starts_from n fs ++ starts_from m gs) e in
    by_bool (begins_place f) (λ y. rw y (ap (λ (l : List ℕ). at ∷ l) more)) (λ y. rw y more)

-- none of the fields begins a place
abbrev no_place : List Field → Bool
no_place fs = all (λ f. not (begins_place f)) fs

starts_none : (at : ℕ) (fs : List Field) → no_place fs ≡ true → starts_from at fs ≡ []
starts_none at [] h = refl
starts_none at (f ∷ fs) h =
    by_bool (begins_place f)
    (λ y. absurd (false≢true (rw y at h)))
    (λ y. rw y (starts_none (at + length (field_bytes f)) fs (rw y at h)))

none_map : {A : Type 0} (g : A → Field) → ((a : A) → begins_place (g a) ≡ false) → (as' : List A) → no_place (map g as') ≡ true
none_map g k [] = refl
none_map g k (a ∷ as') = rw (k a) (none_map g k as')

none_many : {A : Type 0} (g : A → List Field) → ((a : A) → no_place (g a) ≡ true) → (as' : List A) → no_place (many g as') ≡ true
none_many g k [] = refl
none_many g k (a ∷ as') = all_append (λ f. not (begins_place f)) (g a) (many g as') (k a) (none_many g k as')

unit_none : (u : Unit) → begins_place (unit_field u) ≡ false
unit_none (num r f v) = refl
unit_none (keyed w) = refl
unit_none (identifier w) = refl
unit_none (symbolic w) = refl
unit_none (text w) = refl

element_none : (e : Element) → no_place (element_fields e) ≡ true
element_none (single l u) = none_map unit_field unit_none (l ++ (u ∷ []))
element_none (range l r lo up inc) = none_map unit_field unit_none (l ++ (num r 0 lo ∷ []))

-- a place begins with its first field, and its name and its value begin none
pub starts_place : (at : ℕ) (p : Place) → starts_from at (place_fields p) ≡ at ∷ []
starts_place at (place b nm v) =
    ap (λ (l : List ℕ). at ∷ l)
    (starts_none (at + 4) (map (λ w. field name_tag w) nm ++ many element_fields v)
    (all_append (λ f. not (begins_place f)) (map (λ w. field name_tag w) nm) (many element_fields v) (none_map (λ w. field name_tag w) (λ w. refl) nm)
    (none_many element_fields element_none v)))

-- ---- as many as there are places

places_many : (at : ℕ) (ps : List Place) → length (starts_from at (many place_fields ps)) ≡ length ps
places_many at [] = refl
places_many at (p ∷ ps) =
    rw (starts_append at (place_fields p) (many place_fields ps), starts_place at p)
    (let e : length (starts_from (at + fl (place_fields p)) (many place_fields ps)) ≡ length ps = places_many (at + fl (place_fields p)) ps in omega (arith, e))

blocks_many : (at : ℕ) (bs : List Block) → length (starts_from at (many block_fields bs)) ≡ length (all_places bs)
blocks_many at [] = refl
blocks_many at (block k ps ∷ bs) =
    let fs : List Field = block_fields (block k ps) in
    let places : length (starts_from at fs) ≡ length ps = places_many (at + 4) ps in
    let more : length (starts_from (at + fl fs) (many block_fields bs)) ≡ length (all_places bs) = blocks_many (at + fl fs) bs in
    ap length (starts_append at fs (many block_fields bs)) ∙ length-append (starts_from at fs) (starts_from (at + fl fs) (many block_fields bs)) ∙ omega (arith, places, more, length-append ps (all_places bs))

-- "one for each place"
pub offsets_many : (code : List (List ℕ)) (bs : List Block) → length (offsets (command code bs)) ≡ length (all_places bs)
unfolding offsets
offsets_many code bs =
    let pieces : List Field = map (λ w. field code_tag w) code in
    rw (starts_append head_size pieces (many block_fields bs), starts_none head_size pieces (none_map (λ w. field code_tag w) (λ w. refl) code)) (blocks_many (head_size + fl pieces) bs)

pub offsets_most : (c : Command) → well_formed c ≡ true → length (offsets c) ≤ 32
offsets_most (command code bs) h = rw (offsets_many code bs) (c_places code bs h)

-- ---- how many bytes stand before a place

-- in bytes, at an offset, a place's fields, all of them: behind them stands a place or a block, or nothing
pub record StandsAt (p : Place) (r : List ℕ) (offset : ℕ) : Type 0 where
  pub before : List ℕ
  pub behind : List Field
  pub is : r ≡ before ++ (bytes_of (place_fields p) ++ bytes_of behind)
  pub size : length before ≡ offset
  pub ends : get_or (bytes_of behind) 0 0 < name_tag

-- places and blocks begin with tags below a name's
places_low : (ps : List Place) (bs : List Block) → get_or (bytes_of (many place_fields ps ++ many block_fields bs)) 0 0 < name_tag
places_low [] [] = omega arith
places_low [] (block k qs ∷ bs) = omega arith
places_low (place b nm v ∷ ps) bs = omega arith

-- a place of a command: blocks, places of its block, the place, and what is behind it
module _ (code : List (List ℕ)) (before : List Block) (k : Bool) (ps : List Place) (p : Place) (qs : List Place) (behind : List Block) where
  abbrev whole : Command
  whole = command code (before ++ (block k (ps ++ (p ∷ qs)) ∷ behind))

  -- the block's own field and the places before
  abbrev in_block : List Field
  in_block = field block_tag (cond k (byte "N") (byte "P") ∷ []) ∷ many place_fields ps

  abbrev front_fields : List Field
  front_fields = fields_of (command code before) ++ in_block

  abbrev rest_fields : List Field
  rest_fields = many place_fields qs ++ many block_fields behind

  fields_cut : fields_of whole ≡ front_fields ++ (place_fields p ++ rest_fields)
  fields_cut =
      let pieces : List Field = map (λ w. field code_tag w) code in
      let blocks : List Field = many block_fields before in
      let rest : List Field = place_fields p ++ rest_fields in
      let own : many place_fields (ps ++ (p ∷ qs)) ++ many block_fields behind ≡ many place_fields ps ++ rest =
      rw (
        many_append place_fields ps (p ∷ qs),
        append_assoc (many place_fields ps) (place_fields p ++ many place_fields qs) (many block_fields behind),
        append_assoc (place_fields p) (many place_fields qs) (many block_fields behind),
      ) in
      rw (
        many_append block_fields before (block k (ps ++ (p ∷ qs)) ∷ behind),
        own,
        append_assoc (pieces ++ blocks) in_block rest,
        append_assoc pieces blocks (in_block ++ rest),
      )

  front_many : length (starts_from head_size front_fields) ≡ length (all_places before) + length ps
  unfolding offsets
  front_many =
      let fs : List Field = fields_of (command code before) in
      ap length (starts_append head_size fs in_block) ∙ length-append (starts_from head_size fs) (starts_from (head_size + fl fs) in_block)
      ∙ omega (arith, offsets_many code before, places_many (head_size + fl fs + 4) ps)

  front_size : head_size + fl front_fields ≡ 7 + length (bytes_of (fields_of (command code before))) + 4 + length (bytes_of (many place_fields ps))
  front_size = omega (arith, fl_append (fields_of (command code before)) in_block, fl_cons (field block_tag (cond k (byte "N") (byte "P") ∷ [])) (many place_fields ps))

  -- the slot of a place's number: head, blocks before, the block's own field, places before
  pub slot_is : get_or (offsets whole) (length (all_places before) + length ps) 0 ≡ 7 + length (bytes_of (fields_of (command code before))) + 4 + length (bytes_of (many place_fields ps))
  unfolding offsets
  slot_is =
      let at : ℕ = head_size + fl front_fields in
      let e : starts_from head_size (fields_of whole) ≡ starts_from head_size front_fields ++ (at ∷ starts_from (at + fl (place_fields p)) rest_fields) =
      rw (
        fields_cut,
        starts_append head_size front_fields (place_fields p ++ rest_fields),
        starts_append at (place_fields p) rest_fields,
        starts_place at p,
      ) in
      ap (λ (l : List ℕ). get_or l (length (all_places before) + length ps) 0) e
      ∙ get_or_at (starts_from head_size front_fields) at (starts_from (at + fl (place_fields p)) rest_fields) 0 (length (all_places before) + length ps) front_many
      ∙ front_size

  -- and so many bytes stand before it
  pub place_there : StandsAt p (encode whole) (7 + length (bytes_of (fields_of (command code before))) + 4 + length (bytes_of (many place_fields ps)))
  place_there =
      let head : List ℕ = head_bytes (count whole) in
      record {
        before = head ++ bytes_of front_fields;
        behind = rest_fields;
        is =
            rw (fields_cut, bytes_append front_fields (place_fields p ++ rest_fields), bytes_append (place_fields p) rest_fields)
            (sym (append_assoc head (bytes_of front_fields) (bytes_of (place_fields p) ++ bytes_of rest_fields)));
        size = length-append head (bytes_of front_fields) ∙ front_size;
        ends = places_low qs behind;
      }

-- ---- each slot is a place's

-- the place of a number, with what stands before it and behind it
record Numbered (bs : List Block) (n : ℕ) : Type 0 where
  before : List Block
  kind : Bool
  ahead : List Place
  found : Place
  rest : List Place
  behind : List Block
  is : bs ≡ before ++ (block kind (ahead ++ (found ∷ rest)) ∷ behind)
  number : length (all_places before) + length ahead ≡ n
  same : get_or (all_places bs) n (place keys [] []) ≡ found

-- in the first block, or in one behind it
numbered_here : (k : Bool) (ps : List Place) (bs : List Block) (n : ℕ) → n < length ps → Numbered (block k ps ∷ bs) n
numbered_here k ps bs n h =
    let none : Place = place keys [] [] in
    let few : n ≤ length ps = omega arith in
    record {
      before = [];
      kind = k;
      ahead = take n ps;
      found = get_or ps n none;
      rest = drop (suc n) ps;
      behind = bs;
      is = ap (λ (l : List Place). block k l ∷ bs) (split_at ps n none h);
      number = omega (arith, length-take-le n ps few);
      same = get_or-append ps (all_places bs) none n h;
    }

numbered_later : (k : Bool) (ps : List Place) (bs : List Block) (n m : ℕ) → n ≡ length ps + m → Numbered bs m → Numbered (block k ps ∷ bs) n
numbered_later k ps bs n m e x =
    let none : Place = place keys [] [] in
    record {
      before = block k ps ∷ x.before;
      kind = x.kind;
      ahead = x.ahead;
      found = x.found;
      rest = x.rest;
      behind = x.behind;
      is = ap (λ (l : List Block). block k ps ∷ l) x.is;
      number = omega (arith, length-append ps (all_places x.before), x.number);
      same = ap (λ i. get_or (ps ++ all_places bs) i none) e ∙ get_or-append-add ps (all_places bs) m none ∙ x.same;
    }

numbered : (bs : List Block) (n : ℕ) → n < length (all_places bs) → Numbered bs n
numbered [] n h = absurd (not-suc-le-zero h)
numbered (block k ps ∷ bs) n h =
    by_bool (ltb n (length ps))
    (λ y. numbered_here k ps bs n (ltb-true n (length ps) y))
    (λ y.
    let past : length ps ≤ n = ltb-false n (length ps) y in
    numbered_later k ps bs n (n - length ps) (omega arith) (numbered bs (n - length ps) (omega (arith, length-append ps (all_places bs)))))

-- at each slot's offset stand the fields of the place of its number
pub stands_there : (c : Command) (n : ℕ) → n < length (offsets c) → StandsAt (place_of c n) (encode c) (get_or (offsets c) n 0)
stands_there (command code bs) n h =
    let x : Numbered bs n = numbered bs n (omega (arith, offsets_many code bs)) in
    let c : Command = whole code x.before x.kind x.ahead x.found x.rest x.behind in
    let e : 7 + length (bytes_of (fields_of (command code x.before))) + 4 + length (bytes_of (many place_fields x.ahead)) ≡ get_or (offsets c) n 0 =
    sym (slot_is code x.before x.kind x.ahead x.found x.rest x.behind) ∙ ap (λ i. get_or (offsets c) i 0) x.number in
    let there : StandsAt x.found (encode c) (get_or (offsets c) n 0) =
    subst (λ i. StandsAt x.found (encode c) i) e (place_there code x.before x.kind x.ahead x.found x.rest x.behind) in
    subst (λ q. StandsAt q (encode (command code bs)) (get_or (offsets (command code bs)) n 0)) (sym x.same)
    (subst (λ b. StandsAt x.found (encode (command code b)) (get_or (offsets (command code b)) n 0)) (sym x.is) there)
