-- A place that the rules read: its own field, then its name's pieces and its value, which are parts of the table on both sides of `=`.
use Prim.Native.Nat.{ℕ, ◌+◌, ◌-◌, ◌*◌, ◌^◌, ◌≤◌, ◌<◌}
use mathlib.Core.Path.{◌≡◌, sym, ap, ◌∙◌}
use mathlib.Core.Bool.{Bool, true, false}
use mathlib.Core.List.{List, [], ◌∷◌, ◌++◌, map}
use native.Mathlib.Omega.{arith}
use borrow.Author.Tests.{ltb-true, ltb-false}
use mir.Syntax.{w64}
use mir.Val.{Fits as Holds}
use lib.Dec.{ltb}
use lib.ListN.{length, get_or, take, drop, length-append, length-drop}
use Rattle.std.proofs.Common.{take_all}
use Rattle.rules.proofs.ReadSteps.{named_read, place_read}
use Rattle.laws.specs.Cases.{by_bool}
use Rattle.laws.specs.Over.{over, part, back, back_over}
use Rattle.rules.specs.Commands.{Name, Element, place, seg, Cut, cut, uncut, cut_at, is_piece}
use Rattle.rules.specs.Groups.{read_value}
use Rattle.rules.specs.Reading.{Placed, placed, read_position, read_named, read_of_kind, read_place}
use Rattle.rules.specs.Records.{Field, field, field_bytes, bytes_of, many, element_fields}
use Rattle.rules.specs.Refusals.{ok}
use Rattle.rules.specs.Tokens.{Token, pos_of, equals}
use Rattle.rules.specs.Units.{Base, plain, r_d, letter, is_identifier}
use Rattle.rules.proofs.FieldLaws.{bytes_append}
use Rattle.rules.proofs.ResultLaws.{ok_inj, ok≢bad, map_ok}
use Rattle.token_table.specs.Table.{place_in, tokens_in}
use Rattle.value_fields.proofs.WriteLaws.{second_room}
use Rattle.value_fields.specs.Writes.{Fits, PutValue}
use Rattle.read_bases.specs.Bases.{bases_in, base_in}
use Rattle.token_table.specs.declared.Token.{Token as Entry}
use Rattle.token_table.proofs.KindLaws.{no_token}
use Rattle.token_table.specs.Parts.{before, words_in, words_size}
use Rattle.token_table.proofs.FindLaws.{cut_at_lem, cut_none}
use Rattle.token_table.proofs.WordLaws.{pieces_words, words_bytes}
use Rattle.command_fields.specs.Recorder.{word_bytes, inner_bytes, place_bytes, Wrote, NameFits, PutName, PlaceFits, PutPlace}

abbrev pub value_bytes : List Element → List ℕ
value_bytes v = bytes_of (many element_fields v)

-- two parts, the second written by a writer that was lent the buffer behind the first
module _ (a b old : List ℕ) {xs : List ℕ} {p : ℕ} (v : Wrote a p old xs) where
  pub chained : {ys : List ℕ} {r : ℕ} → Wrote b r (part xs p) ys → Wrote (a ++ b) (p + r) old (back xs p ys)
  chained w = (omega (arith, length-append a b, v.0, w.0), back_over a b old v.1 (sym v.0) w.1)

  pub room_behind : length (a ++ b) ≤ length old → length b ≤ length (part xs p)
  room_behind h = let l = length-append a b in second_room a b old v.0 v.1 (omega arith)

-- what was written ends inside the buffer
pub wrote_inside : (a old : List ℕ) {xs : List ℕ} {p : ℕ} → Wrote a p old xs → p ≤ length xs
wrote_inside a old v = omega (arith, v.0, ap length v.1, length-append a (drop (length a) old))

pub byte_inside : (t b : ℕ) (old : List ℕ) {xs : List ℕ} {p : ℕ} → p ≡ 4 → xs ≡ over (field_bytes (field t (b ∷ []))) old → p ≤ length xs
byte_inside t b old e q = wrote_inside (field_bytes (field t (b ∷ []))) old (e, q)

-- the pieces of a code or a name, as their writer leaves them
abbrev pub Pieces : ℕ → List (List ℕ) → ℕ → List ℕ → List ℕ → Type 0
Pieces t ws p old xs = (p ≡ words_size ws) × (xs ≡ over (word_bytes t ws) old)

pub pieces_wrote : (t : ℕ) (ws : List (List ℕ)) (old : List ℕ) {xs : List ℕ} {p : ℕ} → Pieces t ws p old xs → Wrote (word_bytes t ws) p old xs
pieces_wrote t ws old w = (w.0 ∙ sym (words_bytes t ws), w.1)

-- ---- name and value

-- all tokens from the n-th on
tokens_from : (ts : List Entry) (n : ℕ) → take (length ts - n) (drop n ts) ≡ drop n ts
tokens_from ts n = take_all (length ts - n) (drop n ts) (simp length-drop (omega arith))

-- a named place that is read, its `=` the k-th token
pub record NamedIs (ts : List Entry) (cs : List ℕ) (b : Base) (e k : ℕ) (x : Placed) : Type 0 where
  pub inside : k < length ts
  pub v : List Element
  pub value : read_value b (tokens_in cs (drop (k + 1) ts)) e ≡ ok v
  pub bytes : inner_bytes x ≡ word_bytes 4 (words_in true cs (take k ts)) ++ value_bytes v

pub named_is : (ts : List Entry) (cs : List ℕ) (b : Base) (ns : List Name) (e : ℕ) (x : Placed) {k : ℕ} → k ≡ 0 + before 8 (drop 0 ts)
    → read_named b ns (cut_at equals (tokens_in cs ts)) e ≡ ok x → NamedIs ts cs b e k x
named_is ts cs b ns e x {k} f h =
    by_bool (ltb k (length ts))
    (λ y.
    let l = ltb-true k (length ts) y in
    let q = place_in (get_or ts k no_token) in
    let r = named_read b ns (tokens_in cs (take k ts)) q (tokens_in cs (drop (k + 1) ts)) e x (rw (cut_at_lem equals cs ts f l) at h) in
    let names : List Field = map (λ w. field 4 w) r.name in
    let own : inner_bytes x ≡ bytes_of (names ++ many element_fields r.v) = ap inner_bytes (sym r.is) in
    record {
      inside = l;
      v = r.v;
      value = r.value;
      bytes = own ∙ bytes_append names (many element_fields r.v) ∙ ap (λ (ws : List (List ℕ)). word_bytes 4 ws ++ value_bytes r.v) (pieces_words cs (take k ts) true 10 is_identifier is_piece 3 q r.name r.pieced);
    })
    (λ y. ok≢bad (rw (cut_none equals cs ts f (ltb-false k (length ts) y)) at h))

module _ (ts : List Entry) (cs : List ℕ) (l k : ℕ) (f : k ≡ 0 + before 8 (drop 0 ts)) where
  module _ (room : ℕ) (w : NameFits ts cs l room) where
    is : NamedIs ts cs w.base w.end k w.x
    is = named_is ts cs w.base w.names w.end w.x f w.is

    pub name_inside : k < length ts
    name_inside = is.inside

    pub name_behind : k + 1 ≤ length ts
    name_behind = omega (arith, name_inside)

    pub name_next : length ts * 8 < 2 ^ 63 → Holds w64 (k + 1)
    name_next g = omega (arith, name_inside)

    pub name_scaled : length ts * 8 < 2 ^ 63 → Holds w64 ((k + 1) * 8)
    name_scaled g = omega (arith, name_inside)

    both : length (word_bytes 4 (words_in true cs (take k ts)) ++ value_bytes is.v) ≤ room
    both = omega (arith, ap length is.bytes, w.fits)

    pub name_room : words_size (words_in true cs (take k ts)) ≤ room
    name_room =
        let ws = words_in true cs (take k ts) in
        omega (arith, both, length-append (word_bytes 4 ws) (value_bytes is.v), words_bytes 4 ws)

  module _ (old : List ℕ) {xs : List ℕ} {p : ℕ} (v : Pieces 4 (words_in true cs (take k ts)) p old xs) where
    name : Wrote (word_bytes 4 (words_in true cs (take k ts))) p old xs
    name = pieces_wrote 4 (words_in true cs (take k ts)) old v

    pub name_past : NameFits ts cs l (length old) → p ≤ length xs
    name_past w = wrote_inside (word_bytes 4 (words_in true cs (take k ts))) old name

    pub name_value : NameFits ts cs l (length old) → Fits (take (length ts - (k + 1)) (drop (k + 1) ts)) cs l (length (part xs p))
    name_value w =
        let i = is (length old) w in
        rw (tokens_from ts (k + 1)) record {
          value = record { base = w.base; own = w.own; end = w.end; es = i.v; is = i.value };
          room = room_behind (word_bytes 4 (words_in true cs (take k ts))) (value_bytes i.v) old name (both (length old) w);
        }

    pub name_put : {ys : List ℕ} {r : ℕ} → PutValue (take (length ts - (k + 1)) (drop (k + 1) ts)) cs l r (part xs p) ys → PutName ts cs l (p + r) old (back xs p ys)
    name_put {ys} {r} w b ns e x own h =
        let i = named_is ts cs b ns e x f h in
        let u : PutValue (drop (k + 1) ts) cs l r (part xs p) ys = rw (tokens_from ts (k + 1)) at w in
        rw i.bytes (chained (word_bytes 4 (words_in true cs (take k ts))) (value_bytes i.v) old name (u b e i.v own i.value))

-- ---- a place

named_own : (b : Base) (ns : List Name) (c : Cut) (e : ℕ) (x : Placed) → read_named b ns c e ≡ ok x → place_bytes x ≡ field_bytes (field 3 (letter b ∷ [])) ++ inner_bytes x
named_own b ns uncut e x h = ok≢bad h
named_own b ns (cut nm q us) e x h = rw (← (named_read b ns nm q us e x h).is)

position_own : (b : Base) (ts : List Token) (e : ℕ) (x : Placed) → read_position b ts e ≡ ok x → place_bytes x ≡ field_bytes (field 3 (letter b ∷ [])) ++ inner_bytes x
position_own b [] e x h = rw (← (ok_inj h))
position_own b (t ∷ ts) e x h = map_ok (λ v. placed (pos_of t) (place b [] v)) (read_value b (t ∷ ts) e) x h (λ v c r. rw (← r))

own_field_lem : (k : Bool) (b : Base) (ns : List Name) (ts : List Token) (e : ℕ) (x : Placed) → read_of_kind k b ns ts e ≡ ok x
    → place_bytes x ≡ field_bytes (field 3 (letter b ∷ [])) ++ inner_bytes x
own_field_lem true b ns ts e x h = named_own b ns (cut_at equals ts) e x h
own_field_lem false b ns ts e x h = position_own b ts e x h

of_kind : (k : Bool) (bs : List Base) (n : ℕ) (ns : List Name) (ts : List Token) (e : ℕ) (x : Placed) → read_place k bs n ns (seg ts e) ≡ ok x
    → read_of_kind k (get_or bs n (plain r_d)) ns ts e ≡ ok x
of_kind k bs n ns ts e x h = (place_read k bs n ns ts e x h).read

-- a value by position
record PositionIs (ts : List Entry) (cs : List ℕ) (b : Base) (e : ℕ) (x : Placed) : Type 0 where
  v : List Element
  value : read_value b (tokens_in cs ts) e ≡ ok v
  bytes : inner_bytes x ≡ value_bytes v

position_is : (ts : List Entry) (cs : List ℕ) (b : Base) (e : ℕ) (x : Placed) → 0 < length ts → read_position b (tokens_in cs ts) e ≡ ok x → PositionIs ts cs b e x
position_is [] cs b e x l h = absurd (omega arith)
position_is (t ∷ ts) cs b e x l h =
    map_ok (λ v. placed (place_in t) (place b [] v)) (read_value b (tokens_in cs (t ∷ ts)) e) x h (λ v c r. record { v = v; value = c; bytes = rw (← r) })

position_none : (ts : List Entry) (cs : List ℕ) (b : Base) (e : ℕ) (x : Placed) → length ts ≤ 0 → read_position b (tokens_in cs ts) e ≡ ok x → inner_bytes x ≡ []
position_none [] cs b e x l h = rw (← (ok_inj h))
position_none (t ∷ ts) cs b e x l h = absurd (omega arith)

module _ (ts : List Entry) (cs ls : List ℕ) (k : Bool) (n l : ℕ) (g : l ≡ letter (base_in ls n)) where
  inner : (ns : List Name) (e : ℕ) (x : Placed) → read_place k (bases_in ls) n ns (seg (tokens_in cs ts) e) ≡ ok x
      → place_bytes x ≡ field_bytes (field 3 (l ∷ [])) ++ inner_bytes x
  inner ns e x h = rw g (own_field_lem k (base_in ls n) ns (tokens_in cs ts) e x (of_kind k (bases_in ls) n ns (tokens_in cs ts) e x h))

  pub place_room : (room : ℕ) → PlaceFits ts cs ls k n room → 4 ≤ room
  place_room room w = omega (arith, ap length (inner w.names w.end w.x w.is), w.fits, length-append (field_bytes (field 3 (l ∷ []))) (inner_bytes w.x))

  module _ (old : List ℕ) {xs : List ℕ} {p : ℕ} (v : Wrote (field_bytes (field 3 (l ∷ []))) p old xs) where
    behind : (w : PlaceFits ts cs ls k n (length old)) → length (inner_bytes w.x) ≤ length (part xs p)
    behind w = room_behind (field_bytes (field 3 (l ∷ []))) (inner_bytes w.x) old v (omega (arith, ap length (inner w.names w.end w.x w.is), w.fits))

    -- named
    pub named_fits : k ≡ true → PlaceFits ts cs ls k n (length old) → NameFits ts cs l (length (part xs p))
    named_fits y w = record {
      base = base_in ls n;
      own = g;
      end = w.end;
      names = w.names;
      x = w.x;
      is = of_kind true (bases_in ls) n w.names (tokens_in cs ts) w.end w.x (rw y at w.is);
      fits = behind w;
    }

    pub named_put : {ys : List ℕ} {r : ℕ} → k ≡ true → PutName ts cs l r (part xs p) ys → PutPlace ts cs ls k n (p + r) old (back xs p ys)
    named_put y w ns e x h =
        rw (inner ns e x h)
        (chained (field_bytes (field 3 (l ∷ []))) (inner_bytes x) old v (w (base_in ls n) ns e x g (of_kind true (bases_in ls) n ns (tokens_in cs ts) e x (rw y at h))))

    -- by position
    by_position : k ≡ false → 0 < length ts → (ns : List Name) (e : ℕ) (x : Placed) → read_place k (bases_in ls) n ns (seg (tokens_in cs ts) e) ≡ ok x
        → PositionIs ts cs (base_in ls n) e x
    by_position y z ns e x h = position_is ts cs (base_in ls n) e x z (of_kind false (bases_in ls) n ns (tokens_in cs ts) e x (rw y at h))

    pub position_fits : k ≡ false → 0 < length ts → PlaceFits ts cs ls k n (length old) → Fits ts cs l (length (part xs p))
    position_fits y z w =
        let i = by_position y z w.names w.end w.x w.is in
        record {
          value = record { base = base_in ls n; own = g; end = w.end; es = i.v; is = i.value };
          room = omega (arith, behind w, ap length i.bytes);
        }

    pub position_put : {ys : List ℕ} {r : ℕ} → k ≡ false → 0 < length ts → PutValue ts cs l r (part xs p) ys → PutPlace ts cs ls k n (p + r) old (back xs p ys)
    position_put y z w ns e x h =
        let i = by_position y z ns e x h in
        let q : place_bytes x ≡ field_bytes (field 3 (l ∷ [])) ++ value_bytes i.v = inner ns e x h ∙ ap (λ m. field_bytes (field 3 (l ∷ [])) ++ m) i.bytes in
        rw q (chained (field_bytes (field 3 (l ∷ []))) (value_bytes i.v) old v (w (base_in ls n) e i.v g i.value))

    pub omitted_put : k ≡ false → length ts ≤ 0 → PutPlace ts cs ls k n p old xs
    omitted_put y z ns e x h =
        let i : inner_bytes x ≡ [] = position_none ts cs (base_in ls n) e x z (of_kind false (bases_in ls) n ns (tokens_in cs ts) e x (rw y at h)) in
        let q : place_bytes x ≡ field_bytes (field 3 (l ∷ [])) = inner ns e x h ∙ ap (λ m. field_bytes (field 3 (l ∷ [])) ++ m) i in
        rw q v
