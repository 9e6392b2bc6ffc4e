-- What `own_bases` finds in a record are its bases: the letters of its places, in order. So the text of a record can be read with them.
use mathlib.Core.Path.{◌≡◌, refl, sym, ap, ◌∙◌}
use mathlib.Core.Bool.{false}
use mathlib.Core.List.{List, [], ◌∷◌, ◌++◌, map, append_assoc, append-nil, map-append}
use Prim.Native.Nat.{ℕ, zero, suc, ◌+◌, ◌-◌, ◌≤◌, ◌<◌}
use native.Mathlib.Omega.{arith}
use borrow.Author.Tests.{ltb-true, ltb-false}
use lib.Dec.{eqb, ltb}
use lib.ListN.{length, get_or, length-append}
use lib.Seq.{get_or-append-add}
use Rattle.laws.specs.Cases.{by_bool}
use Rattle.rules.specs.Units.{letter, Unit, num, keyed, identifier, symbolic, text}
use Rattle.rules.specs.Commands.{Element, single, range, Place, place, Block, block, Command, command, place_base}
use Rattle.rules.specs.Records.{place_tag, count_tag, Field, field, four_bytes, unit_field, element_fields, many, place_fields, block_fields, fields_of, field_bytes, bytes_of, encode, bases_of, bases}
use Rattle.rules.specs.Orders.{count}
use Rattle.rules.specs.Refusals.{ok}
use Rattle.rules.specs.WellFormed.{record_of}
use Rattle.rules.proofs.EncodeDecode.{record_is}
use Rattle.console_figures.specs.Letters.{field_size, letter_at, letters_from, letters_of}
use Rattle.console_figures.proofs.LettersLaws.{from_field, from_end}

-- ---- bytes that stand before

-- what is found behind bytes that are passed over is what is found without them
behind : (k : ℕ) (p s : List ℕ) (i : ℕ) → letters_from k (p ++ s) (length p + i) ≡ letters_from k s i
unfolding letters_from
behind zero p s i = refl
behind (suc k) p s i =
    by_bool (ltb i (length s))
    (λ y.
    let h : i < length s = ltb-true i (length s) y in
    let in' : length p + i < length (p ++ s) = simp length-append (omega arith) in
    let at : (j : ℕ) → get_or (p ++ s) (length p + i + j) 0 ≡ get_or s (i + j) 0
    = λ j.
    let e : length p + i + j ≡ length p + (i + j) = omega arith in
    rw e (get_or-append-add p s (i + j) 0) in
    let size : length p + i + field_size s i ≡ length p + (i + field_size s i) = omega arith in
    from_field k (p ++ s) (length p + i) in'
    ∙ rw (get_or-append-add p s i 0, at 1, at 2, at 3, size, behind k p s (i + field_size s i)) refl
    ∙ sym (from_field k s i h))
    (λ n.
    let h : length s ≤ i = ltb-false i (length s) n in
    let out : length (p ++ s) ≤ length p + i = simp length-append (omega arith) in
    from_end (suc k) (p ++ s) (length p + i) out ∙ sym (from_end (suc k) s i h))

-- ---- what is found in fields

-- in these fields these letters are found, whatever fields stand behind
record Finds (fs : List Field) (ls : List ℕ) : Type 0 where
  found : (k : ℕ) (gs : List Field) → letters_from (length fs + k) (bytes_of (fs ++ gs)) 0 ≡ ls ++ letters_from k (bytes_of gs) 0

none : Finds [] []
none = record { found = λ k gs. ap (λ (m : ℕ). letters_from m (bytes_of gs) 0) (omega arith) }

then : {fs gs : List Field} {ls ms : List ℕ} → Finds fs ls → Finds gs ms → Finds (fs ++ gs) (ls ++ ms)
then {fs} {gs} {ls} {ms} f g =
    record {
      found = λ k hs.
          let count : length (fs ++ gs) + k ≡ length fs + (length gs + k) = simp length-append (omega arith) in
          rw (count, append_assoc fs gs hs, append_assoc ls ms (letters_from k (bytes_of hs) 0))
          (f.found (length gs + k) (gs ++ hs) ∙ ap (λ (w : List ℕ). ls ++ w) (g.found k hs));
    }

-- one field: its letter, if it has one, and behind it the rest
passed : (t : ℕ) (w : List ℕ) (k : ℕ) (gs : List Field)
    → letters_from (1 + k) (bytes_of (field t w ∷ gs)) 0 ≡ letter_at (bytes_of (field t w ∷ gs)) 0 ++ letters_from k (bytes_of gs) 0
passed t w k gs =
    let s = bytes_of (field t w ∷ gs) in
    let one : 1 + k ≡ suc k = omega arith in
    let some : 0 < length s = omega arith in
    let size : 0 + field_size s 0 ≡ length (field_bytes (field t w)) + 0 = omega arith in
    ap (λ (m : ℕ). letters_from m s 0) one
    ∙ from_field k s 0 some
    ∙ ap (λ (m : ℕ). letter_at s 0 ++ letters_from k s m) size
    ∙ ap (λ (r : List ℕ). letter_at s 0 ++ r) (behind k (field_bytes (field t w)) (bytes_of gs) 0)

other : (t : ℕ) {w : List ℕ} → eqb t place_tag ≡ false → Finds (field t w ∷ []) []
other t {w} e = record { found = λ k gs. passed t w k gs ∙ rw e refl }

its_letter : (x : ℕ) → Finds (field 3 (x ∷ []) ∷ []) (x ∷ [])
its_letter x = record { found = λ k gs. passed 3 (x ∷ []) k gs }

each : {A : Type 0} (g : A → Field) → ((a : A) → Finds (g a ∷ []) []) → (as' : List A) → Finds (map g as') []
each g f [] = none
each g f (a ∷ as') = then (f a) (each g f as')

-- ---- what is found in a record

in_unit : (u : Unit) → Finds (unit_field u ∷ []) []
in_unit (num r f v) = other 7 refl
in_unit (keyed w) = other 8 refl
in_unit (identifier w) = other 9 refl
in_unit (symbolic w) = other 10 refl
in_unit (text w) = other 11 refl

in_elements : (es : List Element) → Finds (many element_fields es) []
in_elements [] = none
in_elements (single l u ∷ es) = then (then (other 5 refl) (each unit_field in_unit (l ++ (u ∷ [])))) (in_elements es)
in_elements (range l r lo up inc ∷ es) = then (then (other 6 refl) (each unit_field in_unit (l ++ (num r 0 lo ∷ [])))) (in_elements es)

in_words : (t : ℕ) → eqb t place_tag ≡ false → (ws : List (List ℕ)) → Finds (map (λ (w : List ℕ). field t w) ws) []
in_words t e ws = each (λ (w : List ℕ). field t w) (λ w. other t e) ws

in_place_lem : (p : Place) → Finds (place_fields p) (letter (place_base p) ∷ [])
in_place_lem (place b nm v) = then (its_letter (letter b)) (then (in_words 4 refl nm) (in_elements v))

in_places : (ps : List Place) → Finds (many place_fields ps) (map letter (map place_base ps))
in_places [] = none
in_places (p ∷ ps) = then (in_place_lem p) (in_places ps)

in_blocks : (bs : List Block) → Finds (many block_fields bs) (map letter (bases_of bs))
in_blocks [] = none
in_blocks (block d ps ∷ bs) = rw (map-append letter (map place_base ps) (bases_of bs)) (then (then (other 2 refl) (in_places ps)) (in_blocks bs))

in_command : (c : Command) → Finds (fields_of c) (bases c)
in_command (command ws bs) = then (in_words 1 refl ws) (in_blocks bs)

-- a head is a field as any other that is no place's
abbrev record_fields : Command → List Field
record_fields c = field count_tag (four_bytes (count c)) ∷ fields_of c

in_record : (c : Command) → Finds (record_fields c) (bases c)
in_record c = then (other count_tag refl) (in_command c)

-- a field has a byte at least
fields_most : (fs : List Field) → length fs ≤ length (bytes_of fs)
fields_most [] = omega arith
fields_most (field t w ∷ fs) = simp length-append (omega (arith, fields_most fs))

pub own_letters : (c : Command) → letters_of (encode c) ≡ bases c
own_letters c =
    let fs = record_fields c in
    let k = length (encode c) - length fs in
    let steps : length (encode c) ≡ length fs + k = omega (arith, fields_most fs) in
    ap (λ (m : ℕ). letters_from m (encode c) 0) steps
    ∙ ap (λ (gs : List Field). letters_from (length fs + k) (bytes_of gs) 0) (sym (append-nil fs))
    ∙ (in_record c).found k []
    ∙ ap (λ (w : List ℕ). bases c ++ w) (from_end k [] 0 (omega arith))
    ∙ append-nil (bases c)

-- what is found in a well-formed record are the bases of its command
pub record_letters : (r : List ℕ) (c : Command) → record_of r ≡ ok c → letters_of r ≡ bases c
record_letters r c e = ap letters_of (sym (record_is r c e).bytes) ∙ own_letters c
