-- The C interface's one number decides: number and value are its quotient and remainder by 2^32, since every call's value is below 2^32; so two results that meet
-- `Packs`, `PacksRow`, `PacksNumber` or `PacksKey` are equal.
use Prim.Native.Nat.{ℕ, ◌+◌, ◌*◌, ◌/◌, ◌%◌, ◌^◌, ◌<◌, ◌≤◌}
use mathlib.Core.Path.{◌≡◌, refl, sym, ap, ◌∙◌}
use mathlib.Core.List.{List, [], ◌∷◌, map}
use native.Mathlib.Omega.{arith}
use lib.ListN.{length}
use Rattle.std.proofs.Common.{Ok, Err}
use Rattle.rules.specs.declared.Keeper.{Keeper}
use Rattle.rules.specs.Reasons.{refusal}
use Rattle.rules.specs.Refusals.{Res, ok, bad, map_r}
use Rattle.rules.specs.Commands.{Command}
use Rattle.rules.specs.Records.{encode}
use Rattle.rules.specs.Answers.{Answer, reading, printing, ordering, counting, listing, locating, reading_row, ordering_row, placing, answered, number_of, value_of}
use Rattle.rules.specs.Keeping.{after_key}
use Rattle.rules.proofs.AnswersFit.{reading_most, printing_most, ordering_most, counting_most, listing_most, locating_most, reading_row_most, ordering_row_most, placing_most, pressing_most}
use Rattle.mml.specs.Interface.{packed, returned, Packs, PacksRow, PacksNumber, pressed, PacksKey}

-- answers and their numbers, worked out by hand: 17 times 4,294,967,296, and 4; the greatest value
pub packed_are :
    map packed (Ok 0 ∷ Ok 77 ∷ Ok 4294967295 ∷ Err (refusal 1 0) ∷ Err (refusal 17 4) ∷ Err (refusal 19 65535) ∷ [])
    ≡ 0 ∷ 77 ∷ 4294967295 ∷ 4294967296 ∷ 73014444036 ∷ 81604444159 ∷ []
packed_are = refl

-- and the same results
pub returned_are :
    map returned (ok 0 ∷ ok 77 ∷ ok 4294967295 ∷ bad 1 0 ∷ bad 17 4 ∷ bad 19 65535 ∷ [])
    ≡ 0 ∷ 77 ∷ 4294967295 ∷ 4294967296 ∷ 73014444036 ∷ 81604444159 ∷ []
returned_are = refl

-- the number's upper part is the refusal's number (0: success), its lower part the value
pub parts_back : (n v : ℕ) → v < 2 ^ 32 → ((n * 2 ^ 32 + v) / 2 ^ 32 ≡ n) × ((n * 2 ^ 32 + v) % 2 ^ 32 ≡ v)
parts_back n v h = (omega arith, omega arith)

pub number_back : (a : Answer) → value_of a < 2 ^ 32 → packed a / 2 ^ 32 ≡ number_of a
number_back a h = (parts_back (number_of a) (value_of a) h).0

pub value_back : (a : Answer) → value_of a < 2 ^ 32 → packed a % 2 ^ 32 ≡ value_of a
value_back a h = (parts_back (number_of a) (value_of a) h).1

-- two answers of one number are alike in number and value
pub packed_decides : (a b : Answer) → value_of a < 2 ^ 32 → value_of b < 2 ^ 32 → packed a ≡ packed b → (number_of a ≡ number_of b) × (value_of a ≡ value_of b)
packed_decides a b h k e =
    (sym (number_back a h) ∙ ap (λ x. x / 2 ^ 32) e ∙ number_back b k, sym (value_back a h) ∙ ap (λ x. x % 2 ^ 32) e ∙ value_back b k)

-- the number and the value of a result
abbrev pub number_in : Res ℕ → ℕ
number_in (ok v) = 0
number_in (bad n p) = n

abbrev pub value_in : Res ℕ → ℕ
value_in (ok v) = v
value_in (bad n p) = p

-- they are the parts of what is returned
pub returned_parts : (a : Res ℕ) → value_in a < 2 ^ 32 → (returned a / 2 ^ 32 ≡ number_in a) × (returned a % 2 ^ 32 ≡ value_in a)
returned_parts (ok v) h = (omega arith, omega arith)
returned_parts (bad n p) h = parts_back n p h

-- ---- the calls: what `MML_NUMBER` and `MML_VALUE` of include/mml.h take from the number is the result's number and value

-- the number's parts are those of the result
abbrev pub Parts : ℕ → Res ℕ → Type 0
Parts r a = (r / 2 ^ 32 ≡ number_in a) × (r % 2 ^ 32 ≡ value_in a)

value_same : (a : Res ℕ) → value_of (answered a) ≡ value_in a
value_same (ok v) = refl
value_same (bad n p) = refl

packed_parts : (r : ℕ) (a : Res ℕ) → r ≡ returned a → value_of (answered a) < 2 ^ 32 → Parts r a
packed_parts r a e h =
    let k = returned_parts a (omega (arith, value_same a)) in
    (ap (λ x. x / 2 ^ 32) e ∙ k.0, ap (λ x. x % 2 ^ 32) e ∙ k.1)

pub read_parts : (text letters old : List ℕ) (r : ℕ) (new : List ℕ) → Packs (reading text letters old) old r new
    → Parts r (map_r length (reading text letters old))
read_parts text letters old r new p = packed_parts r (map_r length (reading text letters old)) p.answers (omega (arith, reading_most text letters old))

pub print_parts : (rec old : List ℕ) (r : ℕ) (new : List ℕ) → Packs (printing rec old) old r new → Parts r (map_r length (printing rec old))
print_parts rec old r new p = packed_parts r (map_r length (printing rec old)) p.answers (omega (arith, printing_most rec old))

pub order_parts : (rec : List ℕ) (k : ℕ) (old : List ℕ) (r : ℕ) (new : List ℕ) → Packs (ordering rec k old) old r new
    → Parts r (map_r length (ordering rec k old))
order_parts rec k old r new p = packed_parts r (map_r length (ordering rec k old)) p.answers (omega (arith, ordering_most rec k old))

pub list_parts : (rec old : List ℕ) (r : ℕ) (new : List ℕ) → Packs (listing rec old) old r new → Parts r (map_r length (listing rec old))
list_parts rec old r new p = packed_parts r (map_r length (listing rec old)) p.answers (listing_most rec old)

pub count_parts : (rec : List ℕ) (r : ℕ) → PacksNumber (counting rec) r → Parts r (counting rec)
count_parts rec r p = packed_parts r (counting rec) p (omega (arith, counting_most rec))

-- a place's number has 32 bits
pub member_parts : (rec : List ℕ) (n : ℕ) (w : List ℕ) (r : ℕ) → n < 2 ^ 32 → PacksNumber (locating rec n w) r → Parts r (locating rec n w)
member_parts rec n w r h p = packed_parts r (locating rec n w) p (locating_most rec n w h)

pub read_row_parts : (text letters old row : List ℕ) (r : ℕ) (new filled : List ℕ) → PacksRow (reading_row text letters old row) old row r new filled
    → Parts r (map_r (λ c. length (encode c)) (reading_row text letters old row))
read_row_parts text letters old row r new filled p =
    packed_parts r (map_r (λ c. length (encode c)) (reading_row text letters old row)) p.answers (omega (arith, reading_row_most text letters old row))

pub order_row_parts : (rec : List ℕ) (k : ℕ) (old row : List ℕ) (r : ℕ) (new filled : List ℕ) → PacksRow (ordering_row rec k old row) old row r new filled
    → Parts r (map_r (λ c. length (encode c)) (ordering_row rec k old row))
order_row_parts rec k old row r new filled p =
    packed_parts r (map_r (λ c. length (encode c)) (ordering_row rec k old row)) p.answers (omega (arith, ordering_row_most rec k old row))

pub place_parts : (rec row : List ℕ) (n r : ℕ) → n < 2 ^ 32 → PacksNumber (map_r length (placing rec row n)) r → Parts r (map_r length (placing rec row n))
place_parts rec row n r h p = packed_parts r (map_r length (placing rec row n)) p (placing_most rec row n h)

pub key_parts : (k : Keeper) (c r : ℕ) (new : Keeper) → PacksKey k c r new → Parts r (pressed k c)
unfolding after_key
key_parts k c r new p = let h : value_of (answered (pressed k c)) ≤ 65536 = pressing_most k c in packed_parts r (pressed k c) p.answers (omega arith)

-- "Any two results satisfying it are proved equal"
pub packs_decided : (result : Res (List ℕ)) (old : List ℕ) (r s : ℕ) (new also : List ℕ) → Packs result old r new → Packs result old s also → (r ≡ s) × (new ≡ also)
packs_decided result old r s new also p q = (p.answers ∙ sym q.answers, p.holds ∙ sym q.holds)

pub row_decided : (result : Res Command) (old row : List ℕ) (r s : ℕ) (new also filled too : List ℕ) → PacksRow result old row r new filled → PacksRow result old row s also too
    → (r ≡ s) × (new ≡ also) × (filled ≡ too)
row_decided result old row r s new also filled too p q = (p.answers ∙ sym q.answers, p.holds ∙ sym q.holds, p.fills ∙ sym q.fills)

pub number_decided : (result : Res ℕ) (r s : ℕ) → PacksNumber result r → PacksNumber result s → r ≡ s
number_decided result r s p q = p ∙ sym q

pub key_decided : (k : Keeper) (c r s : ℕ) (new also : Keeper) → PacksKey k c r new → PacksKey k c s also → (r ≡ s) × (new ≡ also)
key_decided k c r s new also p q = (p.answers ∙ sym q.answers, p.holds ∙ sym q.holds)
