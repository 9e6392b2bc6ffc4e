-- Numbers as text: decimal numbers, and bytes as pairs of hexadecimal digits.
use Rattle.std.specs.Prelude.{ℕ, ◌+◌, ◌-◌, ◌*◌, ◌^◌, Bool, cond, ◌&&◌, List, [], ◌∷◌, ◌++◌, ltb, length, get_or}
use Rattle.std.specs.Prelude.{Option, Some, None, Result, Ok, Err}
use Rattle.std.proofs.Math.Option.{Option as Maybe, none, some}
use Rattle.laws.specs.Lists.{all, is_nil}
use Rattle.rules.specs.Characters.{byte, between, is_digit, is_effector}
use Rattle.console_figures.specs.declared.numbers.OutOfPlace.{OutOfPlace}

-- ---- digits

-- above the value of every digit: what is here for a byte that is no hexadecimal digit
abbrev pub no_digit : ℕ
no_digit = 16

-- the value of a hexadecimal digit, capital or small
unfoldable pub hex_value : ℕ → ℕ
hex_value c =
    cond (is_digit c) (c - byte "0")
    (cond (between (byte "A") (byte "F") c) (c - byte "A" + 10)
    (cond (between (byte "a") (byte "f") c) (c - byte "a" + 10) no_digit))

abbrev pub is_hex : ℕ → Bool
is_hex c = ltb (hex_value c) no_digit

-- its value, if it is one
abbrev pub digit_of : ℕ → Option ℕ
digit_of c = cond (is_hex c) (Some (hex_value c)) None

-- white space: the format effectors
unfoldable pub is_blank : ℕ → Bool
is_blank c = is_effector c

-- ---- decimal numbers

-- the value of decimal digits behind digits of value v
abbrev pub value_from : ℕ → List ℕ → ℕ
value_from v [] = v
value_from v (c ∷ cs) = value_from (v * 10 + (c - byte "0")) cs

-- the value has 64 bits
abbrev pub fits : ℕ → Bool
fits v = ltb v (2 ^ 64)

-- the number that digits write behind digits of value v
unfoldable pub number_from : ℕ → List ℕ → Option ℕ
number_from v text = cond (all is_digit text && fits (value_from v text)) (Some (value_from v text)) None

-- the number that a text writes: one or more decimal digits, of a value that has 64 bits
unfoldable pub number_of : List ℕ → Option ℕ
number_of text = cond (is_nil text) None (number_from 0 text)

-- ---- bytes as pairs of hexadecimal digits

-- what a text gives: the bytes of the pairs up to its end or its first byte out of place, and the answer
pub record Pairs : Type 0 where
  pub bytes : List ℕ
  pub answer : Result ℕ OutOfPlace

-- the byte at place i is out of place
abbrev pub out_of_place : ℕ → OutOfPlace
out_of_place i = record { place = i }

-- no byte is out of place
abbrev pub good : List ℕ → Pairs
good done = record { bytes = done; answer = Ok (length done) }

-- the byte at place i is out of place: the text's length where it ends too soon
abbrev pub wrong : List ℕ → ℕ → Pairs
wrong done i = record { bytes = done; answer = Err (out_of_place i) }

-- a text byte by byte, its first byte at place i, where `done` are the bytes of the pairs before, and there is room for so many:
-- between pairs (`none`) stands white space or a first digit, behind a first digit of value h (`some h`) a second
unfoldable pub pairs_from : List ℕ → Maybe ℕ → ℕ → List ℕ → ℕ → Pairs
pairs_from [] none room done i = good done
pairs_from [] (some h) room done i = wrong done i
pairs_from (c ∷ cs) none room done i =
    let blank = pairs_from cs none room done (i + 1) in
    let first = pairs_from cs (some (hex_value c)) room done (i + 1) in
    cond (is_blank c) blank (cond (is_hex c && ltb (length done) room) first (wrong done i))
pairs_from (c ∷ cs) (some h) room done i =
    let second = pairs_from cs none room (done ++ ((h * 16 + hex_value c) ∷ [])) (i + 1) in
    cond (is_hex c) second (wrong done i)

-- what a text gives where there is room for so many bytes
unfoldable pub pairs_of : ℕ → List ℕ → Pairs
pairs_of room text = pairs_from text none room [] 0

-- the value of the digit at place i, or that place (past the end `get_or` gives 0, no digit)
unfoldable pub digit_at : List ℕ → ℕ → Result ℕ OutOfPlace
digit_at s i = cond (is_hex (get_or s i 0)) (Ok (hex_value (get_or s i 0))) (Err (out_of_place i))

-- the byte whose two digits stand at place i, or the place of the one that is missing
unfoldable pub pair_at : List ℕ → ℕ → Result ℕ OutOfPlace
pair_at s i =
    let high = get_or s i 0 in
    let low = get_or s (i + 1) 0 in
    cond (is_hex high) (cond (is_hex low) (Ok (hex_value high * 16 + hex_value low)) (Err (out_of_place (i + 1)))) (Err (out_of_place i))
