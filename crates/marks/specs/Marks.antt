-- The key of a word, and marks of the keys that were met: four bits for each key, one in each of four numbers. Any key would do; this one keeps most names apart.
use Rattle.std.specs.Prelude.{ℕ, ◌+◌, ◌*◌, ◌-◌, ◌/◌, ◌%◌, ◌^◌, Bool, true, false, ◌&&◌, List, eqb, length, get_or}
use Rattle.std.specs.Int.Bits.{bit_or}
use Rattle.laws.specs.Cases.{pick}
use Rattle.laws.specs.Lists.{all}
use Rattle.rules.specs.Commands.{Name}
use Rattle.marks.specs.declared.Marks.{Marks}

-- the key of a word of n bytes: the first, the one in the middle, the last but one, the last; s is the key of the words before
abbrev pub mixed : ℕ → ℕ → ℕ → ℕ → ℕ → ℕ → ℕ
mixed s n first middle second last =
    (s % 16777216 * 355199 + n % 64 * 473107 + (first * 533091 + last * 844793) + (middle * 407117 + second * 1045713)) % 16777216

unfoldable pub key_of : ℕ → List ℕ → ℕ
key_of s w =
    let n = length w in
    pick (eqb n 0) s (mixed s n (get_or w 0 0) (get_or w ((n - 1) / 2) 0) (get_or w (n - 2) 0) (get_or w (n - 1) 0))

-- ---- marks

abbrev pub no_marks : Marks
no_marks = record { first = 0; second = 0; third = 0; fourth = 0 }

-- the bit of a number that a part of a key says
abbrev pub has_bit : ℕ → ℕ → Bool
has_bit n k = eqb (n / 2 ^ (k % 64) % 2) 1

abbrev pub has_both : ℕ → ℕ → ℕ → Bool
has_both a b k = has_bit a k && has_bit b (k / 64)

unfoldable pub marked : Marks → ℕ → Bool
marked m k = has_both m.first m.second k && has_both m.third m.fourth (k / 4096)

abbrev pub with_bit : ℕ → ℕ → ℕ
with_bit n k = bit_or n (2 ^ (k % 64))

unfoldable pub added : Marks → ℕ → Marks
added m k =
    record {
      first = with_bit m.first k;
      second = with_bit m.second (k / 64);
      third = with_bit m.third (k / 4096);
      fourth = with_bit m.fourth (k / 4096 / 64);
    }

abbrev pub added_if : Bool → Marks → ℕ → Marks
added_if true m k = added m k
added_if false m k = m

-- the keys of all these names are marked
abbrev pub keys_marked : (Name → ℕ) → Marks → List Name → Bool
keys_marked key m ns = all (λ nm. marked m (key nm)) ns
