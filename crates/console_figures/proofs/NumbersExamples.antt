-- Texts at and past each limit of the definitions: each table is one theorem, and antt computes it.
use Prim.Native.String.{String}
use mathlib.Core.Path.{◌≡◌, refl}
use mathlib.Core.List.{List, [], ◌∷◌, map}
use Rattle.rules.specs.Characters.{bytes}
use Rattle.console_figures.specs.Numbers.{hex_value, is_blank, number_from, number_of, good, wrong, pairs_from, pairs_of}
use Rattle.std.specs.Prelude.{Some, None}

-- ---- decimal numbers

abbrev pub decimals : List String
decimals = "0" ∷ "007" ∷ "18446744073709551615" ∷ "0018446744073709551615" ∷ "" ∷ "18446744073709551616" ∷ "99999999999999999999" ∷ "1A" ∷ "/" ∷ ":" ∷ " 1" ∷ []

pub numbers : map (λ (s : String). number_of (bytes s)) decimals
    ≡ Some 0 ∷ Some 7 ∷ Some 18446744073709551615 ∷ Some 18446744073709551615 ∷ None ∷ None ∷ None ∷ None ∷ None ∷ None ∷ None ∷ []
unfolding number_of number_from
numbers = refl

-- ---- pairs of hexadecimal digits, with room for two bytes

abbrev pub hexadecimals : List String
hexadecimals = "" ∷ " 09" ∷ "aF\t7f\r" ∷ "9" ∷ "AB c" ∷ "G0" ∷ "0g" ∷ "0 1" ∷ "01@2" ∷ "010203" ∷ "0102 x" ∷ "0102 " ∷ []

pub pairs : map (λ (s : String). pairs_of 2 (bytes s)) hexadecimals
    ≡ good []
    ∷ good (9 ∷ [])
    ∷ good (175 ∷ 127 ∷ [])
    ∷ wrong [] 1
    ∷ wrong (171 ∷ []) 4
    ∷ wrong [] 0
    ∷ wrong [] 1
    ∷ wrong [] 1
    ∷ wrong (1 ∷ []) 2
    ∷ wrong (1 ∷ 2 ∷ []) 4
    ∷ wrong (1 ∷ 2 ∷ []) 5
    ∷ good (1 ∷ 2 ∷ [])
    ∷ []
unfolding pairs_of pairs_from hex_value is_blank
pairs = refl
