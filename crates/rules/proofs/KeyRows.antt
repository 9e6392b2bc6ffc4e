-- M-100, row by row: runs of keys with the bytes held and whether they are ready; one key to a keeper, with its answer and every byte of the keeper afterwards.
use Prim.Native.Nat.{ℕ, ◌-◌}
use mathlib.Core.Path.{◌≡◌, refl}
use mathlib.Core.Bool.{Bool, true, false}
use mathlib.Core.List.{List, [], ◌∷◌, ◌++◌, map}
use lib.ListN.{length}
use Rattle.rules.specs.declared.Keeper.{Keeper}
use Rattle.rules.specs.declared.Pressed.{Pressed}
use Rattle.rules.specs.Refusals.{ok, bad}
use Rattle.rules.specs.Characters.{bytes}
use Rattle.rules.specs.Answers.{number_of, value_of}
use Rattle.rules.specs.Keeping.{ready, press, pressing, after_key, line_after}
use Rattle.rules.proofs.Lines.{times}

abbrev bs : List ℕ
bs = 8 ∷ []

abbrev can : List ℕ
can = 24 ∷ []

-- ---- runs of keys from an empty line

-- the keys; the bytes held after them, and whether these are ready
pub data Run : Type 0 where
  a_run : List ℕ → List ℕ → Bool → Run

abbrev pub run_found : Run → List ℕ × Bool
unfolding press ready
run_found (a_run ks l r) = (line_after [] ks, ready (line_after [] ks))

abbrev pub run_stated : Run → List ℕ × Bool
run_stated (a_run ks l r) = (l, r)

abbrev pub runs : List Run
runs =
    a_run [] [] false
    ∷ a_run (bytes "A;") (bytes "A;") true
    -- BS and CAN; on an empty line they do nothing
    ∷ a_run (bytes "AB" ++ bs) (bytes "A") false
    ∷ a_run (bs ++ bytes "A") (bytes "A") false
    ∷ a_run (bytes "A" ++ bs ++ bs ++ bytes "B") (bytes "B") false
    ∷ a_run (bytes "AB" ++ can ++ bytes "C") (bytes "C") false
    ∷ a_run (can ++ bytes "A") (bytes "A") false
    -- DEL, a newline and a byte above 127 are held like any other
    ∷ a_run (127 ∷ 10 ∷ 200 ∷ 0 ∷ []) (127 ∷ 10 ∷ 200 ∷ 0 ∷ []) false
    -- a ready line is emptied by the next key before that key acts
    ∷ a_run (bytes "A;" ++ bs) [] false
    ∷ a_run (bytes "A;" ++ can) [] false
    ∷ a_run (bytes "A;" ++ bs ++ bytes "B;") (bytes "B;") true
    ∷ a_run (bytes "A;B") (bytes "B") false
    ∷ a_run (bytes "A;;") (bytes ";") true
    -- string and comment are judged on the bytes held, after removals
    ∷ a_run (bytes "A:\"" ++ bs ++ bytes ";") (bytes "A:;") true
    ∷ a_run (bytes "/x" ++ bs ++ bytes "*;") (bytes "/*;") false
    ∷ a_run (bytes "/*" ++ bs ++ bytes ";") (bytes "/;") true
    ∷ a_run (bytes "A:\"x\"" ++ bs ++ bytes ";") (bytes "A:\"x;") false
    -- the scan's own strings and comments
    ∷ a_run (bytes "A:\";\";") (bytes "A:\";\";") true
    ∷ a_run (bytes "/*;*/A;") (bytes "/*;*/A;") true
    ∷ a_run (bytes "/ *;") (bytes "/ *;") true
    ∷ a_run (bytes "/*/;") (bytes "/*/;") false
    ∷ a_run (bytes "/**/;") (bytes "/**/;") true
    ∷ a_run (bytes "/***/;") (bytes "/***/;") true
    ∷ a_run (bytes "/** /;") (bytes "/** /;") false
    ∷ a_run (bytes "/**;") (bytes "/**;") false
    ∷ a_run (bytes "//*;") (bytes "//*;") false
    ∷ a_run (bytes "\"a\"\";") (bytes "\"a\"\";") false
    ∷ a_run (bytes "\"a\"\"\";") (bytes "\"a\"\"\";") true
    ∷ a_run (bytes "\"a\" \"b;") (bytes "\"a\" \"b;") false
    ∷ a_run (bytes "\"/*\";") (bytes "\"/*\";") true
    ∷ a_run (bytes "/*\"*/;") (bytes "/*\"*/;") true
    -- a line that the reader will refuse is ready all the same
    ∷ a_run (bytes "$@)/;") (bytes "$@)/;") true
    ∷ a_run (bytes "A:5+/;") (bytes "A:5+/;") true
    ∷ a_run (bytes "A+;") (bytes "A+;") true
    ∷ a_run (bytes "A&;") (bytes "A&;") true
    ∷ a_run (bytes "A&&;") (bytes "A&&;") true
    ∷ []

pub runs_are : map run_found runs ≡ map run_stated runs
unfolding run_found
runs_are = refl

-- lines of 1,023 and 1,024 bytes
abbrev pub most : List ℕ
most = times 1023 "A"

abbrev pub full : List ℕ
full = times 1024 "A"

-- A, `;`, BS and CAN to a line of 1,024 bytes
pub full_line_lem : map (press full) (65 ∷ 59 ∷ 8 ∷ 24 ∷ []) ≡ bad 20 1024 ∷ bad 20 1024 ∷ ok most ∷ ok [] ∷ []
unfolding press ready
full_line_lem = refl

-- ---- one key to a keeper

-- a keeper whose first bytes are these, and all behind them `-`
abbrev pub keeping : List ℕ → ℕ → Keeper
keeping l n = record { bytes = l ++ times (1024 - length l) "-"; count = n }

-- the keeper's first bytes and its count, the key; number, value, first bytes and count
pub data Key : Type 0 where
  a_key : List ℕ → ℕ → ℕ → ℕ → ℕ → List ℕ → ℕ → Key

abbrev pub key_found : Key → ℕ × ℕ × Keeper
unfolding after_key pressing ready
key_found (a_key l n c r v l' n') = let p : Pressed = after_key (keeping l n) c in (number_of p.answer, value_of p.answer, p.keeper)

abbrev pub key_stated : Key → ℕ × ℕ × Keeper
key_stated (a_key l n c r v l' n') = (r, v, keeping l' n')

abbrev pub keys : List Key
keys =
    -- a key is held at the count, and no other byte changes
    a_key [] 0 65 0 0 (bytes "A") 1
    ∷ a_key (bytes "XYZ") 0 65 0 0 (bytes "AYZ") 1
    ∷ a_key (bytes "XYZ") 1 65 0 0 (bytes "XAZ") 2
    ∷ a_key (bytes "A") 1 59 0 1 (bytes "A;") 2
    -- BS and CAN change the count alone; BS on an empty line does nothing
    ∷ a_key (bytes "AB") 2 8 0 0 (bytes "AB") 1
    ∷ a_key (bytes "AB") 0 8 0 0 (bytes "AB") 0
    ∷ a_key (bytes "AB") 2 24 0 0 (bytes "AB") 0
    -- behind a ready line
    ∷ a_key (bytes "A;") 2 66 0 0 (bytes "B;") 1
    ∷ a_key (bytes "A;") 2 59 0 1 (bytes ";;") 1
    ∷ a_key (bytes "A;") 2 8 0 0 (bytes "A;") 0
    ∷ a_key (bytes "A;") 2 24 0 0 (bytes "A;") 0
    -- keepers that no keys made: a second `;` makes no line ready, and BS may leave a ready one
    ∷ a_key (bytes "A;B;") 4 67 0 0 (bytes "A;B;C") 5
    ∷ a_key (bytes "A;B") 3 59 0 0 (bytes "A;B;") 4
    ∷ a_key (bytes "A;B") 3 8 0 1 (bytes "A;B") 2
    -- the 1,024th byte is held, the 1,025th is not; BS and CAN are taken, and a full line that is ready is emptied by the next key
    ∷ a_key most 1023 65 0 0 full 1024
    ∷ a_key most 1023 59 0 1 (most ++ bytes ";") 1024
    ∷ a_key full 1024 65 20 1024 full 1024
    ∷ a_key full 1024 59 20 1024 full 1024
    ∷ a_key full 1024 8 0 0 full 1023
    ∷ a_key full 1024 24 0 0 full 0
    ∷ a_key (most ++ bytes ";") 1024 66 0 0 (bytes "B" ++ times 1022 "A" ++ bytes ";") 1
    -- a count that passes 1,024: no key is taken, BS and CAN neither, and not where the first 1,024 bytes are a ready line
    ∷ a_key full 1025 65 20 1024 full 1025
    ∷ a_key full 1025 8 20 1024 full 1025
    ∷ a_key full 1025 24 20 1024 full 1025
    ∷ a_key (most ++ bytes ";") 1025 66 20 1024 (most ++ bytes ";") 1025
    ∷ a_key (bytes "A;") 4294967295 65 20 1024 (bytes "A;") 4294967295
    ∷ []

pub keys_are : map key_found keys ≡ map key_stated keys
unfolding key_found
keys_are = refl
