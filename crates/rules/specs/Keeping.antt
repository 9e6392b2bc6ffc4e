-- Document 02, M-100: the line keeper. When a line is ready; what a key does to a plain list of bytes; the same to the keeper as it lies in memory; runs of keys.
use Rattle.std.specs.Prelude.{ℕ, suc, ◌+◌, ◌-◌, ◌≤◌, ◌≡◌, Bool, true, false, ◌&&◌, List, [], ◌∷◌, ◌++◌, eqb, ltb, leb, length, take, set}
use Rattle.laws.specs.Cases.{pick}
use Rattle.laws.specs.Lists.{is_nil}
use Rattle.rules.specs.declared.Keeper.{Keeper}
use Rattle.rules.specs.declared.Pressed.{Pressed}
use Rattle.rules.specs.Refusals.{Res, ok, bad, ◌>>=◌, map_r, guard, no_key, most_text}
use Rattle.rules.specs.Characters.{byte}
use Rattle.rules.specs.Tokens.{State, idle, in_word, in_plus, one_amp, two_amp, slash, comment, star, in_str, quote, Step, stay, emit, step}
use Rattle.rules.specs.Answers.{Answer, answered}

-- ---- "A `;` outside string and comment makes the line ready": what is string and comment, the scan's own states say

-- what the scan is in the midst of behind a byte, whatever it has read
abbrev pub state_of : Step → State
state_of (stay s) = s
state_of (emit r s) = s

-- "outside string and comment"
abbrev pub outside : State → Bool
outside idle = true
outside (in_word p w) = true
outside (in_plus p w q) = true
outside (one_amp p) = true
outside (two_amp p) = true
outside (slash p) = true
outside (comment p) = false
outside (star p) = false
outside (in_str p w) = false
outside (quote p w) = true

-- "A `;` outside string and comment": the byte c, where the scan is in the state s
abbrev pub ends_line : State → ℕ → Bool
ends_line s c = outside s && eqb c (byte ";")

-- from a state, the bytes from place p on: the last one is a `;` outside string and comment, and the first such one
abbrev pub ready_from : State → ℕ → List ℕ → Bool
ready_from s p [] = false
ready_from s p (c ∷ cs) = elim (ends_line s c) [ true ↦ is_nil cs | false ↦ ready_from (state_of (step s p c)) (suc p) cs ]

unfoldable pub ready : List ℕ → Bool
ready bs = ready_from idle 0 bs

-- ---- "a plain list of bytes with these rules"

-- the key BS
abbrev pub backspace : ℕ
backspace = 8

-- the key CAN
abbrev pub cancel : ℕ
cancel = 24

-- "the next key starts an empty line": the line that a key finds
abbrev pub line : List ℕ → List ℕ
line bs = pick (ready bs) [] bs

-- all but the last byte; of an empty line nothing
abbrev pub but_last : List ℕ → List ℕ
but_last bs = take (length bs - 1) bs

-- "BS removes the last byte held, and does nothing on an empty line. CAN empties the line. Any other key is held."; 20: "a key to be held when
-- 1,024 bytes of a line not ready are held", "place 1,024"
unfoldable pub press : List ℕ → ℕ → Res (List ℕ)
press bs c =
    pick (eqb c backspace) (ok (but_last (line bs)))
    (pick (eqb c cancel) (ok []) (guard (ltb (length (line bs)) most_text) no_key most_text >>= λ _. ok (line bs ++ c ∷ [])))

-- ---- "The line keeper carries its 1,024 bytes with it."

-- its bytes are as many as its type says, and its count does not pass them
pub record Possible (k : Keeper) : Type 0 where
  pub whole : length k.bytes ≡ most_text
  pub most : k.count ≤ most_text

-- the line that it holds
abbrev pub held : Keeper → List ℕ
held k = take k.count k.bytes

-- "the next key starts an empty line": how many bytes of the line a key finds
abbrev pub found : Keeper → ℕ
found k = pick (ready (held k)) 0 k.count

-- every byte as it was, and another count
abbrev pub counted : Keeper → ℕ → Keeper
counted k n = record { bytes = k.bytes; count = n }

-- the byte at n another one, every other byte as it was, and the count behind it
abbrev pub stored : Keeper → ℕ → ℕ → Keeper
stored k n c = record { bytes = set k.bytes n c; count = n + 1 }

-- the same rules; 20 also: "any key to a keeper whose count passes 1,024"
unfoldable pub pressing : Keeper → ℕ → Res Keeper
pressing k c =
    guard (leb k.count most_text) no_key most_text >>= λ _.
    pick (eqb c backspace) (ok (counted k (found k - 1)))
    (pick (eqb c cancel) (ok (counted k 0)) (guard (ltb (found k) most_text) no_key most_text >>= λ _. ok (stored k (found k) c)))

-- ---- what is answered, and what is held

-- 1: the line is ready; 0: it is not
abbrev pub flag : Bool → ℕ
flag true = 1
flag false = 0

-- "the line stays" where a key is refused
abbrev pub kept : {A : Type 0} → Res A → A → A
kept (ok a) old = a
kept (bad n p) old = old

-- a keeper after what became of a key, and the answer to it
abbrev pub settled : Res Keeper → Keeper → Pressed
settled r k = record { keeper = kept r k; answer = answered (map_r (λ n. flag (ready (held n))) r) }

-- what a key promises: the answer, and every byte of the keeper
unfoldable pub after_key : Keeper → ℕ → Pressed
after_key k c = settled (pressing k c) k

-- ---- "For every run of keys": what is held after them, and the answer to each

abbrev pub line_press : List ℕ → ℕ → List ℕ
line_press bs c = kept (press bs c) bs

abbrev pub line_answer : List ℕ → ℕ → Answer
line_answer bs c = answered (map_r (λ l. flag (ready l)) (press bs c))

abbrev pub line_after : List ℕ → List ℕ → List ℕ
line_after bs [] = bs
line_after bs (c ∷ cs) = line_after (line_press bs c) cs

abbrev pub line_answers : List ℕ → List ℕ → List Answer
line_answers bs [] = []
line_answers bs (c ∷ cs) = line_answer bs c ∷ line_answers (line_press bs c) cs

abbrev pub keeper_after : Keeper → List ℕ → Keeper
keeper_after k [] = k
keeper_after k (c ∷ cs) = keeper_after (after_key k c).keeper cs

abbrev pub keeper_answers : Keeper → List ℕ → List Answer
keeper_answers k [] = []
keeper_answers k (c ∷ cs) = (after_key k c).answer ∷ keeper_answers (after_key k c).keeper cs
