-- What the rules' automaton does over the stretch of text that each function reads.
use Rattle.std.specs.Prelude.{ℕ, ◌+◌, ◌<◌, ◌≤◌, ◌≡◌, true, false, List, [], ◌∷◌, length, get_or, take, drop, Option, Some, None, Result, Ok, Err}
use Rattle.rules.specs.Characters.{is_effector}
use Rattle.rules.specs.Refusals.{Res, ok, bad, unclosed}
use Rattle.rules.specs.Tokens.{Token, at, State, idle, in_word, one_amp, comment, in_str, word_token, str_token, and_then, stay, step, run}
use Rattle.rules.specs.declared.Refusal.{Refusal}
use Rattle.rules.specs.Reasons.{number as reason_number}
use Rattle.chars.specs.Classes.{class_of, effector_class, slash_class}
use Rattle.token_table.specs.Table.{lex_of_kind, string_kind}
use Rattle.scan.specs.declared.Content.{Content}

-- the automaton on the text from place i on
unfoldable pub run_at : State → List ℕ → ℕ → Res (List Token)
run_at st s i = run st i (drop i s)

-- a state that a format effector leaves as it is
abbrev pub Skips : State → Type 0
Skips st = (p c : ℕ) → is_effector c ≡ true → step st p c ≡ stay st

-- from i to r the automaton meets format effectors only, and at r none
pub record Skipped (s : List ℕ) (i r : ℕ) : Type 0 where
  pub reads : (st : State) → Skips st → run_at st s i ≡ run_at st s r
  pub stops : is_effector (get_or s r 0) ≡ false
  pub past : i ≤ r
  pub inside : r ≤ length s

-- the automaton, in a comment at i, is out of it at e
pub record Closes (s : List ℕ) (i e : ℕ) : Type 0 where
  pub reads : (q : ℕ) → run_at (comment q) s i ≡ run_at idle s e
  pub past : i < e
  pub inside : e ≤ length s

abbrev pub IsComment : List ℕ → ℕ → Option ℕ → Type 0
IsComment s i (Some e) = Closes s i e
IsComment s i None = (q : ℕ) → run_at (comment q) s i ≡ bad unclosed q

-- the automaton, in a word of one byte at i, has read the first n bytes of out as a word at e
pub record IsWord (s : List ℕ) (i first : ℕ) (out : List ℕ) (n e : ℕ) : Type 0 where
  pub reads : (q : ℕ) → run_at (in_word q (first ∷ [])) s i ≡ and_then (word_token q (take n out)) (run_at idle s e)
  pub fits : n + i ≤ e + 1
  pub past : i ≤ e
  pub inside : e ≤ length s

-- the automaton, behind the opening mark at i, has read the first n bytes of out as a string at e
pub record Ends (s : List ℕ) (i : ℕ) (out : List ℕ) (n e : ℕ) : Type 0 where
  pub reads : (q : ℕ) → run_at (in_str q []) s i ≡ and_then (str_token q (take n out)) (run_at idle s e)
  pub fits : n + i < e
  pub inside : e ≤ length s

abbrev pub IsString : List ℕ → ℕ → List ℕ → Option Content → Type 0
IsString s i out (Some c) = Ends s i out (Content.len c) (Content.end c)
IsString s i out None = (q : ℕ) → run_at (in_str q []) s i ≡ bad unclosed q

-- the automaton, behind a `&` at i, has read the separator of kind k at e
pub record IsAmp (s : List ℕ) (i k e : ℕ) : Type 0 where
  pub reads : (q : ℕ) (w : List ℕ) → run_at (one_amp q) s i ≡ and_then (ok (at q (lex_of_kind k w) ∷ [])) (run_at idle s e)
  pub few : k ≤ string_kind
  pub past : i ≤ e
  pub inside : e ≤ length s

-- what is refused, and how
abbrev pub RefusedBy : {A : Type 0} → Res A → Refusal → Type 0
RefusedBy x e = x ≡ bad (reason_number (Refusal.reason e)) (Refusal.place e)

-- between tokens at i, the automaton is between tokens at e
pub record Passes (s : List ℕ) (i e : ℕ) : Type 0 where
  pub reads : run_at idle s i ≡ run_at idle s e
  pub past : i < e
  pub inside : e ≤ length s

abbrev pub IsPassed : List ℕ → ℕ → Result ℕ Refusal → Type 0
IsPassed s i (Ok e) = Passes s i e
IsPassed s i (Err e) = RefusedBy (run_at idle s i) e

-- a byte of class k stands at i, which begins something
pub record Begins (s : List ℕ) (i k : ℕ) : Type 0 where
  pub class : k ≡ class_of (get_or s i 0)
  pub solid : k ≡ effector_class → ⊥
  pub plain : k ≡ slash_class → ⊥
  pub inside : i < length s
