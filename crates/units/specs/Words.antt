-- A word under its place's base, as the code answers it, and what the answer means in the rules.
use Rattle.std.specs.Prelude.{ℕ, ◌+◌, ◌-◌, Bool, true, false, List, Result, Ok, Err, map, length, get_or, drop, leb, ltb, eqb}
use Rattle.std.proofs.Math.Option.{Option, none, some}
use Rattle.laws.specs.Cases.{pick}
use Rattle.rules.specs.Refusals.{Res, ok, bad, unreadable, too_big, most_value, most_fraction}
use Rattle.rules.specs.Characters.{byte, capital}
use Rattle.rules.specs.Units.{Radix, size, radix_at, base_at, Unit, num, keyed, identifier, symbolic, text, is_identifier, is_symbolic_name, numeral}
use Rattle.digits.specs.Digits.{digits_at, plain_letter}
use Rattle.rules.specs.declared.Refusal.{Refusal}
use Rattle.rules.specs.Reasons.{refusal}
use Rattle.units.specs.declared.Word.{Word}
use Rattle.units.specs.declared.Word.TheVariants.{Numeral, Keyed, Identifier, Symbolic}
use Rattle.units.specs.declared.Fault.{Fault}
use Rattle.units.specs.declared.Fault.TheVariants.{Unreadable, TooBig}

-- what a word is, or why it is none
abbrev pub Answer : Type 0
Answer = Result Word Fault

-- the refusal of a word at place p
abbrev pub refused_with : Fault → ℕ → Refusal
refused_with Unreadable p = refusal unreadable p
refused_with TooBig p = refusal too_big p

-- ---- numerals, read under the base of the letter l

-- with f fraction digits and the value v: 13 above the limits
unfoldable pub sized : ℕ → ℕ → ℕ → Answer
sized l f v = pick (leb v most_value) (pick (leb f most_fraction) (Ok (Numeral l f v)) (Err TooBig)) (Err TooBig)

-- behind whole digits of value v that end before position `at`: the full stop there, and digits to the end
unfoldable pub fraction_unit : ℕ → List ℕ → ℕ → ℕ → Answer
fraction_unit l w at v =
    let r = digits_at 10 w (at + 1) v in
    pick (eqb (get_or w at 0) (byte "."))
    (pick (ltb r.end (length w)) (Err Unreadable) (pick (leb r.end (at + 1)) (Err Unreadable) (sized l (r.end - (at + 1)) r.value))) (Err Unreadable)

-- from position i on, in the base b: digits to the end, or decimal digits and a fraction
abbrev pub plain_for : Radix → ℕ → List ℕ → ℕ → Answer
plain_for b l w i =
    let r = digits_at (size b) w i 0 in
    pick (leb r.end i) (Err Unreadable)
    (pick (ltb r.end (length w)) (pick (eqb (size b) 10) (fraction_unit l w r.end r.value) (Err Unreadable)) (sized l 0 r.value))

unfoldable pub plain_unit : ℕ → List ℕ → ℕ → Answer
plain_unit l w i = plain_for (radix_at l) l w i

-- the rules' numeral as an answer: the letter that it was read under, and the position k where its characters begin
unfoldable pub of_numeral : ℕ → ℕ → Option Unit → Answer
of_numeral l k none = Err Unreadable
of_numeral l k (some (num r f v)) = sized l f v
of_numeral l k (some (keyed w)) = Ok (Keyed k)
of_numeral l k (some (identifier w)) = Err Unreadable
of_numeral l k (some (symbolic w)) = Err Unreadable
of_numeral l k (some (text w)) = Err Unreadable

-- ---- words

unfoldable pub name_unit : List ℕ → Answer
name_unit w = pick (is_identifier w) (Ok Identifier) (pick (is_symbolic_name w) (Ok Symbolic) (Err Unreadable))

-- what is no numeral may be a name
unfoldable pub or_name : List ℕ → Answer → Answer
or_name w (Ok (Numeral l f v)) = Ok (Numeral l f v)
or_name w (Ok (Keyed k)) = Ok (Keyed k)
or_name w (Ok Identifier) = Ok Identifier
or_name w (Ok Symbolic) = Ok Symbolic
or_name w (Err Unreadable) = name_unit w
or_name w (Err TooBig) = Err TooBig

-- whether the prefix l may stand under the base b
unfoldable pub may_stand : ℕ → ℕ → Bool
may_stand b l = pick (eqb l (byte "K")) true (pick (eqb b (byte "K")) false (plain_letter l))

-- the letter of a prefix may be small: the answer has its capital
unfoldable pub prefix_unit : ℕ → List ℕ → Answer
prefix_unit b w = let l = capital (get_or w 0 0) in pick (may_stand b l) (of_numeral l 2 (numeral (base_at l) (drop 2 w))) (Err Unreadable)

-- the word under the base of the letter b. Its second character alone tells a prefix: a mark elsewhere makes every word unreadable
unfoldable pub unit_under : ℕ → List ℕ → Answer
unit_under b w = pick (eqb (get_or w 1 0) (byte "'")) (prefix_unit b w) (or_name w (of_numeral b 0 (numeral (base_at b) w)))

-- ---- the answer as the rules say it, for the word at place p

unfoldable pub read_as : ℕ → List ℕ → Answer → Res Unit
read_as p w (Ok (Numeral l f v)) = ok (num (radix_at l) f v)
read_as p w (Ok (Keyed k)) = ok (keyed (map capital (drop k w)))
read_as p w (Ok Identifier) = ok (identifier w)
read_as p w (Ok Symbolic) = ok (symbolic w)
read_as p w (Err Unreadable) = bad unreadable p
read_as p w (Err TooBig) = bad too_big p
