-- Which key an operator means by a byte.
use Rattle.std.specs.Prelude.{ℕ, eqb, Option, Some, None}
use Rattle.laws.specs.Cases.{pick}
use Rattle.rules.specs.Keeping.{backspace}
use Rattle.console_words.specs.declared.Manner.{Manner}
use Rattle.console_words.specs.declared.Manner.TheVariants.{Alone, Told, Typed}

-- what a terminal's Backspace sends: its name for BS
abbrev pub delete : ℕ
delete = 127

-- what ends the input on a terminal
abbrev pub end_of_input : ℕ
end_of_input = 4

-- the key, or none at the end of the keys
abbrev pub meant_on_terminal : ℕ → Option ℕ
meant_on_terminal b = pick (eqb b end_of_input) None (pick (eqb b delete) (Some backspace) (Some b))

-- from a pipe or a file the byte as it came
abbrev pub meant_by : Manner → ℕ → Option ℕ
meant_by Alone b = Some b
meant_by Told b = Some b
meant_by Typed b = meant_on_terminal b
