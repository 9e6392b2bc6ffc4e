-- The walk over a value's elements as the code answers it.
use Rattle.std.specs.Prelude.{List, map, length, Result, Ok, Err}
use Rattle.rules.specs.Commands.{Element, sum, terms}
use Rattle.rules.specs.Refusals.{Res, ok, bad}
use Rattle.rules.specs.declared.Refusal.{Refusal}
use Rattle.rules.specs.Reasons.{refusal}
use Rattle.read_elements.specs.declared.Value.{Value}

-- the elements as an answer: how many there are, and how many arguments they have
abbrev pub value_answer : Res (List Element) → Result Value Refusal
value_answer (ok es) = Ok (record { count = length es; args = sum (map terms es) })
value_answer (bad k p) = Err (refusal k p)
