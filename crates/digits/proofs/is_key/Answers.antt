-- A small letter is judged as its capital, which is what the rule says.
use mathlib.Core.Path.{ap, ◌∙◌}
use Rattle.rules.specs.Units.{is_held_key}
use Rattle.digits.proofs.is_key.Goals as goal

pub returns : goal.returns
returns c = c.is_held_key.ensures ∙ ap is_held_key c.capital_of.ensures
