-- What stands before an element, and from which unit on it is printed then.
use Rattle.std.specs.Prelude.{List, [], ◌∷◌, ℕ, ◌+◌, ◌-◌}
use Rattle.rules.specs.Characters.{byte}
use Rattle.print_value.specs.declared.Joint.{Joint}
use Rattle.print_value.specs.declared.Joint.TheVariants.{Start, Full, Short}

abbrev pub joint_text : Joint → List ℕ
joint_text Start = []
joint_text Full = byte "&" ∷ []
joint_text Short = byte "&" ∷ byte "-" ∷ []

-- where the first unit stands that is printed
abbrev pub printed_from : Joint → ℕ → ℕ → ℕ → ℕ
printed_from Start first lead until = first
printed_from Full first lead until = first
printed_from Short first lead until = first + (until - lead)
