-- The text of a record, from behind its head.
use Rattle.std.specs.Prelude.{List, [], ℕ}
use Rattle.rules.specs.Refusals.{ok, bad}
use Rattle.rules.specs.Printing.{print}
use Rattle.rules.specs.WellFormed.{body_of}

-- the rules' text of the command whose record has these bytes behind its head
unfoldable pub text_of : List ℕ → List ℕ
text_of rec = elim (body_of rec) [ ok c ↦ print c | bad n p ↦ [] ]
