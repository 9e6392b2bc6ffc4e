-- What is answered of the text of a well-formed record: 2, 17, or the text.
use Rattle.std.specs.Prelude.{ℕ, List}
use Rattle.rules.specs.Answers.{Answer, fitted, printed, Promise}

abbrev pub Gives : List ℕ → List ℕ → Answer → List ℕ → Type 0
Gives text old answer new = Promise (fitted old (printed text)) old answer new
