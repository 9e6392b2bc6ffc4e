-- No fraction always stands; of the letters with values only D is decimal.
use borrow.Author.Rules.{rules}
use borrow.Author.Tests.{ne_eqb}
use Rattle.judge_unit.proofs.StandLaws.{fraction_not}
use Rattle.judge_unit.proofs.fraction_stands.Goals as goal

pub returns-else-letter-eq68 : goal.returns-else-letter-eq68
returns-else-letter-eq68 c = rw (ne_eqb _ _ c.if-letter-eq68.false) (search (rules, fraction_not))
