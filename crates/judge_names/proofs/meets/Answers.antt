-- `meets` meets its contract: where the key is marked the places are walked over, and where it is not the name is none of theirs.
use borrow.Author.Rules.{rules}
use Rattle.judge_names.proofs.StandLaws.{meets_not}
use Rattle.judge_names.proofs.meets.Goals as goal

pub returns-then-has : goal.returns-then-has
returns-then-has c ps nm b n h = c.stands.ensures ps nm b n

pub returns-else-has : goal.returns-else-has
returns-else-has c = search (rules, meets_not)
