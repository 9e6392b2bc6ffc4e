-- `comment_end` meets its contract: behind `/*` the automaton is in a comment, and a `/` alone is no token.
use borrow.Author.Rules.{rules}
use Rattle.scan.proofs.RunLaws.{refuses}
use Rattle.scan.proofs.GapLaws.{gap_four, gap_over, gap_five}
use Rattle.scan.proofs.comment_end.Goals as goal

pub returns-then-byte-ne42 : goal.returns-then-byte-ne42
returns-then-byte-ne42 c = search (rules, refuses, gap_five)

pub returns-in_default : goal.returns-in_default
returns-in_default c = search (rules, refuses, gap_four)

pub returns : goal.returns
returns c = search (rules, gap_over)
