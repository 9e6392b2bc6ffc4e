-- `amp_token` meets its contract: behind the `&` the automaton reads what `ampersand` reads.
use borrow.Author.Rules.{rules}
use Rattle.scan.proofs.TokenLaws.{amp_token}
use Rattle.scan.proofs.amp_token.Goals as goal

pub returns : goal.returns
returns c = search (rules, amp_token)
