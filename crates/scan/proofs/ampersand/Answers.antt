-- `ampersand` meets its contract: its branches are the steps of the automaton behind a `&`.
use borrow.Author.Rules.{rules}
use Rattle.scan.proofs.AmpLaws.{amp_dash, amp_next, amp_two_dash, amp_two, amp_one}
use Rattle.scan.proofs.ampersand.Goals as goal

pub returns-in-45 : goal.returns-in-45
returns-in-45 c = search (rules, amp_dash)

pub skip-k-requires : goal.skip-k-requires
skip-k-requires c = search (rules, amp_next)

pub returns-then-byte-eq45 : goal.returns-then-byte-eq45
returns-then-byte-eq45 c = search (rules, amp_two_dash)

pub returns-else-byte-eq45 : goal.returns-else-byte-eq45
returns-else-byte-eq45 c = search (rules, amp_two)

pub returns-in_default : goal.returns-in_default
returns-in_default c = search (rules, amp_one)
