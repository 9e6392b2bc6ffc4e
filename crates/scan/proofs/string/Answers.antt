-- `string` meets its contract: each turn is a step of the automaton in the string, and what is stored is what it has gathered.
use borrow.Author.Rules.{rules}
use Rattle.scan.proofs.StringLaws.{string_double, string_byte, string_stop, string_open}
use Rattle.scan.proofs.string.Goals as goal

pub loop-i-preserved-then-b-ne34 : goal.loop-i-preserved-then-b-ne34
loop-i-preserved-then-b-ne34 c = search (rules, string_byte)

pub loop-i-preserved : goal.loop-i-preserved
loop-i-preserved c = search (rules, string_double)

pub returns-else-byte-eq34 : goal.returns-else-byte-eq34
returns-else-byte-eq34 c = search (rules, string_stop)

pub returns : goal.returns
returns c = search (rules, string_open)
