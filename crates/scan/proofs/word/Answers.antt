-- `word` meets its contract: each turn is a step of the automaton in the word, and what is stored is what it has gathered.
use borrow.Author.Rules.{rules}
use Rattle.scan.proofs.WordLaws.{word_none, word_char, word_skip, word_double, word_plus, word_other, word_end}
use Rattle.scan.proofs.word.Goals as goal

pub loop-i-init : goal.loop-i-init
loop-i-init c = search (rules, word_none)

pub loop-i-preserved-then-eq : goal.loop-i-preserved-then-eq
loop-i-preserved-then-eq c = search (rules, word_char)

pub loop-i-preserved-then-eq-2 : goal.loop-i-preserved-then-eq-2
loop-i-preserved-then-eq-2 c = search (rules, word_skip)

pub returns-then-byte-eq43 : goal.returns-then-byte-eq43
returns-then-byte-eq43 c = search (rules, word_double)

pub loop-i-preserved : goal.loop-i-preserved
loop-i-preserved c = search (rules, word_plus)

pub returns-else-eq-3 : goal.returns-else-eq-3
returns-else-eq-3 c = search (rules, word_other)

pub returns : goal.returns
returns c = search (rules, word_end)
