-- `word_token` meets its contract: its tests of the length are the limit of the rules.
use borrow.Author.Rules.{rules}
use Rattle.scan.proofs.TokenLaws.{word_short, second_inside, word_prefixed}
use Rattle.scan.proofs.word_token.Goals as goal

pub returns-then-len-le-MOST_WORD : goal.returns-then-len-le-MOST_WORD
returns-then-len-le-MOST_WORD c = search (rules, word_short)

pub bounds-out-1 : goal.bounds-out-1
bounds-out-1 c = search (rules, second_inside)

pub returns-then-out-eq39 : goal.returns-then-out-eq39
returns-then-out-eq39 c = search (rules, word_prefixed)
