-- `string_token` meets its contract: its test of the length is the limit of the rules, and no end is 4.
use native.Mathlib.Omega.{arith}
use borrow.Author.Rules.{rules}
use Rattle.scan.proofs.TokenLaws.{string_fine, string_over, string_never}
use Rattle.scan.proofs.string_token.Goals as goal

pub returns-in_default : goal.returns-in_default
returns-in_default c = search (rules, string_never)

pub returns-then-len-gt-MOST_STRING : goal.returns-then-len-gt-MOST_STRING
returns-then-len-gt-MOST_STRING c = string_over c.args.text.now c.args.place c.requires.0 c.args.out.now _ c.in-Some.ensures c.requires.1 c.string.auto.out (omega arith)

pub returns : goal.returns
returns c = search (rules, string_fine)
