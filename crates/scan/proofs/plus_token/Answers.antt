-- `plus_token` meets its contract: a second `+` makes the separator, and with no second the `+` is the first byte of a word.
use borrow.Author.Rules.{rules}
use Rattle.scan.proofs.TokenLaws.{plus_double, plus_one}
use Rattle.scan.proofs.plus_token.Goals as goal

pub returns-then-byte-eq43 : goal.returns-then-byte-eq43
returns-then-byte-eq43 c = rw c.separator.ensures (plus_double c.args.text.now c.args.place c.requires.0 c.skip-j.ensures c.byte.ensures c.if-byte-eq43.true c.args.out.now)

pub returns : goal.returns
returns c = search (rules, plus_one)
