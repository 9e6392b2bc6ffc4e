-- `field_at` meets its contract: its tests are those of the definition, and a number that is no tag has no field.
use borrow.Author.Rules.{rules}
use Rattle.record_walk.proofs.WalkLaws.{field_short, field_cut, field_unknown, field_fits, field_unfit}
use Rattle.record_walk.proofs.field_at.Goals as goal

pub returns-then-left-lt-HEADER : goal.returns-then-left-lt-HEADER
returns-then-left-lt-HEADER c = search (rules, field_short)

pub returns-then-left-len : goal.returns-then-left-len
returns-then-left-len c = search (rules, field_cut)

pub returns-in_err-tag : goal.returns-in_err-tag
returns-in_err-tag c = search (rules, field_unknown)

pub returns-then-not-fits : goal.returns-then-not-fits
returns-then-not-fits c = search (rules, field_unfit)

pub returns : goal.returns
returns c = search (rules, field_fits)
