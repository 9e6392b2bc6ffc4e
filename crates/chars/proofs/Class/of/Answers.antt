-- `Class::of` meets its contract: an entry of the table is its byte's class, and no byte above the table is permitted.
use Rattle.chars.specs.Classes.{table}
use Rattle.chars.proofs.ClassLaws.{entry, high}
use Rattle.chars.proofs.Class.of.Goals as goal

pub returns-then-b-lt128 : goal.returns-then-b-lt128
unfolding table
returns-then-b-lt128 c = entry c.args.b c.if-b-lt128.true

pub returns-else-b-lt128 : goal.returns-else-b-lt128
returns-else-b-lt128 c = high _ c.if-b-lt128.false
