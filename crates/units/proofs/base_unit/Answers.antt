-- Under D a word without a digit at its start is no numeral by `decimal_none`; all else is read as a numeral.
use Rattle.units.proofs.DecimalLaws.{decimal_none}
use Rattle.units.proofs.base_unit.Goals as goal

pub returns-then-not-starts_decimal : goal.returns-then-not-starts_decimal
returns-then-not-starts_decimal c = decimal_none c.args.base c.args.word.now c.if-base-eq68.true c.starts_decimal.ensures c.if-not-starts_decimal.true
