-- `any_unit` meets its contract: the unit is the found field's, and its content may stand or not.
use Rattle.judge_unit.proofs.UnitLaws.{unit_gone, unit_told, numeral_long}
use Rattle.record_walk.proofs.WalkLaws.{field_there}
use Rattle.judge_unit.proofs.any_unit.Goals as goal

pub returns-in_default : goal.returns-in_default
returns-in_default c = let a = c.args in unit_gone _ a.rec.now a.at c.in_default.is c.field_at.ensures

pub content_stands-requires : goal.content_stands-requires
content_stands-requires c = let a = c.args in let f = field_there a.rec.now a.at c.in-Some.is c.field_at.ensures in (f.ends, f.inside, numeral_long f)

pub returns : goal.returns
returns c =
    let a = c.args in
    let f = field_there a.rec.now a.at c.in-Some.is c.field_at.ensures in
    rw (c.content_stands.ensures, ← f.size) (unit_told _ f)
