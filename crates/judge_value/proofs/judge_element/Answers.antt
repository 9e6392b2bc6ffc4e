-- `judge_element` meets its contract: the rules make the element of the field that was found and of the units behind it.
use native.Mathlib.Omega.{arith}
use Rattle.record_walk.proofs.WalkLaws.{field_there}
use Rattle.judge_value.proofs.ElementLaws.{element_inside, element_gone, units_gone, last_inside, lower_room, range_room, single_is, range_is, range_bad}
use Rattle.judge_value.proofs.judge_element.Goals as goal

pub field_at-requires : goal.field_at-requires
field_at-requires c = let a = c.args in element_inside a.rec.now a.at c.requires

pub returns-in_err-field : goal.returns-in_err-field
returns-in_err-field c = let a = c.args in rw c.from_residual.ensures (element_gone _ a.rec.now a.at c.in_err-field.was c.field_at.ensures)

pub judge_units-requires : goal.judge_units-requires
judge_units-requires c = let a = c.args in let f = field_there a.rec.now a.at c.in_ok-field.was c.field_at.ensures in f.inside

pub returns-in_err-units : goal.returns-in_err-units
returns-in_err-units c =
    let a = c.args in
    let f = field_there a.rec.now a.at c.in_ok-field.was c.field_at.ensures in
    rw c.from_residual-in_err-units.ensures (units_gone f _ c.in_err-units.ensures)

pub range_terms-requires : goal.range_terms-requires
range_terms-requires c =
    let a = c.args in
    let f = field_there a.rec.now a.at c.in_ok-field.was c.field_at.ensures in
    (range_room f c.requires c.if-field.false, last_inside c.in_ok-units.ensures, lower_room c.in_ok-units.ensures (λ i. omega (arith, c.shared_slice_known-1.given i)))

pub returns-in_err-more : goal.returns-in_err-more
returns-in_err-more c =
    let a = c.args in
    let f = field_there a.rec.now a.at c.in_ok-field.was c.field_at.ensures in
    rw c.from_residual-in_err-more.ensures
    (range_bad f c.in_ok-units.ensures c.requires c.if-field.false (λ i. omega (arith, c.shared_slice_known-1.given i)) c.range_terms.ensures c.in_err-more.was)

pub returns-in_ok-more : goal.returns-in_ok-more
returns-in_ok-more c =
    let a = c.args in
    let f = field_there a.rec.now a.at c.in_ok-field.was c.field_at.ensures in
    range_is f c.in_ok-units.ensures c.requires c.if-field.false (λ i. omega (arith, c.shared_slice_known-1.given i)) c.range_terms.ensures c.in_ok-more.was

pub returns-then-field : goal.returns-then-field
returns-then-field c =
    let a = c.args in
    let f = field_there a.rec.now a.at c.in_ok-field.was c.field_at.ensures in
    single_is f c.in_ok-units.ensures c.requires c.if-field.true
