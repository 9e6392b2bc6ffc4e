-- `content_stands` meets its contract: a numeral is told by its first two bytes, every other kind by its characters.
use mathlib.Core.Path.{sym, ap, ◌∙◌}
use native.Mathlib.Omega.{arith}
use Rattle.std.proofs.lemmas.Option.{same_Some}
use Rattle.record_walk.specs.Runs.{bytes_in}
use Rattle.record_walk.specs.Tags.{number, tag_named}
use Rattle.record_walk.proofs.TagLaws.{names_all}
use Rattle.judge_unit.proofs.StandLaws.{other_is}
use Rattle.judge_unit.proofs.UnitLaws.{numeral_there}
use Rattle.judge_unit.proofs.content_stands.Goals as goal

pub returns-in-Numeral : goal.returns-in-Numeral
returns-in-Numeral c =
    let a = c.args in
    rw c.in-Numeral.is (c.numeral_stands.ensures ∙ numeral_there a.base a.rec.now a.field.start a.field.next (λ i. omega (arith, c.shared_slice_known-1.given i)) (c.requires.2 (ap number c.in-Numeral.is)) c.requires.1)

pub returns-in_default : goal.returns-in_default
returns-in_default c =
    let a = c.args in
    let t = a.field.tag in
    c.stands.ensures
    ∙ other_is a.base (number t) (bytes_in a.rec.now a.field.start a.field.next) (λ h. c.in_default.not-Numeral (same_Some _ _ (sym (names_all t) ∙ ap tag_named h)))
