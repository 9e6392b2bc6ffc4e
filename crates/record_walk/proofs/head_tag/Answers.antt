-- `head_tag` meets its contract: the test is whether three bytes are left, and then the tag is the first of them.
use mathlib.Core.Path.{sym, ◌∙◌}
use native.Mathlib.Omega.{arith}
use lib.ListN.{drop, length-drop}
use Rattle.record_walk.proofs.FrontLaws.{head_none, head_some}
use Rattle.record_walk.proofs.WalkLaws.{tag_there}
use Rattle.record_walk.proofs.head_tag.Goals as goal

pub returns-then-rec-at : goal.returns-then-rec-at
returns-then-rec-at c = let a = c.args in sym (head_none (drop a.at a.rec.now) (omega (arith, c.if-rec-at.true, length-drop a.at a.rec.now)))

pub returns-else-rec-at : goal.returns-else-rec-at
returns-else-rec-at c =
    let a = c.args in
    sym (head_some (drop a.at a.rec.now) (omega (arith, c.if-rec-at.false, length-drop a.at a.rec.now)) ∙ tag_there a.rec.now a.at)
