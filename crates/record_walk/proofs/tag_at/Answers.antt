-- `tag_at` meets its contract: behind the end nothing stands, before it the byte itself.
use native.Mathlib.Nat.{add-zero}
use lib.ListN.{drop_of_length-le}
use lib.Seq.{get_or-drop}
use Rattle.record_walk.proofs.tag_at.Goals as goal

pub returns-then-at-rec : goal.returns-then-at-rec
returns-then-at-rec c = rw (get_or-drop, add-zero)

pub returns-else-at-rec : goal.returns-else-at-rec
returns-else-at-rec c = rw (drop_of_length-le c.args.rec.now c.if-at-rec.false)
