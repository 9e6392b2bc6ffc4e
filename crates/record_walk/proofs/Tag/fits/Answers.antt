-- `Tag::fits` meets its contract: a block and a place have contents of one byte.
use Rattle.record_walk.specs.Fields.{fits}
use Rattle.record_walk.proofs.Tag.fits.Goals as goal

pub returns-in-Block : goal.returns-in-Block
unfolding fits
returns-in-Block c = rw c.in-Block.is

pub returns-in-Place : goal.returns-in-Place
unfolding fits
returns-in-Place c = rw c.in-Place.is
