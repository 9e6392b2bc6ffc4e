-- What is written over the part behind `at` is stored there.
use mathlib.Core.Path.{refl}
use Rattle.print_unit.proofs.ChainLaws.{behind_put}
use Rattle.print_unit.proofs.PageSink.put_bytes.Goals as goal

pub returns : goal.returns
returns c = behind_put c.requires refl c.put_bytes.ensures
