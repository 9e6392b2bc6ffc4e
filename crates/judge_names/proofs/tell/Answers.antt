-- `tell` meets its contract: the key is that of the name's bytes behind the first header, and the places are walked over only where it is marked.
use mathlib.Core.Path.{ap, ◌∙◌}
use Rattle.marks.specs.Marks.{key_of}
use Rattle.laws.specs.Over.{part_from}
use Rattle.judge_names.proofs.StandLaws.{told}
use Rattle.judge_names.proofs.tell.Goals as goal

pub returns : goal.returns
returns c = told c.args.known (c.key-key.ensures ∙ ap (key_of 0) (part_from c.args.name.now 3)) c.meets.ensures c.then_some.ensures
