-- The capitals written so far lie over the start of the buffer.
use mathlib.Core.List.{map}
use Rattle.rules.specs.Characters.{capital}
use Rattle.fields.proofs.CopyLaws.{Copying}
use Rattle.fields.proofs.put_capitals.Given as goal

abbrev pub invariant-loop-i : goal.invariant-loop-i
invariant-loop-i l = Copying (map capital l.content) l.initial.out l.out l.i
