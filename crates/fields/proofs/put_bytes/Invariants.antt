-- What is copied so far lies over the start of the buffer.
use Rattle.fields.proofs.CopyLaws.{Copying}
use Rattle.fields.proofs.put_bytes.Given as goal

abbrev pub invariant-loop-i : goal.invariant-loop-i
invariant-loop-i l = Copying l.content l.initial.out l.out l.i
