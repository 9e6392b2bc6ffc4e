-- What is copied so far lies over the start of the buffer.
use borrow.Author.Rules.{rules}
use native.Mathlib.Omega.{arith}
use Rattle.fields.proofs.CopyLaws.{copying_none, copying_long, copying_more, copying_all}
use Rattle.fields.proofs.put_bytes.Goals as goal

pub loop-i-init : goal.loop-i-init
loop-i-init c = search (rules, copying_none)

pub bounds-out-i : goal.bounds-out-i
bounds-out-i c = omega (arith, copying_long c.loop-i.invariant)

pub loop-i-preserved : goal.loop-i-preserved
loop-i-preserved c = search (rules, copying_more)

pub shape_of-out : goal.shape_of-out
shape_of-out c = search (rules, copying_long)

pub returns : goal.returns
returns c = search (rules, copying_all)
