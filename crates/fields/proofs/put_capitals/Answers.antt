-- The capitals written so far lie over the start of the buffer.
use borrow.Author.Rules.{rules}
use native.Mathlib.Omega.{arith}
use lib.ListN.{length-map}
use Rattle.fields.proofs.CopyLaws.{copying_none, copying_long, copying_more, copying_all, capital_at}
use Rattle.fields.proofs.put_capitals.Goals as goal

pub loop-i-init : goal.loop-i-init
loop-i-init c = search (rules, copying_none, length-map)

pub bounds-out-i : goal.bounds-out-i
bounds-out-i c = omega (arith, copying_long c.loop-i.invariant)

pub loop-i-preserved : goal.loop-i-preserved
loop-i-preserved c = search (rules, copying_more, capital_at, length-map)

pub shape_of-out : goal.shape_of-out
shape_of-out c = search (rules, copying_long)

pub returns : goal.returns
returns c = search (rules, copying_all, length-map)
