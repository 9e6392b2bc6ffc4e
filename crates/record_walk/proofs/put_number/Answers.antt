-- Four stores from the start on are the number's four bytes.
use native.Mathlib.Omega.{arith}
use lib.ListN.{length-set}
use lib.Seq.{sets-eq}
use Rattle.rules.specs.Records.{four_bytes}
use Rattle.record_walk.proofs.put_number.Goals as goal

pub returns : goal.returns
returns c = let a = c.args in sets-eq (four_bytes a.n) a.out.now 0 c.requires

pub bounds-out-1 : goal.bounds-out-1
bounds-out-1 c = simp length-set (omega arith)

pub bounds-out-2 : goal.bounds-out-2
bounds-out-2 c = simp length-set (omega arith)
