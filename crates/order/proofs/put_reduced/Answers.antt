-- `put_reduced` meets its contract: what is written so far and what is left of the record, reduced, are the whole; each changed value goes into the part of the buffer that begins there.
use borrow.Author.Rules.{rules}
use Prim.Native.Nat.{◌+◌, ◌≤◌}
use Rattle.order.proofs.LoopLaws.{measuring_value, measuring_within, measuring_room, measuring_all, writing_none, writing_same, writing_room, writing_anew, writing_all}
use Rattle.laws.specs.Over.{length_part}
use native.Mathlib.Omega.{arith}
use lib.ListN.{length}
use Rattle.order.proofs.put_reduced.Goals as goal

pub loop-i-init : goal.loop-i-init
loop-i-init c = search (rules, writing_none)

pub overflow_cast-value : goal.overflow_cast-value
overflow_cast-value c = omega (arith, c.shared_slice_known-then-position-lt-KEPT-1.given (c.loop-i.i + 1))

pub nth_argument-argument-requires : goal.nth_argument-argument-requires
nth_argument-argument-requires c = search (rules, measuring_value)

pub put_changed-len-requires : goal.put_changed-len-requires
put_changed-len-requires c = search (rules, measuring_within, writing_room)

pub overflow_add-len : goal.overflow_add-len
overflow_add-len c =
    let room : c.loop-i.len + c.put_changed-len.result ≤ length c.args.rec.now = search (rules, measuring_room) in
    omega arith

pub overflow_cast-at : goal.overflow_cast-at
overflow_cast-at c = omega (arith, c.shared_slice_known-then-position-lt-KEPT-2-1.given (c.loop-i.i + 2))

pub loop-i-preserved-then-position-lt-KEPT : goal.loop-i-preserved-then-position-lt-KEPT
loop-i-preserved-then-position-lt-KEPT c = search (rules, writing_anew)

pub loop-i-preserved : goal.loop-i-preserved
loop-i-preserved c = search (rules, writing_same)

pub put_bytes-requires : goal.put_bytes-requires
put_bytes-requires c =
    let l = c.loop-i in
    omega (arith, measuring_all l.invariant.so c.loop-i-test.false, length_part l.out l.len, length_part c.args.rec.now l.at)

pub overflow_add-result : goal.overflow_add-result
overflow_add-result c = omega (arith, measuring_all c.loop-i.invariant.so c.loop-i-test.false)

pub returns : goal.returns
returns c = writing_all c.loop-i.invariant c.loop-i-test.false c.put_bytes.ensures
