-- `order_len` meets its contract: what is counted is the record with the values that were passed reduced.
use borrow.Author.Rules.{rules}
use Prim.Native.Nat.{◌+◌, ◌-◌, ◌≤◌}
use native.Mathlib.Omega.{arith}
use lib.ListN.{length, get_or}
use Rattle.rules.specs.Records.{head_size}
use Rattle.order.proofs.LoopLaws.{body_long, sizing_none, sizing_value, sizing_order, sizing_cut, sizing_same, sizing_anew, sizing_room, sizing_all}
use Rattle.order.proofs.order_len.Goals as goal

pub loop-i-init : goal.loop-i-init
loop-i-init c = search (rules, sizing_none)

pub nth_argument-argument-requires : goal.nth_argument-argument-requires
nth_argument-argument-requires c = search (rules, sizing_value)

pub overflow_sub-len : goal.overflow_sub-len
overflow_sub-len c = search (rules, sizing_order)

pub overflow_sub-len-then-position-lt-KEPT : goal.overflow_sub-len-then-position-lt-KEPT
overflow_sub-len-then-position-lt-KEPT c = search (rules, sizing_cut)

pub overflow_add-len-then-position-lt-KEPT : goal.overflow_add-len-then-position-lt-KEPT
overflow_add-len-then-position-lt-KEPT c =
    omega (arith, sizing_room c.loop-i.invariant c.loop-i-test.true c.nth_argument-argument.ensures c.if-position-lt-KEPT.true c.argument_len.ensures, body_long c.requires)

pub loop-i-preserved-then-position-lt-KEPT : goal.loop-i-preserved-then-position-lt-KEPT
loop-i-preserved-then-position-lt-KEPT c =
    sizing_anew c.loop-i.invariant c.loop-i-test.true c.nth_argument-argument.ensures c.if-position-lt-KEPT.true c.argument_len.ensures

pub loop-i-preserved : goal.loop-i-preserved
loop-i-preserved c = search (rules, sizing_same)

pub returns : goal.returns
returns c = search (rules, sizing_all)
