-- `judge_value` meets its contract: each turn reads one more element that joins those before it.
use native.Mathlib.Omega.{arith}
use Rattle.judge_value.proofs.ValueLaws.{value_end, value_full, value_bad, value_apart, joined_few, value_more}
use Rattle.judge_value.proofs.judge_value.Goals as goal

pub returns-then-left-eq0 : goal.returns-then-left-eq0
returns-then-left-eq0 c = value_full c.loop-from.invariant c.head_tag.ensures c.is_element.ensures c.loop-from-test.true c.if-left-eq0.true

pub returns-in_err-element : goal.returns-in_err-element
returns-in_err-element c =
    rw c.from_residual.ensures (value_bad c.loop-from.invariant c.head_tag.ensures c.is_element.ensures c.loop-from-test.true c.if-left-eq0.false c.in_err-element.ensures)

-- the element that joins those before, and their arguments

pub overflow_add-arguments : goal.overflow_add-arguments
overflow_add-arguments c = let e = c.in_ok-element.element in omega (arith, joined_few _ _ _ e.more c.joins.ensures c.if-not-joins.false)

pub overflow_add-arguments-in-loop-from : goal.overflow_add-arguments-in-loop-from
overflow_add-arguments-in-loop-from c = let e = c.in_ok-element.element in omega (arith, joined_few _ _ _ e.more c.joins.ensures c.if-not-joins.false)

pub loop-from-preserved : goal.loop-from-preserved
loop-from-preserved c =
    value_more c.loop-from.invariant c.head_tag.ensures c.is_element.ensures c.in_ok-element.ensures c.joins.ensures c.loop-from-test.true c.if-left-eq0.false c.if-not-joins.false

pub returns-then-not-joins : goal.returns-then-not-joins
returns-then-not-joins c =
    value_apart c.loop-from.invariant c.head_tag.ensures c.is_element.ensures c.in_ok-element.ensures c.joins.ensures c.loop-from-test.true c.if-left-eq0.false c.if-not-joins.true

pub returns : goal.returns
returns c = value_end c.loop-from.invariant c.head_tag.ensures c.is_element.ensures c.loop-from-test.false
