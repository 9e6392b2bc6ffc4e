-- `judge_parts` meets its contract: the name is read, the value behind it, and both say whether the place may stand in its block.
use native.Mathlib.Omega.{arith}
use Rattle.judge_place.proofs.PlaceLaws.{names_gone, value_gone, name_order, parts_told}
use Rattle.judge_place.proofs.judge_parts.Goals as goal

pub returns-in_err-name : goal.returns-in_err-name
returns-in_err-name c = let a = c.args in rw c.from_residual.ensures (names_gone a.named a.rec.now a.from _ c.in_err-name.ensures)

pub returns-in_err-value : goal.returns-in_err-value
returns-in_err-value c = let a = c.args in rw c.from_residual-in_err-value.ensures (value_gone a.named a.rec.now a.from c.in_ok-name.ensures _ c.in_err-value.ensures)

pub overflow_sub-name : goal.overflow_sub-name
overflow_sub-name c =
    let a = c.args in name_order a.named a.rec.now a.from c.in_ok-name.ensures (λ i. omega (arith, c.shared_slice_known-1.given i)) c.requires

pub returns : goal.returns
returns c =
    let a = c.args in
    parts_told a.named a.rec.now a.from c.in_ok-name.ensures (λ i. omega (arith, c.shared_slice_known-1.given i)) c.requires a.base c.in_ok-value.ensures c.kind_agrees.ensures c.then_some.ensures
