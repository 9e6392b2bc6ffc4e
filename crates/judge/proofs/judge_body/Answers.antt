-- `judge_body` meets its contract: what is longer than any well-formed record is refused, and code and blocks of any other are read from the front.
use Rattle.judge.proofs.RecordBytes.{long_refused, code_gone, code_empty, judged_as}
use native.Mathlib.Omega.{arith}
use Rattle.judge.proofs.judge_body.Goals as goal

pub returns-then-rec-gt-MOST_TOLD : goal.returns-then-rec-gt-MOST_TOLD
returns-then-rec-gt-MOST_TOLD c = long_refused c.args.rec.now c.if-rec-gt-MOST_TOLD.true

pub returns-in_err-code : goal.returns-in_err-code
returns-in_err-code c = rw c.from_residual.ensures (code_gone c.args.rec.now c.in_err-code.ensures)

pub returns-then-code-eq0 : goal.returns-then-code-eq0
returns-then-code-eq0 c = code_empty c.args.rec.now c.in_ok-code.ensures c.if-code-eq0.true

pub returns : goal.returns
returns c =
    judged_as c.args.rec.now c.in_ok-code.ensures (λ i. omega (arith, c.shared_slice_known-1.given i)) c.if-code-eq0.false _ _ _ c.judge_blocks.ensures
