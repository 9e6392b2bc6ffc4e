-- `fill` meets its contract: after every token the table holds what the automaton gave so far, and the rest of the text gives the rest.
use native.Mathlib.Omega.{arith}
use Rattle.scan.proofs.RunLaws.{refuses}
use Rattle.scan.proofs.GapLaws.{gap_skip, gap_slash}
use Rattle.scan.proofs.FillLaws.{fill_gap, fill_more, fill_end, fill_bad, fill_err}
use Rattle.scan.proofs.fill.Goals as goal

pub loop-cursor-preserved-in-Effector : goal.loop-cursor-preserved-in-Effector
loop-cursor-preserved-in-Effector c = fill_gap c.loop-cursor.invariant (gap_skip c.loop-cursor-test.true c.of.ensures c.in-Effector.is)

pub comment_end-requires : goal.comment_end-requires
comment_end-requires c = (c.requires.0, gap_slash c.args.text.now c.loop-cursor.cursor.at c.of.ensures c.in-Slash.is)

pub returns-in_err-end-in-Slash : goal.returns-in_err-end-in-Slash
returns-in_err-end-in-Slash c =
    fill_err c.loop-cursor.invariant c.requires.0 c.requires.1 c.requires.2 _ _ c.from_residual.result c.in_err-end-in-Slash.field-0.0 c.from_residual.ensures.1 c.in_err-end-in-Slash.ensures

pub returns-in-Err : goal.returns-in-Err
returns-in-Err c = fill_bad c.loop-cursor.invariant c.requires.0 c.requires.1 c.requires.2 c.at.result (refuses _ c.at.ensures c.in-Err.ensures)

pub loop-cursor-preserved : goal.loop-cursor-preserved
loop-cursor-preserved c =
    fill_more c.loop-cursor.invariant c.requires.0 c.requires.1 c.requires.2 c.next.new.out c.in-Ok.t c.in-Ok.ensures c.new.result c.next.auto.out c.new.ensures

pub returns : goal.returns
returns c = fill_end c.loop-cursor.invariant c.requires.0 c.requires.1 c.requires.2 (omega arith)
