-- `console_figures::numbers::decode` meets its contract: what the text gives from here on, behind the bytes that are stored, is what it gives.
-- Assumes nothing.
use borrow.Author.Rules.{rules}
use mathlib.Core.Path.{◌≡◌, sym, ◌∙◌}
use Rattle.std.specs.Prelude.{Err}
use Rattle.console_figures.proofs.NumbersLaws.{reading_none, reading_blank, reading_pair, reading_full, reading_err, reading_end}
use Rattle.console_figures.proofs.numbers.decode.Goals as goal

pub loop-at-init : goal.loop-at-init
loop-at-init c = search (rules, reading_none)

pub loop-at-preserved-then-is_blank : goal.loop-at-preserved-then-is_blank
loop-at-preserved-then-is_blank c = search (rules, reading_blank)

pub returns-then-out-n : goal.returns-then-out-n
returns-then-out-n c =
    reading_full c.loop-at.invariant c.loop-at-test.true c.is_blank.ensures c.if-is_blank.false c.if-out-n.true

pub loop-at-preserved : goal.loop-at-preserved
loop-at-preserved c =
    reading_pair c.loop-at.invariant c.loop-at-test.true c.is_blank.ensures c.if-is_blank.false c.if-out-n.false c.in_ok-out.field-0
    (sym c.pair_at.ensures ∙ c.in_ok-out.was)

pub returns-in_err-out : goal.returns-in_err-out
returns-in_err-out c =
    let q = sym c.pair_at.ensures ∙ c.in_err-out.was in
    let z : c.from_residual.result ≡ Err c.in_err-out.field-0.0 = search rules in
    reading_err c.loop-at.invariant c.loop-at-test.true c.is_blank.ensures c.if-is_blank.false c.if-out-n.false q z

pub returns : goal.returns
returns c = reading_end c.loop-at.invariant c.loop-at-test.false
