-- Four bytes are compared at once as long as there are four, the rest byte by byte.
use borrow.Author.Rules.{rules}
use mathlib.Core.Path.{◌∙◌, sym}
use native.Mathlib.Omega.{arith}
use Rattle.print_value.proofs.BeginLaws.{begins_short, begins_start, starts_more, starts_stop}
use Rattle.print_value.proofs.starts_with.Goals as goal

pub returns-then-part-lead : goal.returns-then-part-lead
returns-then-part-lead c = search (rules, begins_short)

pub loop-i-init : goal.loop-i-init
loop-i-init c = (search (rules, begins_start), omega arith)

pub returns-then-number_at : goal.returns-then-number_at
returns-then-number_at c =
    let a = c.args in
    starts_stop a.part.now a.lead.now c.loop-i.i c.loop-i.invariant.0 c.loop-i-test.true c.if-part-lead.false
    c.number_at.ensures c.number_at-in-loop-i.ensures c.if-number_at.true

pub loop-i-preserved : goal.loop-i-preserved
loop-i-preserved c =
    let a = c.args in (
      starts_more a.part.now a.lead.now c.loop-i.i c.loop-i.invariant.0 c.loop-i-test.true c.if-part-lead.false
          c.number_at.ensures c.number_at-in-loop-i.ensures (λ i. omega (arith, c.type_inv.part i)) (λ i. omega (arith, c.type_inv.lead i)) c.if-number_at.false,
      omega arith,
    )

pub returns : goal.returns
returns c = c.alike.ensures ∙ sym c.loop-i.invariant.0
