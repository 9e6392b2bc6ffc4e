-- `stands` meets its contract: each turn reads one unit, at most four, and nothing is left at the end.
use borrow.Author.Rules.{rules}
use native.Mathlib.Omega.{arith}
use Rattle.record_walk.proofs.FrontLaws.{Small}
use Rattle.member.proofs.GivenLaws.{judging_none, judging_full, judging_bad, judging_less, judging_more, judging_end}
use Rattle.member.proofs.stands.Goals as goal

pub loop-at-init : goal.loop-at-init
loop-at-init c = search (rules, judging_none)

pub returns-then-left-eq0 : goal.returns-then-left-eq0
returns-then-left-eq0 c = search (rules, judging_full)

pub returns-in_default : goal.returns-in_default
returns-in_default c = search (rules, judging_bad, c.in_default.ensures)

pub loop-at-smaller : goal.loop-at-smaller
loop-at-smaller c = search (rules, judging_less, c.in-Some.ensures)

-- every byte is below 256

pub loop-at-preserved : goal.loop-at-preserved
loop-at-preserved c = search (rules, judging_more, c.in-Some.ensures, (let small : Small c.args.argument.now = λ i. omega (arith, c.type_inv.argument i) in small))

pub returns : goal.returns
returns c = search (rules, judging_end)
