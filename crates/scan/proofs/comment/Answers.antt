-- `comment` meets its contract: each turn is a step of the automaton in the comment.
use borrow.Author.Rules.{rules}
use Rattle.scan.proofs.CommentLaws.{comment_none, comment_more, comment_star, comment_stop, comment_end}
use Rattle.scan.proofs.comment.Goals.{else-text-i-eq42-via-then-text-i-eq42+else-byte-eq47, else-text-i-eq42-via-else-text-i-eq42}
use Rattle.scan.proofs.comment.Goals as goal

pub loop-i-init : goal.loop-i-init
loop-i-init c = search (rules, comment_none)

pub returns-then-byte-eq47 : goal.returns-then-byte-eq47
returns-then-byte-eq47 c = search (rules, comment_stop c.loop-i.invariant)

pub loop-i-preserved : goal.loop-i-preserved
loop-i-preserved c =
    elim c.else-text-i-eq42.branch [
      | else-text-i-eq42-via-then-text-i-eq42+else-byte-eq47 w ↦ comment_star c.loop-i.invariant c.loop-i-test.true w.if-text-i-eq42.true w.byte.ensures w.if-byte-eq47.false
      | else-text-i-eq42-via-else-text-i-eq42 w ↦ comment_more c.loop-i.invariant c.loop-i-test.true w.if-text-i-eq42.false
    ]

pub returns : goal.returns
returns c = search (rules, comment_end)
