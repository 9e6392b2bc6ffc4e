-- `pieces_len` meets its contract: the size so far and the words from here on are the whole, capped, and a size that is capped at each turn is capped at the end.
use mathlib.Core.Path.{ap}
use lib.ListN.{length}
use native.Mathlib.Omega.{arith}
use borrow.Author.Rules.{rules}
use Rattle.token_table.proofs.WordLaws.{words_more, words_done, size_more, size_end, cap_most}
use Rattle.token_table.proofs.pieces_len.Goals as goal

pub loop-t-preserved : goal.loop-t-preserved
loop-t-preserved c =
    let h = c.loop-t.invariant in
    let s = c.in-Some.ensures.steps in
    let w = words_more c.args.contents.now c.loop-t.t-iterator.iter c.next.new.self.iter c.loop-t.t-iterator.first c.loop-t.t-iterator.gap c.in-Some.t s.2.0 s.2.1 h.every_other s.2.2 s.2.3 s.2.4 in
    let n = ap length c.content.ensures.value in
    record {
      every_other = omega (arith, s.0);
      so_far = rw s.1 (size_more c.args.contents.now c.loop-t.size _ _ _ h.so_far w n c.cap-size.ensures);
      held = search (rules, cap_most);
    }

pub returns : goal.returns
returns c =
    let h = c.loop-t.invariant in
    let s = c.in-None.ensures.steps in
    let w = words_done c.args.contents.now c.loop-t.t-iterator.iter c.next.new.self.iter c.loop-t.t-iterator.first c.loop-t.t-iterator.gap s.2.0 s.2.1 h.every_other s.2.2 s.2.3 s.2.4 in
    size_end c.args.contents.now c.loop-t.size _ h.so_far w h.held
