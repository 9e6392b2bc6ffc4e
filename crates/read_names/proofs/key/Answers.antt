-- `key` meets its contract: the pieces so far are in the key.
use native.Mathlib.Omega.{arith}
use mathlib.Core.Path.{ap, ◌∙◌}
use Rattle.marks.specs.Marks.{key_of}
use Rattle.token_table.proofs.WordLaws.{words_more, words_done}
use Rattle.read_names.proofs.NameLaws.{key_more, key_end}
use Rattle.read_names.proofs.key.Goals as goal

pub loop-t-preserved : goal.loop-t-preserved
loop-t-preserved c =
    let h = c.loop-t.invariant in
    let s = c.in-Some.ensures.steps in
    let w = words_more c.args.contents.now c.loop-t.t-iterator.iter c.next.new.self.iter c.loop-t.t-iterator.first c.loop-t.t-iterator.gap c.in-Some.t s.2.0 s.2.1 h.every_other s.2.2 s.2.3 s.2.4 in
    record {
      every_other = omega (arith, s.0);
      so_far = rw s.1 (key_more c.loop-t.key h.so_far w (c.key-key.ensures ∙ ap (key_of c.loop-t.key) c.content.ensures.value));
    }

pub returns : goal.returns
returns c =
    let h = c.loop-t.invariant in
    let s = c.in-None.ensures.steps in
    let w = words_done c.args.contents.now c.loop-t.t-iterator.iter c.next.new.self.iter c.loop-t.t-iterator.first c.loop-t.t-iterator.gap s.2.0 s.2.1 h.every_other s.2.2 s.2.3 s.2.4 in
    key_end h.so_far w
