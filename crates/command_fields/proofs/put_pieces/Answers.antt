-- `put_pieces` meets its contract: at every turn the fields written so far stand over the buffer's start, and those of the words from here on fit behind them.
use native.Mathlib.Omega.{arith}
use mathlib.Core.Bool.{true}
use mathlib.Core.Path.{ap, ◌∙◌}
use Prim.Native.Nat.{◌+◌}
use lib.ListN.{length}
use borrow.Author.Rules.{rules}
use Rattle.rules.specs.Records.{field, field_bytes}
use Rattle.laws.specs.Over.{over, part}
use Rattle.token_table.specs.Table.{content_in}
use Rattle.token_table.specs.Parts.{words_in}
use Rattle.token_table.proofs.WordLaws.{words_more, words_done}
use Rattle.command_fields.proofs.WritingLaws.{piecing_room, piecing_more, piecing_all}
use Rattle.command_fields.proofs.put_pieces.Goals as goal

pub put_field-k-requires : goal.put_field-k-requires
put_field-k-requires c =
    let h = c.loop-t.invariant in
    let s = c.in-Some.ensures.steps in
    let w = words_more c.args.contents.now c.loop-t.t-iterator.iter c.next.new.self.iter c.loop-t.t-iterator.first c.loop-t.t-iterator.gap c.in-Some.t s.2.0 s.2.1 h.every_other s.2.2 s.2.3 s.2.4 in
    let r =
    piecing_room c.args.tag (words_in true c.args.contents.now c.args.toks.now) (words_in c.loop-t.t-iterator.first c.args.contents.now c.loop-t.t-iterator.iter.rest.now)
    c.args.out.now c.loop-t.k c.loop-t.out h.so_far (content_in c.args.contents.now c.in-Some.t.now) _ w c.requires in
    (c.content.ensures.small, omega (arith, r, ap length c.content.ensures.value))

pub loop-t-preserved : goal.loop-t-preserved
loop-t-preserved c =
    let h = c.loop-t.invariant in
    let s = c.in-Some.ensures.steps in
    let w = words_more c.args.contents.now c.loop-t.t-iterator.iter c.next.new.self.iter c.loop-t.t-iterator.first c.loop-t.t-iterator.gap c.in-Some.t s.2.0 s.2.1 h.every_other s.2.2 s.2.3 s.2.4 in
    let v = c.content.ensures.value in
    record {
      every_other = omega (arith, s.0);
      so_far =
          rw s.1
          (piecing_more c.args.tag (words_in true c.args.contents.now c.args.toks.now) (words_in c.loop-t.t-iterator.first c.args.contents.now c.loop-t.t-iterator.iter.rest.now)
          c.args.out.now c.loop-t.k c.loop-t.out h.so_far (content_in c.args.contents.now c.in-Some.t.now) _ w
          (c.put_field-k.ensures.0 ∙ ap (λ x. 3 + length x) v)
          (c.put_field-k.ensures.1 ∙ ap (λ x. over (field_bytes (field c.args.tag x)) (part c.loop-t.out c.loop-t.k)) v));
    }

pub returns : goal.returns
returns c =
    let h = c.loop-t.invariant in
    let s = c.in-None.ensures.steps in
    let w = words_done c.args.contents.now c.loop-t.t-iterator.iter c.next.new.self.iter c.loop-t.t-iterator.first c.loop-t.t-iterator.gap s.2.0 s.2.1 h.every_other s.2.2 s.2.3 s.2.4 in
    piecing_all _ _ _ _ _ _ h.so_far w
