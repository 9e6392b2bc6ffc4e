-- `put_valued` meets its contract: a range is written as its term, any other element as it is.
use Rattle.order_argument.proofs.TermLaws.{valued_term, valued_whole}
use Rattle.order_argument.specs.Terms.{term_bytes}
use lib.ListN.{length}
use Prim.Native.Nat.{◌≤◌}
use mathlib.Core.Path.{refl, sym, ◌∙◌}
use Rattle.order_argument.proofs.put_valued.Goals as goal

pub put_term-requires : goal.put_term-requires
put_term-requires c =
    let e = valued_term c.args.element.now c.args.value c.is_range.ensures c.if-is_range.true in
    let room : length (term_bytes c.args.element.now c.args.value) ≤ length c.args.out.now = rw e at c.requires in
    (sym c.is_range.ensures ∙ c.if-is_range.true, room)

pub returns-then-is_range : goal.returns-then-is_range
returns-then-is_range c = rw (valued_term c.args.element.now c.args.value c.is_range.ensures c.if-is_range.true) c.put_term.ensures

pub put_bytes-requires : goal.put_bytes-requires
put_bytes-requires c = rw (valued_whole c.args.element.now c.args.value c.is_range.ensures c.if-is_range.false) at c.requires

pub returns : goal.returns
returns c = rw (valued_whole c.args.element.now c.args.value c.is_range.ensures c.if-is_range.false) (refl, c.put_bytes.ensures)
